-- Shares of members: of all of them, and of a set. Assumes nothing.
use Rattle.std.specs.Prelude.{◌≡◌, Bool, cond, List, ℕ, ◌<◌, length, get_or}
use Rattle.basics.specs.Sums.{sum_below}

-- the total share D
unfoldable pub total_of : List ℕ → ℕ
total_of shares = sum_below (length shares) (λ i. get_or shares i 0)

-- the share of a set of members; a set is a test of the member's index
unfoldable pub share_of : List ℕ → (ℕ → Bool) → ℕ
share_of shares is_in = sum_below (length shares) (λ i. cond (is_in i) (get_or shares i 0) 0)

-- what is told of each place below n is a test of it
abbrev pub Tells : (ℕ → Bool → Type 0) → ℕ → (ℕ → Bool) → Type 0
Tells told n p = (i : ℕ) (b : Bool) → i < n → told i b → b ≡ p i
