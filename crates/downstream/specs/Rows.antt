-- What each member holds after p as one word, and where these words change. Assumes nothing.
use Rattle.std.specs.Prelude.{Bool, false, ◌≡◌, List, ℕ, zero, suc, ◌+◌, ◌≤◌, ◌<◌, get_or}
use Rattle.std.specs.Int.Bits.{bit_or}
use Rattle.basics.specs.Sums.{all_below, list_below}
use Rattle.marks.specs.Masks.{is_marked}
use Rattle.marks.specs.Held.{held_after}
use Rattle.downstream.specs.State.{place_after}
use Rattle.downstream.specs.Formed.{complaints_kept}

-- what each of the first n members holds of the 64 messages after p
unfoldable pub held_rows : List ℕ → List ℕ → ℕ → ℕ → List ℕ
held_rows numbers masks p n = list_below n (λ i. held_after p (get_or numbers i 0) (get_or masks i 0))

-- where a set does not have j, none of the first n words changes from bit j to the next
pub record Steady (rows : List ℕ) (n set : ℕ) : Type 0 where
  pub same : (i j : ℕ) → i < n → is_marked set j ≡ false → is_marked (get_or rows i 0) (j + 1) ≡ is_marked (get_or rows i 0) j

-- from offset o on, up to and without r, which is at most n, a set of changes has none
pub record SteadyUntil (set o n r : ℕ) : Type 0 where
  pub further : o < r
  pub within : r ≤ n
  pub none : (j : ℕ) → o ≤ j → j + 1 < r → is_marked set j ≡ false

-- the complaint sets of the n messages after p name only members that exist and lack the message
unfoldable pub all_complaints_kept : ℕ → List ℕ → List ℕ → List ℕ → ℕ → ℕ → Bool
all_complaints_kept members numbers masks complaints p n = all_below n (λ o. complaints_kept members numbers masks (p + 1 + o) (get_or complaints (place_after p o) 0))

-- the members that complain of any of the n messages from offset o after p on
unfoldable pub named_among : List ℕ → ℕ → ℕ → ℕ → ℕ
named_among complaints p o zero = 0
named_among complaints p o (suc n) = bit_or (named_among complaints p o n) (get_or complaints (place_after p (o + n)) 0)
