-- The point that members' values reach by share: the collecting point is one of these. Assumes nothing.
use Rattle.std.specs.Prelude.{List, ℕ, leb, length, get_or}
use Rattle.basics.specs.Sums.{highest_below}
use Rattle.basics.specs.Largest.{largest}
use Rattle.shares.specs.Shares.{share_of}

-- the share of the members whose value is at least g
unfoldable pub reached_of : List ℕ → List ℕ → ℕ → ℕ
reached_of shares values g = share_of shares (λ i. leb g (get_or values i 0))

-- the largest g such that members whose value is at least g have share t or more, or 0: no g above every value is reached by any
unfoldable pub point_of : List ℕ → List ℕ → ℕ → ℕ
point_of shares values t = largest (λ g. leb t (reached_of shares values g)) (highest_below (length shares) (λ i. get_or values i 0))
