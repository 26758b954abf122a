-- Hamilton's method: how many of a quantum's messages each member is dealt. Assumes nothing.
use Rattle.std.specs.Prelude.{Bool, cond, ◌&&◌, ◌||◌, List, ℕ, ◌+◌, ◌-◌, ◌*◌, ◌/◌, ◌%◌, ◌≤◌, ◌<◌, ltb, eqb, length, get_or}
use Rattle.basics.specs.Sums.{sum_below, how_many, list_below}
use Rattle.shares.specs.Shares.{total_of}

-- Lower quota of a member: share times q, divided by D, rounded down
unfoldable pub quota_of : List ℕ → ℕ → ℕ → ℕ
quota_of shares q i = get_or shares i 0 * q / total_of shares

-- its remainder is share times q modulo D
unfoldable pub remainder_of : List ℕ → ℕ → ℕ → ℕ
remainder_of shares q i = get_or shares i 0 * q % total_of shares

-- the undealt messages: what the lower quotas leave of q
unfoldable pub undealt_of : List ℕ → ℕ → ℕ
undealt_of shares q = q - sum_below (length shares) (quota_of shares q)

-- remainder x of member j goes before remainder y of member i: the larger first; equal remainders, lower member first
unfoldable pub goes_first : ℕ → ℕ → ℕ → ℕ → Bool
goes_first x j y i = ltb y x || (eqb x y && ltb j i)

-- member j comes ahead of member i
unfoldable pub ahead_of : List ℕ → ℕ → ℕ → ℕ → Bool
ahead_of shares q j i = goes_first (remainder_of shares q j) j (remainder_of shares q i) i

-- how many members come ahead of member i
unfoldable pub rank_of : List ℕ → ℕ → ℕ → ℕ
rank_of shares q i = how_many (length shares) (λ j. ahead_of shares q j i)

-- The undealt messages go one each to the largest remainders
unfoldable pub count_of : List ℕ → ℕ → ℕ → ℕ
count_of shares q i = quota_of shares q i + cond (ltb (rank_of shares q i) (undealt_of shares q)) 1 0

unfoldable pub counts_of : List ℕ → ℕ → List ℕ
counts_of shares q = list_below (length shares) (count_of shares q)

-- what dealing asks of a cluster and a quantum; every accepted cluster has it with every allowed quantum
pub record Dealable (shares : List ℕ) (q : ℕ) : Type 0 where
  pub few_members : length shares ≤ 64
  pub small_share : (i : ℕ) → i < length shares → get_or shares i 0 ≤ 1_000_000
  pub some_total : 0 < total_of shares
  pub small_total : total_of shares ≤ 64_000_000
  pub some_quantum : 1 ≤ q
  pub small_quantum : q ≤ 1_024
