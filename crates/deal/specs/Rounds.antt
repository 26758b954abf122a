-- The deal: q slots in rounds. Assumes nothing.
use Rattle.std.specs.Prelude.{cond, List, [], ◌∷◌, ℕ, min, ltb, length, get_or}
use Rattle.basics.specs.Sums.{sum_below, join_below}

-- each round, members in index order that still have count take one slot; t rounds went before
unfoldable pub round_of : List ℕ → ℕ → List ℕ
round_of counts t = join_below (length counts) (λ i. cond (ltb t (get_or counts i 0)) (i ∷ []) [])

-- The deal lists q slots in rounds: no count is above q, so q rounds hold them all
unfoldable pub deal_of : List ℕ → ℕ → List ℕ
deal_of counts q = join_below q (round_of counts)

-- how many slots the first t rounds have
unfoldable pub slots_before : List ℕ → ℕ → ℕ
slots_before counts t = sum_below (length counts) (λ i. min (get_or counts i 0) t)

-- the owner of a slot
unfoldable pub owner_of : List ℕ → ℕ → ℕ → ℕ
owner_of counts q slot = get_or (deal_of counts q) slot 0
