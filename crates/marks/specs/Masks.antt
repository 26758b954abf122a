-- A 64-bit mask as a set of bits. Assumes nothing.
use Rattle.std.specs.Prelude.{Bool, cond, not, ◌&&◌, ◌||◌, ℕ, zero, suc, ◌+◌, ◌-◌, ◌/◌, ◌%◌, ◌^◌, min, eqb, ltb}
use Rattle.basics.specs.Sums.{all_below}

-- bit b of the mask is marked
unfoldable pub is_marked : ℕ → ℕ → Bool
is_marked mask b = eqb (mask / 2 ^ b % 2) 1

-- the mask with bit b marked as well
unfoldable pub with_mark : ℕ → ℕ → ℕ
with_mark mask b = cond (is_marked mask b) mask (mask + 2 ^ b)

-- the mask with bit b not marked
unfoldable pub without_mark : ℕ → ℕ → ℕ
without_mark mask b = cond (is_marked mask b) (mask - 2 ^ b) mask

-- what marking and unmarking bit b give: a mask has 64 bits, and there is nothing to mark past them
unfoldable pub mark_of : ℕ → ℕ → ℕ
mark_of mask b = cond (ltb b 64) (with_mark mask b) mask

unfoldable pub unmark_of : ℕ → ℕ → ℕ
unmark_of mask b = cond (ltb b 64) (without_mark mask b) mask

-- the run of marked bits from bit 0, among the n lowest
unfoldable pub run_in : ℕ → ℕ → ℕ
run_in zero mask = 0
run_in (suc n) mask = cond (eqb (mask % 2) 1) (suc (run_in n (mask / 2))) 0

unfoldable pub run_of : ℕ → ℕ
run_of mask = run_in 64 mask

-- how many bits there are up to the highest marked one, among the n lowest: 0 where none is marked
unfoldable pub reach_in : ℕ → ℕ → ℕ
reach_in zero mask = 0
reach_in (suc n) mask = cond (eqb mask 0) 0 (suc (reach_in n (mask / 2)))

unfoldable pub reach_of : ℕ → ℕ
reach_of mask = reach_in 64 mask

-- every bit that is marked in a is marked in b
unfoldable pub is_subset : ℕ → ℕ → Bool
is_subset a b = all_below 64 (λ j. not (is_marked a j) || is_marked b j)

-- the first d of 64 bits
unfoldable pub first_of : ℕ → ℕ
first_of d = 2 ^ min d 64 - 1

-- the set of the numbers below n that pass a test, a bit for each
unfoldable pub set_below : ℕ → (ℕ → Bool) → ℕ
set_below zero p = 0
set_below (suc n) p = cond (p n) (with_mark (set_below n p) n) (set_below n p)

-- the bits of a mask from one place up to, and without, another
unfoldable pub among_of : ℕ → ℕ → ℕ → ℕ
among_of mask from to = set_below 64 (λ j. is_marked mask j && ltb j to && not (ltb j from))
