-- The entries as they lie in words, a column for the counts and one for the complaint sets: what is asked of each. Assumes nothing.
use Rattle.std.specs.Prelude.{Bool, cond, ◌||◌, List, ℕ, ◌+◌, leb, ltb, eqb}
use Rattle.basics.specs.Sums.{all_below}
use Rattle.downstream.specs.State.{place_after}
use Rattle.downstream.specs.Formed.{complaints_kept}
use Rattle.words.specs.Places.{numbers_at, masks_at, counts_at, complaints_at}
use Rattle.words.specs.Taken.{word_at, column_at}

-- the column at a place is zero for every message that is not one of the n after p
unfoldable pub closed_zero : List ℕ → ℕ → ℕ → ℕ → Bool
closed_zero ws at p n = all_below 64 (λ o. ltb o n || eqb (word_at ws (at + place_after p o)) 0)

-- the resend count, and the complaint set, of message p + 1 + o
abbrev pub count_after : List ℕ → ℕ → ℕ → ℕ
count_after ws p o = word_at ws (counts_at + place_after p o)

abbrev pub set_after : List ℕ → ℕ → ℕ → ℕ
set_after ws p o = word_at ws (complaints_at + place_after p o)

-- the counts of the n messages after p are at most 255, and all others are 0
unfoldable pub counts_kept : List ℕ → ℕ → ℕ → Bool
counts_kept ws p n = all_below 64 (λ o. cond (ltb o n) (leb (count_after ws p o) 255) (eqb (count_after ws p o) 0))

-- the complaint sets of the n messages after p name only members that exist and do not hold the message
unfoldable pub sets_told : List ℕ → ℕ → ℕ → ℕ → Bool
sets_told ws members p n = all_below n (λ o. complaints_kept members (column_at ws numbers_at) (column_at ws masks_at) (p + 1 + o) (set_after ws p o))

-- so they do, and all others are empty
unfoldable pub sets_kept : List ℕ → ℕ → ℕ → ℕ → Bool
sets_kept ws members p n =
    all_below 64 (λ o. cond (ltb o n) (complaints_kept members (column_at ws numbers_at) (column_at ws masks_at) (p + 1 + o) (set_after ws p o)) (eqb (set_after ws p o) 0))
