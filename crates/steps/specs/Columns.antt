-- The columns of the entries as a report changes them, place by place. Assumes nothing.
use Rattle.std.specs.Prelude.{◌≡◌, Bool, true, cond, List, ℕ, ◌+◌, ◌-◌, ◌≤◌, ◌<◌, ltb, get_or, Option, MatchOption}
use Rattle.basics.specs.Sums.{list_below}
use Rattle.marks.specs.Masks.{is_marked, mark_of, unmark_of, run_of}
use Rattle.downstream.specs.State.{offset_at}
use Rattle.judging.specs.Complaints.{complaints_after}
use Rattle.words.specs.Places.{counts_at, complaints_at}
use Rattle.words.specs.Taken.{word_at}

-- the column at a place with 0 for each message that is not one of the n after p
unfoldable pub open_at : List ℕ → ℕ → ℕ → ℕ → List ℕ
open_at ws at p n = list_below 64 (λ j. cond (ltb (offset_at p j) n) (word_at ws (at + j)) 0)

-- the resend counts of the n messages after p; every other count is 0
abbrev pub counts_after : List ℕ → ℕ → ℕ → List ℕ
counts_after ws p n = open_at ws counts_at p n

-- the complaint sets of the n messages after p with the report of member i heard; every other set is empty
unfoldable pub heard_after : List ℕ → ℕ → ℕ → ℕ → Bool → ℕ → ℕ → List ℕ
heard_after ws i c mask again p n =
    list_below 64 (λ j. cond (ltb (offset_at p j) n) (complaints_after i c mask again p (p + 1 + offset_at p j) (word_at ws (complaints_at + j))) 0)

-- no count is above 255
abbrev pub Small : List ℕ → Type 0
Small counts = (j : ℕ) → get_or counts j 0 ≤ 255

-- the first bit of a set that has one
abbrev pub first_bit : ℕ → ℕ
first_bit set = run_of (18446744073709551615 - set)

-- of the messages that are left the first is taken, and the others are left; none where none is
abbrev pub TakesFirst : ℕ → Option ℕ → ℕ → Type 0
TakesFirst rest r left = MatchOption r (rest ≡ 0) (λ o. (o ≡ first_bit rest) × (is_marked rest o ≡ true) × (o < 64) × (left ≡ unmark_of rest (first_bit rest)))

-- a column changed at the places of a set of messages, bit o for message p + 1 + o
unfoldable pub changed_at : (ℕ → ℕ) → ℕ → ℕ → List ℕ → List ℕ
changed_at change messages p column = list_below 64 (λ j. cond (is_marked messages (offset_at p j)) (change (get_or column j 0)) (get_or column j 0))

-- a complaint set with member i in it where it complains, and without it where it does not
unfoldable pub told_set : Bool → ℕ → ℕ → ℕ
told_set complains i set = cond complains (mark_of set i) (unmark_of set i)

-- raise the count of each message that is due, and empty its set
abbrev pub raised_counts : ℕ → ℕ → List ℕ → List ℕ
raised_counts due p counts = changed_at (λ count. count + 1) due p counts

abbrev pub emptied_sets : ℕ → ℕ → List ℕ → List ℕ
emptied_sets due p sets = changed_at (λ _. 0) due p sets
