-- Dealing slot after slot: a place in the deal. Assumes nothing.
use Rattle.std.specs.Prelude.{◌≡◌, List, ℕ, ◌+◌, ◌≤◌, ◌<◌, ltb, length, get_or}
use Rattle.basics.specs.Sums.{how_many}
use Rattle.deal.specs.Rounds.{slots_before}

-- how many of the first i members take a slot in round t
unfoldable pub takers_before : List ℕ → ℕ → ℕ → ℕ
takers_before counts t i = how_many i (λ j. ltb t (get_or counts j 0))

-- a slot falls to the first member from this one on that takes one in this round, or to a later round: whole rounds, and the members before
-- this one, have had the slots before it
pub record Dealing (counts : List ℕ) (q slot round member : ℕ) : Type 0 where
  pub whole : slots_before counts q ≡ q
  pub below : slot < q
  pub early : round < q
  pub among : member ≤ length counts
  pub passed : slots_before counts round + takers_before counts round member ≡ slot

-- the slot falls to this very member
pub record Fallen (counts : List ℕ) (q slot round member : ℕ) : Type 0 where
  pub dealing : Dealing counts q slot round member
  pub has : member < length counts
  pub takes : round < get_or counts member 0
