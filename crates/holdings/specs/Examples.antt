-- Document 01's examples of arrivals, by computation. Assumes nothing.
use Rattle.std.specs.Prelude.{◌≡◌, refl, List, [], ◌∷◌, ◌++◌, ℕ, ◌+◌}
use Rattle.basics.specs.Sums.{list_below}
use Rattle.basics.specs.Checks.{first_failing}
use Rattle.basics.specs.Ranges.{is_message}
use Rattle.marks.specs.Masks.{is_marked, with_mark, mark_of, run_in, run_of, reach_in, reach_of}
use Rattle.marks.specs.Held.{highest_of, none_above}
use Rattle.holdings.specs.State.{fresh_holdings, well_formed, report_of}
use Rattle.holdings.specs.Arrival.{arrival_refusal, risen_of, marked_of, taken_of, arrival_of}
use Rattle.holdings.specs.Sequence.{after_all}
use Rattle.holdings.specs.declared.state.Holdings.{Holdings}

-- the messages 2 to 64
abbrev pub two_to_64 : List ℕ
two_to_64 = list_below 63 (λ i. i + 2)

-- *Messages 2 to 64 arrive, then 1: c = 64, mask 0.
pub then_the_first : after_all fresh_holdings (two_to_64 ++ (1 ∷ [])) ≡ record { number = 64; mask = 0 }
unfolding after_all list_below arrival_of arrival_refusal taken_of marked_of risen_of well_formed first_failing is_message is_marked with_mark mark_of run_in run_of reach_in reach_of highest_of none_above
then_the_first = refl

-- With c = 0 arrival 64 passes, 65 is 18.
pub last_in_reach : arrival_of fresh_holdings 64 ≡ record { refusal = 0; holdings = record { number = 0; mask = 9_223_372_036_854_775_808 } }
unfolding arrival_of arrival_refusal taken_of marked_of well_formed first_failing is_message is_marked with_mark mark_of reach_in reach_of highest_of none_above
last_in_reach = refl

pub out_of_reach : arrival_of fresh_holdings 65 ≡ record { refusal = 18; holdings = fresh_holdings }
unfolding arrival_of arrival_refusal well_formed first_failing is_message is_marked reach_in reach_of highest_of none_above
out_of_reach = refl

-- 6: message number 0 or above its limit
pub no_message : arrival_of fresh_holdings 0 ≡ record { refusal = 6; holdings = fresh_holdings }
unfolding arrival_of arrival_refusal well_formed first_failing is_message is_marked reach_in reach_of highest_of none_above
no_message = refl

pub above_limit : arrival_of fresh_holdings 1_000_000_000_001 ≡ record { refusal = 6; holdings = fresh_holdings }
unfolding arrival_of arrival_refusal well_formed first_failing is_message is_marked reach_in reach_of highest_of none_above
above_limit = refl

-- 17: holdings not well formed, here with bit 0 set, and with a mark past the limit
abbrev pub low_bit_set : Holdings
low_bit_set = record { number = 0; mask = 1 }

abbrev pub past_limit : Holdings
past_limit = record { number = 999_999_999_999; mask = 2 }

pub bit_0_set : arrival_of low_bit_set 0 ≡ record { refusal = 17; holdings = low_bit_set }
unfolding arrival_of arrival_refusal well_formed first_failing is_marked
bit_0_set = refl

pub held_above_limit : report_of past_limit ≡ record { refusal = 17; number = 0; mask = 0 }
unfolding report_of well_formed is_marked reach_in reach_of highest_of none_above
held_above_limit = refl
