-- Document 01's examples of deals and first pairs, by computation. Assumes nothing.
use Rattle.std.specs.Prelude.{◌≡◌, refl, [], ◌∷◌}
use Rattle.basics.specs.Sums.{join_below}
use Rattle.basics.specs.Ranges.{is_message}
use Rattle.shares.specs.Examples.{E}
use Rattle.hamilton.specs.Examples.{whole_counts}
use Rattle.deal.specs.Rounds.{round_of, deal_of, owner_of}
use Rattle.deal.specs.Pairs.{slot_of, quantum_of, sender_of, receiver_of, first_pair_refusal, first_pair_of, no_pair}

-- Counts 2, 1, 3 deal 0, 1, 2, 0, 2, 2
pub rounds : deal_of (2 ∷ 1 ∷ 3 ∷ []) 6 ≡ 0 ∷ 1 ∷ 2 ∷ 0 ∷ 2 ∷ 2 ∷ []
unfolding deal_of round_of join_below
rounds = refl

-- E: message 6 goes 1 to 2
pub message_6 : first_pair_of E 1 1 E 1 1 4 6 ≡ record { refusal = 0; sender = 1; receiver = 2 }
unfolding whole_counts first_pair_of first_pair_refusal is_message sender_of receiver_of slot_of quantum_of owner_of deal_of round_of join_below
message_6 = refl

-- message 0 is refused with 6 and zeros
pub message_0 : first_pair_of E 1 1 E 1 1 4 0 ≡ no_pair 6
unfolding whole_counts first_pair_of first_pair_refusal is_message
message_0 = refl
