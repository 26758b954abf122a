-- Document 01's examples of resends by message, by computation. Assumes nothing.
use Prim.{Unit, tt}
use Rattle.std.specs.Prelude.{◌≡◌, refl, Bool, true, false, ◌||◌, List, [], ◌∷◌, ℕ, ◌+◌, eqb, ltb}
use Rattle.basics.specs.Sums.{sum_below, list_below, join_below}
use Rattle.basics.specs.Ranges.{is_message, is_resend}
use Rattle.shares.specs.Shares.{share_of}
use Rattle.shares.specs.Examples.{E}
use Rattle.hamilton.specs.Examples.{whole_counts}
use Rattle.deal.specs.Rounds.{round_of, deal_of, owner_of}
use Rattle.deal.specs.Pairs.{slot_of, sender_of}
use Rattle.circle.specs.Divisor.{euclid, divisor_of, multiple_of}
use Rattle.circle.specs.Stretches as stretches
use Rattle.circle.specs.Circle as circle
use Rattle.circle.specs.Examples.{three, five, millions}
use Rattle.resend.specs.Resends as resends
use Rattle.resend.specs.Resends.{resend_refusal, ResendAnswer, resend_pair_of, no_resend}
use Rattle.resend.specs.Promise.{Asked, resend, bound}

-- an accepted resend: from which member, to which, and its run
abbrev pub answer : ℕ → ℕ → ℕ → ResendAnswer
answer from to run = record { refusal = 0; sender = from; receiver = to; run = run }

-- all that a resend pair is computed with, named once: what unfolds this unfolds every name of its line
unfoldable pub whole_resend : Unit {0}
unfolding whole_counts resend_pair_of resend_refusal is_message is_resend resends.sender_of resends.receiver_of resends.run_of circle.sender_of circle.receiver_of circle.run_of circle.unit_of circle.start_of circle.walk_of circle.next_end circle.send_layout circle.receive_layout circle.factor_of circle.circle_units stretches.scaled stretches.units_before stretches.end_of stretches.owner_of stretches.end_after multiple_of divisor_of euclid sender_of slot_of owner_of deal_of round_of join_below share_of
whole_resend = tt

-- the first n resends of a message, as the call answers them one by one
abbrev pub first_resends : ℕ → (ℕ → ResendAnswer) → List ResendAnswer
first_resends n resend = list_below n (λ j. resend (j + 1))

-- E: message 6's resends 1 to 4 are 2–2, 3–3, 0–0, 1–1, each of run 1
pub message_6 : first_resends 4 (resend_pair_of E 1 1 E 1 1 4 6) ≡ answer 2 2 1 ∷ answer 3 3 1 ∷ answer 0 0 1 ∷ answer 1 1 1 ∷ []
unfolding whole_resend
message_6 = refl

-- the plan's message 3, from three shares of 1 to five, q 3: its seven resends
pub plan_message_3 : first_resends 7 (resend_pair_of three 1 0 five 2 0 3 3)
    ≡ answer 0 0 3 ∷ answer 0 1 2 ∷ answer 1 1 1 ∷ answer 1 2 3 ∷ answer 1 3 1 ∷ answer 2 3 2 ∷ answer 2 4 3 ∷ []
unfolding whole_resend
plan_message_3 = refl

-- With sender 1 and receivers 0, 1 failed, the first good one is resend 6, after 10 units; the bound is 5 + 6
abbrev pub plan : Asked
plan = record { sending = three; sending_u = 1; sending_r = 0; receiving = five; receiving_u = 2; receiving_r = 0; quantum = 3; message = 3 }

abbrev pub failed_sender : ℕ → Bool
failed_sender i = eqb i 1

abbrev pub failed_receiver : ℕ → Bool
failed_receiver i = ltb i 2

abbrev pub is_hit : ℕ → Bool
is_hit n = failed_sender (resend plan n).sender || failed_receiver (resend plan n).receiver

pub first_good :
    (list_below 6 (λ j. is_hit (j + 1)) ≡ true ∷ true ∷ true ∷ true ∷ true ∷ false ∷ [])
    × (sum_below 5 (λ j. (resend plan (j + 1)).run) ≡ 10)
    × (bound plan ≡ 5 + 6)
    × (share_of three failed_sender ≡ plan.sending_u)
    × (share_of five failed_receiver ≡ plan.receiving_u)
unfolding whole_resend
first_good = (refl, refl, refl, refl, refl)

-- E sending to four shares of 1,000,000 (u = r = 1,333,333), from unit 0: message 4, whose first sender is member 3
pub E_to_millions : first_resends 3 (resend_pair_of E 1 1 millions 1_333_333 1_333_333 4 4)
    ≡ answer 0 0 1_000_000 ∷ answer 1 1 1_000_000 ∷ answer 2 2 1_000_000 ∷ []
unfolding whole_resend
E_to_millions = refl

-- 6: message number 0; 7: resend number 0 or above 255
pub message_0 : resend_pair_of E 1 1 E 1 1 4 0 1 ≡ no_resend 6
unfolding whole_resend
message_0 = refl

pub resend_0 : resend_pair_of E 1 1 E 1 1 4 6 0 ≡ no_resend 7
unfolding whole_resend
resend_0 = refl

pub resend_256 : resend_pair_of E 1 1 E 1 1 4 6 256 ≡ no_resend 7
unfolding whole_resend
resend_256 = refl
