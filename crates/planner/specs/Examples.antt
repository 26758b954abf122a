-- Document 01's plan, and the refusals of inputs that are badly built or lack a cluster, by computation. Assumes nothing.
use Prim.{Unit, tt}
use Rattle.std.specs.Prelude.{◌≡◌, refl, List, [], ◌∷◌, ◌++◌, ℕ}
use Rattle.basics.specs.Bytes.{le_of, le_bytes, all_zero}
use Rattle.deal.specs.Pairs as deal
use Rattle.resend.specs.Examples.{whole_resend}
use Rattle.input.specs.Input.{is_kind, number_at, is_share, shares_from, senders, receivers, in_order, is_built, shares_at, numbers_of}
use Rattle.lines.specs.Words.{bytes_of}
use Rattle.lines.specs.Text.{digits_in, digits_of, field_of, line_of}
use Rattle.lines.specs.Lines.{refused_text, header_line, copy_line}
use Rattle.planner.specs.Asked.{asked_with, asked_of}
use Rattle.planner.specs.Plan.{asked_refusal, plan_refusal, resend_line, resend_count, plan_lines, text_of, plan_text}

-- all that a plan is computed with, named once: what unfolds this unfolds every name of its line
unfoldable pub whole_plan : Unit {0}
unfolding whole_resend plan_text text_of plan_refusal asked_refusal plan_lines header_line copy_line resend_line resend_count refused_text is_built in_order senders receivers shares_from is_share is_kind number_at shares_at numbers_of asked_with asked_of digits_in digits_of field_of line_of le_of le_bytes all_zero deal.quantum_of deal.receiver_of deal.first_pair_refusal deal.first_pair_of
whole_plan = tt

-- a 12-byte record
abbrev pub entry : ℕ → ℕ → ℕ → List ℕ
entry kind first second = (kind ∷ 0 ∷ 0 ∷ 0 ∷ []) ++ le_bytes 4 first ++ le_bytes 4 second

-- Sending shares 1,1,1 (u 1, r 0), receiving 1,1,1,1,1 (u 2, r 0), q 3, message 3
abbrev pub three_to_five : List ℕ
three_to_five =
    entry 1 1 0 ++ entry 2 1 0 ++ entry 2 1 0 ++ entry 2 1 0
    ++ entry 3 2 0 ++ entry 4 1 0 ++ entry 4 1 0 ++ entry 4 1 0 ++ entry 4 1 0 ++ entry 4 1 0
    ++ entry 5 3 3

pub the_plan : plan_text three_to_five ≡ bytes_of "resend from to run\n0 2 2 0\n1 0 0 3\n2 0 1 2\n3 1 1 1\n4 1 2 3\n5 1 3 1\n6 2 3 2\n7 2 4 3\n"
unfolding whole_plan
the_plan = refl

-- an empty input is badly built
pub nothing_given : plan_text [] ≡ bytes_of "refused 19\n"
unfolding whole_plan
nothing_given = refl

-- no kind 2 at all is 1
pub no_senders : plan_text (entry 1 1 0 ++ entry 3 0 0 ++ entry 4 1 0 ++ entry 5 1 1) ≡ bytes_of "refused 1\n"
unfolding whole_plan
no_senders = refl

-- no kind 4 at all is 1
pub no_receivers : plan_text (entry 1 0 0 ++ entry 2 1 0 ++ entry 3 0 0 ++ entry 5 1 1) ≡ bytes_of "refused 1\n"
unfolding whole_plan
no_receivers = refl

-- a share with a second number, a record after kind 5, and a byte after it are badly built
pub share_and_more : plan_text (entry 1 0 0 ++ entry 2 1 1 ++ entry 3 0 0 ++ entry 4 1 0 ++ entry 5 1 1) ≡ bytes_of "refused 19\n"
unfolding whole_plan
share_and_more = refl

pub record_after : plan_text (three_to_five ++ entry 5 3 3) ≡ bytes_of "refused 19\n"
unfolding whole_plan
record_after = refl

pub byte_after : plan_text (three_to_five ++ (0 ∷ [])) ≡ bytes_of "refused 19\n"
unfolding whole_plan
byte_after = refl
