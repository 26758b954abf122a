-- The plan's text, for any input. Assumes nothing.
use Rattle.std.specs.Prelude.{cond, List, ◌++◌, ℕ, ◌+◌, ◌-◌, eqb, length}
use Rattle.basics.specs.Sums.{join_below}
use Rattle.deal.specs.Pairs as deal
use Rattle.deal.specs.Pairs.{PairAnswer}
use Rattle.resend.specs.Promise.{Asked}
use Rattle.resend.specs.Resends.{sender_of, receiver_of, run_of}
use Rattle.input.specs.Input.{is_built}
use Rattle.lines.specs.Text.{line_of}
use Rattle.lines.specs.Lines.{refused_text, header_line, copy_line}
use Rattle.planner.specs.Asked.{asked_of}

-- as for pairs
unfoldable pub asked_refusal : Asked → ℕ
asked_refusal a = deal.first_pair_refusal a.sending a.sending_u a.sending_r a.receiving a.receiving_u a.receiving_r a.quantum a.message

-- Plan program: 19, then as for pairs
unfoldable pub plan_refusal : List ℕ → ℕ
plan_refusal s = cond (is_built s) (asked_refusal (asked_of s)) 19

-- a line for the first copy
abbrev pub first_copy : Asked → PairAnswer
first_copy a = deal.first_pair_of a.sending a.sending_u a.sending_r a.receiving a.receiving_u a.receiving_r a.quantum a.message

-- and the resends: the line of resend n
unfoldable pub resend_line : Asked → ℕ → List ℕ
resend_line a n =
    line_of n
    (sender_of a.sending a.receiving a.quantum a.message n)
    (receiver_of a.sending a.receiving a.quantum a.message n)
    (run_of a.sending a.receiving a.quantum a.message n)

-- the resends up to the number in demand 3
unfoldable pub resend_count : Asked → ℕ
resend_count a = length a.sending + length a.receiving - 1

unfoldable pub plan_lines : Asked → List ℕ
plan_lines a = header_line ++ (copy_line (first_copy a) ++ join_below (resend_count a) (λ j. resend_line a (j + 1)))

-- the text of what is asked for, by the refusal that it gets
unfoldable pub text_of : ℕ → Asked → List ℕ
text_of refusal a = cond (eqb refusal 0) (plan_lines a) (refused_text refusal)

unfoldable pub asked_text : Asked → List ℕ
asked_text a = text_of (asked_refusal a) a

-- the whole text for an input
unfoldable pub plan_text : List ℕ → List ℕ
plan_text s = text_of (plan_refusal s) (asked_of s)

-- the bytes that every text has room in: a header of 19, a first line of at most 10, and 127 lines of at most 27
abbrev pub text_room : ℕ
text_room = 3_458
