-- Sequences of calls: any list of sends and reports from a state, all their answers, and the state at the end. Assumes nothing.
use Rattle.std.specs.Prelude.{cond, List, [], ◌∷◌, ℕ, eqb}
use Rattle.window.specs.declared.state.Window.{Window}
use Rattle.window.specs.Sending.{send_of}
use Rattle.judging.specs.Complaints.{taken_of}
use Rattle.verdicts.specs.Written.{verdicts_of}
use Rattle.window.specs.Reporting.{report_refusal}
use Rattle.window.specs.Answers.{report_of}

-- a call: message k is sent, or member i reports c and a mask, with so many bytes lent for verdicts
pub data Call : Type 0 where
  sends : ℕ → Call
  reports : ℕ → ℕ → ℕ → ℕ → Call

-- what a call answers: the refusal's number, how many verdicts were written, and their bytes
pub record Answer : Type 0 where
  pub refusal : ℕ
  pub verdicts : ℕ
  pub written : List ℕ

unfoldable pub answer_of : Window → Call → Answer
answer_of w (sends k) = record { refusal = (send_of w k).refusal; verdicts = 0; written = [] }
answer_of w (reports i c mask room) = record {
  refusal = (report_of w i c mask room).refusal;
  verdicts = (report_of w i c mask room).verdicts;
  written = cond (eqb (report_refusal w i c mask room) 0) (verdicts_of w.sending w.quantum (taken_of w.downstream w.sent i c mask) w.sent) [];
}

-- the state that a call hands back
unfoldable pub next_of : Window → Call → Window
next_of w (sends k) = (send_of w k).window
next_of w (reports i c mask room) = (report_of w i c mask room).window

-- the state after all calls of a list, and their answers in order
unfoldable pub after_all : Window → List Call → Window
after_all w [] = w
after_all w (call ∷ calls) = after_all (next_of w call) calls

unfoldable pub answers_of : Window → List Call → List Answer
answers_of w [] = []
answers_of w (call ∷ calls) = answer_of w call ∷ answers_of (next_of w call) calls
