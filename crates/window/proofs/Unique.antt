-- The contracts leave no choice: two results that meet one are equal, every byte of the lent output with them. Assumes nothing.
use mathlib.Core.Path.{◌≡◌, ap, ◌∙◌}
use mathlib.Core.Bool.{Bool}
use mathlib.Core.List.{List}
use Prim.Native.Nat.{ℕ}
use lib.ListN.{length}
use Rattle.basics.proofs.Unique.{one_answer}
use Rattle.downstream.specs.declared.state.Report.{Report}
use Rattle.window.specs.declared.state.Window.{Window}
use Rattle.window.specs.declared.opening.OpenAnswer as opening
use Rattle.window.specs.declared.sending.SendAnswer as sending
use Rattle.window.specs.declared.reporting.ReportAnswer as reporting
use Rattle.std.specs.Prelude.{Result, Ok, Err}
use native.Mathlib.Omega.{arith}
use Rattle.basics.specs.declared.refusal.Refusal.{Refusal}
use Rattle.basics.specs.Refusals.{outcome_number}
use Rattle.basics.proofs.RefusalLaws.{number_some, one_number, one_outcome}
use Rattle.window.specs.Formed.{well_formed}
use Rattle.window.specs.Opening as opens
use Rattle.window.specs.Opening.{open_of}
use Rattle.window.specs.Sending as sends
use Rattle.window.specs.Sending.{send_of}
use Rattle.window.specs.Reporting.{given_refusal}
use Rattle.window.specs.Answers as answers
use Rattle.window.specs.Answers.{report_of, report_out, written}

pub one_judgement : (w : Window) (a b : Bool) → a ≡ well_formed w → b ≡ well_formed w → a ≡ b
one_judgement w a b e f = one_answer e f

abbrev opened : Result Unit Refusal → Window → opening.OpenAnswer
opened outcome w = record { outcome = outcome; window = w }

pub one_opening : (ss : List ℕ) (su sr : ℕ) (rs : List ℕ) (ru rr q : ℕ) (a b : opening.OpenAnswer) → opens.told a ≡ open_of ss su sr rs ru rr q → opens.told b ≡ open_of ss su sr rs ru rr q → a ≡ b
one_opening ss su sr rs ru rr q a b e f =
    let same : opens.told a ≡ opens.told b = one_answer e f in
    ap (λ (x : Result Unit Refusal). opened x a.window) (one_outcome a.outcome b.outcome (ap (λ (x : opens.OpenAnswer). x.refusal) same))
    ∙ ap (opened b.outcome) (ap (λ (x : opens.OpenAnswer). x.window) same)

abbrev sent : Result Unit Refusal → Window → sending.SendAnswer
sent outcome w = record { outcome = outcome; window = w }

pub one_send : (w : Window) (k : ℕ) (a b : sending.SendAnswer) → sends.told a ≡ send_of w k → sends.told b ≡ send_of w k → a ≡ b
one_send w k a b e f =
    let same : sends.told a ≡ sends.told b = one_answer e f in
    ap (λ (x : Result Unit Refusal). sent x a.window) (one_outcome a.outcome b.outcome (ap (λ (x : sends.SendAnswer). x.refusal) same))
    ∙ ap (sent b.outcome) (ap (λ (x : sends.SendAnswer). x.window) same)

pub one_given : (members s : ℕ) (former : Report) (i c mask room : ℕ) (a b : Result Unit Refusal) → outcome_number a ≡ given_refusal members s former i c mask room → outcome_number b ≡ given_refusal members s former i c mask room → a ≡ b
one_given members s former i c mask room a b e f = one_outcome a b (one_answer e f)

-- how many verdicts were written, or why none
one_written : (r s : Result ℕ Refusal) → outcome_number r ≡ outcome_number s → written r ≡ written s → r ≡ s
one_written (Ok m) (Ok n) e f = ap Ok f
one_written (Ok m) (Err y) e f = absurd (omega (arith, number_some y))
one_written (Err x) (Ok n) e f = absurd (omega (arith, number_some x))
one_written (Err x) (Err y) e f = ap Err (one_number x y e)

abbrev reported : Result ℕ Refusal → Window → reporting.ReportAnswer
reported outcome w = record { outcome = outcome; window = w }

-- what `report` ensures of its answer and of the output at exit
abbrev pub ReportMeets : Window → ℕ → ℕ → ℕ → List ℕ → reporting.ReportAnswer → List ℕ → Type 0
ReportMeets w i c mask out a o = (answers.told a ≡ report_of w i c mask (length out)) × (o ≡ report_out w i c mask out)

pub one_report : (w : Window) (i c mask : ℕ) (out o o' : List ℕ) (a b : reporting.ReportAnswer) → ReportMeets w i c mask out a o → ReportMeets w i c mask out b o' → (a ≡ b) × (o ≡ o')
one_report w i c mask out o o' a b e f =
    let same : answers.told a ≡ answers.told b = one_answer e.0 f.0 in
    let outcome = one_written a.outcome b.outcome (ap (λ (x : answers.ReportAnswer). x.refusal) same) (ap (λ (x : answers.ReportAnswer). x.verdicts) same) in
    (ap (λ (x : Result ℕ Refusal). reported x a.window) outcome ∙ ap (reported b.outcome) (ap (λ (x : answers.ReportAnswer). x.window) same), one_answer e.1 f.1)
