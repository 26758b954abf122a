-- The refusals of a report, from what the code knows where it answers, and what is known where none is left. Assumes nothing.
use mathlib.Core.Path.{◌≡◌, sym, ◌∙◌}
use mathlib.Core.Bool.{Bool, true, false, not}
use mathlib.Core.List.{List}
use Prim.Native.Nat.{ℕ, ◌≤◌}
use native.Mathlib.Omega.{arith}
use lib.Dec.{leb, ltb, lit<}
use lib.ListN.{length, get_or-eq_default}
use borrow.Author.Tests.{leb-true, ltb-true, not-true}
use Rattle.basics.specs.Checks.{first_failing}
use Rattle.basics.proofs.CheckLaws.{first_passed, later_passed}
use Rattle.marks.specs.Masks.{is_marked}
use Rattle.marks.specs.Held.{none_above}
use Rattle.downstream.specs.declared.state.Report.{Report}
use Rattle.downstream.specs.State.{no_report, report_at}
use Rattle.judging.specs.Reports.{keeps_all}
use Rattle.window.specs.declared.state.Window.{Window}
use Rattle.window.specs.Formed.{well_formed}
use Rattle.window.specs.Reporting.{report_refusal, given_refusal, Reportable}
use Rattle.window.proofs.FormedLaws.{formed_down}

-- where there is no place there is an all-zero report
pub no_place : (reports : List Report) (i : ℕ) → length reports ≡ 64 → 64 ≤ i → no_report ≡ report_at reports i
no_place reports i n l = sym (get_or-eq_default reports no_report (omega arith))

-- ---- the refusals of a report, once it is known whether the state is well formed
module _ (w : Window) (i c mask room : ℕ) (f : Bool) (ef : f ≡ well_formed w) where
  pub report_17 : f ≡ false → 17 ≡ report_refusal w i c mask room
  unfolding report_refusal first_failing
  report_17 h = simp (sym ef ∙ h)

  pub report_given : f ≡ true → (former : Report) (g : ℕ) → former ≡ report_at w.downstream.reports i → g ≡ given_refusal w.downstream.cluster.members w.sent former i c mask room
      → g ≡ report_refusal w i c mask room
  unfolding report_refusal given_refusal first_failing
  report_given h former g er eg = eg ∙ rw er (simp (sym ef ∙ h))

-- ---- none of them
pub accepts : (w : Window) (i c mask room : ℕ) → report_refusal w i c mask room ≡ 0 → Reportable w i c mask room
unfolding report_refusal
accepts w i c mask room e =
    let e₂ = later_passed (well_formed w) 17 _ (lit< tt) e in
    let e₃ = later_passed (leb 1024 room) 5 _ (lit< tt) e₂ in
    let e₄ = later_passed (ltb i w.downstream.cluster.members) 8 _ (lit< tt) e₃ in
    let e₅ = later_passed (not (is_marked mask 0)) 12 _ (lit< tt) e₄ in
    let e₆ = later_passed (none_above c mask w.sent) 11 _ (lit< tt) e₅ in
    record {
      formed = first_passed (well_formed w) 17 _ (lit< tt) e;
      enough = leb-true _ _ (first_passed (leb 1024 room) 5 _ (lit< tt) e₂);
      accepting = record {
        kept = formed_down w (first_passed (well_formed w) 17 _ (lit< tt) e);
        member = ltb-true _ _ (first_passed (ltb i w.downstream.cluster.members) 8 _ (lit< tt) e₃);
        clear = not-true _ (first_passed (not (is_marked mask 0)) 12 _ (lit< tt) e₄);
        none_above = first_passed (none_above c mask w.sent) 11 _ (lit< tt) e₅;
        keeps = first_passed (keeps_all (report_at w.downstream.reports i) c mask) 13 _ (lit< tt) e₆;
      };
    }
