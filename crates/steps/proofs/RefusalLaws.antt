-- The refusals of a report to the state that stands in words, from what the code knows where it answers. Assumes nothing.
use mathlib.Core.Path.{◌≡◌, refl, sym}
use mathlib.Core.Bool.{true}
use mathlib.Core.List.{List}
use Prim.Native.Nat.{ℕ, ◌≤◌, ◌<◌}
use Rattle.basics.proofs.SumLaws.{length_list, list_at}
use Rattle.downstream.specs.declared.state.Report.{Report}
use Rattle.downstream.specs.State.{no_report, report_at}
use Rattle.window.specs.Formed.{well_formed}
use Rattle.window.specs.Reporting.{report_refusal, given_refusal}
use Rattle.window.proofs.RefusalLaws.{no_place, report_given}
use Rattle.words.specs.Taken.{word_at, cluster_at, report_in, reports_in, window_in}

-- ---- the report that member i gave before
module _ (ws : List ℕ) (i : ℕ) where
  pub former_there : i < 64 → report_in ws i ≡ report_at (reports_in ws) i
  unfolding reports_in
  former_there l = sym (list_at (report_in ws) no_report 64 i l)

  pub former_nowhere : 64 ≤ i → no_report ≡ report_at (reports_in ws) i
  unfolding reports_in
  former_nowhere l = no_place (reports_in ws) i (length_list (report_in ws) 64) l

pub words_given : (ws : List ℕ) (i c mask room : ℕ) → true ≡ well_formed (window_in ws) → (former : Report) (g : ℕ) → former ≡ report_at (reports_in ws) i
    → g ≡ given_refusal (word_at ws 67) (word_at ws 135) former i c mask room → g ≡ report_refusal (window_in ws) i c mask room
unfolding window_in cluster_at
words_given ws i c mask room f former g er eg = report_given (window_in ws) i c mask room true f refl former g er eg
