-- An accepted report to the state that stands in the words: what is known of it before it is taken. Assumes nothing.
use mathlib.Core.Path.{◌≡◌, refl, ap, sym, ◌∙◌}
use mathlib.Core.Bool.{true}
use mathlib.Core.List.{List}
use Prim.Native.Nat.{ℕ, ◌+◌, ◌≤◌, ◌<◌}
use native.Mathlib.Omega.{arith}
use lib.ListN.{set}
use Rattle.basics.proofs.SumLaws.{list_at}
use Rattle.marks.specs.Held.{highest_of}
use Rattle.downstream.specs.declared.state.Downstream.{Downstream}
use Rattle.downstream.specs.declared.state.Report.{Report}
use Rattle.downstream.specs.State.{no_report, report_at, point_from}
use Rattle.downstream.proofs.FormedLaws.{kept_span, kept_reports, kept_point, span_limit, span_order}
use Rattle.judging.specs.declared.complaints.Hearing.{Hearing}
use Rattle.judging.specs.Complaints.{is_again, point_after, Taking}
use Rattle.judging.proofs.Accepted.{may_take, number_up}
use Rattle.window.specs.declared.state.Window.{Window}
use Rattle.window.specs.Reporting.{Reportable}
use Rattle.window.specs.Answers.{with_downstream, step_of, step_out}
use Rattle.words.specs.Taken.{word_at, none_above, fits, column_at, cluster_at, report_in, reports_in, window_in}
use Rattle.words.specs.Put.{words_of}
use Rattle.words.proofs.JudgeLaws.{numbers_column, numbers_low}
use Rattle.steps.specs.Stepping.{Stepping, step_in}
use Rattle.steps.proofs.StoreLaws.{places_in, numbers_set}

module _ (ws : List ℕ) (i c mask room : ℕ) (a : Reportable (window_in ws) i c mask room) where
  abbrev w : Window
  w = window_in ws

  abbrev d : Downstream
  d = (window_in ws).downstream

  taking : Taking d w.sent i c mask
  taking = may_take d w.sent i c mask a.accepting (places_in ws)

  pub ready_member : i < 64
  ready_member = taking.member

  pub ready_number : c ≤ 1000000000000
  ready_number = taking.low

  pub ready_few : word_at ws 67 ≤ 64
  unfolding window_in cluster_at
  ready_few = taking.few

  pub ready_point : word_at ws 136 ≤ 1000000000000
  unfolding window_in
  ready_point = let k = kept_span d w.sent a.accepting.kept in omega (arith, span_limit d.point w.sent k, span_order d.point w.sent k)

  pub ready_numbers : none_above ws 137 (word_at ws 67) 1000000000000 ≡ true
  unfolding window_in cluster_at
  ready_numbers = numbers_low ws (word_at ws 67) (word_at ws 135) (kept_reports d w.sent a.accepting.kept) (word_at ws 67) ready_few (span_limit d.point w.sent (kept_span d w.sent a.accepting.kept))

  -- the point before is that of the numbers as they are, and none of them falls
  pub ready_before : word_at ws 136 ≡ point_from (cluster_at ws 67) (column_at ws 137)
  unfolding window_in
  ready_before = kept_point d w.sent a.accepting.kept ∙ ap (point_from (cluster_at ws 67)) (sym (numbers_column ws))

  pub ready_up : word_at ws (137 + i) ≤ c
  unfolding window_in reports_in
  ready_up = omega (arith, ap (λ (r : Report). r.number) (list_at (report_in ws) no_report 64 i ready_member), number_up d w.sent i c mask a.accepting)

  -- the point that the numbers in the words give
  pub point_is : (p : ℕ) → p ≡ point_from (cluster_at ws 67) (set (column_at ws 137) i c) → p ≡ point_after d i c mask
  unfolding window_in
  point_is p e = e ∙ ap (point_from (cluster_at ws 67)) (ap (λ (l : List ℕ). set l i c) (numbers_column ws) ∙ numbers_set (reports_in ws) i c mask (places_in ws) ready_member)

  -- and so it may be taken, heard as it was given
  pub ready_stepping : fits ws ≡ true → (h : Hearing) (p : ℕ) → h ≡ record { member = i; number = c; mask = mask; highest = highest_of c mask; again = is_again (report_at (reports_in ws) i) c }
      → p ≡ point_from (cluster_at ws 67) (set (column_at ws 137) i c) → Stepping ws h p
  ready_stepping f h p eh ep = rw eh (record { fit = f; formed = a.formed; accepting = a.accepting; highest = refl; again = refl; point = point_is p ep })

  -- what was done with what was heard was done with what was given
  module _ (h : Hearing) (eh : h ≡ record { member = i; number = c; mask = mask; highest = highest_of c mask; again = is_again (report_at (reports_in ws) i) c }) where
    pub heard_member : h.member < 64
    heard_member = rw eh ready_member

    pub heard_verdicts : (v : ℕ) → v ≡ (step_in ws h).verdicts → v ≡ (step_of d w.sent i c mask).verdicts
    heard_verdicts v e = e ∙ rw eh refl

    pub heard_words : (l : List ℕ) → l ≡ words_of (with_downstream w (step_in ws h).downstream) → l ≡ words_of (with_downstream w (step_of d w.sent i c mask).downstream)
    heard_words l e = e ∙ rw eh refl

    pub heard_out : (xs ys : List ℕ) → ys ≡ step_out w.sending w.quantum d w.sent h.member h.number h.mask xs → ys ≡ step_out w.sending w.quantum d w.sent i c mask xs
    heard_out xs ys e = e ∙ rw eh refl
