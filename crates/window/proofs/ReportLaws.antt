-- The report call, from what the code knows where it answers. Assumes nothing.
use mathlib.Core.Path.{◌≡◌, refl, ap, sym, ◌∙◌}
use mathlib.Core.Bool.{true}
use mathlib.Core.List.{List, ◌++◌}
use Prim.Native.Nat.{ℕ, ◌≤◌}
use lib.ListN.{length, drop}
use borrow.Author.Tests.{eq-eqb, ne_eqb}
use Rattle.shares.specs.Cluster.{Accepted}
use Rattle.shares.proofs.ClusterLaws as clusters
use Rattle.hamilton.proofs.JudgeLaws.{dealable}
use Rattle.circle.proofs.CircleLaws.{sized}
use Rattle.downstream.specs.declared.state.Cluster.{Cluster}
use Rattle.downstream.specs.declared.state.Downstream.{Downstream}
use Rattle.window.specs.declared.state.Window.{Window}
use Rattle.window.specs.declared.reporting.Step.{Step}
use Rattle.downstream.specs.State.{shares_of}
use Rattle.downstream.specs.Formed.{cluster_kept}
use Rattle.judging.specs.Complaints.{taken_of, Taking}
use Rattle.judging.specs.Verdicts.{due_of, judged_of, Judging}
use Rattle.verdicts.specs.Written.{verdicts_of, verdict_count, Writing}
use Rattle.window.specs.Reporting.{report_refusal, Reportable}
use Rattle.window.specs.Answers.{step_of, step_out, with_downstream, report_of, report_out, ReportAnswer}
use Rattle.downstream.proofs.FormedLaws.{kept_cluster, cluster_few, cluster_accepted}
use Rattle.judging.proofs.Accepted.{may_take}
use Rattle.judging.proofs.Kept.{may_judge}
use Rattle.window.proofs.FormedLaws.{formed_sending, formed_quantum}
use Rattle.window.proofs.RefusalLaws.{accepts}

-- a kept cluster is an accepted one
pub kept_accepted : (c : Cluster) → cluster_kept c ≡ true → Accepted (shares_of c) c.u c.r
kept_accepted c h = clusters.accepts (shares_of c) c.u c.r (cluster_accepted c h)

-- ---- the steps stay within their bounds
module _ (sending : Cluster) (q s : ℕ) (before : Downstream) (i c mask room : ℕ) (a : Reportable (record { sending = sending; quantum = q; sent = s; downstream = before }) i c mask room) where
  abbrev w : Window
  w = record { sending = sending; quantum = q; sent = s; downstream = before }

  pub step_room : 1024 ≤ room
  step_room = a.enough

  pub step_taking : length before.reports ≡ 64 → Taking before s i c mask
  step_taking places = may_take before s i c mask a.accepting places

  module _ (d : Downstream) (ed : d ≡ taken_of before s i c mask) where
    pub step_judging : length before.reports ≡ 64 → Judging d s
    step_judging places = rw ed (may_judge before s i c mask a.accepting places)

    same_cluster : d.cluster ≡ before.cluster
    unfolding taken_of
    same_cluster = ap (λ (x : Downstream). x.cluster) ed

    pub step_writing : length before.reports ≡ 64 → (lost : ℕ) → lost ≡ due_of d s → Writing sending q d s lost
    step_writing places lost el =
        let x = kept_accepted sending (formed_sending w a.formed) in
        let y = kept_accepted before.cluster (kept_cluster before s a.accepting.kept) in
        record {
          judging = step_judging places;
          few = cluster_few sending (formed_sending w a.formed);
          sends = sized (shares_of sending) sending.u sending.r x;
          receives = rw same_cluster (sized (shares_of before.cluster) before.cluster.u before.cluster.r y);
          deals = dealable (shares_of sending) sending.u sending.r q x (formed_quantum w a.formed);
          due_is = el;
        }

pub step_told : (before d next : Downstream) (s i c mask v : ℕ) → d ≡ taken_of before s i c mask → v ≡ verdict_count d s → next ≡ judged_of d s
    → ◌≡◌ {A = Step} (record { verdicts = v; downstream = next }) (step_of before s i c mask)
unfolding step_of
step_told before d next s i c mask v ed ev en = rw (ev, en, ed) refl

pub step_out_lem : (sending : Cluster) (q : ℕ) (before d : Downstream) (s i c mask : ℕ) (xs ys : List ℕ) → d ≡ taken_of before s i c mask
    → ys ≡ verdicts_of sending q d s ++ drop (length (verdicts_of sending q d s)) xs → ys ≡ step_out sending q before s i c mask xs
unfolding step_out
step_out_lem sending q before d s i c mask xs ys ed ey = ey ∙ rw ed refl

-- ---- the answer
module _ (w : Window) (i c mask room n : ℕ) (e : n ≡ report_refusal w i c mask room) where
  pub report_refused : (n ≡ 0 → ⊥) → ◌≡◌ {A = ReportAnswer} (record { refusal = n; verdicts = 0; window = w }) (report_of w i c mask room)
  unfolding report_of
  report_refused z = simp (← e, ne_eqb n 0 z)

  pub report_ready : n ≡ 0 → Reportable w i c mask room
  report_ready z = accepts w i c mask room (sym e ∙ z)

  pub report_told : n ≡ 0 → (s : Step) → s ≡ step_of w.downstream w.sent i c mask
      → ◌≡◌ {A = ReportAnswer} (record { refusal = 0; verdicts = s.verdicts; window = with_downstream w s.downstream }) (report_of w i c mask room)
  unfolding report_of
  report_told z s es = simp (← e, eq-eqb n 0 z) (rw es refl)

module _ (w : Window) (i c mask n : ℕ) (out : List ℕ) (e : n ≡ report_refusal w i c mask (length out)) where
  pub report_kept_lem : (n ≡ 0 → ⊥) → out ≡ report_out w i c mask out
  unfolding report_out
  report_kept_lem z = simp (← e, ne_eqb n 0 z)

  pub report_out_lem : n ≡ 0 → (ys : List ℕ) → ys ≡ step_out w.sending w.quantum w.downstream w.sent i c mask out → ys ≡ report_out w i c mask out
  unfolding report_out
  report_out_lem z ys ey = simp (← e, eq-eqb n 0 z) ey
