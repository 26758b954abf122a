-- An accepted report's steps stay within their bounds: the point does not fall, and S stays within reach of it. Assumes nothing.
use mathlib.Core.Path.{◌≡◌, ap, ◌∙◌}
use mathlib.Core.Bool.{true, not, ◌&&◌}
use mathlib.Core.List.{List}
use mathlib.Core.Logic.{inl, inr}
use Prim.Native.Nat.{ℕ, ◌+◌, ◌≤◌, ◌<◌}
use native.Mathlib.Decide.{ℕ_discrete}
use native.Mathlib.Omega.{arith}
use lib.Dec.{leb, ltb, eqb}
use lib.ListN.{length, get_or, length-take}
use lib.Seq.{get_or-set_same, get_or-set_other}
use borrow.Author.Tests.{leb-true, eqb-true}
use Rattle.basics.proofs.BoolLaws.{bool_cases, and_left, and_right}
use Rattle.basics.proofs.SumLaws.{all_at}
use Rattle.marks.specs.Masks.{is_marked, reach_of}
use Rattle.marks.specs.Held.{highest_of, none_above}
use Rattle.shares.proofs.PointLaws.{point_grows, point_le}
use Rattle.downstream.specs.declared.state.Report.{Report}
use Rattle.downstream.specs.declared.state.Downstream.{Downstream}
use Rattle.downstream.specs.State.{no_report, shares_of, report_at, numbers_of, point_from}
use Rattle.downstream.specs.Formed.{report_kept, reports_kept}
use Rattle.judging.specs.Reports.{keeps_all, Accepting}
use Rattle.judging.specs.Complaints.{reports_after, point_after, Taking}
use Rattle.downstream.proofs.ColumnLaws.{number_at}
use Rattle.downstream.proofs.FormedLaws.{kept_span, kept_cluster, kept_point, kept_reports, span_limit, span_width, cluster_few}

-- a kept report's number is at most S
number_kept : (members s i : ℕ) (rep : Report) → report_kept members s i rep ≡ true → rep.number ≤ s
unfolding none_above highest_of
number_kept members s i rep h = elim (bool_cases rep.heard) [
  | inl t ↦ omega (arith, leb-true (rep.number + reach_of rep.mask) s (and_right (ltb i members && not (is_marked rep.mask 0)) (none_above rep.number rep.mask s) (simp t at h)))
  | inr t ↦ omega (arith, eqb-true rep.number 0 (and_left (eqb rep.number 0) (eqb rep.mask 0) (simp t at h)))
]

module _ (d : Downstream) (s i c mask : ℕ) (a : Accepting d s i c mask) where
  abbrev after : List Report
  after = reports_after d.reports i c mask

  pub few : d.cluster.members ≤ 64
  few = cluster_few d.cluster (kept_cluster d s a.kept)

  pub number_low : c ≤ s
  unfolding none_above highest_of
  number_low = omega (arith, leb-true (c + reach_of mask) s a.none_above)

  -- the member's number does not fall
  pub number_up : (report_at d.reports i).number ≤ c
  unfolding keeps_all
  number_up = leb-true _ _ (and_left (leb (report_at d.reports i).number c) _ a.keeps)

  module _ (room64 : length d.reports ≡ 64) where
    pub after_same : report_at after i ≡ record { number = c; mask = mask; heard = true }
    after_same = get_or-set_same d.reports i _ no_report (omega (arith, few, a.member))

    pub after_other : (j : ℕ) → (j ≡ i → ⊥) → report_at after j ≡ report_at d.reports j
    after_other j n = get_or-set_other d.reports i j _ no_report n

    -- by nobody's report does the number fall
    pub numbers_up : (j : ℕ) → j < 64 → get_or (numbers_of d.reports) j 0 ≤ get_or (numbers_of after) j 0
    numbers_up j l = elim (ℕ_discrete j i) [
      | yes e ↦ omega (arith, number_up, number_at d.reports j l, number_at after j l, ap (λ (r : Report). r.number) (ap (report_at after) e ∙ after_same), ap (λ (x : ℕ). (report_at d.reports x).number) e)
      | no e ↦ omega (arith, number_at d.reports j l, number_at after j l, ap (λ (r : Report). r.number) (after_other j e))
    ]

    numbers_low : (j : ℕ) → j < 64 → get_or (numbers_of after) j 0 ≤ s
    unfolding reports_kept
    numbers_low j l = elim (ℕ_discrete j i) [
      | yes e ↦ omega (arith, number_low, number_at after j l, ap (λ (r : Report). r.number) (ap (report_at after) e ∙ after_same))
      | no e ↦ omega (
        arith,
        number_at after j l,
        ap (λ (r : Report). r.number) (after_other j e),
        number_kept d.cluster.members s j (report_at d.reports j)
            (all_at (λ x. report_kept d.cluster.members s x (report_at d.reports x)) 64 (kept_reports d s a.kept) j l),
      )
    ]

    few_shares : length (shares_of d.cluster) ≤ 64
    few_shares = simp length-take (omega (arith, few))

    -- the collecting point never falls
    pub point_up : d.point ≤ point_after d i c mask
    unfolding point_from
    point_up = omega (
      arith,
      kept_point d s a.kept,
      point_grows (shares_of d.cluster) (numbers_of d.reports) (numbers_of after) (λ j l. numbers_up j (omega (arith, few_shares))) (d.cluster.u + 1) (omega arith),
    )

    pub point_low : point_after d i c mask ≤ s
    unfolding point_from
    point_low = point_le (shares_of d.cluster) (numbers_of after) (d.cluster.u + 1) s (λ j l. numbers_low j (omega (arith, few_shares)))

    span : (s ≤ 1000000000000) × (s ≤ d.point + 64)
    span = let k = kept_span d s a.kept in (span_limit d.point s k, span_width d.point s k)

    pub may_take : Taking d s i c mask
    may_take = record {
      few = few;
      member = omega (arith, few, a.member);
      low = omega (arith, number_low, span.0);
      limit = span.0;
      order = point_low;
      near = omega (arith, point_up, span.1);
    }
