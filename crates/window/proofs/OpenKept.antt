-- An accepted opening gives a well formed state. Assumes nothing.
use mathlib.Core.Path.{◌≡◌, refl, ap, sym, ◌∙◌}
use mathlib.Core.Bool.{true, ◌||◌}
use mathlib.Core.List.{List, ◌++◌}
use Prim.Native.Nat.{ℕ, ◌+◌, ◌-◌, ◌≤◌, ◌<◌}
use native.Mathlib.Decide.{dec_lt}
use native.Mathlib.Omega.{arith}
use lib.Dec.{ltb, eqb}
use lib.ListN.{length, get_or, replicate, get_or-replicate, get_or-eq_default}
use lib.Seq.{take_at, get_or-append-add}
use borrow.Author.Tests.{le-leb, lt-leb, lt-ltb, eq-eqb}
use Rattle.basics.proofs.SumLaws.{all_of, length_list}
use Rattle.basics.proofs.BoolLaws.{or_left, or_right}
use Rattle.shares.specs.Cluster.{cluster_refusal, Accepted}
use Rattle.shares.proofs.ClusterLaws as clusters
use Rattle.shares.proofs.PointLaws.{point_le}
use Rattle.deal.specs.Pairs.{pair_refusal}
use Rattle.deal.proofs.JudgeLaws.{pair_quantum, sending_accepted, receiving_accepted}
use Rattle.downstream.specs.declared.state.Cluster.{Cluster}
use Rattle.downstream.specs.declared.state.Report.{Report}
use Rattle.downstream.specs.State.{no_report, no_entry, shares_of, place_after, report_at, numbers_of, masks_of, point_from}
use Rattle.downstream.specs.Formed.{places_zero, cluster_kept, report_kept, reports_kept, entry_kept, entries_kept, downstream_kept}
use Rattle.window.specs.Formed.{well_formed}
use Rattle.window.specs.Opening.{cluster_from, downstream_from, open_of}
use Rattle.downstream.proofs.ColumnLaws.{number_at}
use Rattle.downstream.proofs.FormedLaws.{span_of}

-- the members' shares are the lent ones
shares_back : (s : List ℕ) (u r : ℕ) → shares_of (cluster_from s u r) ≡ s
shares_back s u r = take_at s (replicate (64 - length s) 0) (length s) refl

cluster_new : (s : List ℕ) (u r : ℕ) → Accepted s u r → cluster_kept (cluster_from s u r) ≡ true
unfolding cluster_kept places_zero
cluster_new s u r a =
    simp (le-leb (length s) 64 a.few_members, eq-eqb _ 0 (ap (λ (x : List ℕ). cluster_refusal x u r) (shares_back s u r) ∙ sym (clusters.accepted s u r a)))
    (all_of (λ i. ltb i (length s) || eqb (get_or (s ++ replicate (64 - length s) 0) i 0) 0) 64 (λ i l. place i l))
  where
    past : (i : ℕ) → i < 64 → (i < length s → ⊥) → get_or (s ++ replicate (64 - length s) 0) i 0 ≡ 0
    past i l m =
        let e : length s + (i - length s) ≡ i = omega arith in
        rw e at (get_or-append-add s (replicate (64 - length s) 0) (i - length s) 0 ∙ get_or-replicate (64 - length s) (i - length s) 0 0 (omega arith))

    place : (i : ℕ) → i < 64 → (ltb i (length s) || eqb (get_or (s ++ replicate (64 - length s) 0) i 0) 0) ≡ true
    place i l = elim (dec_lt i (length s)) [
      | yes m ↦ or_left (ltb i (length s)) (eqb (get_or (s ++ replicate (64 - length s) 0) i 0) 0) (lt-ltb i (length s) m)
      | no m ↦ or_right (ltb i (length s)) (eqb (get_or (s ++ replicate (64 - length s) 0) i 0) 0) (eq-eqb (get_or (s ++ replicate (64 - length s) 0) i 0) 0 (past i l m))
    ]

module _ (c : Cluster) (k : cluster_kept c ≡ true) where
  no_report_lem : (i : ℕ) → i < 64 → report_at (replicate 64 no_report) i ≡ no_report
  no_report_lem i l = get_or-replicate 64 i no_report no_report l

  reports_new : reports_kept c.members (replicate 64 no_report) 0 ≡ true
  unfolding reports_kept
  reports_new = all_of (λ i. report_kept c.members 0 i (report_at (replicate 64 no_report) i)) 64 (λ i l. ap (report_kept c.members 0 i) (no_report_lem i l))

  number_past : (j : ℕ) → 64 ≤ j → get_or (numbers_of (replicate 64 no_report)) j 0 ≡ 0
  unfolding numbers_of
  number_past j m = get_or-eq_default (numbers_of (replicate 64 no_report)) 0 {n = j} (omega (arith, length_list (λ i. (report_at (replicate 64 no_report) i).number) 64))

  number_none : (j : ℕ) → get_or (numbers_of (replicate 64 no_report)) j 0 ≤ 0
  number_none j = elim (dec_lt j 64) [
    | yes m ↦ omega (arith, number_at (replicate 64 no_report) j m, ap (λ (r : Report). r.number) (no_report_lem j m))
    | no m ↦ omega (arith, number_past j (omega arith))
  ]

  -- nobody has reported: the point is 0
  point_new : 0 ≡ point_from c (numbers_of (replicate 64 no_report))
  unfolding point_from
  point_new = omega (arith, point_le (shares_of c) (numbers_of (replicate 64 no_report)) (c.u + 1) 0 (λ j l. number_none j))

  entries_new : entries_kept c.members (numbers_of (replicate 64 no_report)) (masks_of (replicate 64 no_report)) (replicate 64 no_entry) 0 0 ≡ true
  unfolding entries_kept
  entries_new = all_of (λ o. entry_kept c.members (numbers_of (replicate 64 no_report)) (masks_of (replicate 64 no_report)) 0 (0 + 1 + o) (get_or (replicate 64 no_entry) (place_after 0 o) no_entry)) 64
      (λ o l. rw (get_or-replicate 64 (place_after 0 o) no_entry no_entry (omega arith)) (simp (lt-leb (0 + 1 + o) 0 (omega arith))))

  downstream_new : downstream_kept (downstream_from c) 0 ≡ true
  unfolding downstream_kept
  downstream_new = simp (span_of 0 0 (omega arith) (omega arith) (omega arith), k, reports_new, eq-eqb 0 _ point_new, entries_new)

module _ (ss : List ℕ) (su sr : ℕ) (rs : List ℕ) (ru rr q : ℕ) (e : pair_refusal ss su sr rs ru rr q ≡ 0) where
  pub open_kept : well_formed (open_of ss su sr rs ru rr q).window ≡ true
  unfolding open_of well_formed
  open_kept =
      simp (eq-eqb (pair_refusal ss su sr rs ru rr q) 0 e)
      (simp (
        cluster_new ss su sr (sending_accepted ss su sr rs ru rr q e),
        pair_quantum ss su sr rs ru rr q e,
        downstream_new (cluster_from rs ru rr) (cluster_new rs ru rr (receiving_accepted ss su sr rs ru rr q e)),
      ))

  -- and one with 64 places for reports
  pub open_places : length (open_of ss su sr rs ru rr q).window.downstream.reports ≡ 64
  unfolding open_of
  open_places = simp (eq-eqb (pair_refusal ss su sr rs ru rr q) 0 e)
