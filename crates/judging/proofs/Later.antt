-- All that is kept while S is sent is kept when S + 1 is, within reach of the point. Assumes nothing.
use mathlib.Core.Path.{◌≡◌}
use mathlib.Core.Bool.{true, not, ◌&&◌}
use mathlib.Core.List.{List}
use mathlib.Core.Logic.{inl, inr}
use Prim.Native.Nat.{ℕ, ◌+◌, ◌-◌, ◌≤◌}
use native.Mathlib.Decide.{dec_le, ℕ_discrete}
use native.Mathlib.Omega.{arith}
use lib.Dec.{leb, ltb, eqb}
use lib.ListN.{get_or}
use borrow.Author.Tests.{le-leb, lt-leb, leb-true, eqb-true, eq-eqb}
use Rattle.basics.specs.Ranges.{message_limit}
use Rattle.basics.proofs.BoolLaws.{bool_cases, and_left, and_right}
use Rattle.basics.proofs.SumLaws.{all_at, all_of}
use Rattle.marks.specs.Masks.{is_marked}
use Rattle.marks.specs.Held.{highest_of, none_above}
use Rattle.downstream.specs.declared.state.Report.{Report}
use Rattle.downstream.specs.declared.state.Entry.{Entry}
use Rattle.downstream.specs.declared.state.Downstream.{Downstream}
use Rattle.downstream.specs.State.{no_entry, place_after, report_at, numbers_of, masks_of}
use Rattle.downstream.specs.Formed.{span_kept, report_kept, reports_kept, entry_kept, entries_kept, downstream_kept}
use Rattle.downstream.proofs.FormedLaws.{kept_span, kept_cluster, kept_reports, kept_point, kept_entries, span_order, span_of}
use Rattle.judging.proofs.Kept.{empty_kept}

-- a report that is kept up to S is kept up to a later one
report_later : (members s t i : ℕ) (rep : Report) → s ≤ t → report_kept members s i rep ≡ true → report_kept members t i rep ≡ true
unfolding none_above
report_later members s t i rep l h = elim (bool_cases rep.heard) [
  | inl b ↦ (let x = ltb i members && not (is_marked rep.mask 0) in
      let y : (x && leb (highest_of rep.number rep.mask) s) ≡ true = simp b at h in
      simp (
        b,
        and_left x (leb (highest_of rep.number rep.mask) s) y,
        le-leb (highest_of rep.number rep.mask) t (omega (arith, leb-true (highest_of rep.number rep.mask) s (and_right x (leb (highest_of rep.number rep.mask) s) y))),
      ))
  | inr b ↦ simp b (simp b at h)
]

-- an entry that is kept while S is sent is kept when S + 1 is
entry_later : (members : ℕ) (numbers masks : List ℕ) (s k : ℕ) (e : Entry) → entry_kept members numbers masks s k e ≡ true → entry_kept members numbers masks (s + 1) k e ≡ true
entry_later members numbers masks s k e h = elim (dec_le k s) [
  | yes l ↦ simp (le-leb k (s + 1) (omega arith)) (simp (le-leb k s l) at h)
  | no l ↦ elim (ℕ_discrete k (s + 1)) [
    | yes z ↦ (let y : (eqb e.count 0 && eqb e.complaints 0) ≡ true = simp (lt-leb k s (omega arith)) at h in
        let n : e.count ≡ 0 = eqb-true e.count 0 (and_left (eqb e.count 0) (eqb e.complaints 0) y) in
        let m : e.complaints ≡ 0 = eqb-true e.complaints 0 (and_right (eqb e.count 0) (eqb e.complaints 0) y) in
        simp (le-leb k (s + 1) (omega arith), n, m) (empty_kept members numbers masks k))
    | no z ↦ simp (lt-leb k (s + 1) (omega arith)) (simp (lt-leb k s (omega arith)) at h)
  ]
]

module _ (d : Downstream) (s : ℕ) (kept : downstream_kept d s ≡ true) (limit : s + 1 ≤ message_limit) (near : s + 1 ≤ d.point + 64) where
  order : d.point ≤ s
  order = span_order d.point s (kept_span d s kept)

  new_span : span_kept d.point (s + 1) ≡ true
  new_span = span_of d.point (s + 1) limit (omega (arith, order)) near

  new_reports : reports_kept d.cluster.members d.reports (s + 1) ≡ true
  unfolding reports_kept
  new_reports = all_of (λ j. report_kept d.cluster.members (s + 1) j (report_at d.reports j)) 64
      (λ j l. report_later d.cluster.members s (s + 1) j (report_at d.reports j) (omega arith)
      (all_at (λ x. report_kept d.cluster.members s x (report_at d.reports x)) 64 (kept_reports d s kept) j l))

  new_entries : entries_kept d.cluster.members (numbers_of d.reports) (masks_of d.reports) d.entries d.point (s + 1) ≡ true
  unfolding entries_kept
  new_entries = all_of (λ o. entry_kept d.cluster.members (numbers_of d.reports) (masks_of d.reports) (s + 1) (d.point + 1 + o) (get_or d.entries (place_after d.point o) no_entry)) 64
      (λ o l. entry_later d.cluster.members (numbers_of d.reports) (masks_of d.reports) s (d.point + 1 + o) (get_or d.entries (place_after d.point o) no_entry)
      (all_at (λ x. entry_kept d.cluster.members (numbers_of d.reports) (masks_of d.reports) s (d.point + 1 + x) (get_or d.entries (place_after d.point x) no_entry)) 64 (kept_entries d s kept) o l))

  pub later_kept : downstream_kept d (s + 1) ≡ true
  unfolding downstream_kept
  later_kept = simp (new_span, kept_cluster d s kept, new_reports, new_entries, eq-eqb _ _ (kept_point d s kept))

  -- the entry of message S + 1 has resend count 0 and no complaints
  pub next_empty : get_or d.entries (place_after d.point (s - d.point)) no_entry ≡ no_entry
  unfolding entries_kept
  next_empty =
      let o : ℕ = s - d.point in
      let x : Entry = get_or d.entries (place_after d.point o) no_entry in
      let y : (eqb x.count 0 && eqb x.complaints 0) ≡ true = simp (lt-leb (d.point + 1 + o) s (omega (arith, order))) at
      (all_at (λ z. entry_kept d.cluster.members (numbers_of d.reports) (masks_of d.reports) s (d.point + 1 + z) (get_or d.entries (place_after d.point z) no_entry)) 64 (kept_entries d s kept) o (omega (arith, order, near))) in
      λ i. record {
        count = eqb-true x.count 0 (and_left (eqb x.count 0) (eqb x.complaints 0) y) i;
        complaints = eqb-true x.complaints 0 (and_right (eqb x.count 0) (eqb x.complaints 0) y) i;
      }
