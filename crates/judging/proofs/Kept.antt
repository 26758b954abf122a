-- An accepted report leaves the state well formed. Assumes nothing.
use mathlib.Core.Path.{◌≡◌, refl, ap, ap₂, sym, ◌∙◌}
use mathlib.Core.Bool.{true, cond, not, ◌&&◌, ◌||◌}
use mathlib.Core.List.{List}
use mathlib.Core.Logic.{inl, inr}
use Prim.Native.Nat.{ℕ, ◌+◌, ◌-◌, ◌%◌, ◌≤◌, ◌<◌}
use native.Mathlib.Decide.{dec_lt, ℕ_discrete}
use native.Mathlib.Omega.{arith}
use lib.Dec.{leb, ltb}
use lib.ListN.{length, get_or, get_or-eq_default}
use borrow.Author.Tests.{le-leb, lt-leb, lt-ltb, le-ltb, leb-true, eq-eqb}
use Rattle.basics.proofs.BoolLaws.{bool_cases, and_left, and_right}
use Rattle.basics.proofs.SumLaws.{all_at, all_of}
use Rattle.marks.specs.Masks.{is_marked}
use Rattle.marks.specs.Held.{holds_of}
use Rattle.marks.proofs.MaskLaws.{marked_none}
use Rattle.marks.proofs.SetLaws.{marked_set}
use Rattle.downstream.specs.declared.state.Report.{Report}
use Rattle.downstream.specs.declared.state.Entry.{Entry}
use Rattle.downstream.specs.declared.state.Downstream.{Downstream}
use Rattle.downstream.specs.State.{no_entry, shares_of, place_after, offset_at, report_at, numbers_of, masks_of, held_by}
use Rattle.downstream.specs.Formed.{span_kept, report_kept, reports_kept, complaints_kept, entry_kept, entries_kept, downstream_kept}
use Rattle.judging.specs.Complaints.{entries_after, is_again, complained_entry, reports_after, point_after, taken_of}
use Rattle.judging.specs.Verdicts.{due_at, due_of, raised_entry, judged_of, Judging}
use Rattle.judging.specs.Reports.{Accepting}
use Rattle.downstream.proofs.ColumnLaws.{number_at, mask_at}
use Rattle.downstream.proofs.FormedLaws.{kept_span, kept_cluster, kept_reports, kept_entries, span_limit, span_width, span_of}
use Rattle.judging.proofs.PlaceLaws.{entries_at, entries_place, entries_length}
use Rattle.judging.proofs.HeardLaws.{heard_kept}
use Rattle.judging.proofs.JudgeLaws.{due_few}
use Rattle.judging.proofs.Accepted.{few, after_same, after_other, point_up, point_low}

-- an entry that is kept: a sent message's, with its count and its set, or an empty one
pub empty_kept : (members : ℕ) (numbers masks : List ℕ) (k : ℕ) → complaints_kept members numbers masks k 0 ≡ true
unfolding complaints_kept
empty_kept members numbers masks k = all_of (λ i. not (is_marked 0 i) || (ltb i members && not (held_by numbers masks k i))) 64 (λ i l. simp (marked_none i))

module _ (d : Downstream) (s i c mask : ℕ) (a : Accepting d s i c mask) (places : length d.reports ≡ 64) where
  abbrev p : ℕ
  p = point_after d i c mask

  abbrev after : List Report
  after = reports_after d.reports i c mask

  abbrev n : ℕ
  n = d.cluster.members

  abbrev taken : Downstream
  taken = taken_of d s i c mask

  reach : (d.point ≤ p) × (p ≤ s) × (s ≤ d.point + 64) × (s ≤ 1000000000000)
  reach = let k = kept_span d s a.kept in (point_up d s i c mask a places, point_low d s i c mask a places, span_width d.point s k, span_limit d.point s k)

  new_span : span_kept p s ≡ true
  new_span = span_of p s (omega (arith, reach.3)) reach.1 (omega (arith, reach.0, reach.2))

  -- ---- the reports
  own_report : report_at after i ≡ record { number = c; mask = mask; heard = true }
  own_report = after_same d s i c mask a places

  new_reports : reports_kept n after s ≡ true
  unfolding reports_kept
  new_reports = all_of (λ j. report_kept n s j (report_at after j)) 64 (λ j l. elim (ℕ_discrete j i) [
    | yes e ↦ rw (e, own_report) (simp (lt-ltb i n a.member, a.clear, a.none_above))
    | no e ↦ ap (report_kept n s j) (after_other d s i c mask a places j e)
        ∙ all_at (λ x. report_kept n s x (report_at d.reports x)) 64 (kept_reports d s a.kept) j l
  ])

  -- ---- what each member holds by the reports before and after
  own_held : (k : ℕ) → held_by (numbers_of after) (masks_of after) k i ≡ holds_of c mask k
  own_held k =
      let l : i < 64 = omega (arith, few d s i c mask a, a.member) in
      ap₂ (λ (x y : ℕ). holds_of x y k) (number_at after i l ∙ ap (λ (r : Report). r.number) own_report) (mask_at after i l ∙ ap (λ (r : Report). r.mask) own_report)

  other_held : (k j : ℕ) → j < 64 → (j ≡ i → ⊥) → held_by (numbers_of after) (masks_of after) k j ≡ held_by (numbers_of d.reports) (masks_of d.reports) k j
  other_held k j l e =
      let r : report_at after j ≡ report_at d.reports j = after_other d s i c mask a places j e in
      ap₂ (λ (x y : ℕ). holds_of x y k)
      (number_at after j l ∙ ap (λ (x : Report). x.number) r ∙ sym (number_at d.reports j l))
      (mask_at after j l ∙ ap (λ (x : Report). x.mask) r ∙ sym (mask_at d.reports j l))

  -- ---- the entries
  abbrev old : ℕ → Entry
  old o = get_or d.entries (place_after p o) no_entry

  abbrev step : ℕ → Entry → Entry
  step = complained_entry i c mask (is_again (report_at d.reports i) c) p

  -- the entry of an open message, before the report
  old_kept : (o : ℕ) → o < s - p → entry_kept n (numbers_of d.reports) (masks_of d.reports) s (p + 1 + o) (old o) ≡ true
  unfolding entries_kept
  old_kept o l =
      let x : ℕ = o + (p - d.point) in
      let at : place_after d.point x ≡ place_after p o = ap (λ (y : ℕ). y % 64) (omega (arith, reach.0)) in
      let k : d.point + 1 + x ≡ p + 1 + o = omega (arith, reach.0) in
      rw (k, at) at (all_at (λ y. entry_kept n (numbers_of d.reports) (masks_of d.reports) s (d.point + 1 + y) (get_or d.entries (place_after d.point y) no_entry)) 64
      (kept_entries d s a.kept) x (omega (arith, reach.0, reach.1, reach.2)))

  old_open : (o : ℕ) → o < s - p → (leb (old o).count 255 && complaints_kept n (numbers_of d.reports) (masks_of d.reports) (p + 1 + o) (old o).complaints) ≡ true
  old_open o l = simp (le-leb (p + 1 + o) s (omega arith)) at (old_kept o l)

  abbrev stepped : ℕ → Entry
  stepped o = step o (old o)

  stepped_count : (o : ℕ) → o < s - p → (stepped o).count ≤ 255
  stepped_count o l = leb-true (old o).count 255 (and_left (leb (old o).count 255) (complaints_kept n (numbers_of d.reports) (masks_of d.reports) (p + 1 + o) (old o).complaints) (old_open o l))

  stepped_kept : (o : ℕ) → o < s - p → complaints_kept n (numbers_of after) (masks_of after) (p + 1 + o) (stepped o).complaints ≡ true
  stepped_kept o l = heard_kept n (numbers_of d.reports) (masks_of d.reports) (numbers_of after) (masks_of after) i c mask (p + 1 + o) a.member (few d s i c mask a)
      (own_held (p + 1 + o)) (other_held (p + 1 + o)) (is_again (report_at d.reports i) c) p (old o).complaints
      (and_right (leb (old o).count 255) (complaints_kept n (numbers_of d.reports) (masks_of d.reports) (p + 1 + o) (old o).complaints) (old_open o l))

  taken_entries : taken.entries ≡ entries_after step p (s - p) d.entries
  unfolding taken_of
  taken_entries = refl

  taken_at : (o : ℕ) → o < s - p → o < 64 → get_or taken.entries (place_after p o) no_entry ≡ stepped o
  taken_at o l m = ap (λ (x : List Entry). get_or x (place_after p o) no_entry) taken_entries ∙ entries_at step p d.entries (s - p) o m ∙ simp (lt-ltb o (s - p) l)

  -- counts are at most 255 in every place
  taken_counts : (j : ℕ) → (get_or taken.entries j no_entry).count ≤ 255
  taken_counts j = elim (dec_lt j 64) [
    | yes l ↦ elim (dec_lt (offset_at p j) (s - p)) [
      | yes m ↦ (let at : place_after p (offset_at p j) ≡ j = omega arith in
          rw (← at) (rw (taken_at (offset_at p j) m (omega arith)) (stepped_count (offset_at p j) m)))
      | no m ↦ rw (taken_entries, entries_place step p d.entries (s - p) j l) (simp (le-ltb (offset_at p j) (s - p) (omega arith)) (omega arith))
    ]
    | no l ↦ rw (taken_entries, get_or-eq_default (entries_after step p (s - p) d.entries) no_entry {n = j} (omega (arith, entries_length step p d.entries (s - p)))) (omega arith)
  ]

  pub may_judge : Judging taken s
  unfolding taken_of
  may_judge = record {
    few = few d s i c mask a;
    limit = reach.3;
    order = reach.1;
    near = omega (arith, reach.0, reach.2);
    counts = taken_counts;
  }

  -- ---- the entries after the verdicts
  abbrev judged : Downstream
  judged = judged_of taken s

  judge : ℕ → Entry → Entry
  judge o e = cond (is_marked (due_of taken s) o) (raised_entry e) e

  judged_at : (o : ℕ) → o < s - p → o < 64 → get_or judged.entries (place_after p o) no_entry ≡ judge o (stepped o)
  unfolding judged_of taken_of judge
  judged_at o l m = entries_at judge p taken.entries (s - p) o m ∙ simp (lt-ltb o (s - p) l) (ap (judge o) (taken_at o l m))

  judged_past : (o : ℕ) → s - p ≤ o → o < 64 → get_or judged.entries (place_after p o) no_entry ≡ no_entry
  unfolding judged_of taken_of judge
  judged_past o l m = entries_at judge p taken.entries (s - p) o m ∙ simp (le-ltb o (s - p) l)

  -- a message that is due has been sent again fewer than 255 times
  due_count : (o : ℕ) → o < s - p → o < 64 → is_marked (due_of taken s) o ≡ true → (stepped o).count < 255
  unfolding due_of taken_of
  due_count o l m t =
      let h : due_at taken o ≡ true = and_right (ltb o (s - p)) (due_at taken o) (sym (marked_set (due_at taken) (s - p) o) ∙ t) in
      rw (taken_at o l m) at (due_few (shares_of d.cluster) d.cluster.u d.cluster.r (numbers_of after) (masks_of after) (p + 1 + o) (get_or taken.entries (place_after p o) no_entry) h)

  judged_kept : (o : ℕ) → o < s - p → o < 64 → (leb (judge o (stepped o)).count 255 && complaints_kept n (numbers_of after) (masks_of after) (p + 1 + o) (judge o (stepped o)).complaints) ≡ true
  unfolding judge
  judged_kept o l m = elim (bool_cases (is_marked (due_of taken s) o)) [
    | inl t ↦ simp (t, le-leb ((stepped o).count + 1) 255 (omega (arith, due_count o l m t))) (empty_kept n (numbers_of after) (masks_of after) (p + 1 + o))
    | inr t ↦ simp (t, le-leb (stepped o).count 255 (stepped_count o l)) (stepped_kept o l)
  ]

  new_entries : entries_kept n (numbers_of after) (masks_of after) judged.entries p s ≡ true
  unfolding entries_kept
  new_entries = all_of (λ o. entry_kept n (numbers_of after) (masks_of after) s (p + 1 + o) (get_or judged.entries (place_after p o) no_entry)) 64 (λ o m. elim (dec_lt o (s - p)) [
    | yes l ↦ rw (judged_at o l m) (simp (le-leb (p + 1 + o) s (omega arith)) (judged_kept o l m))
    | no l ↦ rw (judged_past o (omega arith) m) (simp (lt-leb (p + 1 + o) s (omega (arith, reach.1))))
  ])

  -- all that belongs to the receiving cluster is kept
  pub judged_formed : downstream_kept judged s ≡ true
  unfolding downstream_kept judged_of taken_of
  judged_formed = simp (new_span, kept_cluster d s a.kept, new_reports, new_entries, eq-eqb p p refl)
