-- The steps of an accepted report, from what the code knows where it answers. Assumes nothing.
use mathlib.Core.Path.{◌≡◌, refl, ap, ◌∙◌}
use mathlib.Core.Bool.{cond}
use mathlib.Core.List.{List}
use Prim.Native.Nat.{ℕ, ◌+◌, ◌-◌, ◌≤◌, ◌<◌}
use native.Mathlib.Omega.{arith}
use lib.ListN.{get_or}
use Rattle.marks.specs.Masks.{is_marked, set_below}
use Rattle.marks.proofs.SetLaws.{set_cong}
use Rattle.downstream.specs.declared.state.Entry.{Entry}
use Rattle.downstream.specs.declared.state.Downstream.{Downstream}
use Rattle.downstream.specs.State.{no_entry, place_after, shares_of, report_at, numbers_of, masks_of, counts_of, complaints_of, point_from}
use Rattle.downstream.proofs.ColumnLaws.{count_at, complaint_at}
use Rattle.judging.specs.Complaints.{entries_after, complained_entry, is_again, reports_after, point_after, taken_of, Taking}
use Rattle.judging.specs.Verdicts.{is_due, due_at, due_of, raised_entry, judged_of}

-- ---- a report is taken
module _ (d : Downstream) (s i c mask : ℕ) (t : Taking d s i c mask) (numbers : List ℕ) (p : ℕ) (en : numbers ≡ numbers_of (reports_after d.reports i c mask)) (ep : p ≡ point_from d.cluster numbers) where
  same_point : p ≡ point_after d i c mask
  same_point = ep ∙ ap (point_from d.cluster) en

  pub take_order : p ≤ s
  take_order = omega (arith, t.order, same_point)

  pub take_near : s - p ≤ 64
  take_near = omega (arith, t.near, same_point)

  pub take_low : p ≤ 1000000000000
  take_low = omega (arith, t.order, t.limit, same_point)

  pub take_told : (entries : List Entry) → entries ≡ entries_after (complained_entry i c mask (is_again (report_at d.reports i) c) p) p (s - p) d.entries
      → ◌≡◌ {A = Downstream} (record { cluster = d.cluster; point = p; reports = reports_after d.reports i c mask; entries = entries }) (taken_of d s i c mask)
  unfolding taken_of
  take_told entries e = rw (e, same_point) refl

pub ruleset taking = (take_order, take_near, take_low)

-- ---- the open messages are judged
module _ (d : Downstream) (s : ℕ) where
  same_entry : (j : ℕ) → j < 64 → ◌≡◌ {A = Entry} (record { count = get_or (counts_of d.entries) j 0; complaints = get_or (complaints_of d.entries) j 0 }) (get_or d.entries j no_entry)
  same_entry j l = rw (count_at d.entries j l, complaint_at d.entries j l) refl

  -- by the columns
  pub due_told : (numbers masks counts complaints : List ℕ) (set : ℕ)
      → numbers ≡ numbers_of d.reports → masks ≡ masks_of d.reports → counts ≡ counts_of d.entries → complaints ≡ complaints_of d.entries
      → set ≡ set_below (s - d.point) (λ x. is_due (shares_of d.cluster) d.cluster.u d.cluster.r numbers masks (d.point + 1 + x)
      (record { count = get_or counts (place_after d.point x) 0; complaints = get_or complaints (place_after d.point x) 0 }))
      → set ≡ due_of d s
  unfolding due_of
  due_told numbers masks counts complaints set en em ec ex e = e ∙ rw (en, em, ec, ex)
      (set_cong _ (due_at d) (s - d.point) (λ x l. ap (is_due (shares_of d.cluster) d.cluster.u d.cluster.r (numbers_of d.reports) (masks_of d.reports) (d.point + 1 + x)) (same_entry (place_after d.point x) (omega arith))))

  pub judged_told : (due : ℕ) (entries : List Entry) → due ≡ due_of d s → entries ≡ entries_after (λ o e. cond (is_marked due o) (raised_entry e) e) d.point (s - d.point) d.entries
      → ◌≡◌ {A = Downstream} (record { cluster = d.cluster; point = d.point; reports = d.reports; entries = entries }) (judged_of d s)
  unfolding judged_of
  judged_told due entries e q = rw (q, e) refl
