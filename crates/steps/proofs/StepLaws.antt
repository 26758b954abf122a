-- Where an accepted report is taken in the words: its columns are the state's. Assumes nothing.
use mathlib.Core.Path.{◌≡◌, refl, ap, sym, ◌∙◌}
use mathlib.Core.Bool.{true, false, cond, ◌&&◌, ◌||◌}
use mathlib.Core.List.{List, ◌++◌, append_assoc}
use Prim.Native.Nat.{ℕ, ◌+◌, ◌-◌, ◌/◌, ◌≤◌, ◌<◌}
use native.Mathlib.Decide.{dec_lt}
use native.Mathlib.Omega.{arith}
use lib.Dec.{ltb, eqb}
use lib.ListN.{length, get_or, set, take, drop, length-append}
use lib.Seq.{take_at}
use borrow.Author.Tests.{lt-ltb, le-ltb}
use Rattle.basics.proofs.BoolLaws.{and_left, and_right, or_left, or_right}
use Rattle.basics.proofs.SumLaws.{all_at, all_of, list_at}
use Rattle.marks.specs.Masks.{is_marked, set_below}
use Rattle.marks.specs.Held.{highest_of}
use Rattle.marks.proofs.MaskLaws.{marked_none}
use Rattle.marks.proofs.SetLaws.{marked_set}
use Rattle.downstream.specs.declared.state.Cluster.{Cluster}
use Rattle.downstream.specs.declared.state.Entry.{Entry}
use Rattle.downstream.specs.declared.state.Downstream.{Downstream}
use Rattle.downstream.specs.State.{no_entry, offset_at, place_after, report_at, numbers_of, masks_of, counts_of, complaints_of}
use Rattle.downstream.specs.Formed.{entry_kept, entries_kept}
use Rattle.downstream.proofs.FormedLaws.{kept_entries, entry_closed}
use Rattle.judging.specs.declared.complaints.Hearing.{Hearing}
use Rattle.judging.specs.Complaints.{entries_after, complained_entry, is_again, taken_of, Taking}
use Rattle.judging.specs.Verdicts.{is_due, due_at, due_of, raised_entry, judged_of, Judging}
use Rattle.judging.proofs.StepLaws.{due_told}
use Rattle.judging.proofs.Accepted.{may_take}
use Rattle.judging.proofs.Kept.{may_judge}
use Rattle.judging.proofs.PlaceLaws.{entries_length, entries_place}
use Rattle.window.specs.declared.state.Window.{Window}
use Rattle.window.specs.Formed.{well_formed}
use Rattle.window.specs.Answers.{with_downstream, step_of, step_out}
use Rattle.window.proofs.ReportLaws.{step_writing}
use Rattle.verdicts.specs.Written.{verdicts_of, Writing}
use Rattle.verdicts.proofs.WriteLaws.{none_count, none_put, counts_low, verdicts_long}
use Rattle.words.specs.Taken.{word_at, fits, column_at, cluster_at, reports_in, entry_in, entries_in, window_in}
use Rattle.words.specs.Entries.{closed_zero}
use Rattle.words.specs.Put.{report_words, entry_words, words_of}
use Rattle.words.proofs.JudgeLaws.{numbers_column, masks_column}
use Rattle.words.proofs.PutLaws.{length_reports}
use Rattle.steps.specs.Columns.{counts_after, heard_after, Small, raised_counts, emptied_sets}
use Rattle.steps.specs.Stored.{with_report}
use Rattle.steps.specs.Stepping.{Stepping, taken_in, step_in, verdicts_in}
use Rattle.steps.proofs.StoreLaws.{front, length_front, places_in, numbers_set, masks_set}
use Rattle.steps.proofs.EntryLaws.{heard_counts, heard_sets, judged_counts, judged_sets, judged_same}

-- ---- the words of a state with other entries
abbrev pub with_entries : Window → List Entry → Window
with_entries w l =
    record {
      sending = w.sending;
      quantum = w.quantum;
      sent = w.sent;
      downstream = record { cluster = w.downstream.cluster; point = w.downstream.point; reports = w.downstream.reports; entries = l };
    }

entries_behind : (w : Window) (l : List Entry) → take 329 (words_of w) ++ counts_of l ++ complaints_of l ≡ words_of (with_entries w l)
unfolding words_of entry_words
entries_behind w l =
    let before : length (front w ++ report_words w.downstream.reports) ≡ 329 = length-append (front w) (report_words w.downstream.reports) ∙ omega (arith, length_front w, length_reports w.downstream.reports) in
    ap (λ (x : List ℕ). x ++ counts_of l ++ complaints_of l) (take_at (front w ++ report_words w.downstream.reports) (entry_words w.downstream.entries) 329 before)
    ∙ append_assoc (front w ++ report_words w.downstream.reports) (counts_of l) (complaints_of l)

-- ---- where it is taken
module _ (ws : List ℕ) (h : Hearing) (p : ℕ) (k : Stepping ws h p) where
  abbrev before : Downstream
  before = (window_in ws).downstream

  abbrev sent : ℕ
  sent = (window_in ws).sent

  abbrev taken : Downstream
  taken = taken_in ws h

  may : Taking before sent h.member h.number h.mask
  may = may_take before sent h.member h.number h.mask k.accepting (places_in ws)

  pub step_member : h.member < 64
  step_member = may.member

  pub step_few : word_at ws 67 ≤ 64
  unfolding window_in cluster_at
  step_few = may.few

  pub step_fit : fits ws ≡ true
  step_fit = k.fit

  pub step_highest : h.highest ≡ highest_of h.number h.mask
  step_highest = k.highest

  pub step_formed : well_formed (window_in ws) ≡ true
  step_formed = k.formed

  pub step_low : p ≤ 1000000000000
  step_low = omega (arith, k.point, may.order, may.limit)

  pub step_order : p ≤ word_at ws 135
  unfolding window_in
  step_order = omega (arith, k.point, may.order)

  pub step_near : word_at ws 135 - p ≤ 64
  unfolding window_in
  step_near = omega (arith, k.point, may.near)

  pub step_judging : Judging taken sent
  step_judging = may_judge before sent h.member h.number h.mask k.accepting (places_in ws)

  -- ---- an entry that is closed where nothing is collected was so before
  closed_before : p ≡ word_at ws 136 → (o : ℕ) → o < 64 → word_at ws 135 - p ≤ o → (eqb (word_at ws (329 + place_after p o)) 0 && eqb (word_at ws (393 + place_after p o)) 0) ≡ true
  unfolding window_in entries_kept entries_in
  closed_before stays o l m =
      let j : ℕ = place_after p o in
      let at : get_or (entries_in ws) (place_after (word_at ws 136) o) no_entry ≡ entry_in ws j = rw (← stays) (list_at (entry_in ws) no_entry 64 j (omega arith)) in
      let kept = all_at (λ x. entry_kept before.cluster.members (numbers_of before.reports) (masks_of before.reports) sent (before.point + 1 + x) (get_or before.entries (place_after before.point x) no_entry)) 64
      (kept_entries before sent k.accepting.kept) o l in
      entry_closed before.cluster.members (numbers_of before.reports) (masks_of before.reports) sent (word_at ws 136 + 1 + o) (entry_in ws j) (omega (arith, stays)) ∙ rw at at kept

  pub closed_count : p ≡ word_at ws 136 → (o : ℕ) → o < 64 → word_at ws 135 - p ≤ o → eqb (word_at ws (329 + place_after p o)) 0 ≡ true
  closed_count stays o l m = and_left (eqb (word_at ws (329 + place_after p o)) 0) (eqb (word_at ws (393 + place_after p o)) 0) (closed_before stays o l m)

  pub step_closed_counts : p ≡ word_at ws 136 → closed_zero ws 329 p (word_at ws 135 - p) ≡ true
  unfolding closed_zero
  step_closed_counts stays = all_of (λ o. ltb o (word_at ws 135 - p) || eqb (word_at ws (329 + place_after p o)) 0) 64 (λ o l. elim (dec_lt o (word_at ws 135 - p)) [
    | yes m ↦ or_left (ltb o (word_at ws 135 - p)) (eqb (word_at ws (329 + place_after p o)) 0) (lt-ltb o (word_at ws 135 - p) m)
    | no m ↦ or_right (ltb o (word_at ws 135 - p)) (eqb (word_at ws (329 + place_after p o)) 0) (closed_count stays o l (omega arith))
  ])

  pub step_closed_sets : p ≡ word_at ws 136 → closed_zero ws 393 p (word_at ws 135 - p) ≡ true
  unfolding closed_zero
  step_closed_sets stays = all_of (λ o. ltb o (word_at ws 135 - p) || eqb (word_at ws (393 + place_after p o)) 0) 64 (λ o l. elim (dec_lt o (word_at ws 135 - p)) [
    | yes m ↦ or_left (ltb o (word_at ws 135 - p)) (eqb (word_at ws (393 + place_after p o)) 0) (lt-ltb o (word_at ws 135 - p) m)
    | no m ↦ or_right (ltb o (word_at ws 135 - p)) (eqb (word_at ws (393 + place_after p o)) 0) (and_right (eqb (word_at ws (329 + place_after p o)) 0) (eqb (word_at ws (393 + place_after p o)) 0) (closed_before stays o l (omega arith)))
  ])

  -- for an output that has just the room
  writing : Writing (window_in ws).sending (window_in ws).quantum taken sent (due_of taken sent)
  writing = step_writing (window_in ws).sending (window_in ws).quantum sent before h.member h.number h.mask 1024
      (record { formed = k.formed; enough = omega arith; accepting = k.accepting }) taken refl (places_in ws) (due_of taken sent) refl

  -- ---- the columns are those of the state in which the report is taken
  again_is : is_again (report_at before.reports h.member) h.number ≡ h.again
  unfolding window_in
  again_is = sym k.again

  abbrev pub heard : List Entry
  heard = entries_after (complained_entry h.member h.number h.mask h.again p) p (word_at ws 135 - p) (entries_in ws)

  pub entries_are : taken.entries ≡ heard
  unfolding taken_of window_in
  entries_are = rw (again_is, ← k.point) refl

  point_same : taken.point ≡ p
  unfolding taken_of
  point_same = sym k.point

  step_counts : (counts : List ℕ) → counts ≡ counts_after ws p (word_at ws 135 - p) → counts ≡ counts_of taken.entries
  step_counts counts e = e ∙ heard_counts ws h.member h.number h.mask h.again p (word_at ws 135 - p) ∙ ap counts_of (sym entries_are)

  step_sets : (sets : List ℕ) → sets ≡ heard_after ws h.member h.number h.mask h.again p (word_at ws 135 - p) → sets ≡ complaints_of taken.entries
  step_sets sets e = e ∙ heard_sets ws h.member h.number h.mask h.again p (word_at ws 135 - p) ∙ ap complaints_of (sym entries_are)

  step_numbers : (numbers : List ℕ) → numbers ≡ column_at ws 137 → set numbers h.member h.number ≡ numbers_of taken.reports
  unfolding taken_of window_in
  step_numbers numbers e = ap (λ (l : List ℕ). set l h.member h.number) (e ∙ numbers_column ws) ∙ numbers_set (reports_in ws) h.member h.number h.mask (places_in ws) step_member

  step_masks : (masks : List ℕ) → masks ≡ column_at ws 201 → set masks h.member h.mask ≡ masks_of taken.reports
  unfolding taken_of window_in
  step_masks masks e = ap (λ (l : List ℕ). set l h.member h.mask) (e ∙ masks_column ws) ∙ masks_set (reports_in ws) h.member h.number h.mask (places_in ws) step_member

  pub step_small : (counts : List ℕ) → counts ≡ counts_after ws p (word_at ws 135 - p) → Small counts
  step_small counts e = counts_low (window_in ws).sending (window_in ws).quantum taken sent (due_of taken sent) writing counts (step_counts counts e)

  -- ---- the verdicts
  pub step_due : (cluster : Cluster) (numbers masks counts sets : List ℕ) (due : ℕ) → cluster ≡ cluster_at ws 67 → numbers ≡ column_at ws 137 → masks ≡ column_at ws 201
      → counts ≡ counts_after ws p (word_at ws 135 - p) → sets ≡ heard_after ws h.member h.number h.mask h.again p (word_at ws 135 - p)
      → due ≡ set_below (word_at ws 135 - p) (λ o. is_due (take cluster.members cluster.shares) cluster.u cluster.r (set numbers h.member h.number) (set masks h.member h.mask) (p + 1 + o)
      (record { count = get_or counts (place_after p o) 0; complaints = get_or sets (place_after p o) 0 }))
      → due ≡ due_of taken sent
  unfolding taken_of window_in
  step_due cluster numbers masks counts sets due el en em ec es e =
      due_told taken sent (set numbers h.member h.number) (set masks h.member h.mask) counts sets due (step_numbers numbers en) (step_masks masks em) (step_counts counts ec) (step_sets sets es)
      (e ∙ rw (el, point_same) refl)

  past : (o : ℕ) → word_at ws 135 - p ≤ o → is_marked (due_of taken sent) o ≡ false
  unfolding due_of window_in
  past o l = marked_set (due_at taken) (sent - taken.point) o ∙ simp (le-ltb o (sent - taken.point) (omega (arith, point_same)))

  closed : (j : ℕ) → j < 64 → word_at ws 135 - p ≤ offset_at p j → get_or taken.entries j no_entry ≡ no_entry
  closed j l m =
      ap (λ (x : List Entry). get_or x j no_entry) entries_are
      ∙ entries_place (complained_entry h.member h.number h.mask h.again p) p (entries_in ws) (word_at ws 135 - p) j l
      ∙ simp (le-ltb (offset_at p j) (word_at ws 135 - p) m)

  abbrev pub after : Downstream
  after = (step_of before sent h.member h.number h.mask).downstream

  abbrev judged_entries : ℕ → List Entry
  judged_entries due = entries_after (λ o e. cond (is_marked due o) (raised_entry e) e) p (word_at ws 135 - p) taken.entries

  after_entries : after.entries ≡ judged_entries (due_of taken sent)
  unfolding step_of judged_of window_in
  after_entries = rw point_same refl

  pub stepped : with_entries (with_report (window_in ws) h.member h.number h.mask p) after.entries ≡ with_downstream (window_in ws) after
  unfolding step_of judged_of taken_of
  stepped = rw (← k.point) refl

  pub step_words : (counts sets l : List ℕ) → counts ≡ counts_of after.entries → sets ≡ complaints_of after.entries
      → l ≡ take 329 (words_of (with_report (window_in ws) h.member h.number h.mask p)) ++ counts ++ sets → l ≡ words_of (with_downstream (window_in ws) after)
  step_words counts sets l ec es e =
      e ∙ rw (ec, es) (entries_behind (with_report (window_in ws) h.member h.number h.mask p) after.entries) ∙ ap words_of stepped

  module _ (due : ℕ) (ed : due ≡ due_of taken sent) where
    entries_due : after.entries ≡ judged_entries due
    entries_due = after_entries ∙ ap judged_entries (sym ed)

    past_due : (o : ℕ) → word_at ws 135 - p ≤ o → is_marked due o ≡ false
    past_due o l = ap (λ (x : ℕ). is_marked x o) ed ∙ past o l

    pub step_raised : (counts raised : List ℕ) → counts ≡ counts_after ws p (word_at ws 135 - p) → raised ≡ raised_counts due p counts → raised ≡ counts_of after.entries
    step_raised counts raised ec e =
        e ∙ ap (raised_counts due p) (step_counts counts ec) ∙ judged_counts due p (word_at ws 135 - p) taken.entries past_due closed ∙ ap counts_of (sym entries_due)

    pub step_emptied : (sets emptied : List ℕ) → sets ≡ heard_after ws h.member h.number h.mask h.again p (word_at ws 135 - p) → emptied ≡ emptied_sets due p sets
        → emptied ≡ complaints_of after.entries
    step_emptied sets emptied es e =
        e ∙ ap (emptied_sets due p) (step_sets sets es) ∙ judged_sets due p (word_at ws 135 - p) taken.entries past_due closed ∙ ap complaints_of (sym entries_due)

    -- where nothing is due the entries stay as the report left them
    module _ (z : due ≡ 0) where
      pub entries_stay : after.entries ≡ taken.entries
      unfolding taken_of
      entries_stay =
          entries_due
          ∙ judged_same due p (word_at ws 135 - p) taken.entries past_due closed (λ o. ap (λ (x : ℕ). is_marked x o) z ∙ marked_none o)
          (ap length entries_are ∙ entries_length (complained_entry h.member h.number h.mask h.again p) p (entries_in ws) (word_at ws 135 - p))

      pub step_none : 0 ≡ (step_in ws h).verdicts
      unfolding step_of
      step_none = none_count (window_in ws).sending (window_in ws).quantum taken sent (due_of taken sent) writing (sym ed ∙ z)

      pub step_none_out : (out : List ℕ) → out ≡ step_out (window_in ws).sending (window_in ws).quantum before sent h.member h.number h.mask out
      unfolding step_out
      step_none_out out = none_put (window_in ws).sending (window_in ws).quantum taken sent (due_of taken sent) writing out (sym ed ∙ z)

      pub step_counts_stay : (counts : List ℕ) → counts ≡ counts_after ws p (word_at ws 135 - p) → counts ≡ counts_of after.entries
      step_counts_stay counts e = step_counts counts e ∙ ap counts_of (sym entries_stay)

      pub step_sets_stay : (sets : List ℕ) → sets ≡ heard_after ws h.member h.number h.mask h.again p (word_at ws 135 - p) → sets ≡ complaints_of after.entries
      step_sets_stay sets e = step_sets sets e ∙ ap complaints_of (sym entries_stay)

    -- the verdicts that are written
    verdicts_are : (counts : List ℕ) → counts ≡ counts_after ws p (word_at ws 135 - p) → verdicts_in ws due counts p ≡ verdicts_of (window_in ws).sending (window_in ws).quantum taken sent
    unfolding verdicts_in verdicts_of taken_of window_in
    verdicts_are counts ec = rw (step_counts counts ec, ed, ← point_same) refl

    pub step_verdicts : (counts : List ℕ) (v : ℕ) → counts ≡ counts_after ws p (word_at ws 135 - p) → v ≡ length (verdicts_in ws due counts p) / 16 → v ≡ (step_in ws h).verdicts
    unfolding step_of
    step_verdicts counts v ec e = omega (arith, e, ap length (verdicts_are counts ec), verdicts_long taken sent (window_in ws).sending (window_in ws).quantum)

    pub step_out_lem : (counts xs ys : List ℕ) → counts ≡ counts_after ws p (word_at ws 135 - p) → ys ≡ verdicts_in ws due counts p ++ drop (length (verdicts_in ws due counts p)) xs
        → ys ≡ step_out (window_in ws).sending (window_in ws).quantum before sent h.member h.number h.mask xs
    unfolding step_out
    step_out_lem counts xs ys ec e = e ∙ ap (λ (l : List ℕ). l ++ drop (length l) xs) (verdicts_are counts ec)
