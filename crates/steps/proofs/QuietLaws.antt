-- A report that changes no entry: nobody complains of anything, and none is emptied. Assumes nothing.
use mathlib.Core.Path.{◌≡◌, refl, ap, sym, ◌∙◌}
use mathlib.Core.Bool.{Bool, true, false, cond, not, ◌&&◌, ◌||◌}
use mathlib.Core.List.{List}
use mathlib.Core.Logic.{inl, inr}
use Prim.Native.Nat.{ℕ, ◌+◌, ◌-◌, ◌≤◌, ◌<◌}
use native.Mathlib.Decide.{dec_lt}
use native.Mathlib.Omega.{arith}
use lib.Dec.{leb, ltb, eqb}
use lib.ListN.{length, get_or}
use borrow.Author.Tests.{lt-ltb, le-ltb, le-leb, lt-leb, eqb-true, not-true}
use Rattle.basics.proofs.BoolLaws.{bool_cases, or_cases, and_left, and_right, and_not_left, and_not_right, no_both}
use Rattle.basics.proofs.SumLaws.{sum_zero, list_at}
use Rattle.marks.specs.Masks.{is_marked, unmark_of, without_mark, reach_of, reach_in}
use Rattle.marks.specs.Held.{holds_of, highest_of}
use Rattle.marks.proofs.MaskLaws.{marked_none}
use Rattle.marks.proofs.SetLaws.{set_none}
use Rattle.shares.specs.Shares.{share_of}
use Rattle.downstream.specs.declared.state.Entry.{Entry}
use Rattle.downstream.specs.declared.state.Downstream.{Downstream}
use Rattle.downstream.specs.State.{no_entry, offset_at, place_after, is_quacked}
use Rattle.judging.specs.declared.complaints.Hearing.{Hearing}
use Rattle.judging.specs.Complaints.{entries_after, complained_entry, complains, complaints_after}
use Rattle.judging.specs.Verdicts.{is_due, due_at, due_of}
use Rattle.judging.proofs.PlaceLaws.{place_offset}
use Rattle.window.specs.Answers.{with_downstream, step_out}
use Rattle.words.specs.Taken.{word_at, none_above, entry_in, entries_in, window_in}
use Rattle.words.specs.Put.{words_of}
use Rattle.words.proofs.FitLaws.{none_at}
use Rattle.steps.specs.Stored.{with_report}
use Rattle.steps.specs.Stepping.{Stepping, taken_in, step_in}
use Rattle.steps.proofs.EntryLaws.{same_list}
use Rattle.steps.proofs.StepLaws.{with_entries, after, closed_count, entries_are, stepped, entries_stay, step_none, step_none_out}

-- ---- a set that is empty stays so
unmark_none : (i : ℕ) → unmark_of 0 i ≡ 0
unfolding unmark_of without_mark
unmark_none i = simp (marked_none i) (same (ltb i 64))
  where
    same : (b : Bool) → ◌≡◌ {A = ℕ} (cond b 0 0) 0
    same true = refl
    same false = refl

quiet_set : (i c : ℕ) (again : Bool) (p k : ℕ) → (again && eqb c p) ≡ false → complaints_after i c 0 again p k 0 ≡ 0
unfolding complaints_after complains holds_of highest_of reach_of reach_in
quiet_set i c again p k n = elim (bool_cases (leb k c)) [
  | inl t ↦ simp (t, unmark_none i)
  | inr t ↦ simp (t, marked_none (k - (c + 1)), lacks t, repeats again n)
]
  where
    lacks : leb k c ≡ false → ltb k (c + 0) ≡ false
    lacks t = elim (dec_lt c k) [
      | yes l ↦ le-ltb k (c + 0) (omega arith)
      | no l ↦ no_both (le-leb k c (omega arith)) t
    ]

    repeats : (b : Bool) → (b && eqb c p) ≡ false → (b && eqb k (c + 1) && eqb c p) ≡ false
    repeats true e = and_not_right (eqb k (c + 1)) (eqb c p) e
    repeats false e = refl

-- ---- a message of which nobody complains is not due
none_due : (shares : List ℕ) (u r : ℕ) (numbers masks : List ℕ) (k : ℕ) (e : Entry) → e.complaints ≡ 0 → is_due shares u r numbers masks k e ≡ false
unfolding is_due share_of
none_due shares u r numbers masks k e z =
    let nobody : share_of shares (is_marked e.complaints) ≡ 0 = rw z (sum_zero (λ i. cond (is_marked 0 i) (get_or shares i 0) 0) (length shares) (λ j l. simp (marked_none j))) in
    and_not_left (not (is_quacked shares u numbers masks k) && leb (r + 1) (share_of shares (is_marked e.complaints))) (ltb e.count 255) (and_not_right (not (is_quacked shares u numbers masks k)) (leb (r + 1) (share_of shares (is_marked e.complaints))) (rw nobody (lt-leb (r + 1) 0 (omega arith))))

-- ---- where the report is quiet, every entry stays and nothing is due
module _ (ws : List ℕ) (h : Hearing) (p : ℕ) (k : Stepping ws h p) (b : Bool)
    (eb : b ≡ ((eqb p (word_at ws 136) || none_above ws 329 64 0) && eqb h.mask 0 && not (h.again && eqb h.number p) && none_above ws 393 64 0)) (t : b ≡ true) where
  abbrev stays : Bool
  stays = eqb p (word_at ws 136) || none_above ws 329 64 0

  abbrev clear : Bool
  clear = eqb h.mask 0

  abbrev fresh : Bool
  fresh = not (h.again && eqb h.number p)

  abbrev silent : Bool
  silent = none_above ws 393 64 0

  quiet : (stays && clear && fresh && silent) ≡ true
  quiet = sym eb ∙ t

  none_emptied : stays ≡ true
  none_emptied = and_left stays clear (and_left (stays && clear) fresh (and_left (stays && clear && fresh) silent quiet))

  mask_clear : h.mask ≡ 0
  mask_clear = eqb-true h.mask 0 (and_right stays clear (and_left (stays && clear) fresh (and_left (stays && clear && fresh) silent quiet)))

  not_again : (h.again && eqb h.number p) ≡ false
  not_again = not-true _ (and_right (stays && clear) fresh (and_left (stays && clear && fresh) silent quiet))

  no_set : (j : ℕ) → j < 64 → word_at ws (393 + j) ≡ 0
  no_set j l = omega (arith, none_at ws 393 64 0 (and_right (stays && clear && fresh) silent quiet) j l)

  abbrev before : Downstream
  before = (window_in ws).downstream

  abbrev s : ℕ
  s = word_at ws 135

  empty_entry : (j : ℕ) → word_at ws (329 + j) ≡ 0 → word_at ws (393 + j) ≡ 0 → no_entry ≡ entry_in ws j
  empty_entry j a b = λ i. record { count = sym a i; complaints = sym b i }

  -- nothing is collected: what is closed was so before
  closed_stays : p ≡ word_at ws 136 → (j : ℕ) → j < 64 → s - p ≤ offset_at p j → no_entry ≡ entry_in ws j
  closed_stays stays j l m = empty_entry j (eqb-true (word_at ws (329 + j)) 0 (rw (place_offset p j l) at (closed_count ws h p k stays (offset_at p j) (omega arith) m))) (no_set j l)

  closed_entry : (j : ℕ) → j < 64 → s - p ≤ offset_at p j → no_entry ≡ entry_in ws j
  closed_entry j l m = elim (or_cases (eqb p (word_at ws 136)) (none_above ws 329 64 0) none_emptied) [
    | inl t ↦ closed_stays (eqb-true p (word_at ws 136) t) j l m
    | inr t ↦ empty_entry j (omega (arith, none_at ws 329 64 0 t j l)) (no_set j l)
  ]

  abbrev hears : ℕ → Entry → Entry
  hears = complained_entry h.member h.number h.mask h.again p

  open_entry : (j : ℕ) → j < 64 → hears (offset_at p j) (entry_in ws j) ≡ entry_in ws j
  open_entry j l =
      let same : complaints_after h.member h.number h.mask h.again p (p + 1 + offset_at p j) (word_at ws (393 + j)) ≡ word_at ws (393 + j) =
      rw (no_set j l, mask_clear) (quiet_set h.member h.number h.again p (p + 1 + offset_at p j) not_again) in
      λ i. record { count = word_at ws (329 + j); complaints = same i }

  entry_stays : (j : ℕ) → j < 64 → cond (ltb (offset_at p j) (s - p)) (hears (offset_at p j) (get_or (entries_in ws) j no_entry)) no_entry ≡ entry_in ws j
  unfolding entries_in
  entry_stays j l = rw (list_at (entry_in ws) no_entry 64 j l) (elim (dec_lt (offset_at p j) (s - p)) [
    | yes m ↦ simp (lt-ltb (offset_at p j) (s - p) m) (open_entry j l)
    | no m ↦ simp (le-ltb (offset_at p j) (s - p) (omega arith)) (closed_entry j l (omega arith))
  ])

  entries_kept_lem : (taken_in ws h).entries ≡ entries_in ws
  unfolding entries_after entries_in
  entries_kept_lem = entries_are ws h p k ∙ same_list (λ j. cond (ltb (offset_at p j) (s - p)) (hears (offset_at p j) (get_or (entries_in ws) j no_entry)) no_entry) (entry_in ws) no_entry entry_stays

  quiet_due : 0 ≡ due_of (taken_in ws h) (window_in ws).sent
  unfolding due_of entries_in
  quiet_due = set_none (due_at (taken_in ws h)) ((window_in ws).sent - (taken_in ws h).point) (λ o l. none_due _ _ _ _ _ _ _ (nobody o))
    where
      nobody : (o : ℕ) → (get_or (taken_in ws h).entries (place_after (taken_in ws h).point o) no_entry).complaints ≡ 0
      nobody o =
          let j : ℕ = place_after (taken_in ws h).point o in
          ap (λ (l : List Entry). (get_or l j no_entry).complaints) entries_kept_lem ∙ ap (λ (e : Entry). e.complaints) (list_at (entry_in ws) no_entry 64 j (omega arith)) ∙ no_set j (omega arith)

  pub quiet_none : 0 ≡ (step_in ws h).verdicts
  quiet_none = step_none ws h p k 0 quiet_due refl

  pub quiet_out : (out : List ℕ) → out ≡ step_out (window_in ws).sending (window_in ws).quantum (window_in ws).downstream (window_in ws).sent h.member h.number h.mask out
  quiet_out out = step_none_out ws h p k 0 quiet_due refl out

  stay : (after ws h p k).entries ≡ entries_in ws
  stay = entries_stay ws h p k 0 quiet_due refl ∙ entries_kept_lem

  pub quiet_words : (l : List ℕ) → l ≡ words_of (with_report (window_in ws) h.member h.number h.mask p) → l ≡ words_of (with_downstream (window_in ws) (step_in ws h).downstream)
  unfolding window_in
  quiet_words l e = e ∙ ap (λ (x : List Entry). words_of (with_entries (with_report (window_in ws) h.member h.number h.mask p) x)) (sym stay) ∙ ap words_of (stepped ws h p k)
