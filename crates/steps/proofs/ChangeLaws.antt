-- A column changed at the places of a set of messages, one after another: what is left to change says what it becomes. Assumes nothing.
use mathlib.Core.Path.{◌≡◌, refl, ap, sym, ◌∙◌}
use mathlib.Core.Bool.{Bool, true, false, cond, not, ◌&&◌}
use mathlib.Core.List.{List}
use mathlib.Core.Logic.{inl, inr}
use Prim.Native.Nat.{ℕ, zero, suc, ◌+◌, ◌-◌, ◌/◌, ◌%◌, ◌^◌, ◌≤◌, ◌<◌}
use native.Mathlib.Decide.{dec_lt, ℕ_discrete}
use native.Mathlib.Omega.{arith}
use lib.Bits.{bit_and, and_le_l}
use lib.Dec.{eqb}
use lib.ListN.{length, get_or, set}
use lib.Pow.{pow_pos}
use lib.Seq.{get_or-set_same, get_or-set_other}
use borrow.Author.Tests.{eq-eqb, ne_eqb, eqb-true, eqb-false, not-true}
use mir.Val.{Fits}
use mir.Syntax.{w64}
use Rattle.basics.proofs.BoolLaws.{bool_cases, no_both, and_not_right, eqb_same}
use Rattle.basics.proofs.SumLaws.{list_is}
use Rattle.marks.specs.Masks.{is_marked, without_mark, unmark_of}
use Rattle.marks.proofs.MaskLaws.{marked_step, marked_low, marked_without, marked_none, marked_le, marked_beyond, same_marks, unmark_is}
use Rattle.marks.proofs.SetLaws.{marked_and, marked_not}
use Rattle.marks.proofs.RunLaws.{run_marked, run_end}
use Rattle.downstream.specs.State.{offset_at, place_after}
use Rattle.judging.proofs.PlaceLaws.{offset_place, place_offset}
use Rattle.steps.specs.Columns.{first_bit, changed_at, Small}
use Rattle.steps.proofs.EntryLaws.{same_list}

-- ---- the first bit of a set
module _ (s r : ℕ) (f : Fits w64 s) (some : 0 < s) (e : r ≡ first_bit s) where
  pub first_in : r < 64
  first_in = elim (dec_lt r 64) [
    | yes l ↦ l
    | no l ↦ (let z : s ≡ 0 = same_marks 64 s 0 f.fits (omega arith) (λ j. elim (dec_lt j 64) [
      | yes k ↦ not-true (is_marked s j) (sym (marked_not 64 s j f.fits k) ∙ run_marked (18446744073709551615 - s) j (omega arith)) ∙ sym (marked_none j)
      | no k ↦ marked_beyond 64 s j f.fits (omega arith) ∙ sym (marked_none j)
    ]) in absurd (omega arith))
  ]

  pub first_marked : is_marked s r ≡ true
  first_marked = elim (bool_cases (is_marked s r)) [
    | inl t ↦ t
    | inr t ↦ no_both (marked_not 64 s r f.fits first_in ∙ ap not t) (ap (is_marked (18446744073709551615 - s)) e ∙ run_end (18446744073709551615 - s) (omega (arith, first_in)))
  ]

  none_before : (j : ℕ) → j < r → is_marked s j ≡ false
  none_before j l = not-true (is_marked s j) (sym (marked_not 64 s j f.fits (omega (arith, first_in))) ∙ run_marked (18446744073709551615 - s) j (omega arith))

-- ---- the set without it: of a number and the one before it the bits are the same above its first one
low_bit : (s : ℕ) → is_marked s 0 ≡ true → s % 2 ≡ 1
low_bit s t = eqb-true (s % 2) 1 (sym (marked_low s) ∙ t)

above_first : (s o : ℕ) → is_marked s o ≡ true → ((j : ℕ) → j < o → is_marked s j ≡ false) → (j : ℕ) → (is_marked s j && is_marked (s - 1) j) ≡ (not (eqb j o) && is_marked s j)
above_first s zero t none zero =
    let even : (s - 1) % 2 ≡ 0 = omega (arith, low_bit s t) in
    rw (t, marked_low (s - 1), even) refl
above_first s zero t none (suc j) =
    let half : (s - 1) / 2 ≡ s / 2 = omega (arith, low_bit s t) in
    rw (marked_step s j, marked_step (s - 1) j, half, ne_eqb (suc j) 0 (λ e. omega arith)) (twice (is_marked (s / 2) j))
  where
    twice : (b : Bool) → (b && b) ≡ b
    twice true = refl
    twice false = refl
above_first s (suc o) t none zero = rw (none 0 (omega arith)) (sym (and_not_right (not (eqb 0 (suc o))) false refl))
above_first s (suc o) t none (suc j) =
    let even : s % 2 ≡ 0 = omega (arith, eqb-false (s % 2) 1 (sym (marked_low s) ∙ none 0 (omega arith))) in
    let some : 1 ≤ s = omega (arith, marked_le s (suc o) t, pow_pos (suc o)) in
    let half : (s - 1) / 2 ≡ s / 2 - 1 = omega arith in
    rw (marked_step s j, marked_step (s - 1) j, half, eqb_same (suc j) (suc o) j o (λ e. omega arith) (λ e. omega arith))
    (above_first (s / 2) o (sym (marked_step s o) ∙ t) (λ i l. sym (marked_step s i) ∙ none (suc i) (omega arith)) j)

without_lt : (s r : ℕ) → Fits w64 s → is_marked s r ≡ true → without_mark s r < 2 ^ 64
unfolding without_mark
without_lt s r f t = simp t (omega (arith, f.fits))

pub without_told : (s : ℕ) → Fits w64 s → 0 < s → bit_and s (s - 1) ≡ unmark_of s (first_bit s)
without_told s f some =
    let r : ℕ = first_bit s in
    let t = first_marked s r f some refl in
    same_marks 64 (bit_and s (s - 1)) (without_mark s r) (omega (arith, and_le_l s (s - 1), f.fits)) (without_lt s r f t)
    (λ j. marked_and s (s - 1) j ∙ above_first s r t (none_before s r f some refl) j ∙ sym (marked_without s r j))
    ∙ sym (unmark_is s r (first_in s r f some refl))

-- ---- one message fewer is left
pub fewer_left : (rest o next : ℕ) → o < 64 → is_marked rest o ≡ true → o ≡ first_bit rest → next ≡ unmark_of rest (first_bit rest) → next < rest
unfolding without_mark
fewer_left rest o next l t eo e = let z : next ≡ rest - 2 ^ o = e ∙ ap (unmark_of rest) (sym eo) ∙ unmark_is rest o l ∙ simp t in omega (arith, pow_pos o, marked_le rest o t)

-- no count that is left to be raised is above 255
pub record SmallAt (rest p : ℕ) (counts : List ℕ) : Type 0 where
  pub low : (j : ℕ) → j < 64 → is_marked rest (offset_at p j) ≡ true → get_or counts j 0 ≤ 255

module _ (p rest o at next : ℕ) (l : o < 64) (t : is_marked rest o ≡ true) (eo : o ≡ first_bit rest) (ea : at ≡ place_after p o) (un : next ≡ unmark_of rest (first_bit rest)) where
  en : next ≡ unmark_of rest o
  en = un ∙ ap (unmark_of rest) (sym eo)

  left_at : (j : ℕ) → is_marked next j ≡ (not (eqb j o) && is_marked rest j)
  left_at j = ap (λ (x : ℕ). is_marked x j) (en ∙ unmark_is rest o l) ∙ marked_without rest o j

  offset_is : offset_at p at ≡ o
  offset_is = ap (offset_at p) ea ∙ offset_place p o l

  -- this place is done, and no other is touched
  here : is_marked next (offset_at p at) ≡ false
  here = ap (is_marked next) offset_is ∙ left_at o ∙ simp (eq-eqb o o refl)

  other : (j : ℕ) → j < 64 → (j ≡ at → ⊥) → is_marked next (offset_at p j) ≡ is_marked rest (offset_at p j)
  other j m e = left_at (offset_at p j) ∙ simp (ne_eqb (offset_at p j) o (λ z. e (sym (place_offset p j m) ∙ ap (place_after p) z ∙ sym ea)))

  pub changed_turn : (f : ℕ → ℕ) (column becomes : List ℕ) (v : ℕ) → length column ≡ 64 → v ≡ f (get_or column at 0) → changed_at f rest p column ≡ becomes → changed_at f next p (set column at v) ≡ becomes
  unfolding changed_at
  changed_turn f column becomes v n ev e = same_list (λ j. cond (is_marked next (offset_at p j)) (f (get_or (set column at v) j 0)) (get_or (set column at v) j 0)) (λ j. cond (is_marked rest (offset_at p j)) (f (get_or column j 0)) (get_or column j 0)) 0
      (λ j m. elim (ℕ_discrete j at) [
        | yes z ↦ rw z (simp here (get_or-set_same column at v 0 (omega (arith, n, ea)) ∙ ev ∙ sym (simp (ap (is_marked rest) offset_is ∙ t))))
        | no z ↦ rw (other j m z, get_or-set_other column at j v 0 z) refl
      ])
      ∙ e

  pub small_turn : (counts : List ℕ) (v : ℕ) → SmallAt rest p counts → SmallAt next p (set counts at v)
  small_turn counts v h = record {
    low = λ j m k. elim (ℕ_discrete j at) [
      | yes z ↦ no_both k (ap (λ (x : ℕ). is_marked next (offset_at p x)) z ∙ here)
      | no z ↦ rw (get_or-set_other counts at j v 0 z) (h.low j m (sym (other j m z) ∙ k))
    ];
  }

pub small_here : (p rest o at : ℕ) (counts : List ℕ) → SmallAt rest p counts → is_marked rest o ≡ true → o < 64 → at ≡ place_after p o → Fits w64 (get_or counts at 0 + 1)
small_here p rest o at counts h t l ea = record { fits = omega (arith, h.low at (omega arith) (ap (is_marked rest) (ap (offset_at p) ea ∙ offset_place p o l) ∙ t)) }

pub small_start : (p rest : ℕ) (counts : List ℕ) → Small counts → SmallAt rest p counts
small_start p rest counts h = record { low = λ j m k. h j }

-- ---- nothing is left
pub changed_done : (f : ℕ → ℕ) (p rest : ℕ) (column becomes : List ℕ) → length column ≡ 64 → changed_at f rest p column ≡ becomes → rest ≡ 0 → column ≡ becomes
unfolding changed_at
changed_done f p rest column becomes n e none =
    list_is (λ j. cond (is_marked rest (offset_at p j)) (f (get_or column j 0)) (get_or column j 0)) 0 64 column n
    (λ j m. sym (simp (ap (λ (x : ℕ). is_marked x (offset_at p j)) none ∙ marked_none (offset_at p j))))
    ∙ e
