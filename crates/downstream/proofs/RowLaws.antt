-- What each member holds after p as one word, and where these words change. Assumes nothing.
use mathlib.Core.Path.{◌≡◌, ap, sym, ◌∙◌}
use mathlib.Core.Bool.{false}
use mathlib.Core.List.{List, ◌++◌}
use mathlib.Core.Logic.{inl, inr}
use Prim.Native.Nat.{ℕ, ◌+◌, ◌-◌, ◌/◌, ◌^◌, ◌≤◌, ◌<◌, min}
use native.Mathlib.Decide.{dec_lt}
use native.Mathlib.Omega.{arith}
use lib.Bits.{bit_or, bit_xor}
use lib.Pow.{shr_le}
use lib.ListN.{length, get_or, take, drop, set}
use lib.Seq.{take_at, length-take-le}
use borrow.Author.Tests.{not-true}
use mir.Val.{Fits}
use mir.Syntax.{w64}
use Rattle.basics.proofs.BoolLaws.{bool_cases, no_both, or_left, or_right}
use Rattle.basics.proofs.SumLaws.{length_list, list_at, list_start, list_turn}
use Rattle.marks.specs.Masks.{is_marked, run_of}
use Rattle.marks.specs.Held.{held_after}
use Rattle.marks.proofs.MaskLaws.{marked_past}
use Rattle.marks.proofs.SetLaws.{marked_or, marked_xor, marked_not}
use Rattle.marks.proofs.RunLaws.{run_marked}
use Rattle.marks.proofs.AfterLaws.{after_at}
use Rattle.downstream.specs.State.{held_by}
use Rattle.downstream.specs.Rows.{held_rows, Steady, SteadyUntil}

-- ---- the words are filled in from the front
module _ (numbers masks : List ℕ) (p : ℕ) where
  abbrev word : ℕ → ℕ
  word i = held_after p (get_or numbers i 0) (get_or masks i 0)

  pub rows_start : (o : List ℕ) → o ≡ held_rows numbers masks p 0 ++ drop 0 o
  unfolding held_rows
  rows_start o = list_start word o

  pub rows_turn : (i n v : ℕ) (l o : List ℕ) → l ≡ held_rows numbers masks p i ++ drop i o → i < n → n ≤ length o → length l ≡ length o
      → v ≡ held_after p (get_or numbers i 0) (get_or masks i 0) → set l i v ≡ held_rows numbers masks p (i + 1) ++ drop (i + 1) o
  unfolding held_rows
  rows_turn i n v l o e h m k q = list_turn word {i = i} {v = v} {l = l} o e (omega arith) k q

-- ---- where a word changes
module _ (rows : List ℕ) where
  pub steady_start : Steady rows 0 0
  steady_start = record { same = λ i j l e. absurd (omega arith) }

  pub steady_turn : (n s : ℕ) → Steady rows n s → Steady rows (n + 1) (bit_or s (bit_xor (get_or rows n 0) (get_or rows n 0 / 2)))
  steady_turn n s h = record {
    same = λ i j l e. elim (dec_lt i n) [
      | yes k ↦ h.same i j k (left j e)
      | no k ↦ (let z : i ≡ n = omega arith in
          rw z (sym (marked_xor (get_or rows n 0) (get_or rows n 0 / 2) j (right j e) ∙ marked_past (get_or rows n 0) 1 j ∙ ap (is_marked (get_or rows n 0)) (next j))))
    ];
  }
    where
      change : ℕ
      change = bit_xor (get_or rows n 0) (get_or rows n 0 / 2)

      next : (j : ℕ) → 1 + j ≡ j + 1
      next j = omega arith

      left : (j : ℕ) → is_marked (bit_or s change) j ≡ false → is_marked s j ≡ false
      left j e = elim (bool_cases (is_marked s j)) [
        | inl t ↦ no_both (marked_or s change j ∙ or_left (is_marked s j) (is_marked change j) t) e
        | inr t ↦ t
      ]

      right : (j : ℕ) → is_marked (bit_or s change) j ≡ false → is_marked change j ≡ false
      right j e = elim (bool_cases (is_marked change j)) [
        | inl t ↦ no_both (marked_or s change j ∙ or_right (is_marked s j) (is_marked change j) t) e
        | inr t ↦ t
      ]

-- ---- how far no word changes
pub steady_found : (set o n w still r : ℕ) → Fits w64 set → o < n → n ≤ 64 → w ≡ set / 2 ^ o → still ≡ run_of (18446744073709551615 - w) → r ≡ min (o + still + 1) n → SteadyUntil set o n r
steady_found set o n w still r f l few e q h = record {
  further = omega arith;
  within = omega arith;
  none = λ j a b.
      let z : o + (j - o) ≡ j = omega arith in
      let low : w < 2 ^ 64 = omega (arith, shr_le set o, f.fits) in
      sym (ap (λ (x : ℕ). is_marked x (j - o)) e ∙ marked_past set o (j - o) ∙ ap (is_marked set) z)
      ∙ not-true (is_marked w (j - o)) (sym (marked_not 64 w (j - o) low (omega arith)) ∙ run_marked (18446744073709551615 - w) (j - o) (omega arith));
}

-- ---- the words in a local array, cut to the members
module _ (numbers masks : List ℕ) (p n : ℕ) (places z : List ℕ) (e : places ≡ held_rows numbers masks p n ++ drop n z) where
  length_rows : length (held_rows numbers masks p n) ≡ n
  unfolding held_rows
  length_rows = length_list (λ i. held_after p (get_or numbers i 0) (get_or masks i 0)) n

  pub rows_cut : take n places ≡ held_rows numbers masks p n
  rows_cut = ap (take n) e ∙ take_at (held_rows numbers masks p n) (drop n z) n length_rows

pub rows_long : (n : ℕ) (places : List ℕ) → n ≤ 64 → length places ≡ 64 → length (take n places) ≡ n
rows_long n places a b = length-take-le n places (omega arith)

-- ---- who holds the next message
pub held_next : (numbers masks : List ℕ) (p n changing : ℕ) → Steady (held_rows numbers masks p n) n changing → (i j : ℕ) → i < n → j + 1 < 64 → is_marked changing j ≡ false
    → held_by numbers masks (p + 1 + (j + 1)) i ≡ held_by numbers masks (p + 1 + j) i
unfolding held_rows
held_next numbers masks p n changing h i j l k e =
    let row = list_at (λ x. held_after p (get_or numbers x 0) (get_or masks x 0)) 0 n i l in
    let c = get_or numbers i 0 in
    let m = get_or masks i 0 in
    sym (ap (λ (x : ℕ). is_marked x (j + 1)) row ∙ after_at p c m (j + 1) k)
    ∙ h.same i j l e
    ∙ ap (λ (x : ℕ). is_marked x j) row ∙ after_at p c m j (omega arith)

pub steady_cut : (numbers masks : List ℕ) (p n : ℕ) (places z : List ℕ) (changing : ℕ) → places ≡ held_rows numbers masks p n ++ drop n z
    → Steady (take n places) (length (take n places)) changing → Steady (held_rows numbers masks p n) n changing
steady_cut numbers masks p n places z changing e h =
    let cut = rows_cut numbers masks p n places z e in
    let long : length (take n places) ≡ n = ap length cut ∙ length_rows numbers masks p n places z e in
    record { same = λ i j k m. ap (λ (x : List ℕ). is_marked (get_or x i 0) (j + 1)) (sym cut) ∙ h.same i j (omega arith) m ∙ ap (λ (x : List ℕ). is_marked (get_or x i 0) j) cut }
