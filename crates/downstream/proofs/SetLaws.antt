-- Complaint sets of messages that the same members hold, asked of at once. Assumes nothing.
use mathlib.Core.Path.{◌≡◌, refl, ap, ap₂, sym, ◌∙◌}
use mathlib.Core.Bool.{Bool, true, false, not, ◌&&◌, ◌||◌}
use mathlib.Core.List.{List}
use Prim.Native.Nat.{ℕ, zero, suc, ◌+◌, ◌-◌, ◌≤◌, ◌<◌}
use native.Mathlib.Nat.{add-zero}
use native.Mathlib.Decide.{dec_lt}
use native.Mathlib.Omega.{arith}
use lib.Bits.{bit_or}
use lib.Dec.{ltb}
use lib.ListN.{get_or}
use borrow.Author.Tests.{le-ltb}
use Rattle.basics.specs.Sums.{all_below}
use Rattle.basics.proofs.SumLaws.{all_start, all_of, all_cong}
use Rattle.marks.specs.Masks.{is_marked}
use Rattle.marks.proofs.MaskLaws.{marked_none}
use Rattle.marks.proofs.SetLaws.{marked_or}
use Rattle.downstream.specs.State.{place_after, held_by}
use Rattle.downstream.specs.Formed.{complaints_kept}
use Rattle.downstream.specs.Rows.{held_rows, Steady, SteadyUntil, all_complaints_kept, named_among}
use Rattle.downstream.proofs.ListLaws.{all_parts}
use Rattle.downstream.proofs.RowLaws.{held_next}

-- ---- all that is named
module _ (complaints : List ℕ) (p from : ℕ) where
  pub named_start : 0 ≡ named_among complaints p from (from - from)
  unfolding named_among
  named_start = let z : from - from ≡ 0 = omega arith in rw z refl

  pub named_turn : (o any : ℕ) → from ≤ o → any ≡ named_among complaints p from (o - from) → bit_or any (get_or complaints (place_after p o) 0) ≡ named_among complaints p from (o + 1 - from)
  unfolding named_among
  named_turn o any l e =
      let z : o + 1 - from ≡ suc (o - from) = omega arith in
      let y : from + (o - from) ≡ o = omega arith in
      rw (z, y) (ap (λ (x : ℕ). bit_or x (get_or complaints (place_after p o) 0)) e)

-- ---- two tests of each number
all_both : (f g : ℕ → Bool) (n : ℕ) → all_below n (λ j. f j && g j) ≡ (all_below n f && all_below n g)
unfolding all_below
all_both f g zero = refl
all_both f g (suc n) = ap (λ (b : Bool). b && (f n && g n)) (all_both f g n) ∙ crossed (all_below n f) (all_below n g) (f n) (g n)
  where
    crossed : (a b x y : Bool) → ((a && b) && (x && y)) ≡ ((a && x) && (b && y))
    crossed true true x y = refl
    crossed true false true y = refl
    crossed true false false y = refl
    crossed false b x y = refl

module _ (members : ℕ) (numbers masks complaints : List ℕ) (p : ℕ) where
  abbrev lacks : ℕ → ℕ → Bool
  lacks k i = ltb i members && not (held_by numbers masks k i)

  -- ---- what is asked of two sets, and of none
  kept_or : (k a b : ℕ) → complaints_kept members numbers masks k (bit_or a b) ≡ (complaints_kept members numbers masks k a && complaints_kept members numbers masks k b)
  unfolding complaints_kept
  kept_or k a b =
      all_cong (λ i. not (is_marked (bit_or a b) i) || lacks k i) (λ i. (not (is_marked a i) || lacks k i) && (not (is_marked b i) || lacks k i)) 64
      (λ i l. ap (λ (t : Bool). not t || lacks k i) (marked_or a b i) ∙ either (is_marked a i) (is_marked b i) (lacks k i))
      ∙ all_both (λ i. not (is_marked a i) || lacks k i) (λ i. not (is_marked b i) || lacks k i) 64
    where
      either : (x y z : Bool) → (not (x || y) || z) ≡ ((not x || z) && (not y || z))
      either true true true = refl
      either true true false = refl
      either true false true = refl
      either true false false = refl
      either false true z = refl
      either false false z = refl

  kept_none : (k : ℕ) → complaints_kept members numbers masks k 0 ≡ true
  unfolding complaints_kept
  kept_none k = all_of (λ i. not (is_marked 0 i) || lacks k i) 64 (λ i l. rw (marked_none i) refl)

  kept_named : (k o n : ℕ) → complaints_kept members numbers masks k (named_among complaints p o n) ≡ all_below n (λ j. complaints_kept members numbers masks k (get_or complaints (place_after p (o + j)) 0))
  unfolding named_among all_below
  kept_named k o zero = kept_none k
  kept_named k o (suc n) = kept_or k (named_among complaints p o n) (get_or complaints (place_after p (o + n)) 0) ∙ ap (λ (b : Bool). b && complaints_kept members numbers masks k (get_or complaints (place_after p (o + n)) 0)) (kept_named k o n)

  abbrev one : ℕ → Bool
  one o = complaints_kept members numbers masks (p + 1 + o) (get_or complaints (place_after p o) 0)

  pub sets_start : true ≡ all_complaints_kept members numbers masks complaints p 0
  unfolding all_complaints_kept
  sets_start = all_start one

  pub sets_done : (o n : ℕ) (kept : Bool) → kept ≡ all_complaints_kept members numbers masks complaints p o → o ≤ n → n ≤ o → kept ≡ all_complaints_kept members numbers masks complaints p n
  sets_done o n kept e a b = let z : o ≡ n = omega arith in rw z at e

  -- ---- messages that the same members hold
  module _ (changing o n r : ℕ) (few : n ≤ 64) (h : Steady (held_rows numbers masks p members) members changing) (s : SteadyUntil changing o n r) where
    held_same : (i d : ℕ) → i < members → o + d < r → held_by numbers masks (p + 1 + (o + d)) i ≡ held_by numbers masks (p + 1 + o) i
    held_same i zero l m = ap (λ (x : ℕ). held_by numbers masks (p + 1 + x) i) (add-zero o)
    held_same i (suc d) l m =
        let z : o + suc d ≡ o + d + 1 = omega arith in
        ap (λ (x : ℕ). held_by numbers masks (p + 1 + x) i) z
        ∙ held_next numbers masks p members changing h i (o + d) l (omega (arith, s.within)) (s.none (o + d) (omega arith) (omega arith))
        ∙ held_same i d l (omega arith)

    kept_same : (d bits : ℕ) → o + d < r → complaints_kept members numbers masks (p + 1 + o) bits ≡ complaints_kept members numbers masks (p + 1 + (o + d)) bits
    unfolding complaints_kept
    kept_same d bits m = all_cong (λ i. not (is_marked bits i) || lacks (p + 1 + o) i) (λ i. not (is_marked bits i) || lacks (p + 1 + (o + d)) i) 64 (λ i k. elim (dec_lt i members) [
      | yes l ↦ ap (λ (y : Bool). not (is_marked bits i) || (ltb i members && not y)) (sym (held_same i d l m))
      | no l ↦ simp (le-ltb i members (omega arith))
    ])

    pub sets_turn : (kept told : Bool) (bits : ℕ) → kept ≡ all_complaints_kept members numbers masks complaints p o → bits ≡ named_among complaints p o (r - o)
        → told ≡ complaints_kept members numbers masks (p + 1 + o) bits → (kept && told) ≡ all_complaints_kept members numbers masks complaints p r
    unfolding all_complaints_kept
    sets_turn kept told bits e f q =
        let z : o + (r - o) ≡ r = omega (arith, s.further) in
        let all : told ≡ all_below (r - o) (λ j. one (o + j)) =
        q ∙ ap (complaints_kept members numbers masks (p + 1 + o)) f ∙ kept_named (p + 1 + o) o (r - o)
        ∙ all_cong (λ j. complaints_kept members numbers masks (p + 1 + o) (get_or complaints (place_after p (o + j)) 0)) (λ j. one (o + j)) (r - o) (λ j l. kept_same j (get_or complaints (place_after p (o + j)) 0) (omega arith)) in
        ap₂ ◌&&◌ e all ∙ sym (all_parts one o (r - o)) ∙ ap (λ (x : ℕ). all_below x one) z
