-- The first bits of a mask, and those from one place up to another. Assumes nothing.
use mathlib.Core.Path.{◌≡◌, ap, ap₂, sym, ◌∙◌}
use mathlib.Core.Bool.{Bool, true, not, ◌&&◌}
use Prim.Native.Nat.{ℕ, ◌-◌, ◌*◌, ◌%◌, ◌^◌, ◌≤◌, ◌<◌, min}
use native.Mathlib.Decide.{dec_lt}
use native.Mathlib.Nat.{lt_of_le_of_lt}
use native.Mathlib.Omega.{arith}
use lib.Bits.{bit_and, and_le_l}
use lib.Dec.{ltb}
use lib.Pow.{pow_pos, pow_mono, ones_lt}
use borrow.Author.Tests.{lt-ltb, le-ltb}
use mir.Val.{Fits}
use mir.Syntax.{w64}
use Rattle.marks.specs.Masks.{is_marked, first_of, among_of}
use Rattle.marks.proofs.MaskLaws.{marked_none, marked_beyond, same_marks, one_shifted}
use Rattle.marks.proofs.SetLaws.{marked_and, marked_not, marked_set, set_lt}

pub first_marked : (n j : ℕ) → j < n → is_marked (2 ^ n - 1) j ≡ true
first_marked n j l =
    let z : 2 ^ n - 1 ≡ 2 ^ n - 1 - 0 = omega arith in
    ap (λ (x : ℕ). is_marked x j) z ∙ marked_not n 0 j (pow_pos n) l ∙ ap not (marked_none j)

-- ---- the first d
pub first_some : (d : ℕ) → d < 64 → (1 * 2 ^ d) % 18446744073709551616 - 1 ≡ first_of d
unfolding first_of
first_some d l = let z : d ≡ min d 64 = omega arith in rw (one_shifted d l) (ap (λ (x : ℕ). 2 ^ x - 1) z)

pub first_all : (d : ℕ) → 64 ≤ d → 18446744073709551615 ≡ first_of d
unfolding first_of
first_all d l = let z : 64 ≡ min d 64 = omega arith in ap (λ (x : ℕ). 2 ^ x - 1) z

pub first_lt : (d : ℕ) → first_of d < 2 ^ 64
unfolding first_of
first_lt d = omega (arith, pow_mono {i = min d 64} {j = 64} (omega arith), pow_pos (min d 64))

pub first_at : (d j : ℕ) → j < 64 → is_marked (first_of d) j ≡ ltb j d
unfolding first_of
first_at d j l = elim (dec_lt j d) [
  | yes k ↦ first_marked (min d 64) j (omega arith) ∙ sym (lt-ltb j d k)
  | no k ↦ marked_beyond (min d 64) (2 ^ min d 64 - 1) j (ones_lt (min d 64)) (omega arith) ∙ sym (le-ltb j d (omega arith))
]

-- ---- from one place up to another
pub among_at : (m from to j : ℕ) → j < 64 → is_marked (among_of m from to) j ≡ (is_marked m j && ltb j to && not (ltb j from))
unfolding among_of
among_at m from to j l = marked_set (λ x. is_marked m x && ltb x to && not (ltb x from)) 64 j ∙ simp (lt-ltb j 64 l)

pub among_lt : (m from to : ℕ) → among_of m from to < 2 ^ 64
unfolding among_of
among_lt m from to = set_lt (λ x. is_marked m x && ltb x to && not (ltb x from)) 64

module _ (m from to : ℕ) (fits : Fits w64 m) where
  abbrev left : ℕ
  left = bit_and (bit_and m (first_of to)) (18446744073709551615 - first_of from)

  left_lt : left < 2 ^ 64
  left_lt = lt_of_le_of_lt (and_le_l (bit_and m (first_of to)) (18446744073709551615 - first_of from)) (lt_of_le_of_lt (and_le_l m (first_of to)) fits.fits)

  left_at : (j : ℕ) → j < 64 → is_marked left j ≡ (is_marked m j && ltb j to && not (ltb j from))
  left_at j l =
      marked_and (bit_and m (first_of to)) (18446744073709551615 - first_of from) j
      ∙ ap₂ ◌&&◌ (marked_and m (first_of to) j ∙ ap (λ (b : Bool). is_marked m j && b) (first_at to j l)) (marked_not 64 (first_of from) j (first_lt from) l ∙ ap not (first_at from j l))

  pub among_told : (f g : ℕ) → f ≡ first_of to → g ≡ first_of from → bit_and (bit_and m f) (18446744073709551615 - g) ≡ among_of m from to
  among_told f g e h = rw (e, h) (same_marks 64 left (among_of m from to) left_lt (among_lt m from to) (λ j. elim (dec_lt j 64) [
    | yes l ↦ left_at j l ∙ sym (among_at m from to j l)
    | no l ↦ marked_beyond 64 left j left_lt (omega arith) ∙ sym (marked_beyond 64 (among_of m from to) j (among_lt m from to) (omega arith))
  ]))
