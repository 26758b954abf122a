-- What is held of the 64 messages after p, as one word. Assumes nothing.
use mathlib.Core.Path.{◌≡◌, refl, ap, sym, ◌∙◌}
use mathlib.Core.Bool.{Bool, true, false, ◌&&◌, ◌||◌}
use Prim.Native.Nat.{ℕ, ◌+◌, ◌-◌, ◌*◌, ◌/◌, ◌%◌, ◌^◌, ◌≤◌, ◌<◌}
use native.Mathlib.Decide.{dec_lt}
use native.Mathlib.Nat.{lt_of_le_of_lt, mod-lt}
use native.Mathlib.Omega.{arith}
use lib.Bits.{bit_or, and_mask, or_lt}
use lib.Pow.{pow_pos, shl-shr, shr_le}
use borrow.Author.Tests.{lt-ltb, le-ltb}
use mir.Val.{Fits}
use mir.Syntax.{w64}
use Rattle.basics.proofs.BoolLaws.{and_true, or_right}
use Rattle.marks.specs.Masks.{is_marked, first_of}
use Rattle.marks.specs.Held.{holds_of, held_after}
use Rattle.marks.proofs.MaskLaws.{marked_past, marked_beyond, same_marks}
use Rattle.marks.proofs.SetLaws.{marked_and, marked_or, marked_set, set_lt}
use Rattle.marks.proofs.FirstLaws.{first_marked, first_at, first_lt}
use Rattle.marks.proofs.HeldLaws.{holds_low, holds_high}

-- what is cut off lies past the bit
marked_cut : (n x j : ℕ) → j < n → is_marked (x % 2 ^ n) j ≡ is_marked x j
marked_cut n x j l =
    ap (λ (y : ℕ). is_marked y j) (sym (and_mask x n))
    ∙ marked_and x (2 ^ n - 1) j
    ∙ ap (λ (t : Bool). is_marked x j && t) (first_marked n j l)
    ∙ and_true (is_marked x j)

marked_moved : (m d j : ℕ) → is_marked (m * 2 ^ d) (d + j) ≡ is_marked m j
marked_moved m d j = sym (marked_past (m * 2 ^ d) d j) ∙ ap (λ (x : ℕ). is_marked x j) (shl-shr m d)

-- ---- bit o speaks of message p + 1 + o
pub after_at : (p c m o : ℕ) → o < 64 → is_marked (held_after p c m) o ≡ holds_of c m (p + 1 + o)
unfolding held_after
after_at p c m o l = marked_set (λ x. holds_of c m (p + 1 + x)) 64 o ∙ simp (lt-ltb o 64 l)

after_is : (p c m r : ℕ) → r < 2 ^ 64 → ((j : ℕ) → j < 64 → is_marked r j ≡ holds_of c m (p + 1 + j)) → r ≡ held_after p c m
unfolding held_after
after_is p c m r f h = same_marks 64 r (held_after p c m) f (set_lt (λ x. holds_of c m (p + 1 + x)) 64) (λ j. elim (dec_lt j 64) [
  | yes l ↦ h j l ∙ sym (after_at p c m j l)
  | no l ↦ marked_beyond 64 r j f (omega arith) ∙ sym (marked_beyond 64 (held_after p c m) j (set_lt (λ x. holds_of c m (p + 1 + x)) 64) (omega arith))
])

-- c is before p: the mask alone, moved down
pub after_before : (p c m r : ℕ) → Fits w64 m → c < p → r ≡ m / 2 ^ (p - c) → r ≡ held_after p c m
after_before p c m r f l e = e ∙ after_is p c m (m / 2 ^ (p - c)) (lt_of_le_of_lt (shr_le m (p - c)) f.fits) (λ j k.
    let z : p - c + j ≡ p + 1 + j - (c + 1) = omega arith in
    marked_past m (p - c) j ∙ ap (λ (x : ℕ). is_marked m x) z ∙ sym (holds_high c m (p + 1 + j) (omega arith)))

-- c is past all of them
pub after_all_lem : (p c m r : ℕ) → p ≤ c → 64 ≤ c - p → r ≡ first_of (c - p) → r ≡ held_after p c m
after_all_lem p c m r l h e = e ∙ after_is p c m (first_of (c - p)) (first_lt (c - p)) (λ j k.
    first_at (c - p) j k ∙ lt-ltb j (c - p) (omega arith) ∙ sym (holds_low c m (p + 1 + j) (omega arith)))

-- c is among them: those up to c, and the mask moved up behind them
module _ (p c m : ℕ) (l : p ≤ c) (h : c - p < 64) where
  abbrev up : ℕ
  up = (m * 2 ^ (c - p)) % 18446744073709551616

  abbrev word : ℕ
  word = bit_or up (first_of (c - p))

  word_at : (j : ℕ) → j < 64 → is_marked word j ≡ holds_of c m (p + 1 + j)
  word_at j k = elim (dec_lt j (c - p)) [
    | yes a ↦ marked_or up (first_of (c - p)) j ∙ or_right (is_marked up j) (is_marked (first_of (c - p)) j) (first_at (c - p) j k ∙ lt-ltb j (c - p) a) ∙ sym (holds_low c m (p + 1 + j) (omega arith))
    | no a ↦ (let z : j ≡ c - p + (j - (c - p)) = omega arith in
        let y : j - (c - p) ≡ p + 1 + j - (c + 1) = omega arith in
        marked_or up (first_of (c - p)) j
        ∙ ap (λ (t : Bool). is_marked up j || t) (first_at (c - p) j k ∙ le-ltb j (c - p) (omega arith))
        ∙ or_false (is_marked up j)
        ∙ marked_cut 64 (m * 2 ^ (c - p)) j k
        ∙ ap (λ (x : ℕ). is_marked (m * 2 ^ (c - p)) x) z
        ∙ marked_moved m (c - p) (j - (c - p))
        ∙ ap (λ (x : ℕ). is_marked m x) y
        ∙ sym (holds_high c m (p + 1 + j) (omega arith)))
  ]
    where
      or_false : (b : Bool) → (b || false) ≡ b
      or_false true = refl
      or_false false = refl

  pub after_among : (f : ℕ) → f ≡ first_of (c - p) → bit_or up f ≡ held_after p c m
  after_among f e = rw e (after_is p c m word (or_lt 64 up (first_of (c - p)) (mod-lt (m * 2 ^ (c - p)) (pow_pos 64)) (first_lt (c - p))) word_at)
