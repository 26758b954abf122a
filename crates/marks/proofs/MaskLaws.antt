-- Bits of a mask: which are marked after marking, unmarking and moving down. By induction on the bit, a mask taken as its lowest bit and
-- the rest. Assumes nothing.
use mathlib.Core.Path.{◌≡◌, refl, ap, sym, ◌∙◌}
use mathlib.Core.Bool.{true, false, not, ◌&&◌, ◌||◌}
use Prim.Native.Nat.{ℕ, zero, suc, ◌+◌, ◌-◌, ◌*◌, ◌/◌, ◌%◌, ◌^◌, ◌≤◌, ◌<◌}
use native.Mathlib.Nat.{two-pow-succ, one-mul, div-eq_of_lt, div-one, lt_of_lt_of_le, mod-eq_of_lt}
use native.Mathlib.Numerals.{one-add}
use native.Mathlib.Omega.{arith}
use lib.Bits.{bit_or, bit_and, or_step, and_step, or_zero_r, and_mask}
use lib.Dec.{eqb, eqb-suc-suc, eqb-zero-suc, eqb-suc-zero, lit<}
use lib.Pow.{shr-shr, shl_exact, pow_mono, pow_pos, pow-lt}
use borrow.Author.Tests.{eq-eqb, ne_eqb, lt-ltb, le-ltb, eqb-true, eqb-false}
use mir.Val.{Fits}
use mir.Syntax.{w64}
use Rattle.basics.proofs.BoolLaws.{either}
use Rattle.marks.specs.Masks.{is_marked, with_mark, without_mark, mark_of, unmark_of}

pub half_past : (m b : ℕ) → m / 2 ^ suc b ≡ m / 2 / 2 ^ b
half_past m b = ap (λ (e : ℕ). m / 2 ^ e) (sym (one-add b)) ∙ sym (shr-shr m 1 b)

-- ---- one bit lower
pub marked_step : (m b : ℕ) → is_marked m (suc b) ≡ is_marked (m / 2) b
unfolding is_marked
marked_step m b = ap (λ (x : ℕ). eqb (x % 2) 1) (half_past m b)

pub marked_low : (m : ℕ) → is_marked m 0 ≡ eqb (m % 2) 1
unfolding is_marked
marked_low m = ap (λ (x : ℕ). eqb (x % 2) 1) (div-one m)

-- a marked bit is a part of the mask
pub marked_le : (m b : ℕ) → is_marked m b ≡ true → 2 ^ b ≤ m
unfolding is_marked
marked_le m zero e = omega (arith, eqb-true (m / 1 % 2) 1 e, div-one m)
marked_le m (suc b) e = omega (arith, two-pow-succ b, marked_le (m / 2) b (sym (marked_step m b) ∙ e))

with_low : (m : ℕ) → with_mark m 0 ≡ m / 2 * 2 + 1
unfolding with_mark
with_low m = either (with_mark m 0 ≡ m / 2 * 2 + 1) (eqb (m % 2) 1)
    (λ e. rw (marked_low m) (simp e (omega (arith, eqb-true (m % 2) 1 e))))
    (λ e. rw (marked_low m) (simp e (omega (arith, eqb-false (m % 2) 1 e))))

with_step : (m b : ℕ) → with_mark m (suc b) ≡ with_mark (m / 2) b * 2 + m % 2
unfolding with_mark
with_step m b = either (with_mark m (suc b) ≡ with_mark (m / 2) b * 2 + m % 2) (is_marked (m / 2) b)
    (λ e. rw (marked_step m b) (simp e (omega arith)))
    (λ e. rw (marked_step m b) (simp e (omega (arith, two-pow-succ b))))

without_low : (m : ℕ) → without_mark m 0 ≡ m / 2 * 2
unfolding without_mark
without_low m = either (without_mark m 0 ≡ m / 2 * 2) (eqb (m % 2) 1)
    (λ e. rw (marked_low m) (simp e (omega (arith, eqb-true (m % 2) 1 e))))
    (λ e. rw (marked_low m) (simp e (omega (arith, eqb-false (m % 2) 1 e))))

without_step : (m b : ℕ) → without_mark m (suc b) ≡ without_mark (m / 2) b * 2 + m % 2
unfolding without_mark
without_step m b = either (without_mark m (suc b) ≡ without_mark (m / 2) b * 2 + m % 2) (is_marked (m / 2) b)
    (λ e. rw (marked_step m b) (simp e (omega (arith, two-pow-succ b, marked_le (m / 2) b e))))
    (λ e. rw (marked_step m b) (simp e (omega arith)))

-- ---- which bits are marked then
pub marked_with : (m b j : ℕ) → is_marked (with_mark m b) j ≡ (eqb j b || is_marked m j)
marked_with m zero zero = rw (with_low, marked_low) (simp (eq-eqb ((m / 2 * 2 + 1) % 2) 1 (omega arith)))
marked_with m zero (suc j) =
    let e : (m / 2 * 2 + 1) / 2 ≡ m / 2 = omega arith in
    rw (with_low m, marked_step (m / 2 * 2 + 1) j, e, marked_step m j, eqb-suc-zero j) refl
marked_with m (suc b) zero =
    let e : (with_mark (m / 2) b * 2 + m % 2) % 2 ≡ m % 2 = omega arith in
    rw (with_step m b, marked_low (with_mark (m / 2) b * 2 + m % 2), e, marked_low m, eqb-zero-suc b) refl
marked_with m (suc b) (suc j) =
    let e : (with_mark (m / 2) b * 2 + m % 2) / 2 ≡ with_mark (m / 2) b = omega arith in
    rw (with_step m b, marked_step (with_mark (m / 2) b * 2 + m % 2) j, e, marked_step m j, eqb-suc-suc j b) (marked_with (m / 2) b j)

pub marked_without : (m b j : ℕ) → is_marked (without_mark m b) j ≡ (not (eqb j b) && is_marked m j)
marked_without m zero zero = rw (without_low, marked_low) (simp (ne_eqb (m / 2 * 2 % 2) 1 (λ e. omega arith)))
marked_without m zero (suc j) =
    let e : m / 2 * 2 / 2 ≡ m / 2 = omega arith in
    rw (without_low m, marked_step (m / 2 * 2) j, e, marked_step m j, eqb-suc-zero j) refl
marked_without m (suc b) zero =
    let e : (without_mark (m / 2) b * 2 + m % 2) % 2 ≡ m % 2 = omega arith in
    rw (without_step m b, marked_low (without_mark (m / 2) b * 2 + m % 2), e, marked_low m, eqb-zero-suc b) refl
marked_without m (suc b) (suc j) =
    let e : (without_mark (m / 2) b * 2 + m % 2) / 2 ≡ without_mark (m / 2) b = omega arith in
    rw (without_step m b, marked_step (without_mark (m / 2) b * 2 + m % 2) j, e, marked_step m j, eqb-suc-suc j b) (marked_without (m / 2) b j)

pub marked_past : (m d j : ℕ) → is_marked (m / 2 ^ d) j ≡ is_marked m (d + j)
unfolding is_marked
marked_past m d j = ap (λ (x : ℕ). eqb (x % 2) 1) (shr-shr m d j)

pub marked_none : (j : ℕ) → is_marked 0 j ≡ false
marked_none zero = marked_low 0
marked_none (suc j) = marked_step 0 j ∙ marked_none j

-- no bit is marked past a number's own
pub marked_beyond : (n m j : ℕ) → m < 2 ^ n → n ≤ j → is_marked m j ≡ false
unfolding is_marked
marked_beyond n m j h l = ap (λ (x : ℕ). eqb (x % 2) 1) (div-eq_of_lt (lt_of_lt_of_le h (pow_mono l)))

-- masks with the same bits are the same
pub same_marks : (n a b : ℕ) → a < 2 ^ n → b < 2 ^ n → ((j : ℕ) → is_marked a j ≡ is_marked b j) → a ≡ b
same_marks zero a b h k f = omega arith
same_marks (suc n) a b h k f =
    let low : a % 2 ≡ b % 2 = either (a % 2 ≡ b % 2) (eqb (a % 2) 1)
    (λ e. omega (arith, eqb-true (a % 2) 1 e, eqb-true (b % 2) 1 (sym (sym (marked_low a) ∙ f 0 ∙ marked_low b) ∙ e)))
    (λ e. omega (arith, eqb-false (a % 2) 1 e, eqb-false (b % 2) 1 (sym (sym (marked_low a) ∙ f 0 ∙ marked_low b) ∙ e))) in
    let rest : a / 2 ≡ b / 2 = same_marks n (a / 2) (b / 2) (omega (arith, two-pow-succ n)) (omega (arith, two-pow-succ n))
    (λ j. sym (marked_step a j) ∙ f (suc j) ∙ marked_step b j) in
    omega arith

-- ---- marking stays within the mask
pub with_lt : (n m b : ℕ) → m < 2 ^ n → b < n → with_mark m b < 2 ^ n
with_lt zero m b h l = absurd (omega arith)
with_lt (suc n) m zero h l = rw with_low (omega (arith, two-pow-succ n))
with_lt (suc n) m (suc b) h l = rw with_step (omega (arith, two-pow-succ n, with_lt n (m / 2) b (omega (arith, two-pow-succ n)) (omega arith)))

-- ---- the machine's words for it
or_mark : (m b : ℕ) → bit_or m (2 ^ b) ≡ with_mark m b
or_mark m zero = or_step m 1 ∙ rw (with_low, or_zero_r) (omega arith)
or_mark m (suc b) =
    let half : 2 ^ suc b / 2 ≡ 2 ^ b = omega (arith, two-pow-succ b) in
    let low : 2 ^ suc b % 2 ≡ 0 = omega (arith, two-pow-succ b) in
    or_step m (2 ^ suc b) ∙ rw (half, low, or_mark (m / 2) b, with_step) (omega arith)

and_unmark : (n m b : ℕ) → m < 2 ^ n → b < n → bit_and m (2 ^ n - 1 - 2 ^ b) ≡ without_mark m b
and_unmark zero m b h l = absurd (omega arith)
and_unmark (suc n) m zero h l =
    let half : (2 ^ suc n - 1 - 1) / 2 ≡ 2 ^ n - 1 = omega (arith, two-pow-succ n, pow_pos n) in
    let low : (2 ^ suc n - 1 - 1) % 2 ≡ 0 = omega (arith, two-pow-succ n, pow_pos n) in
    let rest : m / 2 % 2 ^ n ≡ m / 2 = mod-eq_of_lt {n = m / 2} {m = 2 ^ n} (omega (arith, two-pow-succ n)) in
    and_step m (2 ^ suc n - 1 - 1) ∙ rw (half, low, and_mask, rest, without_low) (omega arith)
and_unmark (suc n) m (suc b) h l =
    let fits : 2 ^ b < 2 ^ n = pow-lt (omega arith) in
    let half : (2 ^ suc n - 1 - 2 ^ suc b) / 2 ≡ 2 ^ n - 1 - 2 ^ b = omega (arith, two-pow-succ n, two-pow-succ b) in
    let low : (2 ^ suc n - 1 - 2 ^ suc b) % 2 ≡ 1 = omega (arith, two-pow-succ n, two-pow-succ b) in
    and_step m (2 ^ suc n - 1 - 2 ^ suc b) ∙ rw (half, low, and_unmark n (m / 2) b (omega (arith, two-pow-succ n)) (omega arith), without_step) (omega arith)

pub one_shifted : (b : ℕ) → b < 64 → (1 * 2 ^ b) % 18446744073709551616 ≡ 2 ^ b
one_shifted b h = shl_exact 1 b 64 (lit< tt) (omega arith) ∙ one-mul (2 ^ b)

pub one_up : (b : ℕ) → b < 64 → 1 ≤ (1 * 2 ^ b) % 18446744073709551616
one_up b h = omega (arith, one_shifted b h, pow_pos b)

pub mark_in : (m b : ℕ) → b < 64 → bit_or m ((1 * 2 ^ b) % 18446744073709551616) ≡ mark_of m b
unfolding mark_of
mark_in m b h = rw one_shifted (simp (lt-ltb b 64 h) (or_mark m b))

pub mark_out : (m b : ℕ) → 64 ≤ b → m ≡ mark_of m b
unfolding mark_of
mark_out m b h = simp (le-ltb b 64 h)

pub unmark_in : (m b : ℕ) → Fits w64 m → b < 64 → bit_and m (18446744073709551615 - (1 * 2 ^ b) % 18446744073709551616) ≡ unmark_of m b
unfolding unmark_of
unmark_in m b f h = rw one_shifted (simp (lt-ltb b 64 h) (and_unmark 64 m b f.fits h))

pub unmark_out : (m b : ℕ) → 64 ≤ b → m ≡ unmark_of m b
unfolding unmark_of
unmark_out m b h = simp (le-ltb b 64 h)

pub marked_out : (m b : ℕ) → Fits w64 m → 64 ≤ b → false ≡ is_marked m b
marked_out m b f h = sym (marked_beyond 64 m b f.fits h)

pub past_all : (m d : ℕ) → Fits w64 m → 64 ≤ d → 0 ≡ m / 2 ^ d
past_all m d f h = sym (div-eq_of_lt (lt_of_lt_of_le f.fits (pow_mono h)))

-- what marking bit b of a mask gives, where there is such a bit
pub mark_is : (m b : ℕ) → b < 64 → mark_of m b ≡ with_mark m b
unfolding mark_of
mark_is m b h = simp (lt-ltb b 64 h)

pub unmark_is : (m b : ℕ) → b < 64 → unmark_of m b ≡ without_mark m b
unfolding unmark_of
unmark_is m b h = simp (lt-ltb b 64 h)
