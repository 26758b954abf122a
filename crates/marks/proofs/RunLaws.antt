-- The run of marked bits from bit 0, and the bits up to the highest marked one. Assumes nothing.
use mathlib.Core.Path.{◌≡◌, refl, ap, sym, ◌∙◌}
use mathlib.Core.Bool.{true, false}
use Prim.Native.Nat.{ℕ, zero, suc, ◌+◌, ◌-◌, ◌/◌, ◌%◌, ◌^◌, ◌≤◌, ◌<◌, zero-le}
use native.Mathlib.Nat.{two-pow-succ, div-one, zero-div}
use native.Mathlib.Omega.{arith}
use lib.Count.{count_trailing_zeros, count_leading_zeros, trailing_le}
use lib.Dec.{leb, eqb, leb-suc-suc, leb-suc-zero, eqb-suc-zero}
use borrow.Author.Tests.{le-leb, eq-eqb}
use mir.Val.{Fits}
use Rattle.std.specs.Int.{trailing_ones}
use mir.Syntax.{w64}
use Rattle.basics.proofs.BoolLaws.{either, no_both}
use Rattle.marks.specs.Masks.{is_marked, run_in, run_of, reach_in, reach_of}
use Rattle.marks.proofs.MaskLaws.{half_past, marked_step, marked_low, marked_none}

-- ---- the run
-- the trailing zeros of a mask's complement are the run of its marked bits
run_is : (n m : ℕ) → m < 2 ^ n → count_trailing_zeros n (2 ^ n - 1 - m) ≡ run_in n m
unfolding count_trailing_zeros run_in
run_is zero m h = refl
run_is (suc n) m h = go (m % 2) refl (run_is n (m / 2) (omega (arith, two-pow-succ n)))
  where
    go : (r : ℕ) → m % 2 ≡ r → count_trailing_zeros n (2 ^ n - 1 - m / 2) ≡ run_in n (m / 2) → count_trailing_zeros (suc n) (2 ^ suc n - 1 - m) ≡ run_in (suc n) m
    go zero e ih =
        let low : (2 ^ suc n - 1 - m) % 2 ≡ 1 = omega (arith, two-pow-succ n) in
        rw (low, e) refl
    go (suc zero) e ih =
        let low : (2 ^ suc n - 1 - m) % 2 ≡ 0 = omega (arith, two-pow-succ n) in
        let rest : (2 ^ suc n - 1 - m) / 2 ≡ 2 ^ n - 1 - m / 2 = omega (arith, two-pow-succ n) in
        rw (low, e, rest, ih) refl
    go (suc (suc r)) e ih = absurd (omega arith)

run_in_le : (n m : ℕ) → run_in n m ≤ n
unfolding run_in
run_in_le zero m = zero-le
run_in_le (suc n) m = either (run_in (suc n) m ≤ suc n) (eqb (m % 2) 1) (λ e. simp e (omega (arith, run_in_le n (m / 2)))) (λ e. simp e zero-le)

run_in_marked : (n m j : ℕ) → j < run_in n m → is_marked m j ≡ true
unfolding run_in
run_in_marked zero m j l = absurd (omega arith)
run_in_marked (suc n) m zero l = either (is_marked m 0 ≡ true) (eqb (m % 2) 1) (λ e. marked_low m ∙ e) (λ e. absurd (omega (arith, simp e at l)))
run_in_marked (suc n) m (suc j) l = either (is_marked m (suc j) ≡ true) (eqb (m % 2) 1)
    (λ e. marked_step m j ∙ run_in_marked n (m / 2) j (omega (arith, simp e at l)))
    (λ e. absurd (omega (arith, simp e at l)))

run_in_end : (n m : ℕ) → run_in n m < n → is_marked m (run_in n m) ≡ false
unfolding run_in
run_in_end zero m l = absurd (omega arith)
run_in_end (suc n) m l = either (is_marked m (run_in (suc n) m) ≡ false) (eqb (m % 2) 1)
    (λ e. simp e (marked_step m (run_in n (m / 2)) ∙ run_in_end n (m / 2) (omega (arith, simp e at l))))
    (λ e. simp e (marked_low m ∙ e))

-- every bit of the run is marked, and the next one is not
pub run_marked : (m j : ℕ) → j < run_of m → is_marked m j ≡ true
unfolding run_of
run_marked m j l = run_in_marked 64 m j l

pub run_end : (m : ℕ) → run_of m < 64 → is_marked m (run_of m) ≡ false
unfolding run_of
run_end m l = run_in_end 64 m l

pub run_told : (m : ℕ) → Fits w64 m → trailing_ones w64 m ≡ run_of m
unfolding run_of
run_told m f = run_is 64 m f.fits

pub run_small : (m : ℕ) → trailing_ones w64 m ≤ 64
run_small m = trailing_le 64 (18446744073709551615 - m)

-- ---- the reach
reach_is : (n m : ℕ) → m < 2 ^ n → count_leading_zeros n m + reach_in n m ≡ n
unfolding count_leading_zeros reach_in
reach_is zero m h = refl
reach_is (suc n) zero h = omega arith
reach_is (suc n) (suc m) h = simp (eqb-suc-zero m) (omega (arith, reach_is n (suc m / 2) (omega (arith, two-pow-succ n))))

reach_in_above : (n m j : ℕ) → m < 2 ^ n → is_marked m j ≡ true → j < reach_in n m
unfolding reach_in
reach_in_above zero m j h e = let z : m ≡ 0 = omega arith in no_both (rw z at e) (marked_none j)
reach_in_above (suc n) zero j h e = no_both e (marked_none j)
reach_in_above (suc n) (suc m) zero h e = simp (eqb-suc-zero m) (omega arith)
reach_in_above (suc n) (suc m) (suc j) h e =
    simp (eqb-suc-zero m) (omega (arith, reach_in_above n (suc m / 2) j (omega (arith, two-pow-succ n)) (sym (marked_step (suc m) j) ∙ e)))

reach_in_none : (n m : ℕ) → m < 2 ^ n → reach_in n m ≡ 0 → m ≡ 0
unfolding reach_in
reach_in_none zero m h e = omega arith
reach_in_none (suc n) zero h e = refl
reach_in_none (suc n) (suc m) h e = absurd (omega (arith, simp (eqb-suc-zero m) at e))

reach_in_top : (n m j : ℕ) → m < 2 ^ n → reach_in n m ≡ suc j → is_marked m j ≡ true
unfolding reach_in
reach_in_top zero m j h e = absurd (omega arith)
reach_in_top (suc n) zero j h e = absurd (omega arith)
reach_in_top (suc n) (suc m) zero h e =
    let rest : suc m / 2 ≡ 0 = reach_in_none n (suc m / 2) (omega (arith, two-pow-succ n)) (omega (arith, simp (eqb-suc-zero m) at e)) in
    marked_low (suc m) ∙ eq-eqb (suc m % 2) 1 (omega arith)
reach_in_top (suc n) (suc m) (suc j) h e =
    marked_step (suc m) j ∙ reach_in_top n (suc m / 2) j (omega (arith, two-pow-succ n)) (omega (arith, simp (eqb-suc-zero m) at e))

-- no bit is marked from the reach on, and the one just below it is
pub reach_above : (m j : ℕ) → m < 2 ^ 64 → is_marked m j ≡ true → j < reach_of m
unfolding reach_of
reach_above m j h e = reach_in_above 64 m j h e

pub reach_top : (m j : ℕ) → m < 2 ^ 64 → reach_of m ≡ suc j → is_marked m j ≡ true
unfolding reach_of
reach_top m j h e = reach_in_top 64 m j h e

-- a mask moved down by d bits is empty where its reach is at most d
reach_in_past : (n m d : ℕ) → m < 2 ^ n → leb (reach_in n m) d ≡ eqb (m / 2 ^ d) 0
unfolding reach_in
reach_in_past zero m d h = let z : m ≡ 0 = omega arith in rw (z, zero-div (2 ^ d), le-leb 0 d zero-le) refl
reach_in_past (suc n) zero d h = rw (zero-div (2 ^ d), le-leb 0 d zero-le) refl
reach_in_past (suc n) (suc m) zero h = simp (eqb-suc-zero m) (rw (div-one (suc m), eqb-suc-zero m, leb-suc-zero (reach_in n (suc m / 2))) refl)
reach_in_past (suc n) (suc m) (suc d) h =
    simp (eqb-suc-zero m) (leb-suc-suc (reach_in n (suc m / 2)) d ∙ reach_in_past n (suc m / 2) d (omega (arith, two-pow-succ n)) ∙ ap (λ (x : ℕ). eqb x 0) (sym (half_past (suc m) d)))

pub reach_past : (m d : ℕ) → m < 2 ^ 64 → leb (reach_of m) d ≡ eqb (m / 2 ^ d) 0
unfolding reach_of
reach_past m d h = reach_in_past 64 m d h

pub reach_told : (m : ℕ) → Fits w64 m → 64 - count_leading_zeros 64 m ≡ reach_of m
unfolding reach_of
reach_told m f = omega (arith, reach_is 64 m f.fits)
