-- The divisor divides both and every common divisor divides it; the multiple is one of both and divides every common multiple. Assumes nothing.
use mathlib.Core.Path.{◌≡◌, refl, sym, ap, ◌∙◌}
use mathlib.Core.Logic.{⊎_elim}
use Prim.Native.Nat.{ℕ, zero, suc, ◌*◌, ◌/◌, ◌%◌, ◌≤◌, ◌<◌, ◌∣◌}
use native.Mathlib.Nat.{dvd_refl, dvd-zero, dvd-mod_iff, dvd-mul_left, dvd-mul_right, mod-lt, pos_of_dvd_of_pos, div-mul_cancel, mul-div_cancel', mul_assoc, mul_comm, mul-pos, zero-lt-suc, eq-zero-or-pos, mul-le-mul, le_trans, div-le_self, mul-div_cancel, mul-div_cancel_left, mod_def, mul-sub, mul-div-mul_left, mul-dvd-mul_left, mul-dvd-mul_right, mul_right_comm, dvd_of_mul-dvd-mul_right, mul-zero}
use native.Mathlib.Omega.{arith}
use mir.Val.{Fits}
use mir.Syntax.{w64}
use Rattle.circle.specs.Divisor.{euclid, divisor_of, multiple_of}

-- ---- the divisor divides both, and every common divisor divides it
euclid_dvd : (n a b : ℕ) → b ≤ n → (euclid n a b ∣ a) × (euclid n a b ∣ b)
unfolding euclid
euclid_dvd zero a b h = let e : b ≡ 0 = omega arith in rw e (dvd_refl a, dvd-zero a)
euclid_dvd (suc n) a zero h = (dvd_refl a, dvd-zero a)
euclid_dvd (suc n) a (suc b) h =
    let both = euclid_dvd n (suc b) (a % suc b) (omega (arith, mod-lt a (zero-lt-suc b))) in
    ((dvd-mod_iff (euclid n (suc b) (a % suc b)) both.0).0 both.1, both.0)

euclid_greatest : (d n a b : ℕ) → b ≤ n → d ∣ a → d ∣ b → d ∣ euclid n a b
unfolding euclid
euclid_greatest d zero a b h x y = x
euclid_greatest d (suc n) a zero h x y = x
euclid_greatest d (suc n) a (suc b) h x y = euclid_greatest d n (suc b) (a % suc b) (omega (arith, mod-lt a (zero-lt-suc b))) y ((dvd-mod_iff d y).1 x)

module _ (a b : ℕ) where
  pub divisor_left : divisor_of a b ∣ a
  unfolding divisor_of
  divisor_left = (euclid_dvd b a b (omega arith)).0

  pub divisor_right : divisor_of a b ∣ b
  unfolding divisor_of
  divisor_right = (euclid_dvd b a b (omega arith)).1

  pub divisor_greatest : (d : ℕ) → d ∣ a → d ∣ b → d ∣ divisor_of a b
  unfolding divisor_of
  divisor_greatest d x y = euclid_greatest d b a b (omega arith) x y

  -- ---- the multiple is a multiple of both
  multiple_is : multiple_of a b ≡ a * (b / divisor_of a b)
  unfolding multiple_of
  multiple_is = ap (λ k. a / divisor_of a b * k) (sym (mul-div_cancel' (divisor_of a b) divisor_right)) ∙ sym (mul_assoc (a / divisor_of a b) (divisor_of a b) (b / divisor_of a b)) ∙ ap (λ k. k * (b / divisor_of a b)) (div-mul_cancel (divisor_of a b) divisor_left)

  pub multiple_left : a ∣ multiple_of a b
  multiple_left = rw multiple_is (dvd-mul_right a (b / divisor_of a b))

  pub multiple_right : b ∣ multiple_of a b
  unfolding multiple_of
  multiple_right = dvd-mul_left b (a / divisor_of a b)

  pub multiple_some : 0 < a → 0 < b → 0 < multiple_of a b
  unfolding multiple_of
  multiple_some h k =
      mul-pos
      (⊎_elim (λ e. absurd (omega (arith, rw e at (div-mul_cancel (divisor_of a b) divisor_left)))) (λ z. z) (eq-zero-or-pos (a / divisor_of a b)))
      k

-- more steps than b change nothing
euclid_steps : (n m a b : ℕ) → b ≤ n → b ≤ m → euclid n a b ≡ euclid m a b
unfolding euclid
euclid_steps zero zero a b h k = refl
euclid_steps zero (suc m) a zero h k = refl
euclid_steps zero (suc m) a (suc b) h k = absurd (omega arith)
euclid_steps (suc n) zero a zero h k = refl
euclid_steps (suc n) zero a (suc b) h k = absurd (omega arith)
euclid_steps (suc n) (suc m) a zero h k = refl
euclid_steps (suc n) (suc m) a (suc b) h k =
    euclid_steps n m (suc b) (a % suc b) (omega (arith, mod-lt a (zero-lt-suc b))) (omega (arith, mod-lt a (zero-lt-suc b)))

-- ---- the clauses of Euclid's rule, without the count of steps
pub divisor_zero : (a : ℕ) → divisor_of a 0 ≡ a
unfolding divisor_of euclid
divisor_zero a = refl

pub divisor_step : (a b : ℕ) → 0 < b → divisor_of a b ≡ divisor_of b (a % b)
unfolding divisor_of euclid
divisor_step a zero h = absurd (omega arith)
divisor_step a (suc b) h = euclid_steps b (a % suc b) (suc b) (a % suc b) (omega (arith, mod-lt a (zero-lt-suc b))) (omega arith)

-- a part of a, times b
part_small : (a b g n m : ℕ) → a ≤ n → b ≤ m → a / g * b ≤ n * m
part_small a b g n m h k = mul-le-mul (le_trans (div-le_self a g) h) k

module _ (a b : ℕ) where
  pub divisor_some : 0 < a → 0 < divisor_of a b
  divisor_some h = pos_of_dvd_of_pos (divisor_left a b) h

  pub multiple_small : (n m : ℕ) → a ≤ n → b ≤ m → multiple_of a b ≤ n * m
  unfolding multiple_of
  multiple_small n m h k = part_small a b (divisor_of a b) n m h k

  -- each scale factor is at most the other cluster's total
  pub left_factor : 0 < a → multiple_of a b / a ≤ b
  left_factor h = rw (multiple_is a b, mul-div_cancel_left (b / divisor_of a b) h) (div-le_self b (divisor_of a b))

  pub right_factor : 0 < b → multiple_of a b / b ≤ a
  unfolding multiple_of
  right_factor h = rw (mul-div_cancel (a / divisor_of a b) h) (div-le_self a (divisor_of a b))

-- ---- what the code knows
pub divisor_told : (a b g : ℕ) → g ≡ divisor_of a b → 1 ≤ a → 0 < g
divisor_told a b g e h = rw e (divisor_some a b h)

pub part_fits : (a b g : ℕ) → a ≤ 64_000_000 → b ≤ 64_000_000 → Fits w64 (a / g * b)
part_fits a b g k l =
    let m : a / g * b ≤ 64_000_000 * 64_000_000 = part_small a b g 64_000_000 64_000_000 k l in
    record { fits = omega arith }

pub multiple_told : (a b g : ℕ) → g ≡ divisor_of a b → a / g * b ≡ multiple_of a b
unfolding multiple_of
multiple_told a b g e = rw e

-- ---- the multiple is the least: it divides every common multiple
mod_scale : (k a b : ℕ) → 0 < k → (k * a) % (k * b) ≡ k * (a % b)
mod_scale k a b h = mod_def (k * a) (k * b) ∙ simp (mul-div-mul_left a b h, mul_assoc) (sym (ap (λ x. k * x) (mod_def a b) ∙ mul-sub k a (b * (a / b))))

divisor_scale : (n k a b : ℕ) → b ≤ n → 0 < k → divisor_of (k * a) (k * b) ≡ k * divisor_of a b
divisor_scale zero k a zero h p = rw (mul-zero, divisor_zero (k * a), divisor_zero a)
divisor_scale zero k a (suc b) h p = absurd (omega arith)
divisor_scale (suc n) k a zero h p = rw (mul-zero, divisor_zero (k * a), divisor_zero a)
divisor_scale (suc n) k a (suc b) h p =
    divisor_step (k * a) (k * suc b) (mul-pos p (zero-lt-suc b))
    ∙ ap (divisor_of (k * suc b)) (mod_scale k a (suc b) p)
    ∙ divisor_scale n k (suc b) (a % suc b) (omega (arith, mod-lt a (zero-lt-suc b))) p
    ∙ ap (λ x. k * x) (sym (divisor_step a (suc b) (zero-lt-suc b)))

pub multiple_times_divisor : (a b : ℕ) → multiple_of a b * divisor_of a b ≡ a * b
unfolding multiple_of
multiple_times_divisor a b = mul_right_comm (a / divisor_of a b) b (divisor_of a b) ∙ ap (λ x. x * b) (div-mul_cancel (divisor_of a b) (divisor_left a b))

pub multiple_least : (a b m : ℕ) → 0 < a → a ∣ m → b ∣ m → multiple_of a b ∣ m
multiple_least a b zero h x y = dvd-zero (multiple_of a b)
multiple_least a b (suc m) h x y =
    let c : a * b ∣ suc m * a = rw (mul_comm (suc m) a) (mul-dvd-mul_left b a y) in
    let d : a * b ∣ suc m * b = mul-dvd-mul_right a x b in
    let e : a * b ∣ suc m * divisor_of a b = rw (divisor_scale b (suc m) a b (omega arith) (zero-lt-suc m)) at (divisor_greatest (suc m * a) (suc m * b) (a * b) c d) in
    dvd_of_mul-dvd-mul_right (multiple_of a b) (divisor_some a b h) (rw (multiple_times_divisor a b) e)
