-- The largest number that passes a test: it passes, and nothing larger does. Assumes nothing.
use mathlib.Core.Path.{◌≡◌, refl, ap, ◌∙◌}
use mathlib.Core.Bool.{Bool, true, false}
use mathlib.Core.Logic.{◌⊎◌, inl, inr}
use Prim.Native.Nat.{ℕ, zero, suc, ◌≤◌}
use native.Mathlib.Decide.{dec_le}
use native.Mathlib.Omega.{arith}
use Rattle.basics.specs.Largest.{largest}
use Rattle.basics.proofs.BoolLaws.{bool_cases, no_both}

pub largest_le : (p : ℕ → Bool) (n : ℕ) → largest p n ≤ n
unfolding largest
largest_le p zero = omega arith
largest_le p (suc n) = elim (bool_cases (p (suc n))) [ inl t ↦ simp t (omega arith) | inr t ↦ simp t (omega (arith, largest_le p n)) ]

pub largest_passes : (p : ℕ → Bool) (n : ℕ) → (largest p n ≡ 0) ⊎ (p (largest p n) ≡ true)
unfolding largest
largest_passes p zero = inl refl
largest_passes p (suc n) = elim (bool_cases (p (suc n))) [ inl t ↦ inr (simp (t, t)) | inr t ↦ simp t (largest_passes p n) ]

-- a number that passes is at most n, where n + 1 does not
below : (p : ℕ → Bool) (n x : ℕ) → x ≤ suc n → p (suc n) ≡ false → p x ≡ true → x ≤ n
below p n x a t y = elim (dec_le x n) [ yes l ↦ l | no l ↦ (let e : x ≡ suc n = omega arith in no_both y (ap p e ∙ t)) ]

pub largest_above : (p : ℕ → Bool) (n k : ℕ) → k ≤ n → p k ≡ true → k ≤ largest p n
unfolding largest
largest_above p zero k a y = a
largest_above p (suc n) k a y = elim (bool_cases (p (suc n))) [
  | inl t ↦ simp t a
  | inr t ↦ simp t (largest_above p n k (below p n k a t y) y)
]

-- nothing else is the largest
pub largest_unique : (p : ℕ → Bool) (n x : ℕ) → x ≤ n → (x ≡ 0) ⊎ (p x ≡ true) → ((k : ℕ) → k ≤ n → p k ≡ true → k ≤ x) → x ≡ largest p n
largest_unique p n x a b h = elim b [ inl z ↦ low z | inr y ↦ (let k : x ≤ largest p n = largest_above p n x a y in high k) ]
  where
    high : x ≤ largest p n → x ≡ largest p n
    high k = elim (largest_passes p n) [ inl z ↦ omega arith | inr y ↦ omega (arith, h (largest p n) (largest_le p n) y) ]

    low : x ≡ 0 → x ≡ largest p n
    low z = high (omega arith)
