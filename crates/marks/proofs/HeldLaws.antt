-- What is held: at most c, or marked; nothing above the highest; and the same after c has risen over a run of marks. Assumes nothing.
use mathlib.Core.Path.{◌≡◌, refl, ap, sym, ◌∙◌}
use mathlib.Core.Bool.{Bool, true, false}
use mathlib.Core.Logic.{inl, inr}
use Prim.Native.Nat.{ℕ, zero, suc, ◌+◌, ◌-◌, ◌/◌, ◌^◌, ◌≤◌, ◌<◌}
use native.Mathlib.Decide.{dec_le}
use native.Mathlib.Omega.{arith}
use lib.Dec.{eqb}
use mir.Val.{Fits}
use mir.Syntax.{w64}
use borrow.Author.Tests.{le-leb, lt-leb, leb-true}
use Rattle.basics.proofs.BoolLaws.{bool_cases, no_both, leb_same}
use Rattle.marks.specs.Masks.{is_marked, run_of, reach_of}
use Rattle.marks.specs.Held.{holds_of, highest_of, none_above}
use Rattle.marks.proofs.MaskLaws.{marked_past}
use Rattle.marks.proofs.RunLaws.{run_marked, reach_above, reach_top, reach_past}

pub holds_low : (c m k : ℕ) → k ≤ c → holds_of c m k ≡ true
unfolding holds_of
holds_low c m k l = simp (le-leb k c l)

pub holds_high : (c m k : ℕ) → c < k → holds_of c m k ≡ is_marked m (k - (c + 1))
unfolding holds_of
holds_high c m k l = simp (lt-leb k c l)

-- as the code has it
pub holds_marked : (c m k : ℕ) (r : Bool) → c < k → r ≡ is_marked m (k - c - 1) → r ≡ holds_of c m k
holds_marked c m k r l e =
    let b : k - c - 1 ≡ k - (c + 1) = omega arith in
    e ∙ ap (λ (x : ℕ). is_marked m x) b ∙ sym (holds_high c m k l)

pub holds_at_most : (c m k : ℕ) → k ≤ c → true ≡ holds_of c m k
holds_at_most c m k l = sym (holds_low c m k l)

-- ---- the highest
pub held_highest : (c m k : ℕ) → m < 2 ^ 64 → holds_of c m k ≡ true → k ≤ highest_of c m
unfolding highest_of
held_highest c m k f h = elim (dec_le k c) [
  | yes l ↦ omega arith
  | no l ↦ omega (arith, reach_above m (k - (c + 1)) f (sym (holds_high c m k (omega arith)) ∙ h))
]

pub highest_held : (c m : ℕ) → m < 2 ^ 64 → holds_of c m (highest_of c m) ≡ true
unfolding highest_of
highest_held c m f = go (reach_of m) refl
  where
    go : (r : ℕ) → reach_of m ≡ r → holds_of c m (c + reach_of m) ≡ true
    go zero e = holds_low c m (c + reach_of m) (omega arith)
    go (suc j) e =
        let b : c + reach_of m - (c + 1) ≡ j = omega arith in
        holds_high c m (c + reach_of m) (omega arith) ∙ ap (λ (x : ℕ). is_marked m x) b ∙ reach_top m j f e

pub none_above_lem : (c m s k : ℕ) → m < 2 ^ 64 → none_above c m s ≡ true → s < k → holds_of c m k ≡ false
unfolding none_above
none_above_lem c m s k f h l = elim (bool_cases (holds_of c m k)) [
  | inl t ↦ absurd (omega (arith, leb-true (highest_of c m) s h, held_highest c m k f t))
  | inr t ↦ t
]

pub none_above_of : (c m s : ℕ) → m < 2 ^ 64 → ((k : ℕ) → s < k → holds_of c m k ≡ false) → none_above c m s ≡ true
unfolding none_above
none_above_of c m s f h = elim (dec_le (highest_of c m) s) [
  | yes l ↦ le-leb (highest_of c m) s l
  | no l ↦ no_both (highest_held c m f) (h (highest_of c m) (omega arith))
]

-- as the code has it
pub above_at_once : (c m s : ℕ) → s < c → false ≡ none_above c m s
unfolding none_above highest_of
above_at_once c m s l = sym (lt-leb (c + reach_of m) s (omega arith))

pub above_by_past : (c m s x : ℕ) → Fits w64 m → c ≤ s → x ≡ m / 2 ^ (s - c) → eqb x 0 ≡ none_above c m s
unfolding none_above highest_of
above_by_past c m s x f l e =
    ap (λ (y : ℕ). eqb y 0) e
    ∙ sym (reach_past m (s - c) f.fits)
    ∙ leb_same (reach_of m) (s - c) (c + reach_of m) s (λ a. omega arith) (λ a. omega arith)

-- ---- rising over marked bits
pub holds_risen : (c m d k : ℕ) → d ≤ run_of m → holds_of (c + d) (m / 2 ^ d) k ≡ holds_of c m k
holds_risen c m d k l = elim (dec_le k c) [
  | yes a ↦ holds_low (c + d) (m / 2 ^ d) k (omega arith) ∙ sym (holds_low c m k a)
  | no a ↦ elim (dec_le k (c + d)) [
    | yes b ↦ holds_low (c + d) (m / 2 ^ d) k b ∙ sym (holds_high c m k (omega arith) ∙ run_marked m (k - (c + 1)) (omega arith))
    | no b ↦ (let e : d + (k - (c + d + 1)) ≡ k - (c + 1) = omega arith in
        holds_high (c + d) (m / 2 ^ d) k (omega arith) ∙ marked_past m d (k - (c + d + 1)) ∙ ap (λ (x : ℕ). is_marked m x) e ∙ sym (holds_high c m k (omega arith)))
  ]
]
