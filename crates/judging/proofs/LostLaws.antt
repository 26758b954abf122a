-- Which messages too few members hold, by what each member holds after p as one word. Assumes nothing.
use mathlib.Core.Path.{◌≡◌, refl, ap, ap₂, sym, ◌∙◌}
use mathlib.Core.Bool.{Bool, true, false, cond, not, ◌&&◌, ◌||◌}
use mathlib.Core.List.{List}
use mathlib.Core.Logic.{inl, inr}
use Prim.Native.Nat.{ℕ, zero, suc, ◌+◌, ◌-◌, ◌^◌, ◌≤◌, ◌<◌}
use native.Mathlib.Nat.{add-zero}
use native.Mathlib.Decide.{dec_lt}
use native.Mathlib.Omega.{arith}
use lib.Bits.{bit_or, or_lt}
use lib.Dec.{leb, ltb}
use lib.Pow.{pow_mono}
use borrow.Author.Tests.{le-leb, lt-ltb, le-ltb}
use lib.ListN.{length, get_or}
use Rattle.basics.proofs.BoolLaws.{bool_cases, and_not_right}
use Rattle.marks.specs.Masks.{is_marked, set_below, among_of}
use Rattle.marks.proofs.MaskLaws.{marked_beyond, same_marks}
use Rattle.marks.proofs.SetLaws.{marked_or, marked_set, set_lt}
use Rattle.marks.proofs.FirstLaws.{among_at, among_lt}
use Rattle.shares.specs.Shares.{share_of}
use Rattle.shares.proofs.ShareLaws.{share_same}
use Rattle.downstream.specs.Rows.{Steady, SteadyUntil}
use Rattle.judging.specs.Verdicts.{holding_share, is_lost}

-- ---- the share that holds the messages there
module _ (shares rows : List ℕ) (changing o n r : ℕ) (m : length rows ≡ length shares) (h : Steady rows (length rows) changing) (k : SteadyUntil changing o n r) where
  held_same : (d : ℕ) → o + d < r → holding_share shares rows (o + d) ≡ holding_share shares rows o
  unfolding holding_share
  held_same zero l = ap (holding_share shares rows) (add-zero o)
  held_same (suc d) l =
      let z : o + suc d ≡ o + d + 1 = omega arith in
      ap (holding_share shares rows) z
      ∙ share_same shares (λ i. is_marked (get_or rows i 0) (o + d + 1)) (λ i. is_marked (get_or rows i 0) (o + d)) (λ i x. h.same i (o + d) (omega arith) (k.none (o + d) (omega arith) (omega arith)))
      ∙ held_same d (omega arith)

  module _ (u enough share : ℕ) (e : share ≡ share_of shares (λ i. is_marked (get_or rows i 0) o)) where
    abbrev lost : ℕ → Bool
    lost = is_lost shares u rows enough

    lost_at : (j : ℕ) → o ≤ j → j < r → lost j ≡ (is_marked enough j && leb share u)
    unfolding is_lost holding_share
    lost_at j a b =
        let z : j ≡ o + (j - o) = omega arith in
        ap (λ (x : ℕ). is_marked enough j && leb x u) (ap (holding_share shares rows) z ∙ held_same (j - o) (omega arith) ∙ sym e)

    -- ---- a turn of the loop
    module _ (s : ℕ) (few : n ≤ 64) (q : s ≡ set_below o lost) where
      so_far : (j : ℕ) → is_marked s j ≡ (ltb j o && lost j)
      so_far j = ap (λ (x : ℕ). is_marked x j) q ∙ marked_set lost o j

      so_far_lt : s < 2 ^ 64
      so_far_lt = omega (arith, q, set_lt lost o, pow_mono {i = o} {j = 64} (omega (arith, k.further, k.within)))

      abbrev both : ℕ
      both = bit_or s (among_of enough o r)

      both_lt : both < 2 ^ 64
      both_lt = or_lt 64 s (among_of enough o r) so_far_lt (among_lt enough o r)

      kept : (x y : Bool) → (x || (y && true && not true)) ≡ x
      kept true y = refl
      kept false true = refl
      kept false false = refl

      added : (y : Bool) → (false || (y && true && not false)) ≡ (y && true)
      added true = refl
      added false = refl

      neither : (y : Bool) → (false || (y && false && not false)) ≡ false
      neither true = refl
      neither false = refl

      both_at : leb share u ≡ true → (j : ℕ) → j < 64 → is_marked both j ≡ (ltb j r && lost j)
      both_at t j l = marked_or s (among_of enough o r) j ∙ ap₂ ◌||◌ (so_far j) (among_at enough o r j l) ∙ elim (dec_lt j o) [
        | yes a ↦ simp (lt-ltb j o a, lt-ltb j r (omega (arith, k.further))) (kept (lost j) (is_marked enough j))
        | no a ↦ elim (dec_lt j r) [
          | yes b ↦ simp (le-ltb j o (omega arith), lt-ltb j r b) (added (is_marked enough j) ∙ sym (lost_at j (omega arith) b ∙ ap (λ (x : Bool). is_marked enough j && x) t))
          | no b ↦ simp (le-ltb j o (omega arith), le-ltb j r (omega arith)) (neither (is_marked enough j))
        ]
      ]

      none_at : leb share u ≡ false → (j : ℕ) → is_marked s j ≡ (ltb j r && lost j)
      none_at t j = so_far j ∙ elim (dec_lt j o) [
        | yes a ↦ simp (lt-ltb j o a, lt-ltb j r (omega (arith, k.further)))
        | no a ↦ elim (dec_lt j r) [
          | yes b ↦ simp (le-ltb j o (omega arith), lt-ltb j r b) (sym (lost_at j (omega arith) b ∙ ap (λ (x : Bool). is_marked enough j && x) t ∙ and_not_right (is_marked enough j) false refl))
          | no b ↦ simp (le-ltb j o (omega arith), le-ltb j r (omega arith))
        ]
      ]

      next_lt : set_below r lost < 2 ^ 64
      next_lt = omega (arith, set_lt lost r, pow_mono {i = r} {j = 64} (omega (arith, k.within)))

      pub lost_turn : (t : ℕ) → t ≡ cond (leb share u) (bit_or s (among_of enough o r)) s → t ≡ set_below r lost
      lost_turn t f = elim (bool_cases (leb share u)) [
        | inl y ↦ f ∙ simp y (same_marks 64 both (set_below r lost) both_lt next_lt (λ j. elim (dec_lt j 64) [
          | yes l ↦ both_at y j l ∙ sym (marked_set lost r j)
          | no l ↦ marked_beyond 64 both j both_lt (omega arith) ∙ sym (marked_beyond 64 (set_below r lost) j next_lt (omega arith))
        ]))
        | inr y ↦ f ∙ simp y (same_marks 64 s (set_below r lost) so_far_lt next_lt (λ j. none_at y j ∙ sym (marked_set lost r j)))
      ]

-- what another set has there comes into the set
pub lost_in : (share u s enough from to a : ℕ) → share ≤ u → a ≡ among_of enough from to → bit_or s a ≡ cond (leb share u) (bit_or s (among_of enough from to)) s
lost_in share u s enough from to a l e = simp (le-leb share u l) (ap (bit_or s) e)
