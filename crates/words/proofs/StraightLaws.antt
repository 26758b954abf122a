-- What the bits of many words, gathered in one, say of each of them. Assumes nothing.
use mathlib.Core.Path.{◌≡◌, refl, ap, ap₂, sym, ◌∙◌}
use mathlib.Core.Bool.{Bool, ◌&&◌}
use mathlib.Core.List.{List}
use Prim.Native.Nat.{ℕ, zero, suc, ◌+◌, ◌-◌, ◌^◌}
use native.Mathlib.Omega.{arith}
use lib.Bits.{bit_or}
use lib.Dec.{leb, ltb, eqb}
use lib.Pow.{pow_pos}
use borrow.Author.Rules.{rules}
use borrow.Author.Tests.{lt-ltb, ltb-true, le-leb, leb-true}
use Rattle.basics.proofs.BoolLaws.{same_test}
use Rattle.basics.proofs.BitLaws.{or_below, zero_below, or_zero}
use Rattle.words.specs.Taken.{word_at, none_above}
use Rattle.words.specs.Straight.{any_in}
use Rattle.basics.specs.Sums.{all_below}
use Rattle.basics.proofs.SumLaws.{all_turn}

-- ---- what they say of the words
below_most : (x k : ℕ) → ltb x (2 ^ k) ≡ leb x (2 ^ k - 1)
below_most x k =
    same_test (ltb x (2 ^ k)) (leb x (2 ^ k - 1))
    (λ t. le-leb x (2 ^ k - 1) (omega (arith, ltb-true x (2 ^ k) t)))
    (λ t. lt-ltb x (2 ^ k) (omega (arith, leb-true x (2 ^ k - 1) t, pow_pos k)))

module _ (ws : List ℕ) (from : ℕ) where
  any_below : (k n : ℕ) → ltb (any_in ws from n) (2 ^ k) ≡ all_below n (λ i. leb (word_at ws (from + i)) (2 ^ k - 1))
  unfolding any_in all_below
  any_below k zero = lt-ltb 0 (2 ^ k) (pow_pos k)
  any_below k (suc n) = or_below k (any_in ws from n) (word_at ws (from + n)) ∙ ap₂ ◌&&◌ (any_below k n) (below_most (word_at ws (from + n)) k)

  pub any_most : (k n : ℕ) → leb (any_in ws from n) (2 ^ k - 1) ≡ none_above ws from n (2 ^ k - 1)
  unfolding none_above
  any_most k n = sym (below_most (any_in ws from n) k) ∙ any_below k n

  -- the limits that are asked for
  pub any_zero : (n x : ℕ) → x ≡ any_in ws from n → eqb x 0 ≡ none_above ws from n 0
  any_zero n x e = zero_below x ∙ below_most x 0 ∙ ap (λ (y : ℕ). leb y 0) e ∙ any_most 0 n

  pub any_flag : (n x : ℕ) → x ≡ any_in ws from n → leb x 1 ≡ none_above ws from n 1
  any_flag n x e = ap (λ (y : ℕ). leb y 1) e ∙ any_most 1 n

  pub any_count : (n x : ℕ) → x ≡ any_in ws from n → leb x 255 ≡ none_above ws from n 255
  any_count n x e = ap (λ (y : ℕ). leb y 255) e ∙ any_most 8 n

  pub any_narrow : (n x : ℕ) → x ≡ any_in ws from n → leb x 4294967295 ≡ none_above ws from n 4294967295
  any_narrow n x e = ap (λ (y : ℕ). leb y 4294967295) e ∙ any_most 32 n

-- ---- words that are 0 where something holds, gathered in one: its start, a turn, its end
pub off_start : (p : ℕ → Bool) → eqb 0 0 ≡ all_below 0 p
unfolding all_below
off_start p = refl

pub off_turn : (p : ℕ → Bool) (i off x : ℕ) → eqb off 0 ≡ all_below i p → eqb x 0 ≡ p i → eqb (bit_or off x) 0 ≡ all_below (i + 1) p
off_turn p i off x a b = or_zero off x ∙ all_turn p {i = i} a b
