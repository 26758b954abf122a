-- What the bits of two words, gathered in one, say of both. Assumes nothing.
use mathlib.Core.Path.{◌≡◌, ap₂, sym, ◌∙◌}
use mathlib.Core.Bool.{◌&&◌}
use Prim.Native.Nat.{ℕ, ◌^◌, ◌≤◌, ◌<◌}
use native.Mathlib.Omega.{arith}
use lib.Bits.{bit_or, or_lt, or_add_and, and_le_l, and_le_r}
use lib.Dec.{ltb, eqb}
use borrow.Author.Tests.{lt-ltb, ltb-true, eq-eqb, eqb-true}
use Rattle.basics.proofs.BoolLaws.{and_both, and_left, and_right, same_test}

or_left_le : (a b : ℕ) → a ≤ bit_or a b
or_left_le a b = omega (arith, or_add_and a b, and_le_r a b)

or_right_le : (a b : ℕ) → b ≤ bit_or a b
or_right_le a b = omega (arith, or_add_and a b, and_le_l a b)

-- both are below a power of two where their bits are
pub or_below : (k a b : ℕ) → ltb (bit_or a b) (2 ^ k) ≡ (ltb a (2 ^ k) && ltb b (2 ^ k))
or_below k a b =
    same_test (ltb (bit_or a b) (2 ^ k)) (ltb a (2 ^ k) && ltb b (2 ^ k))
    (λ t. let l : bit_or a b < 2 ^ k = ltb-true _ _ t in
    and_both (ltb a (2 ^ k)) (ltb b (2 ^ k)) (lt-ltb a (2 ^ k) (omega (arith, or_left_le a b))) (lt-ltb b (2 ^ k) (omega (arith, or_right_le a b))))
    (λ t. lt-ltb (bit_or a b) (2 ^ k) (or_lt k a b (ltb-true _ _ (and_left (ltb a (2 ^ k)) (ltb b (2 ^ k)) t)) (ltb-true _ _ (and_right (ltb a (2 ^ k)) (ltb b (2 ^ k)) t))))

-- both are 0 where no bit is set
pub zero_below : (a : ℕ) → eqb a 0 ≡ ltb a (2 ^ 0)
zero_below a = same_test (eqb a 0) (ltb a 1) (λ t. lt-ltb a 1 (omega (arith, eqb-true a 0 t))) (λ t. eq-eqb a 0 (omega (arith, ltb-true a 1 t)))

pub or_zero : (a b : ℕ) → eqb (bit_or a b) 0 ≡ (eqb a 0 && eqb b 0)
or_zero a b = zero_below (bit_or a b) ∙ or_below 0 a b ∙ ap₂ ◌&&◌ (sym (zero_below a)) (sym (zero_below b))
