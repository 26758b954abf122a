-- Shares weighed in one pass: bits that tell whether all are allowed, and a sum counted round. Assumes nothing.
use mathlib.Core.Path.{◌≡◌, refl, ap₂, sym, ◌∙◌}
use mathlib.Core.Bool.{Bool, true, false, ◌&&◌}
use Prim.Native.Nat.{ℕ, ◌+◌, ◌-◌, ◌%◌, ◌^◌}
use native.Mathlib.Decide.{dec_lt, dec_le}
use native.Mathlib.Omega.{arith}
use lib.Bits.{bit_or}
use lib.Dec.{leb, ltb}
use borrow.Author.Tests.{le-leb, lt-leb, lt-ltb, le-ltb}
use mir.Val.{Fits}
use mir.Syntax.{w32}
use Rattle.basics.specs.Sums.{sum_below, all_below}
use Rattle.basics.proofs.BoolLaws.{and_not_left, and_not_right}
use Rattle.basics.proofs.SumLaws.{sum_more, all_turn}
use Rattle.basics.proofs.BitLaws.{or_below}
use Rattle.shares.specs.Cluster.{is_share}

-- both differences, counted round, are below 2^31 from 1 to 1,000,000 alone
module _ (x : ℕ) (w : Fits w32 x) where
  abbrev one_less : ℕ
  one_less = (x + 4294967295) % 4294967296

  abbrev limit_less : ℕ
  limit_less = (1000000 + (4294967296 - x)) % 4294967296

  abbrev low : ℕ → Bool
  low y = ltb y (2 ^ 31)

  both : (low one_less && low limit_less) ≡ (leb 1 x && leb x 1000000)
  both = elim (dec_lt 0 x) [
    | yes l ↦ elim (dec_le x 1000000) [
      | yes m ↦ simp (lt-ltb one_less (2 ^ 31) (omega arith), lt-ltb limit_less (2 ^ 31) (omega arith), le-leb 1 x (omega arith), le-leb x 1000000 m)
      | no m ↦
          elim (dec_lt one_less (2 ^ 31)) [
            | yes y ↦ and_not_right (low one_less) (low limit_less) (le-ltb limit_less (2 ^ 31) (omega (arith, w.fits)))
            | no y ↦ and_not_left (low one_less) (low limit_less) (le-ltb one_less (2 ^ 31) (omega arith))
          ]
          ∙ sym (and_not_right (leb 1 x) (leb x 1000000) (lt-leb x 1000000 (omega arith)))
    ]
    | no l ↦
        and_not_left (low one_less) (low limit_less) (le-ltb one_less (2 ^ 31) (omega arith))
        ∙ sym (and_not_left (leb 1 x) (leb x 1000000) (lt-leb 1 x (omega arith)))
  ]

  pub share_told : ltb (bit_or one_less limit_less) 2147483648 ≡ is_share x
  unfolding is_share
  share_told = or_below 31 one_less limit_less ∙ both

-- one more share: its bits, and the total
pub bits_start : (p : ℕ → Bool) → ltb 0 2147483648 ≡ all_below 0 p
unfolding all_below
bits_start p = refl

pub bits_turn : (p : ℕ → Bool) (i a b : ℕ) → ltb a 2147483648 ≡ all_below i p → ltb b 2147483648 ≡ p i → ltb (bit_or a b) 2147483648 ≡ all_below (i + 1) p
bits_turn p i a b e f = or_below 31 a b ∙ all_turn p {i = i} e f

pub bits_four : (p : ℕ → Bool) (a b c d : ℕ) → ltb a 2147483648 ≡ p 0 → ltb b 2147483648 ≡ p 1 → ltb c 2147483648 ≡ p 2 → ltb d 2147483648 ≡ p 3
    → ltb (bit_or (bit_or a b) (bit_or c d)) 2147483648 ≡ all_below 4 p
unfolding all_below
bits_four p a b c d e f g h =
    or_below 31 (bit_or a b) (bit_or c d) ∙ ap₂ ◌&&◌ (or_below 31 a b ∙ ap₂ ◌&&◌ e f) (or_below 31 c d ∙ ap₂ ◌&&◌ g h) ∙ apart (p 0 && p 1) (p 2) (p 3)
  where
    apart : (x y z : Bool) → (x && (y && z)) ≡ ((x && y) && z)
    apart true y z = refl
    apart false y z = refl

pub bits_of : (p : ℕ → Bool) (n m a : ℕ) → n ≡ m → ltb a 2147483648 ≡ all_below m p → ltb a 2147483648 ≡ all_below n p
bits_of p n m a z e = rw z e

pub total_of : (f : ℕ → ℕ) (n m t : ℕ) → n ≡ m → t ≡ sum_below m f % 4294967296 → t ≡ sum_below n f % 4294967296
total_of f n m t z e = rw z e

pub total_four : (f : ℕ → ℕ) (a b r : ℕ) → a ≡ (f 0 + f 1) % 4294967296 → b ≡ (f 2 + f 3) % 4294967296 → r ≡ (a + b) % 4294967296 → r ≡ sum_below 4 f % 4294967296
unfolding sum_below
total_four f a b r e g h = omega arith

pub total_start : (f : ℕ → ℕ) → 0 ≡ sum_below 0 f % 4294967296
unfolding sum_below
total_start f = refl

pub total_turn : (f : ℕ → ℕ) (i t r : ℕ) → t ≡ sum_below i f % 4294967296 → r ≡ (t + f i) % 4294967296 → r ≡ sum_below (i + 1) f % 4294967296
total_turn f i t r e g = g ∙ rw (e, sum_more) (omega arith)
