-- The point asked in the words where the numbers and shares lie. Assumes nothing.
use mathlib.Core.Path.{◌≡◌, refl, ap, ap₂, sym, ◌∙◌}
use mathlib.Core.Bool.{Bool, true, false, cond, ◌&&◌, ◌||◌}
use mathlib.Core.List.{List}
use Prim.Native.Nat.{ℕ, ◌+◌, ◌-◌, ◌*◌, ◌/◌, ◌^◌, ◌≤◌, ◌<◌}
use native.Mathlib.Decide.{dec_le}
use native.Mathlib.Omega.{arith}
use lib.Bits.{bit_and, and_mask, and_zero_r, and_le_l}
use lib.Dec.{leb, ltb, eqb}
use borrow.Author.Tests.{le-leb, lt-leb}
use lib.ListN.{length, get_or, take}
use mir.Val.{Fits}
use mir.Syntax.{w64}
use borrow.Rule.Slice.PartMut.{mid_of}
use Rattle.basics.specs.Sums.{sum_below}
use Rattle.basics.proofs.SumLaws.{sum_turn, sum_done, sum_cong, list_at}
use Rattle.shares.specs.Shares.{share_of}
use Rattle.shares.specs.Point.{reached_of, point_of}
use Rattle.shares.proofs.PointLaws.{point_told}
use Rattle.downstream.specs.State.{point_from}
use Rattle.words.specs.Taken.{word_at, none_above, column_at, cluster_at}
use Rattle.words.proofs.ClusterLaws.{shares_length, shares_at}
use Rattle.words.proofs.SpanLaws.{part_le, part_at, part_within, part_length}

-- ---- whether a number is reached, as bits
pub bits_told : (number g : ℕ) → number ≤ 1000000000000 → g ≤ 1000000000001 → (number + (9223372036854775808 - g)) / 2 ^ 63 * 4294967295 ≡ cond (leb g number) 4294967295 0
bits_told number g a b = elim (dec_le g number) [
  | yes l ↦ simp (le-leb g number l) (omega arith)
  | no l ↦ simp (lt-leb g number (omega arith)) (omega arith)
]

-- a share of 32 bits with all of them, or with none
masked : (share : ℕ) (t : Bool) → share ≤ 4294967295 → bit_and share (cond t 4294967295 0) ≡ cond t share 0
masked share true l = and_mask share 32 ∙ omega arith
masked share false l = and_zero_r share

pub share_masked : (share number bits g x y : ℕ) → share ≡ x → share ≤ 4294967295 → number ≡ y → bits ≡ cond (leb g number) 4294967295 0 → bit_and share bits ≡ cond (leb g y) x 0
share_masked share number bits g x y e l f q = rw (← e, ← f, q) (masked share (leb g number) l)

pub share_masked_low : (share bits : ℕ) → share ≤ 4294967295 → bit_and share bits ≤ 4294967295
share_masked_low share bits l = omega (arith, and_le_l share bits)

module _ (ws : List ℕ) where
  abbrev reached_share : ℕ → ℕ → ℕ
  reached_share g i = cond (leb g (word_at ws (137 + i))) (word_at ws (70 + i)) 0

  number_at : (i : ℕ) → i < 64 → get_or (column_at ws 137) i 0 ≡ word_at ws (137 + i)
  unfolding column_at
  number_at i l = list_at (λ j. word_at ws (137 + j)) 0 64 i l

  reached_in_words : (n g : ℕ) → n ≤ 64 → sum_below n (reached_share g) ≡ reached_of (take n (column_at ws 70)) (column_at ws 137) g
  unfolding reached_of share_of
  reached_in_words n g few = sym (
      ap (λ (m : ℕ). sum_below m (λ i. cond (leb g (get_or (column_at ws 137) i 0)) (get_or (take n (column_at ws 70)) i 0) 0)) (shares_length ws 70 n few)
      ∙ sum_cong (λ i. cond (leb g (get_or (column_at ws 137) i 0)) (get_or (take n (column_at ws 70)) i 0) 0) (reached_share g) n
      (λ i l. ap₂ (λ (x y : ℕ). cond (leb g x) y 0) (number_at i (omega arith)) (shares_at ws 70 n few i l)))

  -- the loop over the shares of the first n members: a turn, its end
  module _ (k n g i sum : ℕ) (m : k ≡ n) where
    module _ (narrow : none_above ws 70 n 4294967295 ≡ true) (l : i < length (mid_of 70 k ws)) (bits : ℕ) where
      pub reached_turn : sum ≡ sum_below i (reached_share g) → bits ≡ cond (leb g (word_at ws (137 + i))) 4294967295 0 → sum + bit_and (get_or (mid_of 70 k ws) i 0) bits ≡ sum_below (i + 1) (reached_share g)
      reached_turn e f =
          sum_turn (reached_share g) {i = i} {t = sum} {r = bit_and (get_or (mid_of 70 k ws) i 0) bits} e
          (share_masked (get_or (mid_of 70 k ws) i 0) (word_at ws (137 + i)) bits g (word_at ws (70 + i)) (word_at ws (137 + i)) (part_at ws 70 k i l) (part_within ws 70 k n 4294967295 narrow m i l) refl f)

      pub reached_few : sum ≤ i * 4294967295 → sum + bit_and (get_or (mid_of 70 k ws) i 0) bits ≤ (i + 1) * 4294967295
      reached_few h = omega (arith, share_masked_low (get_or (mid_of 70 k ws) i 0) bits (part_within ws 70 k n 4294967295 narrow m i l))

      pub reached_fits : sum ≤ i * 4294967295 → n ≤ 64 → Fits w64 (sum + bit_and (get_or (mid_of 70 k ws) i 0) bits)
      reached_fits h few = record { fits = omega (arith, reached_few h, part_le ws 70 k) }

    module _ (few : n ≤ 64) where
      pub reached_low : sum ≤ i * 4294967295 → i ≤ length (mid_of 70 k ws) → sum ≤ 64 * 4294967295
      reached_low h a = omega (arith, part_le ws 70 k)

      pub reached_done : 70 + n ≤ length ws → sum ≡ sum_below i (reached_share g) → i ≤ length (mid_of 70 k ws) → length (mid_of 70 k ws) ≤ i → sum ≡ reached_of (take n (column_at ws 70)) (column_at ws 137) g
      reached_done room e a b =
          sum_done (reached_share g) {i = i} {n = n} e (omega (arith, part_length ws 70 k n m room)) (omega (arith, part_length ws 70 k n m room)) ∙ reached_in_words n g few

  pub point_asked : (n p here next : ℕ) → here ≡ reached_of (take n (column_at ws 70)) (column_at ws 137) p → next ≡ reached_of (take n (column_at ws 70)) (column_at ws 137) (p + 1)
      → ((eqb p 0 || leb (word_at ws 68 + 1) here) && ltb next (word_at ws 68 + 1)) ≡ eqb p (point_of (take n (column_at ws 70)) (column_at ws 137) (word_at ws 68 + 1))
  point_asked n p here next e f = point_told (take n (column_at ws 70)) (column_at ws 137) (word_at ws 68 + 1) p here next (omega arith) e f

  -- the point of the cluster whose members' numbers they are
  pub point_in_words : (p : ℕ) → eqb p (point_of (take (word_at ws 67) (column_at ws 70)) (column_at ws 137) (word_at ws 68 + 1)) ≡ eqb p (point_from (cluster_at ws 67) (column_at ws 137))
  unfolding point_from cluster_at
  point_in_words p = refl
