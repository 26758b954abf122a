-- Words that lie one behind the other, lent as a part of all: each by its place, all of them as a column has them, and what is gathered from
-- them. Assumes nothing.
use mathlib.Core.Path.{◌≡◌, refl, ap, sym, ◌∙◌}
use mathlib.Core.Bool.{true}
use mathlib.Core.List.{List, [], ◌∷◌}
use Prim.Native.Nat.{ℕ, ◌+◌, ◌-◌, ◌*◌, ◌≤◌, ◌<◌}
use native.Mathlib.Numerals.{add-one}
use native.Mathlib.Omega.{arith}
use lib.Bits.{bit_or}
use lib.Dec.{eqb}
use lib.ListN.{length, get_or, take, drop, length-take, length-drop}
use lib.Seq.{get_or-take, get_or-drop, ext_get_or, take_all}
use borrow.Rule.Slice.PartMut.{mid_of}
use Rattle.std.specs.List.{sum}
use Rattle.std.proofs.lemmas.List.Sums.{sum_by_from}
use Rattle.basics.specs.Sums.{sum_below, all_below}
use Rattle.basics.proofs.SumLaws.{sum_front, sum_bound, all_done, length_list}
use Rattle.marks.specs.Gathered.{any_of}
use Rattle.marks.proofs.GatheredLaws.{any_by_index}
use Rattle.shares.specs.Shares.{total_of}
use Rattle.shares.specs.Cluster.{is_share, shares_fit}
use Rattle.words.specs.Taken.{word_at, none_above, column_at}
use Rattle.words.specs.Straight.{any_in}
use Rattle.words.proofs.FitLaws.{none_at}
use Rattle.words.proofs.ClusterLaws.{shares_length, shares_at, fit_in_words}
use Rattle.words.proofs.StraightLaws.{off_turn}

-- ---- each by its place
module _ (ws : List ℕ) (at k : ℕ) where
  abbrev part : List ℕ
  part = mid_of at k ws

  pub part_le : length part ≤ k
  part_le = omega (arith, length-take k (drop at ws))

  pub part_at : (i : ℕ) → i < length part → get_or part i 0 ≡ word_at ws (at + i)
  part_at i l = get_or-take k (drop at ws) i 0 (omega (arith, part_le)) ∙ get_or-drop at ws i 0

  pub part_within : (n most : ℕ) → none_above ws at n most ≡ true → k ≡ n → (i : ℕ) → i < length part → get_or part i 0 ≤ most
  part_within n most h e i l = rw (part_at i l) (none_at ws at n most h i (omega (arith, part_le)))

-- ---- all of them
module _ (ws : List ℕ) (at k n : ℕ) (e : k ≡ n) (room : at + n ≤ length ws) where
  pub part_length : length (mid_of at k ws) ≡ n
  part_length = omega (arith, length-take k (drop at ws), length-drop at ws)

  -- the bits that any of them has
  pub any_told : (x : ℕ) → x ≡ any_of (mid_of at k ws) → x ≡ any_in ws at n
  unfolding any_in
  any_told x h =
      h
      ∙ ap (λ (m : ℕ). any_of (take m (drop at ws))) e
      ∙ any_by_index (any_in ws at) (drop at ws) n refl (λ j. rw (add-one, get_or-drop)) (omega (arith, length-drop at ws))

  -- as the column has them
  pub part_is : n ≤ 64 → mid_of at k ws ≡ take n (column_at ws at)
  part_is few =
      ext_get_or 0 (mid_of at k ws) (take n (column_at ws at)) (part_length ∙ sym (shares_length ws at n few))
      (λ i l. part_at ws at k i (omega arith) ∙ sym (shares_at ws at n few i (omega (arith, part_length))))

pub column_told : (ws : List ℕ) (at : ℕ) (l : List ℕ) → at + 64 ≤ length ws → l ≡ mid_of at (at + 64 - at) ws → l ≡ column_at ws at
unfolding column_at
column_told ws at l room h = h ∙ part_is ws at (at + 64 - at) 64 (omega arith) room (omega arith) ∙ take_all 64 (column_at ws at) (omega (arith, length_list (λ i. word_at ws (at + i)) 64))

-- ---- their sum
pub sum_is_total : (xs : List ℕ) → sum xs ≡ total_of xs
unfolding total_of sum_below
sum_is_total [] = refl
sum_is_total (x ∷ xs) = sum_by_from (λ y. y) (0 + x) xs ∙ omega (arith, sum_is_total xs, sum_front (λ i. get_or (x ∷ xs) i 0) (length xs))

module _ (ws : List ℕ) (at k n : ℕ) (e : k ≡ n) (room : at + n ≤ length ws) where
  pub total_told : (x : ℕ) → n ≤ 64 → x ≡ sum (mid_of at k ws) → x ≡ total_of (take n (column_at ws at))
  total_told x few h = h ∙ sum_is_total (mid_of at k ws) ∙ ap total_of (part_is ws at k n e room few)

  pub sum_low : (most : ℕ) → none_above ws at n most ≡ true → sum (mid_of at k ws) ≤ n * most
  unfolding total_of
  sum_low most h =
      let bound = sum_bound (λ i. get_or (mid_of at k ws) i 0) most (length (mid_of at k ws)) (part_within ws at k n most h e) in
      let all = sum_is_total (mid_of at k ws) in
      let low : sum (mid_of at k ws) ≤ length (mid_of at k ws) * most = omega (arith, bound, all) in
      rw (part_length ws at k n e room) at low

-- ---- the loop over shares: a turn, its end
module _ (ws : List ℕ) (at k i off : ℕ) (h : eqb off 0 ≡ all_below i (λ j. is_share (word_at ws (at + j)))) where
  pub fits_turn : (x : ℕ) → i < length (mid_of at k ws) → eqb x 0 ≡ is_share (get_or (mid_of at k ws) i 0) → eqb (bit_or off x) 0 ≡ all_below (i + 1) (λ j. is_share (word_at ws (at + j)))
  fits_turn x l f = off_turn (λ j. is_share (word_at ws (at + j))) i off x h (f ∙ ap is_share (part_at ws at k i l))

  pub fits_done : (n : ℕ) → k ≡ n → at + n ≤ length ws → n ≤ 64 → i ≤ length (mid_of at k ws) → length (mid_of at k ws) ≤ i → eqb off 0 ≡ shares_fit (take n (column_at ws at))
  fits_done n e room few a b =
      all_done (λ j. is_share (word_at ws (at + j))) {i = i} {n = n} h (omega (arith, part_length ws at k n e room)) (omega (arith, part_length ws at k n e room)) ∙ fit_in_words ws at n few
