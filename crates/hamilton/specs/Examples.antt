-- Document 01's examples of counts, by computation. Assumes nothing.
use Prim.{Unit, tt}
use Rattle.std.specs.Prelude.{◌≡◌, refl, [], ◌∷◌, replicate}
use Rattle.basics.specs.Sums.{sum_below, how_many, list_below, all_below}
use Rattle.basics.specs.Checks.{first_failing}
use Rattle.basics.specs.Ranges.{is_quantum}
use Rattle.shares.specs.Shares.{total_of}
use Rattle.shares.specs.Cluster.{members_fit, shares_fit, is_share, bounds_fit}
use Rattle.hamilton.specs.Hamilton.{quota_of, remainder_of, undealt_of, goes_first, ahead_of, rank_of, count_of, counts_of}
use Rattle.hamilton.specs.Counts.{counts_refusal, counts_out}

-- all that counts are computed with, named once: what unfolds this unfolds every name of its line
unfoldable pub whole_counts : Unit {0}
unfolding counts_out counts_refusal first_failing members_fit shares_fit is_share bounds_fit is_quantum all_below counts_of count_of rank_of ahead_of goes_first how_many quota_of remainder_of undealt_of sum_below list_below total_of
whole_counts = tt

-- Shares 25 four times, q 100: 25 each (take u = r = 0). The lent output has four places, 7 in each before the call
pub equal_shares : counts_out (25 ∷ 25 ∷ 25 ∷ 25 ∷ []) 0 0 100 (replicate 4 7) ≡ 25 ∷ 25 ∷ 25 ∷ 25 ∷ []
unfolding whole_counts
equal_shares = refl

-- 250 four times, q 100: 25 each
pub larger_shares : counts_out (250 ∷ 250 ∷ 250 ∷ 250 ∷ []) 0 0 100 (replicate 4 7) ≡ 25 ∷ 25 ∷ 25 ∷ 25 ∷ []
unfolding whole_counts
larger_shares = refl

-- 214, 262, 262, 262, q 100: 22, 26, 26, 26
pub uneven_shares : counts_out (214 ∷ 262 ∷ 262 ∷ 262 ∷ []) 0 0 100 (replicate 4 7) ≡ 22 ∷ 26 ∷ 26 ∷ 26 ∷ []
unfolding whole_counts
uneven_shares = refl

-- 97, 1, 1, 1, q 10: 10, 0, 0, 0
pub one_large_share : counts_out (97 ∷ 1 ∷ 1 ∷ 1 ∷ []) 0 0 10 (replicate 4 7) ≡ 10 ∷ 0 ∷ 0 ∷ 0 ∷ []
unfolding whole_counts
one_large_share = refl

-- a longer output keeps its later places
pub later_place : counts_out (97 ∷ 1 ∷ 1 ∷ 1 ∷ []) 0 0 10 (replicate 5 7) ≡ 10 ∷ 0 ∷ 0 ∷ 0 ∷ 7 ∷ []
unfolding whole_counts
later_place = refl

-- Shares 1,1,1, q 4: 2, 1, 1
pub lower_member_first : counts_out (1 ∷ 1 ∷ 1 ∷ []) 0 0 4 (replicate 3 7) ≡ 2 ∷ 1 ∷ 1 ∷ []
unfolding whole_counts
lower_member_first = refl
