-- Document 01's examples of clusters, by computation. Assumes nothing.
use Rattle.std.specs.Prelude.{◌≡◌, refl, List, [], ◌∷◌, ℕ, replicate}
use Rattle.basics.specs.Sums.{sum_below, all_below, highest_below}
use Rattle.basics.specs.Largest.{largest}
use Rattle.basics.specs.Checks.{first_failing}
use Rattle.shares.specs.Shares.{total_of, share_of}
use Rattle.shares.specs.Cluster.{cluster_refusal, members_fit, shares_fit, is_share, bounds_fit}
use Rattle.shares.specs.Point.{reached_of, point_of}

-- E is shares 1,1,1,1 with u = r = 1
abbrev pub E : List ℕ
E = 1 ∷ 1 ∷ 1 ∷ 1 ∷ []

E_is_accepted : cluster_refusal E 1 1 ≡ 0
unfolding cluster_refusal first_failing members_fit shares_fit is_share bounds_fit total_of sum_below all_below
E_is_accepted = refl

-- E with u = 2 is 3
E_with_more_failing : cluster_refusal E 2 1 ≡ 3
unfolding cluster_refusal first_failing members_fit shares_fit is_share bounds_fit total_of sum_below all_below
E_with_more_failing = refl

-- Share 1,000,000 passes, 1,000,001 is 2
share_at_the_limit : cluster_refusal (1_000_000 ∷ []) 0 0 ≡ 0
unfolding cluster_refusal first_failing members_fit shares_fit is_share bounds_fit total_of sum_below all_below
share_at_the_limit = refl

share_above_the_limit : cluster_refusal (1_000_001 ∷ []) 0 0 ≡ 2
unfolding cluster_refusal first_failing members_fit shares_fit is_share bounds_fit total_of sum_below all_below
share_above_the_limit = refl

-- 0 or more than 64 members is 1
no_members : cluster_refusal [] 0 0 ≡ 1
unfolding cluster_refusal first_failing members_fit shares_fit is_share bounds_fit total_of sum_below all_below
no_members = refl

too_many_members : cluster_refusal (replicate 65 1) 0 0 ≡ 1
unfolding cluster_refusal first_failing members_fit shares_fit is_share bounds_fit total_of sum_below all_below
too_many_members = refl

-- E: member 0 reports 1, p = 0; member 3 reports 4, p = 1
one_report : point_of E (1 ∷ 0 ∷ 0 ∷ 0 ∷ []) 2 ≡ 0
unfolding point_of reached_of share_of sum_below highest_below largest
one_report = refl

two_reports : point_of E (1 ∷ 0 ∷ 0 ∷ 4 ∷ []) 2 ≡ 1
unfolding point_of reached_of share_of sum_below highest_below largest
two_reports = refl
