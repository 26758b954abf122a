-- What source 000 works out in its section 5 beside the counts of figure 5, which specs/Starred.antt has. Assumes nothing.
use Rattle.std.specs.Prelude.{◌≡◌, refl, List, [], ◌∷◌, ℕ, ◌/◌}
use Rattle.basics.specs.Sums.{sum_below, list_below}
use Rattle.shares.specs.Shares.{total_of}
use Rattle.shares.specs.Examples.{E}
use Rattle.hamilton.specs.Hamilton.{quota_of, remainder_of, undealt_of}
use Rattle.circle.specs.Circle.{circle_units, factor_of}
use Rattle.circle.specs.Examples.{millions}
use Rattle.resend.specs.Resends.{resend_pair_of}
use Rattle.resend.specs.Examples.{answer, first_resends, whole_resend}

-- ---- the worked example under figure 5
-- with a SD of 1 in d1 and of 10 in d2: the standard divisor is the total stake over q
pub standard_divisors : (total_of (25 ∷ 25 ∷ 25 ∷ 25 ∷ []) / 100 ≡ 1) × (total_of (250 ∷ 250 ∷ 250 ∷ 250 ∷ []) / 100 ≡ 10)
unfolding whole_resend
standard_divisors = (refl, refl)

abbrev pub d3 : List ℕ
d3 = 214 ∷ 262 ∷ 262 ∷ 262 ∷ []

-- Replicas obtain LQs respectively of 21 and 26 for the other three replicas
pub lower_quotas : list_below 4 (quota_of d3 100) ≡ 21 ∷ 26 ∷ 26 ∷ 26 ∷ []
unfolding whole_resend
lower_quotas = refl

-- PR = 0.4, and 0.2 for the other three: in parts of the total, 1,000
pub penalty_ratios : list_below 4 (remainder_of d3 100) ≡ 400 ∷ 200 ∷ 200 ∷ 200 ∷ []
unfolding whole_resend
penalty_ratios = refl

-- The sum of all LQ yields only 99. As such, there is one message left to assign
pub one_left : (sum_below 4 (quota_of d3 100) ≡ 99) × (undealt_of d3 100 ≡ 1)
unfolding whole_resend
one_left = (refl, refl)

-- ---- section 5.3
-- the total stake of one is 4 and of the other 4,000,000: scaled to their least common multiple, by 1,000,000 and by 1
pub scaled_to_the_multiple :
    (circle_units E millions ≡ 4_000_000)
    × (factor_of (circle_units E millions) E ≡ 1_000_000)
    × (factor_of (circle_units E millions) millions ≡ 1)
unfolding whole_resend
scaled_to_the_multiple = (refl, refl, refl)

-- both with 4,000,000, each node having 1,000,000: each message send would pair replicas with 1,000,000 stake
pub equally_large :
    first_resends 3 (resend_pair_of millions 1_333_333 1_333_333 millions 1_333_333 1_333_333 4 4)
    ≡ answer 0 0 1_000_000 ∷ answer 1 1 1_000_000 ∷ answer 2 2 1_000_000 ∷ []
unfolding whole_resend
equally_large = refl
