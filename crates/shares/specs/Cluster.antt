-- Which clusters are accepted: a lent list of shares, member 0 first, and the bounds u and r. Assumes nothing.
use Rattle.std.specs.Prelude.{Bool, cond, ◌&&◌, List, [], ◌∷◌, ℕ, ◌+◌, ◌*◌, ◌%◌, ◌≤◌, ◌<◌, leb, length, get_or}
use Rattle.basics.specs.Sums.{all_below}
use Rattle.basics.specs.Checks.{Check, ◌else◌, first_failing}
use Rattle.shares.specs.Shares.{total_of}
use Rattle.basics.specs.Refusals.{outcome_number}
use Rattle.shares.specs.declared.cluster.Judgement.{Judgement}

-- 1 to 64 members
unfoldable pub members_fit : List ℕ → Bool
members_fit shares = leb 1 (length shares) && leb (length shares) 64

-- each share 1 to 1,000,000
unfoldable pub is_share : ℕ → Bool
is_share x = leb 1 x && leb x 1_000_000

unfoldable pub shares_fit : List ℕ → Bool
shares_fit shares = all_below (length shares) (λ i. is_share (get_or shares i 0))

-- r at most u, and total share D at least 2u + r + 1
unfoldable pub bounds_fit : List ℕ → ℕ → ℕ → Bool
bounds_fit shares u r = leb r u && leb (2 * u + r + 1) (total_of shares)

-- the checks of a cluster, in their order
abbrev pub cluster_checks : List ℕ → ℕ → ℕ → List Check
cluster_checks shares u r =
    (members_fit shares else 1)
    ∷ (shares_fit shares else 2)
    ∷ (bounds_fit shares u r else 3)
    ∷ []

-- the refusal that a cluster gets, 0 for an accepted one
unfoldable pub cluster_refusal : List ℕ → ℕ → ℕ → ℕ
cluster_refusal shares u r = first_failing (cluster_checks shares u r)

-- a refusal's number, 0 for none, and a total
pub record ClusterAnswer : Type 0 where
  pub refusal : ℕ
  pub total : ℕ

-- and the total share of up to 64 members, counted round in 32 bits: of an accepted cluster it is the total itself
unfoldable pub cluster_answer : List ℕ → ℕ → ℕ → ClusterAnswer
cluster_answer shares u r = record { refusal = cluster_refusal shares u r; total = cond (members_fit shares) (total_of shares % 4294967296) 0 }

-- the same of a judgement
abbrev pub told : Judgement → ClusterAnswer
told j = record { refusal = outcome_number j.outcome; total = j.total }

-- what is known of an accepted cluster
pub record Accepted (shares : List ℕ) (u r : ℕ) : Type 0 where
  pub some_member : 1 ≤ length shares
  pub few_members : length shares ≤ 64
  pub some_share : (i : ℕ) → i < length shares → 1 ≤ get_or shares i 0
  pub small_share : (i : ℕ) → i < length shares → get_or shares i 0 ≤ 1_000_000
  pub liars : r ≤ u
  pub enough : 2 * u + r + 1 ≤ total_of shares
