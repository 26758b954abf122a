-- The circle of two clusters: both layouts fill it, its numbers fit 64 bits, and an accepted cluster has what it needs. Assumes nothing.
use mathlib.Core.Path.{◌≡◌, ◌∙◌}
use mathlib.Core.Logic.{⊎_elim}
use mathlib.Core.List.{List}
use Prim.Native.Nat.{ℕ, ◌*◌, ◌/◌, ◌≤◌, ◌<◌}
use native.Mathlib.Nat.{div-mul_cancel, eq-zero-or-pos, mul-pos}
use native.Mathlib.Omega.{arith}
use lib.ListN.{length, get_or}
use Rattle.shares.specs.Shares.{total_of}
use Rattle.shares.specs.Cluster.{Accepted}
use Rattle.shares.proofs.ClusterLaws.{total_small}
use Rattle.circle.specs.Divisor.{multiple_of}
use Rattle.circle.specs.Stretches.{scaled}
use Rattle.circle.specs.Circle.{circle_units, factor_of, send_layout, receive_layout}
use Rattle.circle.specs.Positions.{Sized, circle_of}
use Rattle.circle.proofs.EuclidLaws.{multiple_left, multiple_right, multiple_some, multiple_small, left_factor, right_factor}
use Rattle.circle.proofs.StretchLaws.{total_scaled, length_scaled, scaled_at}

pub sized : (s : List ℕ) (u r : ℕ) → Accepted s u r → Sized s
sized s u r a =
    record {
      some_member = a.some_member;
      few_members = a.few_members;
      some_share = a.some_share;
      some_total = omega (arith, a.enough);
      small_total = total_small s u r a;
    }

-- ---- the scale factor times the total is L
module _ (ss rs : List ℕ) where
  pub send_whole : factor_of (circle_units ss rs) ss * total_of ss ≡ circle_units ss rs
  unfolding factor_of circle_units
  send_whole = div-mul_cancel (total_of ss) (multiple_left (total_of ss) (total_of rs))

  pub receive_whole : factor_of (circle_units ss rs) rs * total_of rs ≡ circle_units ss rs
  unfolding factor_of circle_units
  receive_whole = div-mul_cancel (total_of rs) (multiple_right (total_of ss) (total_of rs))

  -- both layouts fill the circle
  pub send_full : total_of (send_layout ss rs) ≡ circle_units ss rs
  unfolding send_layout
  send_full = total_scaled (factor_of (circle_units ss rs) ss) ss ∙ send_whole

  pub receive_full : total_of (receive_layout ss rs) ≡ circle_units ss rs
  unfolding receive_layout
  receive_full = total_scaled (factor_of (circle_units ss rs) rs) rs ∙ receive_whole

  pub send_length : length (send_layout ss rs) ≡ length ss
  unfolding send_layout
  send_length = length_scaled (factor_of (circle_units ss rs) ss) ss

  pub receive_length : length (receive_layout ss rs) ≡ length rs
  unfolding receive_layout
  receive_length = length_scaled (factor_of (circle_units ss rs) rs) rs

factor_some : (f d l : ℕ) → f * d ≡ l → 0 < l → 0 < f
factor_some f d l e h = ⊎_elim (λ z. absurd (omega (arith, rw z at e))) (λ z. z) (eq-zero-or-pos f)

module _ (ss rs : List ℕ) (a : Sized ss) (b : Sized rs) where
  pub some_units : 0 < circle_units ss rs
  unfolding circle_units
  some_units = multiple_some (total_of ss) (total_of rs) a.some_total b.some_total

  -- L is at most 4,096,000,000,000,000
  pub few_units : circle_units ss rs ≤ 4_096_000_000_000_000
  unfolding circle_units
  few_units = omega (arith, multiple_small (total_of ss) (total_of rs) 64_000_000 64_000_000 a.small_total b.small_total)

  -- each scale factor is at most the other cluster's total
  pub send_small : factor_of (circle_units ss rs) ss ≤ 64_000_000
  unfolding factor_of circle_units
  send_small = omega (arith, left_factor (total_of ss) (total_of rs) a.some_total, b.small_total)

  pub receive_small : factor_of (circle_units ss rs) rs ≤ 64_000_000
  unfolding factor_of circle_units
  receive_small = omega (arith, right_factor (total_of ss) (total_of rs) b.some_total, a.small_total)

  pub send_some : 0 < factor_of (circle_units ss rs) ss
  send_some = factor_some (factor_of (circle_units ss rs) ss) (total_of ss) (circle_units ss rs) (send_whole ss rs) some_units

  pub receive_some : 0 < factor_of (circle_units ss rs) rs
  receive_some = factor_some (factor_of (circle_units ss rs) rs) (total_of rs) (circle_units ss rs) (receive_whole ss rs) some_units

-- every member has a stretch
pub stretches_some : (shares : List ℕ) (f : ℕ) → Sized shares → 0 < f → (i : ℕ) → i < length (scaled f shares) → 0 < get_or (scaled f shares) i 0
stretches_some shares f a h i l = rw (scaled_at f shares i) (mul-pos h (a.some_share i (omega (arith, length_scaled f shares))))

-- what the code knows of the circle
pub circle_told : (ss rs : List ℕ) (ds dr l : ℕ) → ds ≡ total_of ss → dr ≡ total_of rs → l ≡ multiple_of ds dr → record { units = l; send = l / ds; receive = l / dr } ≡ circle_of ss rs
unfolding circle_of factor_of circle_units
circle_told ss rs ds dr l e f g = rw (g, e, f)
