-- The core of demand 3: among the first (sending members + receiving members - 1) resends one has both ends unfailed, and the runs before it
-- add up to at most u times the scale factor of the one cluster plus u times that of the other. Assumes nothing.
use mathlib.Core.Path.{◌≡◌}
use mathlib.Core.Logic.{◌⊎◌, inl, inr}
use mathlib.Core.Bool.{Bool}
use mathlib.Core.List.{List}
use Prim.Native.Nat.{ℕ, zero, suc, ◌+◌, ◌-◌, ◌*◌, ◌≤◌, ◌<◌}
use native.Mathlib.Decide.{dec_lt}
use native.Mathlib.Nat.{mul-le-mul_left}
use native.Mathlib.Omega.{arith}
use lib.ListN.{length}
use Rattle.basics.proofs.BoolLaws.{bool_cases}
use Rattle.shares.specs.Shares.{total_of, share_of}
use Rattle.shares.specs.Cluster.{Accepted}
use Rattle.circle.specs.Circle.{circle_units, factor_of, send_layout, receive_layout, sender_of, receiver_of, runs_before}
use Rattle.circle.specs.Positions.{Sized}
use Rattle.circle.specs.FirstGood.{FirstGood}
use Rattle.circle.proofs.CircleLaws.{sized, send_whole, receive_whole, send_some}
use Rattle.circle.proofs.FailedUnits.{share_scaled}
use Rattle.circle.proofs.Rounds.{Reached, HitAt, reached_first, reached_next, reached_light, reached_soon}

-- the failed units are fewer than half of the circle on each side
fewer : (fs fr us ur ds dr bs br l : ℕ) → fs * ds ≡ l → fr * dr ≡ l → 0 < fs → 2 * us + 1 ≤ ds → 2 * ur + 1 ≤ dr → bs ≤ us → br ≤ ur → fs * bs + fr * br < l
fewer fs fr us ur ds dr bs br l e₁ e₂ h c₁ c₂ m₁ m₂ = omega (arith, mul-le-mul_left fs c₁, mul-le-mul_left fr c₂, mul-le-mul_left fs m₁, mul-le-mul_left fr m₂)

module _ (ss : List ℕ) (us ls : ℕ) (rs : List ℕ) (ur lr i : ℕ) (p q : ℕ → Bool) (acc_s : Accepted ss us ls) (acc_r : Accepted rs ur lr) (sender : i < length ss) (fails : share_of ss p ≤ us) (failr : share_of rs q ≤ ur) where
  abbrev fs : ℕ
  fs = factor_of (circle_units ss rs) ss

  abbrev fr : ℕ
  fr = factor_of (circle_units ss rs) rs

  abbrev bound : ℕ
  bound = us * fs + ur * fr

  a : Sized ss
  a = sized ss us ls acc_s

  b : Sized rs
  b = sized rs ur lr acc_r

  failed_units : share_of (send_layout ss rs) p + share_of (receive_layout ss rs) q ≤ bound
  unfolding send_layout receive_layout
  failed_units = omega (arith, share_scaled p fs ss, share_scaled q fr rs, mul-le-mul_left fs fails, mul-le-mul_left fr failr)

  failed_few : share_of (send_layout ss rs) p + share_of (receive_layout ss rs) q < circle_units ss rs
  unfolding send_layout receive_layout
  failed_few =
      omega (
        arith,
        share_scaled p fs ss,
        share_scaled q fr rs,
        fewer fs fr us ur (total_of ss) (total_of rs) (share_of ss p) (share_of rs q) (circle_units ss rs) (send_whole ss rs) (receive_whole ss rs) (send_some ss rs a b)
            (omega (arith, acc_s.enough)) (omega (arith, acc_r.enough)) fails failr,
      )

  module _ (n : ℕ) (h : 1 ≤ n) (w : Reached p q ss rs i n) where
    short : runs_before ss rs i n < circle_units ss rs
    short = omega (arith, reached_light ss rs a b i sender p q n h w, failed_few)

    light : runs_before ss rs i n ≤ bound
    light = omega (arith, reached_light ss rs a b i sender p q n h w, failed_units)

    soon : n < length ss + length rs
    soon = reached_soon ss rs a b i sender p q n h w short

  abbrev Earlier : ℕ → Type 0
  Earlier n = (m : ℕ) → 1 ≤ m → m < n → HitAt p q ss rs i m

  earlier_next : (n : ℕ) → HitAt p q ss rs i n → Earlier n → Earlier (n + 1)
  earlier_next n f e m h k = elim (dec_lt m n) [ yes l ↦ e m h l | no l ↦ (let z : m ≡ n = omega arith in rw z f) ]

  -- resend n is the one, or it is hit
  judge : (n : ℕ) → 1 ≤ n → Earlier n → Reached p q ss rs i n → FirstGood ss us ls rs ur lr i p q ⊎ HitAt p q ss rs i n
  unfolding sender_of receiver_of
  judge n h e w = elim (bool_cases (p (sender_of ss rs i n))) [
    | inl t ↦ inr (inl t)
    | inr t ↦ elim (bool_cases (q (receiver_of ss rs i n))) [
      | inl v ↦ inr (inr v)
      | inr v ↦ inl (record {
        number = n;
        from_one = h;
        early = omega (arith, soon n h w);
        sender_well = t;
        receiver_well = v;
        earlier_hit = e;
        units = omega (arith, light n h w);
      })
    ]
  ]

  find : (k n : ℕ) → n + k ≡ length ss + length rs → 1 ≤ n → Earlier n → Reached p q ss rs i n → FirstGood ss us ls rs ur lr i p q
  find zero n g h e w = absurd (omega (arith, soon n h w))
  find (suc k) n g h e w = elim (judge n h e w) [
    | inl good ↦ good
    | inr f ↦ find k (n + 1) (omega arith) (omega arith) (earlier_next n f e) (reached_next ss rs a b i sender p q n h w (short n h w) f)
  ]

  found : FirstGood ss us ls rs ur lr i p q
  found = find (length ss + length rs - 1) 1 (omega (arith, acc_s.some_member)) (omega arith) (λ m h k. absurd (omega arith)) (reached_first ss rs a b i sender p q)

-- any two accepted clusters, any original sender, any choice of failed members whose shares in each cluster total at most that cluster's u
pub first_good :
    (ss : List ℕ) (us ls : ℕ) (rs : List ℕ) (ur lr : ℕ) (i : ℕ) (p q : ℕ → Bool)
    → Accepted ss us ls
    → Accepted rs ur lr
    → i < length ss
    → share_of ss p ≤ us
    → share_of rs q ≤ ur
    → FirstGood ss us ls rs ur lr i p q
first_good = found
