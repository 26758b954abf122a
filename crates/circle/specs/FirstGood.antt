-- The core of demand 3: among the first resends one has both ends unfailed, after few units. Assumes nothing.
use Rattle.std.specs.Prelude.{◌≡◌, Bool, true, false, ◌⊎◌, List, ℕ, ◌+◌, ◌-◌, ◌*◌, ◌≤◌, ◌<◌, length}
use Rattle.circle.specs.Circle.{circle_units, factor_of, sender_of, receiver_of, runs_before}

-- Two clusters, each its shares, u and r; an original sender i; p and q, which sending and receiving members fail. The first resend with both
-- ends unfailed:
pub record FirstGood (ss : List ℕ) (us ls : ℕ) (rs : List ℕ) (ur lr : ℕ) (i : ℕ) (p q : ℕ → Bool) : Type 0 where
  pub number : ℕ
  pub from_one : 1 ≤ number
  -- it is among the first (sending members + receiving members − 1) resends
  pub early : number ≤ length ss + length rs - 1
  -- it has both ends unfailed
  pub sender_well : p (sender_of ss rs i number) ≡ false
  pub receiver_well : q (receiver_of ss rs i number) ≡ false
  -- it is the first such one
  pub earlier_hit : (n : ℕ) → 1 ≤ n → n < number → (p (sender_of ss rs i n) ≡ true) ⊎ (q (receiver_of ss rs i n) ≡ true)
  -- the runs of the resends before it add up to at most u times the scale factor of the sending cluster plus u times that of the receiving cluster
  pub units : runs_before ss rs i number ≤ us * factor_of (circle_units ss rs) ss + ur * factor_of (circle_units ss rs) rs
