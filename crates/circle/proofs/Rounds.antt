-- The turn of the resends of two clusters: where resend n stands in it. Assumes nothing.
use mathlib.Core.Path.{◌≡◌}
use mathlib.Core.Bool.{Bool}
use mathlib.Core.List.{List}
use Prim.Native.Nat.{ℕ, suc, ◌+◌, ◌-◌, ◌≤◌, ◌<◌}
use native.Mathlib.Decide.{dec_lt}
use native.Mathlib.Nat.{mod-eq_of_lt, mod_self}
use native.Mathlib.Omega.{arith}
use lib.ListN.{length}
use Rattle.shares.specs.Shares.{share_of}
use Rattle.circle.specs.Stretches.{end_of, end_after}
use Rattle.circle.specs.Circle.{circle_units, send_layout, receive_layout, start_of, unit_of, run_of, runs_before}
use Rattle.circle.specs.Positions.{Sized}
use Rattle.circle.proofs.StretchLaws.{before_le, end_no_cross}
use Rattle.circle.proofs.CircleLaws.{send_full, receive_full, send_length, receive_length}
use Rattle.circle.proofs.WalkLaws.{start_in, unit_first, unit_step, runs_none, runs_more}
use Rattle.circle.proofs.Turn.{Hit, Walked, begun, step, light, few, whole, complete}

-- resend n is reached within one turn, each one before it having been hit
abbrev pub Reached : (p q : ℕ → Bool) (ss rs : List ℕ) (i n : ℕ) → Type 0
Reached p q ss rs i n = Walked p q (circle_units ss rs) (send_layout ss rs) (receive_layout ss rs) (start_of ss rs i) (n - 1) (runs_before ss rs i n) (unit_of ss rs i n)

-- one of the ends of resend n fails
abbrev pub HitAt : (p q : ℕ → Bool) (ss rs : List ℕ) (i n : ℕ) → Type 0
HitAt p q ss rs i n = Hit p q (send_layout ss rs) (receive_layout ss rs) (unit_of ss rs i n)

module _ (ss rs : List ℕ) (a : Sized ss) (b : Sized rs) (i : ℕ) (sender : i < length ss) where
  -- no stretch of the sending layout crosses the start
  pub start_no_cross : (x : ℕ) → x < start_of ss rs i → end_after (send_layout ss rs) x ≤ start_of ss rs i
  unfolding start_of end_of
  start_no_cross x h = elim (dec_lt (end_of (send_layout ss rs) i) (circle_units ss rs)) [
    | yes k ↦ (let e : start_of ss rs i ≡ end_of (send_layout ss rs) i = mod-eq_of_lt k in
        rw e (end_no_cross (send_layout ss rs) (i + 1) x (omega arith) (omega (arith, send_full ss rs))))
    | no k ↦ (let all : end_of (send_layout ss rs) i ≡ circle_units ss rs =
        omega (arith, before_le (send_layout ss rs) (i + 1) (omega (arith, send_length ss rs)), send_full ss rs) in
        let none : start_of ss rs i ≡ 0 = rw all (mod_self (circle_units ss rs)) in
        absurd (omega arith))
  ]

  module _ (p q : ℕ → Bool) where
    abbrev l : ℕ
    l = circle_units ss rs

    abbrev s : List ℕ
    s = send_layout ss rs

    abbrev r : List ℕ
    r = receive_layout ss rs

    abbrev x0 : ℕ
    x0 = start_of ss rs i

    pub reached_first : Reached p q ss rs i 1
    reached_first = rw (runs_none, unit_first) (begun p q l s r (send_full ss rs) (receive_full ss rs) x0 (start_in ss rs a b i) start_no_cross)

    module _ (n : ℕ) (from_one : 1 ≤ n) (reached : Reached p q ss rs i n) where
      abbrev w : ℕ
      w = runs_before ss rs i n

      abbrev x : ℕ
      x = unit_of ss rs i n

      pub reached_next : w < l → HitAt p q ss rs i n → Reached p q ss rs i (n + 1)
      unfolding run_of
      reached_next h f =
          let e : n + 1 - 1 ≡ suc (n - 1) = omega arith in
          rw (e, runs_more ss rs i n from_one, unit_step ss rs i n from_one)
          (step p q l s r (send_full ss rs) (receive_full ss rs) x0 (start_in ss rs a b i) start_no_cross (n - 1) w x h f reached)

      -- the runs so far are of failed units
      pub reached_light : w ≤ share_of s p + share_of r q
      reached_light = light p q l s r (send_full ss rs) (receive_full ss rs) x0 (start_in ss rs a b i) start_no_cross (n - 1) w x reached

      -- short of a whole turn the resend is among the first (sending members + receiving members - 1)
      pub reached_soon : w < l → n < length ss + length rs
      reached_soon h =
          omega (arith, few p q l s r (send_full ss rs) (receive_full ss rs) x0 (start_in ss rs a b i) start_no_cross (n - 1) w x h reached, send_length ss rs, receive_length ss rs)

      -- the runs so far are at most one turn, and after a whole one the walk is back
      pub reached_most : w ≤ l
      reached_most = whole p q l s r (send_full ss rs) (receive_full ss rs) x0 (start_in ss rs a b i) start_no_cross (n - 1) w x reached

      turned : w ≡ l → (x ≡ x0) × (suc (n - 1) ≤ length s + length r)
      turned e = complete p q l s r (send_full ss rs) (receive_full ss rs) x0 (start_in ss rs a b i) start_no_cross (n - 1) x (rw e at reached)

      pub turned_back : w ≡ l → x ≡ x0
      turned_back e = (turned e).0

      pub turned_soon : w ≡ l → n ≤ length ss + length rs
      turned_soon e = omega (arith, (turned e).1, send_length ss rs, receive_length ss rs)
