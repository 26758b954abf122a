-- The runs of one turn add up to L, after at most (sending members + receiving members - 1) resends. Assumes nothing.
use mathlib.Core.Path.{◌≡◌, refl}
use mathlib.Core.Logic.{inl}
use mathlib.Core.Bool.{Bool, true}
use mathlib.Core.List.{List}
use Prim.Native.Nat.{ℕ, zero, suc, ◌+◌, ◌-◌, ◌≤◌, ◌<◌}
use native.Mathlib.Decide.{dec_lt}
use native.Mathlib.Omega.{arith}
use lib.ListN.{length}
use Rattle.circle.specs.Circle.{circle_units, runs_before}
use Rattle.circle.specs.Positions.{Sized}
use Rattle.circle.specs.OneTurn.{OneTurn}
use Rattle.circle.proofs.WalkLaws.{run_some, runs_more}
use Rattle.circle.proofs.Rounds.{Reached, reached_first, reached_next, reached_most, turned_back, turned_soon}

module _ (ss rs : List ℕ) (a : Sized ss) (b : Sized rs) (i : ℕ) (sender : i < length ss) where
  -- with every member failed, each resend is hit
  abbrev all : ℕ → Bool
  all j = true

  done : (n : ℕ) → 1 ≤ n → circle_units ss rs ≤ runs_before ss rs i n → Reached all all ss rs i n → OneTurn ss rs i
  done n h g w =
      let e : runs_before ss rs i n ≡ circle_units ss rs = omega (arith, reached_most ss rs a b i sender all all n h w) in
      let k : n - 1 + 1 ≡ n = omega arith in
      record {
        resends = n - 1;
        early = omega (arith, turned_soon ss rs a b i sender all all n h w e);
        all_units = rw k e;
        back = rw k (turned_back ss rs a b i sender all all n h w e);
      }

  turn : (k n : ℕ) → 1 ≤ n → circle_units ss rs ≤ runs_before ss rs i n + k → Reached all all ss rs i n → OneTurn ss rs i
  turn zero n h g w = done n h (omega arith) w
  turn (suc k) n h g w = elim (dec_lt (runs_before ss rs i n) (circle_units ss rs)) [
    | yes l ↦ turn k (n + 1) (omega arith) (omega (arith, runs_more ss rs i n h, run_some ss rs a b i n)) (reached_next ss rs a b i sender all all n h w l (inl refl))
    | no l ↦ done n h (omega arith) w
  ]

  pub one_turn : OneTurn ss rs i
  one_turn = turn (circle_units ss rs) 1 (omega arith) (omega arith) (reached_first ss rs a b i sender all all)
