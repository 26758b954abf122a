-- One turn of the circle. Assumes nothing.
use Rattle.std.specs.Prelude.{◌≡◌, List, ℕ, ◌+◌, ◌-◌, ◌≤◌, length}
use Rattle.circle.specs.Circle.{circle_units, start_of, unit_of, runs_before}

-- after so many resends the runs add up to L, and the next one starts where resend 1 did: the circle goes round
pub record OneTurn (ss rs : List ℕ) (i : ℕ) : Type 0 where
  pub resends : ℕ
  pub early : resends ≤ length ss + length rs - 1
  pub all_units : runs_before ss rs i (resends + 1) ≡ circle_units ss rs
  pub back : unit_of ss rs i (resends + 1) ≡ start_of ss rs i
