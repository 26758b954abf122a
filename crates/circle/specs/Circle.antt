-- The circle of L units, and the walk of the resends on it. Assumes nothing.
use Rattle.std.specs.Prelude.{List, ℕ, zero, suc, ◌+◌, ◌-◌, ◌/◌, ◌%◌, min}
use Rattle.basics.specs.Sums.{sum_below}
use Rattle.shares.specs.Shares.{total_of}
use Rattle.circle.specs.Divisor.{multiple_of}
use Rattle.circle.specs.Stretches.{scaled, end_of, owner_of, end_after}

-- L is the least common multiple of both totals
unfoldable pub circle_units : List ℕ → List ℕ → ℕ
circle_units ss rs = multiple_of (total_of ss) (total_of rs)

-- A cluster's scale factor is L / D
unfoldable pub factor_of : ℕ → List ℕ → ℕ
factor_of l shares = l / total_of shares

-- Lay each cluster's scaled shares, member 0 first, on a circle of L units
unfoldable pub send_layout : List ℕ → List ℕ → List ℕ
send_layout ss rs = scaled (factor_of (circle_units ss rs) ss) ss

unfoldable pub receive_layout : List ℕ → List ℕ → List ℕ
receive_layout ss rs = scaled (factor_of (circle_units ss rs) rs) rs

-- the next stretch end in either layout
unfoldable pub next_end : List ℕ → List ℕ → ℕ → ℕ
next_end s r x = min (end_after s x) (end_after r x)

-- the next resend starts there; the circle goes round as often as needed: the first unit of the j-th resend after the one that starts at unit x
unfoldable pub walk_of : ℕ → List ℕ → List ℕ → ℕ → ℕ → ℕ
walk_of l s r x zero = x
walk_of l s r x (suc j) = next_end s r (walk_of l s r x j) % l

-- Resend 1 starts where the original sender's stretch ends (mod L)
unfoldable pub start_of : List ℕ → List ℕ → ℕ → ℕ
start_of ss rs i = end_of (send_layout ss rs) i % circle_units ss rs

-- the first unit of resend n, from 1, where the original sender is member i
unfoldable pub unit_of : List ℕ → List ℕ → ℕ → ℕ → ℕ
unit_of ss rs i n = walk_of (circle_units ss rs) (send_layout ss rs) (receive_layout ss rs) (start_of ss rs i) (n - 1)

-- A resend's ends are the owners of its first unit in the two layouts
unfoldable pub sender_of : List ℕ → List ℕ → ℕ → ℕ → ℕ
sender_of ss rs i n = owner_of (send_layout ss rs) (unit_of ss rs i n)

unfoldable pub receiver_of : List ℕ → List ℕ → ℕ → ℕ → ℕ
receiver_of ss rs i n = owner_of (receive_layout ss rs) (unit_of ss rs i n)

-- its run is the units up to the next stretch end in either layout
unfoldable pub run_of : List ℕ → List ℕ → ℕ → ℕ → ℕ
run_of ss rs i n = next_end (send_layout ss rs) (receive_layout ss rs) (unit_of ss rs i n) - unit_of ss rs i n

-- the runs of the resends before resend n, added up
unfoldable pub runs_before : List ℕ → List ℕ → ℕ → ℕ → ℕ
runs_before ss rs i n = sum_below (n - 1) (λ j. run_of ss rs i (j + 1))
