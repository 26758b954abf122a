-- The invariant: whatever test it is that holds, `sum` is that of the members before place i for which it does, and each share has 32 bits.
use Rattle.std.proofs.Common.{◌≡◌, ℕ, Bool, cond, ◌*◌, ◌≤◌, length, get_or}
use Rattle.basics.specs.Sums.{sum_below}
use Rattle.shares.specs.Shares.{Tells}
use Rattle.shares.proofs.totals.share_where.Given as goal

abbrev pub invariant-loop-i : goal.invariant-loop-i
invariant-loop-i g l =
    ((p : ℕ → Bool) → Tells (goal.F-post g l.holds) (length l.shares) p → l.sum ≡ sum_below l.i (λ j. cond (p j) (get_or l.shares j 0) 0))
    × (l.sum ≤ l.i * 4294967295)
