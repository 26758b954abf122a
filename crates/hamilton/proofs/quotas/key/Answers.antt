-- A remainder is below what it is divided by.
use native.Mathlib.Nat.{mod-lt}
use native.Mathlib.Omega.{arith}
use borrow.Author.Rules.{rules}
use Rattle.hamilton.proofs.quotas.key.Goals as goal

pub overflow_sub-result : goal.overflow_sub-result
overflow_sub-result c = omega (arith, mod-lt c.args.product {m = c.args.d} (search rules))
