use mathlib.Core.Path.{sym, ◌∙◌}
use native.Mathlib.Omega.{arith}
use Rattle.circle.proofs.EuclidLaws.{divisor_zero, divisor_step}
use Rattle.circle.proofs.euclid.+divisor.Goals as goal

pub returns-then-b-eq0 : goal.returns-then-b-eq0
returns-then-b-eq0 t c = rw (c.if-b-eq0.true, divisor_zero)

pub returns-else-b-eq0 : goal.returns-else-b-eq0
returns-else-b-eq0 t c = c.divisor.ensures ∙ sym (divisor_step _ _ (omega arith))
