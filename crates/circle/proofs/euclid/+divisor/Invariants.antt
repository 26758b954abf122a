-- The two clauses of Euclid's rule; the measure is the second argument, and a remainder is smaller.
use Rattle.circle.proofs.euclid.+divisor.Given as goal

abbrev pub decreases-divisor : goal.decreases-divisor
decreases-divisor l = l.b
