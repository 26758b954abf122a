-- It fits, by what is asked of the words.
use Rattle.words.proofs.FitLaws.{narrow_at}
use borrow.Author.Rules.{rules}
use Rattle.words.proofs.taking.quantum_in.Goals as goal

pub overflow_cast-result : goal.overflow_cast-result
overflow_cast-result c = search (narrow_at, rules)
