-- The first change at o or after it is as far on as the complement's marks run.
use Rattle.downstream.proofs.RowLaws.{steady_found}
use borrow.Author.Rules.{rules}
use Rattle.downstream.proofs.rows.steady_until.Goals as goal

pub returns : goal.returns
returns c = search (steady_found, rules)
