-- By the bits of all of them.
use Rattle.words.proofs.StraightLaws.{any_narrow}
use Rattle.words.proofs.SpanLaws.{any_told}
use borrow.Author.Rules.{rules}
use Rattle.words.proofs.straight.all_narrow.Goals as goal

pub returns : goal.returns
returns c = search (any_narrow, any_told, rules)
