-- By the bits of all of them.
use Rattle.words.proofs.StraightLaws.{any_flag}
use Rattle.words.proofs.SpanLaws.{any_told}
use borrow.Author.Rules.{rules}
use Rattle.words.proofs.reports.flags_fit.Goals as goal

pub returns : goal.returns
returns c = search (any_flag, any_told, rules)
