-- A part of 64 words is a column.
use Rattle.words.proofs.SpanLaws.{column_told}
use borrow.Author.Rules.{rules}
use Rattle.words.proofs.judgement.column_at.Goals as goal

pub returns : goal.returns
returns c = search (column_told, rules)
