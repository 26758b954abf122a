-- A record of the kind whose second number is zero.
use Rattle.input.proofs.RecordLaws.{reading}
use borrow.Author.Rules.{rules}
use Rattle.input.proofs.input.is_share.Goals as goal

pub number_at-requires : goal.number_at-requires
number_at-requires c = (search reading, search rules)

pub returns-then-is_kind : goal.returns-then-is_kind
returns-then-is_kind c = search reading

pub returns : goal.returns
returns c = search reading
