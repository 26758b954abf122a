-- By the point, or by the counts.
use Rattle.steps.proofs.HearLaws.{kept_point, moved_point}
use borrow.Author.Rules.{rules}
use Rattle.steps.proofs.hearing.none_emptied.Goals as goal

pub returns-then-p-words : goal.returns-then-p-words
returns-then-p-words c = search (kept_point, rules)

pub returns : goal.returns
returns c = search (moved_point, rules)
