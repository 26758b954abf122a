-- The report as it is heard.
use Rattle.steps.proofs.HearLaws.{hearing_told}
use borrow.Author.Rules.{rules}
use Rattle.steps.proofs.hearing.hearing_of.Goals as goal

pub returns : goal.returns
returns c = search (hearing_told, rules)
