-- Each test is the definition's.
use Rattle.steps.proofs.HearLaws.{not_content, content}
use borrow.Author.Rules.{rules}
use borrow.Author.Tests.{not-true, not-false}
use Rattle.steps.proofs.hearing.is_quiet.Goals as goal

pub returns-then-not-content : goal.returns-then-not-content
returns-then-not-content c = search (not_content, not-true, rules)

pub returns : goal.returns
returns c = search (content, not-false, rules)
