-- Of a well-formed state the report itself is asked.
use Rattle.steps.proofs.RefusalLaws.{words_given}
use borrow.Author.Rules.{rules}
use Rattle.steps.proofs.refusing.report_refusal.Goals as goal

pub returns : goal.returns
returns c = search (words_given, rules)
