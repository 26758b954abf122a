-- Each answer is that of the first check that fails.
use Rattle.window.specs.Sending.{next_refusal}
use Rattle.basics.proofs.CheckLaws.{checks}
use borrow.Author.Rules.{rules}
use Rattle.window.proofs.sending.next_refusal.Goals as goal

pub returns-then-not-is_message : goal.returns-then-not-is_message
unfolding next_refusal
returns-then-not-is_message c = search (checks, rules)

pub returns-then-k-sent : goal.returns-then-k-sent
unfolding next_refusal
returns-then-k-sent c = search (checks, rules)

pub returns-then-point-k : goal.returns-then-point-k
unfolding next_refusal
returns-then-point-k c = search (checks, rules)

pub returns : goal.returns
unfolding next_refusal
returns c = search (checks, rules)
