-- What the report holds takes the member out; a gap or a repeat puts it in; otherwise the set stays.
use borrow.Author.Rules.{rules}
use Rattle.judging.proofs.ComplaintLaws.{complaint_out, complaint_in, complaint_none}
use Rattle.judging.proofs.complaints.complaints_after.Goals as goal

pub returns-then-holds : goal.returns-then-holds
returns-then-holds c = search (complaint_out, rules)

pub returns-then-gap-repeat : goal.returns-then-gap-repeat
returns-then-gap-repeat c = search (complaint_in, rules)

pub returns : goal.returns
returns c = search complaint_none
