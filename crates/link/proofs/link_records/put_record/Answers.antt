-- Case by case.
use Rattle.link.proofs.RecordLaws.{of_unused, of_report, of_arrival, of_private}
use borrow.Author.Rules.{rules}
use Rattle.link.proofs.link_records.put_record.Goals as goal

pub returns-in-Unused : goal.returns-in-Unused
returns-in-Unused c = search (of_unused, rules)

pub returns-in-Report : goal.returns-in-Report
returns-in-Report c = search (of_report, rules)

pub returns-in-Arrival : goal.returns-in-Arrival
returns-in-Arrival c = search (of_arrival, rules)

pub returns-in-Private : goal.returns-in-Private
returns-in-Private c = search (of_private, rules)
