-- A quiet report changes itself and the point alone; any other is judged with the open messages.
use Rattle.steps.proofs.ReadyLaws.{ready_member, ready_number, ready_few, ready_point, ready_numbers, ready_before, ready_up, ready_stepping, heard_verdicts, heard_words, heard_out, heard_member}
use Rattle.steps.proofs.QuietLaws.{quiet_none, quiet_out, quiet_words}
use borrow.Author.Rules.{rules}
use Rattle.steps.proofs.stepping.take_report.Goals as goal

pub hearing_of-h-requires : goal.hearing_of-h-requires
hearing_of-h-requires c = search (ready_number, rules)

pub point_after-p-requires : goal.point_after-p-requires
point_after-p-requires c = (search (ready_member, rules), search rules, search (ready_few, rules), search (ready_point, rules), search (ready_numbers, rules), search (ready_before, rules), search (ready_up, rules))

pub put_report-requires : goal.put_report-requires
put_report-requires c = (search rules, search (heard_member, rules))

pub returns-then-is_quiet : goal.returns-then-is_quiet
returns-then-is_quiet c = (search (heard_verdicts, quiet_none, ready_stepping, rules), search (heard_words, quiet_words, ready_stepping, rules), search (heard_out, quiet_out, ready_stepping, rules))

pub judge_open-requires : goal.judge_open-requires
judge_open-requires c = (search (ready_stepping, rules), search rules)

pub returns : goal.returns
returns c = (search (heard_verdicts, rules), search (heard_words, rules), search (heard_out, rules))
