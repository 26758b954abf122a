-- The report is stored first; point, complaints and entries are then those of the definition.
use Prim.Native.Nat.{◌-◌, ◌≤◌}
use Rattle.downstream.specs.State.{report_at}
use Rattle.judging.specs.Complaints.{complained_entry, is_again}
use Rattle.judging.proofs.StepLaws.{taking, take_told}
use borrow.Author.Rules.{rules}
use Rattle.judging.proofs.complaints.taken.Goals as goal

pub overflow_sub-s : goal.overflow_sub-s
overflow_sub-s c = search taking

pub entries_after-entries-requires-clause-near : goal.entries_after-entries-requires-clause-near
entries_after-entries-requires-clause-near c = (search taking, search taking)

pub entries_after-entries-requires-clause-steps : goal.entries_after-entries-requires-clause-steps
entries_after-entries-requires-clause-steps c =
    let low : c.point_from-p.result ≤ 1000000000000 = search taking in
    let near : c.args.s - c.point_from-p.result ≤ 64 = search taking in
    λ o l. search rules

pub returns : goal.returns
returns c =
    let a = c.args in
    let heard = complained_entry a.i a.c a.mask (is_again (report_at a.d.reports a.i) a.c) c.point_from-p.result in
    let entries = c.entries_after-entries.ensures heard (λ o e r l k. search rules) in
    search take_told
