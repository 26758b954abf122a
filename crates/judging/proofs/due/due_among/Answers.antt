-- Each return answers by the questions that were asked up to it.
use lib.ListN.{length}
use Rattle.downstream.proofs.FormedLaws.{prefixes}
use Rattle.downstream.proofs.RowLaws.{rows_cut, rows_long}
use Rattle.judging.proofs.DueLaws.{few_due, none_due, due_told}
use borrow.Author.Rules.{rules}
use Rattle.judging.proofs.due.due_among.Goals as goal

pub returns-then-against-from : goal.returns-then-against-from
returns-then-against-from c = let a = c.args in
    search (few_due a.shares.now a.u a.r a.numbers.now a.masks.now a.counts.now a.complaints.now a.p, rules)

pub returns-then-enough-eq0 : goal.returns-then-enough-eq0
returns-then-enough-eq0 c = let a = c.args in
    search (none_due a.shares.now a.u a.r a.numbers.now a.masks.now a.counts.now a.complaints.now a.p)

pub slice_bounds-lost_among-end : goal.slice_bounds-lost_among-end
slice_bounds-lost_among-end c = search prefixes

pub lost_among-requires : goal.lost_among-requires
lost_among-requires c = (search rules, search rows_long, search rules)

pub returns : goal.returns
returns c = let start = c in
    let a = start.args in
    let filled = c.fill_held.ensures in
    let enough = c.enough_among-enough.ensures in
    due_told a.shares.now a.u a.r a.numbers.now a.masks.now a.counts.now a.complaints.now a.p a.n _ start.requires.2 enough
    _ (rows_cut a.numbers.now a.masks.now a.p (length a.shares.now) _ _ filled) _ c.lost_among.ensures
