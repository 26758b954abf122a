-- The counts in the local array, cut to the members, are those of the sending cluster, and fill the quantum. The columns of the table are made
-- with no step in them.
use Rattle.circle.proofs.TableLaws.{no_steps}
use Rattle.deal.proofs.PairLaws.{slot_fits, slot_below, places_few, places_whole}
use Rattle.verdicts.proofs.WriteLaws.{counts_cut, counts_ready}
use borrow.Author.Rules.{rules}
use Rattle.verdicts.proofs.writing.verdicts_between.Goals as goal

pub fill_turn-count-requires : goal.fill_turn-count-requires
fill_turn-count-requires c = (search rules, search rules, search no_steps)

pub slice_bounds-at-end : goal.slice_bounds-at-end
slice_bounds-at-end c = search (counts_cut, rules)

pub overflow_cast-p : goal.overflow_cast-p
overflow_cast-p c = search slot_fits

pub at-dealer-requires : goal.at-dealer-requires
at-dealer-requires c = (search (places_few, rules), search (places_whole, rules), search (slot_below, rules))

pub put_verdicts-requires-clause-ready : goal.put_verdicts-requires-clause-ready
put_verdicts-requires-clause-ready c =
    let d = c.at-dealer.ensures in
    (rw (d.0, d.1) (search counts_ready), rw d.1 d.2)
