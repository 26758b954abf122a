-- An input in the right order has the records that are read, and its shares are copied whole.
use Rattle.input.proofs.BuildLaws.{records_in, record_in, few_shares, record_fits, sending_cut, receiving_cut}
use Rattle.planner.proofs.PlanLaws.{built_end, built_put}
use borrow.Author.Rules.{rules}
use Rattle.planner.proofs.planning.put_built.Goals as goal

pub fill_shares-requires : goal.fill_shares-requires
fill_shares-requires c = (search (records_in, rules), search (few_shares, rules))

pub overflow_add-a : goal.overflow_add-a
overflow_add-a c = search (record_fits, rules)

pub fill_shares-requires-2 : goal.fill_shares-requires-2
fill_shares-requires-2 c = (search (records_in, rules), search (few_shares, rules))

pub read_numbers-x-requires : goal.read_numbers-x-requires
read_numbers-x-requires c = search (record_in, rules)

pub slice_bounds-ss-end : goal.slice_bounds-ss-end
slice_bounds-ss-end c = search (few_shares, rules)

pub slice_bounds-put_asked-end : goal.slice_bounds-put_asked-end
slice_bounds-put_asked-end c = search sending_cut

pub slice_bounds-rs-end : goal.slice_bounds-rs-end
slice_bounds-rs-end c = search (few_shares, rules)

pub slice_bounds-put_asked-end-2 : goal.slice_bounds-put_asked-end-2
slice_bounds-put_asked-end-2 c = search receiving_cut

pub returns : goal.returns
returns c = (search built_end, search built_put)
