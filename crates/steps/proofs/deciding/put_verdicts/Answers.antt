-- The clusters and q in the words are those of the well-formed state.
use Rattle.downstream.proofs.FormedLaws.{prefixes}
use Rattle.steps.proofs.VerdictLaws.{formed_low, sends_few, sends_sized, sends_deals, receives_few, receives_sized, verdicts_told, verdicts_put, verdicts_few}
use borrow.Author.Rules.{rules}
use Rattle.steps.proofs.deciding.put_verdicts.Goals as goal

pub slice_bounds-ss-end : goal.slice_bounds-ss-end
slice_bounds-ss-end c = search (sends_few, prefixes)

pub slice_bounds-verdicts_between-end : goal.slice_bounds-verdicts_between-end
slice_bounds-verdicts_between-end c = search (sends_few, prefixes)

pub slice_bounds-rs-end : goal.slice_bounds-rs-end
slice_bounds-rs-end c = search (receives_few, prefixes)

pub slice_bounds-verdicts_between-end-2 : goal.slice_bounds-verdicts_between-end-2
slice_bounds-verdicts_between-end-2 c = search (receives_few, prefixes)

pub verdicts_between-bytes-requires : goal.verdicts_between-bytes-requires
verdicts_between-bytes-requires c = (search rules, search (sends_sized, rules), search (receives_sized, rules), search (sends_deals, rules), search (formed_low, rules), search rules, search rules)

pub overflow_cast-result : goal.overflow_cast-result
overflow_cast-result c = search (verdicts_few, rules)

pub returns : goal.returns
returns c = (search (verdicts_told, rules), search (verdicts_put, rules))
