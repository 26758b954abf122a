-- Where none is due nothing is written; otherwise the bytes are 16 for each.
use Rattle.downstream.proofs.FormedLaws.{prefixes}
use Rattle.verdicts.proofs.WriteLaws.{none_count, none_put, counts_low, count_fits, count_told, all_put}
use borrow.Author.Rules.{rules}
use Rattle.verdicts.proofs.writing.write_verdicts.Goals as goal

pub returns-then-due-eq0 : goal.returns-then-due-eq0
returns-then-due-eq0 c = (search none_count, search none_put)

pub slice_bounds-ss-end : goal.slice_bounds-ss-end
slice_bounds-ss-end c = search prefixes

pub slice_bounds-verdicts_between-end : goal.slice_bounds-verdicts_between-end
slice_bounds-verdicts_between-end c = search prefixes

pub slice_bounds-rs-end : goal.slice_bounds-rs-end
slice_bounds-rs-end c = search prefixes

pub slice_bounds-verdicts_between-end-2 : goal.slice_bounds-verdicts_between-end-2
slice_bounds-verdicts_between-end-2 c = search prefixes

pub verdicts_between-bytes-requires : goal.verdicts_between-bytes-requires
verdicts_between-bytes-requires c = (search rules, search rules, search rules, search rules, search rules, search rules, search counts_low)

pub overflow_cast-result : goal.overflow_cast-result
overflow_cast-result c = search count_fits

pub returns : goal.returns
returns c = (search count_told, search all_put)
