-- The last two digits behind the others.
use Rattle.lines.proofs.DigitLaws.{few_front, few_room, few_end, few_fits, few_put}
use borrow.Author.Rules.{rules}
use Rattle.lines.proofs.digits.put_few.Goals as goal

pub put_short-next-requires : goal.put_short-next-requires
put_short-next-requires c = search (few_front, rules)

pub put_pair-requires : goal.put_pair-requires
put_pair-requires c = search (few_room, rules)

pub overflow_add-result : goal.overflow_add-result
overflow_add-result c = search (few_fits, rules)

pub returns : goal.returns
returns c = (search few_end, search few_put)
