use Rattle.lines.proofs.DigitLaws.{long_front, long_room, long_fits, long_end, long_put}
use borrow.Author.Rules.{rules}
use Rattle.lines.proofs.digits.+put_long.Goals as goal

pub put_long-next-requires : goal.put_long-next-requires
put_long-next-requires t c = search (long_front, rules)

pub put_four-requires : goal.put_four-requires
put_four-requires t c = search (long_room, rules)

pub overflow_add-result : goal.overflow_add-result
overflow_add-result t c = search (long_fits, rules)

pub returns : goal.returns
returns t c = (search long_end, search long_put)
