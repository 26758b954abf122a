-- The digits, and the byte behind them.
use Rattle.lines.proofs.LineLaws.{number_fits_in, field_room, field_fits, field_end, field_put}
use borrow.Author.Rules.{rules}
use Rattle.lines.proofs.text.put_field.Goals as goal

pub put_number-next-requires : goal.put_number-next-requires
put_number-next-requires c = search number_fits_in

pub bounds-out-next : goal.bounds-out-next
bounds-out-next c = search (field_room, rules)

pub overflow_add-result : goal.overflow_add-result
overflow_add-result c = search (field_fits, rules)

pub returns : goal.returns
returns c = (search field_end, search field_put)
