-- The words, and the number behind them.
use Rattle.lines.proofs.LineLaws.{refused_parts, refused_end, both_put}
use Rattle.lines.proofs.SizeLaws.{refused_number_room, refused_room}
use Rattle.lines.proofs.lines.put_refused.Goals as goal

pub put_field-requires : goal.put_field-requires
put_field-requires c = search refused_number_room

pub returns : goal.returns
returns c = let w = rw c.from.ensures at c.put_field.ensures in (search refused_end, search (both_put, refused_parts, refused_room))
