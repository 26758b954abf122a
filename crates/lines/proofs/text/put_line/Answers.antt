-- One field behind another.
use Rattle.lines.proofs.LineLaws.{line_room, line_room_2, line_room_3, line_room_4, line_end, line_put}
use Rattle.lines.proofs.text.put_line.Goals as goal

pub put_field-a-requires : goal.put_field-a-requires
put_field-a-requires c = search line_room

pub put_field-b-requires : goal.put_field-b-requires
put_field-b-requires c = search line_room_2

pub put_field-c-requires : goal.put_field-c-requires
put_field-c-requires c = search line_room_3

pub put_field-requires : goal.put_field-requires
put_field-requires c = search line_room_4

pub returns : goal.returns
returns c = (search line_end depth 9, search line_put depth 9)
