-- The header, and the line of the first copy behind it.
use Rattle.lines.proofs.LineLaws.{head_parts, head_end, both_put}
use Rattle.lines.proofs.SizeLaws.{copy_room, head_room}
use borrow.Author.Rules.{rules}
use Rattle.lines.proofs.lines.put_head.Goals as goal

pub put_line-requires : goal.put_line-requires
put_line-requires c = search (copy_room, rules)

pub returns : goal.returns
returns c = let w = rw (c.from-sender.ensures, c.from-receiver.ensures) at c.put_line.ensures in (search head_end, search (both_put, head_parts, head_room))
