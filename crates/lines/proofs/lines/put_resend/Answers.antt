-- The line is that of the resend that starts at the position.
use Rattle.lines.proofs.LineLaws.{step_end, step_put}
use Rattle.lines.proofs.SizeLaws.{short_lines}
use Rattle.lines.proofs.lines.put_resend.Goals as goal

pub put_line-requires : goal.put_line-requires
put_line-requires c = search short_lines

pub returns : goal.returns
returns c = (search step_end, search step_put)
