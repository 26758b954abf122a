-- Two digits behind two.
use Rattle.lines.proofs.DigitLaws.{four_put}
use Rattle.lines.proofs.digits.put_four.Goals as goal

pub returns : goal.returns
returns c = search four_put
