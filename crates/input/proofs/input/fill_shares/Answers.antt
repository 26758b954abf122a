use Rattle.input.proofs.RecordLaws.{copying}
use Rattle.input.proofs.input.fill_shares.Goals as goal

pub loop-j-init : goal.loop-j-init
loop-j-init c = search copying

pub loop-j-preserved : goal.loop-j-preserved
loop-j-preserved c = search copying

pub returns : goal.returns
returns c = search copying
