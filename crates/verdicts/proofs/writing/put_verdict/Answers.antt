-- Five parts, each behind the one before it.
use Rattle.verdicts.proofs.WriteLaws.{put_verdict}
use Rattle.verdicts.proofs.writing.put_verdict.Goals as goal

pub returns : goal.returns
returns c = search put_verdict
