-- The three parts of a record, one after another.
use Rattle.records.proofs.WriteLaws.{put_record}
use Rattle.records.proofs.writing.put_record.Goals as goal

pub returns : goal.returns
returns c = search put_record
