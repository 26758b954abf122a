-- Four bytes of a record that is there, which 32 bits hold.
use Rattle.input.proofs.RecordLaws.{reading}
use Rattle.input.proofs.input.number_at.Goals as goal

pub overflow_cast-result : goal.overflow_cast-result
overflow_cast-result c = search reading

pub returns : goal.returns
returns c = search reading
