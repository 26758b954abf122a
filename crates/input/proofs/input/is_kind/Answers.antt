-- The kind and the three zeros of a record that is there; past the last record there is none.
use Rattle.input.proofs.RecordLaws.{reading}
use Rattle.input.proofs.input.is_kind.Goals as goal

pub returns-then-i-s : goal.returns-then-i-s
returns-then-i-s c = search reading

pub returns : goal.returns
returns c = search reading
