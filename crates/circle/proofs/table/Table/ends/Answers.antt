-- From the table where it has the start, and by the walk elsewhere.
use Rattle.circle.proofs.TableLaws.{table_told, ends_told}
use Rattle.circle.proofs.table.Table.ends.Goals as goal

pub returns-then-begin-self : goal.returns-then-begin-self
returns-then-begin-self c = search table_told

pub returns : goal.returns
returns c = search ends_told
