-- Either arm of the test, against `cond`.
use Rattle.circle.proofs.TableLaws.{begin_here, begin_before}
use Rattle.circle.proofs.table.begin_at.Goals as goal

pub returns-then-at-whole : goal.returns-then-at-whole
returns-then-at-whole c = search begin_here

pub returns-else-at-whole : goal.returns-else-at-whole
returns-else-at-whole c = search begin_before
