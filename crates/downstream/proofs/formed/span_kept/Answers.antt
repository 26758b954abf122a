-- S is held against the limit first, then p against S: no sum can wrap.
use Rattle.downstream.proofs.FormedLaws.{span_high, span_low, span_near}
use Rattle.downstream.proofs.formed.span_kept.Goals as goal

pub returns-then-s-gt1000000000000 : goal.returns-then-s-gt1000000000000
returns-then-s-gt1000000000000 c = search span_high

pub returns-then-s-p : goal.returns-then-s-p
returns-then-s-p c = search span_low

pub returns : goal.returns
returns c = search span_near
