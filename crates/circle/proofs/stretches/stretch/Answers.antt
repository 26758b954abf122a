-- A scale factor times a share of 32 bits fits 64.
use Rattle.circle.proofs.PlaceLaws.{stretch_fits}
use borrow.Author.Rules.{rules}
use Rattle.circle.proofs.stretches.stretch.Goals as goal

pub overflow_mul-result : goal.overflow_mul-result
overflow_mul-result c = search (stretch_fits, rules)

pub returns : goal.returns
returns c = cc
