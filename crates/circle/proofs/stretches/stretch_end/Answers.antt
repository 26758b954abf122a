-- The end of a stretch is that of the scaled shares up to it.
use Rattle.circle.proofs.PlaceLaws.{product_fits, end_told}
use lib.ListN.{length-take}
use native.Mathlib.Omega.{arith}
use borrow.Author.Rules.{rules}
use Rattle.circle.proofs.stretches.stretch_end.Goals as goal

pub slice_bounds-total-end : goal.slice_bounds-total-end
slice_bounds-total-end c = simp length-take (omega arith)

pub total-share-requires : goal.total-share-requires
total-share-requires c = simp length-take (omega arith)

pub overflow_mul-result : goal.overflow_mul-result
overflow_mul-result c = search (product_fits, rules)

pub returns : goal.returns
returns c = search (end_told, rules)
