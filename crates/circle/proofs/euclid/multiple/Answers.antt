-- A common divisor is not 0, and the part of a times b is at most a times b.
use Rattle.circle.proofs.EuclidLaws.{divisor_told, part_fits, multiple_told}
use Rattle.circle.proofs.euclid.multiple.Goals as goal

pub nonzero_div-result : goal.nonzero_div-result
nonzero_div-result c = search divisor_told

pub overflow_mul-result : goal.overflow_mul-result
overflow_mul-result c = search part_fits

pub returns : goal.returns
returns c = search multiple_told
