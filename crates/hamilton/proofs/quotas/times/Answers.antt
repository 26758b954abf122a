-- A product of an allowed share and an allowed quantum fits 32 bits.
use Rattle.hamilton.proofs.CountLaws.{product}
use Rattle.hamilton.proofs.quotas.times.Goals as goal

pub overflow_mul-result : goal.overflow_mul-result
overflow_mul-result c = search product
