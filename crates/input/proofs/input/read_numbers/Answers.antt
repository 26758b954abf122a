-- Each number is the definition's.
use Rattle.input.specs.Input.{numbers_of}
use Rattle.input.proofs.input.read_numbers.Goals as goal

pub returns : goal.returns
unfolding numbers_of
returns c = cc
