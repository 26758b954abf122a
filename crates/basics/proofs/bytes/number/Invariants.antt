-- `number` reads the bytes from the highest down. The invariant: what is read so far is the number of the last bytes, as many as are read.
use Rattle.std.proofs.Common.{◌≡◌, ◌-◌, length, drop}
use Rattle.basics.specs.Bytes.{le_of}
use Rattle.basics.proofs.bytes.number.Given as goal

abbrev pub invariant-loop-b : goal.invariant-loop-b
invariant-loop-b l = l.x ≡ le_of (drop (length l.part - length l.yielded) l.part)
