-- `put_number` stores the lowest byte first. The invariant: the bytes before this one are those of the number, and what is left of it is to come.
use Rattle.std.proofs.Common.{◌≡◌, ◌/◌, ◌^◌, ◌++◌, drop}
use Rattle.basics.specs.Bytes.{le_bytes}
use Rattle.basics.proofs.bytes.put_number.Given as goal

abbrev pub invariant-loop-b : goal.invariant-loop-b
invariant-loop-b l = (l.rest ≡ l.x / 256 ^ l.b-index) × (l.out ≡ le_bytes l.b-index l.x ++ drop l.b-index l.initial.out)
