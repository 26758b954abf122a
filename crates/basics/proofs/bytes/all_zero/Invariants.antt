-- `all_zero` gathers the bits of every byte. The invariant: all bytes are zero exactly where the gathered bits and the bytes from this one on are.
use Rattle.std.proofs.Common.{◌≡◌, ◌&&◌, drop}
use lib.Dec.{eqb}
use Rattle.basics.specs.Bytes.{all_zero}
use Rattle.basics.proofs.bytes.all_zero.Given as goal

abbrev pub invariant-loop-b : goal.invariant-loop-b
invariant-loop-b l = (eqb l.bits 0 && all_zero (drop l.b-index l.part)) ≡ all_zero l.part
