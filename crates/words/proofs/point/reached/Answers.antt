use Prim.Native.Nat.{◌+◌, ◌-◌}
use Rattle.basics.proofs.SumLaws.{sums}
use Rattle.words.proofs.FitLaws.{none_at}
use Rattle.words.proofs.SpanLaws.{part_le}
use Rattle.words.proofs.PointLaws.{reached_turn, reached_few, reached_fits, reached_low, reached_done}
use native.Mathlib.Omega.{arith}
use borrow.Author.Rules.{rules}
use Rattle.words.proofs.point.reached.Goals as goal

pub loop-i-init : goal.loop-i-init
loop-i-init c = (search sums, search rules)

pub reached_bits-requires : goal.reached_bits-requires
reached_bits-requires c = (search (none_at, part_le, rules), search rules)

pub overflow_add-sum : goal.overflow_add-sum
overflow_add-sum c = search (reached_fits, rules)

pub loop-i-preserved : goal.loop-i-preserved
loop-i-preserved c =
    let l = c.loop-i in
    let k = 70 + c.args.n - 70 in
    (reached_turn c.args.words.now k c.args.n c.args.g l.i l.sum (omega arith) c.requires.1 c.loop-i-test.true c.reached_bits.result l.invariant.0 c.reached_bits.ensures, search (reached_few, rules))

pub returns : goal.returns
returns c =
    let l = c.loop-i in
    let k = 70 + c.args.n - 70 in
    (reached_done c.args.words.now k c.args.n c.args.g l.i l.sum (omega arith) c.requires.0 (omega arith) l.invariant.0 (search rules) c.loop-i-test.false, search (reached_low, rules))
