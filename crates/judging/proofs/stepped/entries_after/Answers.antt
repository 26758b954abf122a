use borrow.Author.Rules.{rules}
use Rattle.judging.proofs.PlaceLaws.{entries_start, entries_turn}
use Rattle.judging.proofs.stepped.entries_after.Goals as goal

pub loop-o-init : goal.loop-o-init
loop-o-init g c = λ f h. search (entries_start f c.args.p c.args.entries, rules)

pub loop-o-preserved : goal.loop-o-preserved
loop-o-preserved g c = λ f h.
    entries_turn f c.args.p c.args.entries c.loop-o.o c.args.n c.loop-o-test.true (search rules) (c.loop-o.invariant f h) (h _ _ _ c.loop-o-test.true c.step.ensures)
