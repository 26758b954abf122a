-- The member's share is counted where the test holds of its place.
use Rattle.std.proofs.Common.{◌≡◌, true, false, sym, ◌∙◌, arith}
use Rattle.basics.proofs.SumLaws.{sum_start, sum_turn, sum_done}
use Rattle.shares.specs.Shares.{share_of}
use borrow.Author.Rules.{rules}
use Rattle.shares.proofs.totals.share_where.Goals as goal
use Rattle.shares.proofs.totals.share_where.Goals.{then-holds, else-holds}

pub loop-i-init : goal.loop-i-init
loop-i-init g c = ((λ p h. sum_start _), omega arith)

pub loop-i-preserved : goal.loop-i-preserved
loop-i-preserved g c = (
  (λ p h. sum_turn _ (c.loop-i.invariant.0 p h) (
      let q : c.holds.result ≡ p c.loop-i.i = h _ _ c.loop-i-test.true c.holds.ensures in
      elim c.if-holds.branch [
        | then-holds w ↦ (let e : p c.loop-i.i ≡ true = sym q ∙ w.if-holds.true in simp e (search rules))
        | else-holds w ↦ (let e : p c.loop-i.i ≡ false = sym q ∙ w.if-holds.false in simp e (search rules))
      ])),
  elim c.if-holds.branch [ then-holds w ↦ omega arith | else-holds w ↦ omega arith ],
)

pub returns-clause-value : goal.returns-clause-value
unfolding share_of
returns-clause-value g c = λ p h. sum_done _ (c.loop-i.invariant.0 p h) (omega arith) (omega arith)
