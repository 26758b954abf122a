-- Only the entries change, each by its own step.
use mathlib.Core.Bool.{cond}
use Prim.Native.Nat.{ℕ}
use Rattle.downstream.specs.declared.state.Entry.{Entry}
use Rattle.marks.specs.Masks.{is_marked}
use Rattle.judging.specs.Verdicts.{raised_entry}
use Rattle.judging.proofs.StepLaws.{judged_told}
use borrow.Author.Rules.{rules}
use Rattle.judging.proofs.due.judged.Goals as goal

pub returns : goal.returns
returns c =
    let step = λ (o : ℕ) (e : Entry). cond (is_marked c.args.due o) (raised_entry e) e in
    let entries = c.entries_after-entries.ensures step (λ o e r l k. search rules) in
    search judged_told
