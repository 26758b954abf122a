-- A word that says neither that a member has reported nor that it has not is refused; of the others the two clusters, q and all that belongs to the receiving cluster are judged.
use Rattle.words.proofs.JudgeLaws.{formed_unfit, formed_wide, formed_told}
use Rattle.basics.proofs.BoolLaws.{told}
use borrow.Author.Tests.{not-true, not-false}
use borrow.Author.Rules.{rules}
use Rattle.words.proofs.judgement.formed.Goals as goal

pub returns-then-not-flags_fit : goal.returns-then-not-flags_fit
returns-then-not-flags_fit c = search (formed_unfit, not-true, rules)

pub returns-then-quantum-gt4294967295 : goal.returns-then-quantum-gt4294967295
returns-then-quantum-gt4294967295 c = search (formed_wide, rules)

pub downstream_kept-kept-requires : goal.downstream_kept-kept-requires
downstream_kept-kept-requires c = search (told, not-false, rules)

pub returns : goal.returns
returns c = search (formed_told, not-false, rules)
