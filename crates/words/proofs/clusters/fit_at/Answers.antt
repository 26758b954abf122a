-- Shares above 32 bits are refused first, so that no sum wraps.
use Rattle.words.proofs.ClusterLaws.{fit_wide}
use Rattle.basics.proofs.BoolLaws.{told}
use borrow.Author.Tests.{not-true, not-false}
use borrow.Author.Rules.{rules}
use Rattle.words.proofs.clusters.fit_at.Goals as goal

pub returns-then-not-all_narrow : goal.returns-then-not-all_narrow
returns-then-not-all_narrow c = search (fit_wide, not-true, rules)

pub shares_fit-shares-requires : goal.shares_fit-shares-requires
shares_fit-shares-requires c = (search rules, search rules, search (told, not-false, rules))

pub bounds_fit-bounds-requires : goal.bounds_fit-bounds-requires
bounds_fit-bounds-requires c = (search rules, search rules, search (told, not-false, rules))

pub returns : goal.returns
returns c = cc
