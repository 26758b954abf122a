-- Above the total no u bears anything; up to it no sum wraps.
use Rattle.words.proofs.ClusterLaws.{bounds_far, bounds_lies, bounds_near}
use borrow.Author.Rules.{rules}
use Rattle.words.proofs.clusters.bounds_fit.Goals as goal

pub returns-then-d-u : goal.returns-then-d-u
returns-then-d-u c = search (bounds_far, rules)

pub returns-then-u-r : goal.returns-then-u-r
returns-then-u-r c = search (bounds_lies, rules)

pub returns : goal.returns
returns c = search (bounds_near, rules)
