-- One part for either limit.
use Rattle.words.proofs.ClusterLaws.{share_told}
use borrow.Author.Rules.{rules}
use Rattle.words.proofs.clusters.share_off.Goals as goal

pub returns : goal.returns
returns c = search (share_told, rules)
