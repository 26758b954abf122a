-- A cluster without members has none that are past its end.
use Rattle.words.proofs.ClusterLaws.{clusters}
use Rattle.words.proofs.clusters.cluster_kept.Goals as goal

pub returns-then-members-lt1 : goal.returns-then-members-lt1
returns-then-members-lt1 c = search clusters

pub returns-then-members-gt64 : goal.returns-then-members-gt64
returns-then-members-gt64 c = search clusters

pub returns : goal.returns
returns c = search clusters
