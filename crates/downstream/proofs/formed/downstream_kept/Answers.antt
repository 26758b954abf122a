-- The span and the cluster are judged first, so that no sum wraps; then every other clause.
use Rattle.downstream.proofs.FormedLaws.{downs, down_judged}
use Rattle.downstream.proofs.formed.downstream_kept.Goals as goal

pub returns-then-not-span_kept : goal.returns-then-not-span_kept
returns-then-not-span_kept c = search downs

pub returns-then-not-cluster_kept : goal.returns-then-not-cluster_kept
returns-then-not-cluster_kept c = search downs

pub point_kept-point-requires : goal.point_kept-point-requires
point_kept-point-requires c = (search downs, search downs)

pub entries_kept-open-requires : goal.entries_kept-open-requires
entries_kept-open-requires c = (search downs, search downs)

pub returns : goal.returns
returns c = search (down_judged, downs)
