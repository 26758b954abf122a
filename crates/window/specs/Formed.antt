-- When a state is well formed. Assumes nothing.
use Rattle.std.specs.Prelude.{Bool, ◌&&◌}
use Rattle.basics.specs.Ranges.{is_quantum}
use Rattle.downstream.specs.Formed.{cluster_kept, downstream_kept}
use Rattle.window.specs.declared.state.Window.{Window}

-- both clusters are accepted, the quantum is allowed, and all that belongs to the receiving cluster is kept
unfoldable pub well_formed : Window → Bool
well_formed w = cluster_kept w.sending && is_quantum w.quantum && downstream_kept w.downstream w.sent
