-- Whether a state is well formed, from what the code knows, and what a well formed state says. Assumes nothing.
use mathlib.Core.Path.{◌≡◌}
use mathlib.Core.Bool.{Bool, true, ◌&&◌}
use Rattle.basics.specs.Ranges.{is_quantum}
use Rattle.basics.proofs.BoolLaws.{and_left, and_right}
use Rattle.downstream.specs.Formed.{cluster_kept, downstream_kept}
use Rattle.window.specs.declared.state.Window.{Window}
use Rattle.window.specs.Formed.{well_formed}

pub formed_told : (w : Window) (a b c : Bool) → a ≡ cluster_kept w.sending → b ≡ is_quantum w.quantum → c ≡ downstream_kept w.downstream w.sent → (a && b && c) ≡ well_formed w
unfolding well_formed
formed_told w a b c e f g = cc

module _ (w : Window) (h : well_formed w ≡ true) where
  pub formed_down : downstream_kept w.downstream w.sent ≡ true
  unfolding well_formed
  formed_down = and_right (cluster_kept w.sending && is_quantum w.quantum) (downstream_kept w.downstream w.sent) h

  pub formed_sending : cluster_kept w.sending ≡ true
  unfolding well_formed
  formed_sending = and_left (cluster_kept w.sending) (is_quantum w.quantum) (and_left (cluster_kept w.sending && is_quantum w.quantum) (downstream_kept w.downstream w.sent) h)

  pub formed_quantum : is_quantum w.quantum ≡ true
  unfolding well_formed
  formed_quantum = and_right (cluster_kept w.sending) (is_quantum w.quantum) (and_left (cluster_kept w.sending && is_quantum w.quantum) (downstream_kept w.downstream w.sent) h)
