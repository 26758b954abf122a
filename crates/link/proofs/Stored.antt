-- A well-formed state that a unit wrote to its disk is judged well formed when it is read back. Assumes nothing.
use mathlib.Core.Path.{◌≡◌}
use mathlib.Core.Bool.{true}
use Rattle.window.specs.declared.state.Window.{Window}
use Rattle.window.specs.Formed.{well_formed}
use Rattle.words.specs.Taken.{formed_in}
use Rattle.words.specs.Put.{words_of}
use Rattle.words.proofs.RoundTrip.{Placed, taken_back}
use Rattle.words.proofs.FormedFits.{formed_fits}
use Rattle.link.specs.Windows.{judge_number}

pub stored_formed : (w : Window) → Placed w → well_formed w ≡ true → judge_number (words_of w) ≡ 0
unfolding judge_number formed_in
stored_formed w p h = simp (formed_fits w p h, taken_back w p, h)
