-- Every clause is judged by its own function.
use Rattle.window.proofs.FormedLaws.{formed_told}
use Rattle.window.proofs.state.Window.well_formed.Goals as goal

pub returns : goal.returns
returns c = search formed_told
