-- The shares are copied over the first zeros, and the rest stay.
use Rattle.window.proofs.OpenLaws.{places_told}
use borrow.Author.Rules.{rules}
use Rattle.window.proofs.opening.places.Goals as goal

pub returns : goal.returns
returns c = search (places_told, rules)
