-- The counts in the local array, cut to the members, are the cluster's counts, and fill the quantum.
use Rattle.deal.proofs.PairLaws.{places_cut, places_few, places_whole}
use borrow.Author.Rules.{rules}
use Rattle.deal.proofs.pairs.owner.Goals as goal

pub slice_bounds-at-end : goal.slice_bounds-at-end
slice_bounds-at-end c = search (places_cut, rules)

pub at-dealer-requires : goal.at-dealer-requires
at-dealer-requires c = (search (places_few, rules), search (places_whole, rules), search rules)
