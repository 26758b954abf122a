-- The invariant: the set is that of the first o messages after p that enough complain of, and the remembered share is that of the remembered set.
use mathlib.Core.Path.{◌≡◌}
use Rattle.marks.specs.Masks.{is_marked, set_below}
use Rattle.shares.specs.Shares.{share_of}
use Rattle.judging.specs.Verdicts.{enough_against}
use Rattle.judging.proofs.against.enough_among.Given as goal

abbrev pub invariant-loop-o : goal.invariant-loop-o
invariant-loop-o l = (l.last.share ≡ share_of l.shares (is_marked l.last.members)) × (l.set ≡ set_below l.o (enough_against l.shares l.r l.counts l.complaints l.p))
