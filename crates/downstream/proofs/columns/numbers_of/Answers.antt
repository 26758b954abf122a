-- The closure reads one field, so each place of the column is that field of the element there.
use Rattle.std.proofs.Common.{rules}
use Rattle.basics.proofs.SumLaws.{list_is}
use Rattle.downstream.specs.State.{no_report, numbers_of}
use Rattle.downstream.proofs.columns.numbers_of.Goals as goal

pub returns : goal.returns
unfolding numbers_of
returns c = list_is _ 0 64 _ c.map.ensures.items.long (λ j l. let w = c.map.ensures.items.at j no_report 0 l in search rules)
