-- The two words of fresh holdings.
use Rattle.link.proofs.NumberLaws.{holdings_words_lem}
use Rattle.link.proofs.members.havdorlek_fresh.Goals as goal

pub returns : goal.returns
returns c = search holdings_words_lem
