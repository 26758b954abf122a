-- Each branch is the remainder.
use Rattle.hamilton.proofs.RankLaws.{next_within, next_again}
use Rattle.hamilton.proofs.ranks.member_after.Goals as goal

pub returns-then-next-n : goal.returns-then-next-n
returns-then-next-n c = search next_within

pub returns-else-next-n : goal.returns-else-next-n
returns-else-next-n c = search next_again
