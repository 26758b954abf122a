-- As the words are judged.
use Rattle.std.proofs.Common.{◌∙◌}
use Rattle.link.proofs.WindowLaws.{judge_formed, judge_not}
use Rattle.link.proofs.windows.havdorlek_judge.Goals as goal

pub returns-then-formed : goal.returns-then-formed
returns-then-formed c = search judge_formed

pub returns-else-formed : goal.returns-else-formed
returns-else-formed c = c.number.ensures ∙ judge_not _ _ c.formed.ensures c.if-formed.false
