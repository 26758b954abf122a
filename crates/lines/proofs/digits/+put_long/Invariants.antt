-- All but the last four digits are put first. The measure is the number.
use Rattle.lines.proofs.digits.+put_long.Given as goal

abbrev pub decreases-put_long : goal.decreases-put_long
decreases-put_long l = l.x
