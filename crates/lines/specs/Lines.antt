-- The lines of a plan. Assumes nothing.
use Rattle.std.specs.Prelude.{List, ◌++◌, ℕ, ◌+◌, ◌-◌, ◌<◌, length}
use Rattle.basics.specs.Sums.{join_below}
use Rattle.deal.specs.Pairs.{PairAnswer}
use Rattle.circle.specs.Positions.{resend_of}
use Rattle.circle.specs.declared.walk.Resend.{Resend}
use Rattle.lines.specs.Words.{bytes_of}
use Rattle.lines.specs.Text.{field_of, line_of}

-- It prints `refused N`
unfoldable pub refused_text : ℕ → List ℕ
refused_text n = bytes_of "refused " ++ field_of n 10

-- or a header
unfoldable pub header_line : List ℕ
header_line = bytes_of "resend from to run\n"

-- a line for the first copy (resend 0, run 0)
unfoldable pub copy_line : PairAnswer → List ℕ
copy_line p = line_of 0 p.sender p.receiver 0

-- the line of a resend whose number is n
unfoldable pub step_line : Resend → ℕ → List ℕ
step_line z n = line_of n z.sender z.receiver z.run

-- the lines of resends 1 to n, as the code walks: the original sender is member i
unfoldable pub walk_lines : List ℕ → List ℕ → ℕ → ℕ → List ℕ
walk_lines ss rs i n = join_below n (λ j. step_line (resend_of ss rs i (j + 1)) (j + 1))

-- up to the number in demand 3: one fewer than there are members
abbrev pub all_lines : List ℕ → List ℕ → ℕ → List ℕ
all_lines ss rs i = walk_lines ss rs i (length ss + length rs - 1)

-- a resend whose line is short: two digits for a member, sixteen for the run
pub record Short (z : Resend) : Type 0 where
  pub short_sender : z.sender < 100
  pub short_receiver : z.receiver < 100
  pub short_run : z.run < 10_000_000_000_000_000
