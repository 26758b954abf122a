-- The invariant: resend n starts at `pos`, and the lines of the resends before it stand in the output, up to `to`.
use Rattle.circle.specs.Positions.{position_of}
use Rattle.lines.specs.Text.{put}
use Rattle.lines.specs.Lines.{walk_lines}
use Prim.Native.Nat.{◌+◌, ◌-◌}
use mathlib.Core.Path.{◌≡◌}
use lib.ListN.{length}
use Rattle.lines.proofs.lines.put_walk.Given as goal

abbrev pub invariant-loop-n : goal.invariant-loop-n
invariant-loop-n l = (l.pos ≡ position_of l.ss l.rs l.i l.n) × (l.to ≡ l.at + length (walk_lines l.ss l.rs l.i (l.n - 1))) × (l.out ≡ put l.at (walk_lines l.ss l.rs l.i (l.n - 1)) l.initial.out)
