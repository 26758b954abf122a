-- Each answer is that of the first check that fails.
use Rattle.basics.proofs.CheckLaws.{checks}
use Rattle.hamilton.specs.Counts.{later_refusal}
use Rattle.hamilton.proofs.counting.later_refusal.Goals as goal

pub returns-then-not-is_quantum : goal.returns-then-not-is_quantum
unfolding later_refusal
returns-then-not-is_quantum c = search checks

pub returns-then-room-members : goal.returns-then-room-members
unfolding later_refusal
returns-then-room-members c = search checks

pub returns : goal.returns
unfolding later_refusal
returns c = search checks
