-- Each answer is that of the first check that fails.
use Rattle.basics.proofs.CheckLaws.{checks}
use Rattle.window.specs.Reporting.{given_refusal}
use Rattle.window.proofs.refusing.given_refusal.Goals as goal

pub returns-then-room-lt1024 : goal.returns-then-room-lt1024
unfolding given_refusal
returns-then-room-lt1024 c = search checks

pub returns-then-members-from : goal.returns-then-members-from
unfolding given_refusal
returns-then-members-from c = search checks

pub returns-then-is_marked : goal.returns-then-is_marked
unfolding given_refusal
returns-then-is_marked c = search checks

pub returns-then-not-none_above : goal.returns-then-not-none_above
unfolding given_refusal
returns-then-not-none_above c = search checks

pub returns-then-not-keeps_all : goal.returns-then-not-keeps_all
unfolding given_refusal
returns-then-not-keeps_all c = search checks depth 8

pub returns : goal.returns
unfolding given_refusal
returns c = search checks depth 8
