-- The contracts leave no choice: two results that meet one are equal. Assumes nothing.
use mathlib.Core.Path.{◌≡◌}
use mathlib.Core.Bool.{Bool}
use Prim.Native.Nat.{ℕ}
use Rattle.basics.proofs.Unique.{one_answer}
use Rattle.downstream.specs.declared.state.Report.{Report}
use Rattle.judging.specs.Reports.{keeps_all}

pub one_keeps_all : (former : Report) (c mask : ℕ) (a b : Bool) → a ≡ keeps_all former c mask → b ≡ keeps_all former c mask → a ≡ b
one_keeps_all former c mask a b e f = one_answer e f
