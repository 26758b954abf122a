-- The contract leaves no choice: two results that meet it are equal, the count and every byte of the output. Assumes nothing.
use mathlib.Core.Path.{◌≡◌}
use mathlib.Core.List.{List, ◌++◌}
use Prim.Native.Nat.{ℕ}
use lib.ListN.{length, drop}
use Rattle.planner.specs.Plan.{plan_text}

-- what `plan` promises of its result and of the output, for an input s and an output that held o
abbrev Promised : List ℕ → List ℕ → ℕ → List ℕ → Type 0
Promised s o r out = (r ≡ length (plan_text s)) × (out ≡ plan_text s ++ drop (length (plan_text s)) o)

pub one_plan : (s o : List ℕ) (r z : ℕ) (p q : List ℕ) → Promised s o r p → Promised s o z q → (r ≡ z) × (p ≡ q)
one_plan s o r z p q e f = (cc, cc)
