-- Two results that meet the contract of the call for counts are equal. Assumes nothing.
use mathlib.Core.Path.{◌≡◌}
use mathlib.Core.List.{List}
use Prim.Native.Nat.{ℕ}
use lib.ListN.{length}
use Rattle.std.specs.Prelude.{Result}
use Rattle.basics.specs.declared.refusal.Refusal.{Refusal}
use Rattle.basics.specs.Refusals.{outcome_number}
use Rattle.basics.proofs.Unique.{one_answer}
use Rattle.basics.proofs.RefusalLaws.{one_outcome}
use Rattle.hamilton.specs.Counts.{counts_refusal, counts_out}

-- the call for counts: the number, and every place of the output
pub counts_unique : (shares : List ℕ) (u r q : ℕ) (out : List ℕ) (m n : Result Unit Refusal) (x y : List ℕ)
    → (outcome_number m ≡ counts_refusal shares u r q (length out)) × (x ≡ counts_out shares u r q out)
    → (outcome_number n ≡ counts_refusal shares u r q (length out)) × (y ≡ counts_out shares u r q out)
    → (m ≡ n) × (x ≡ y)
counts_unique shares u r q out m n x y a b = (one_outcome m n (one_answer a.0 b.0), one_answer a.1 b.1)
