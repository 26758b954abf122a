-- What the call for counts answers, and what it leaves in the lent output. Assumes nothing.
use Rattle.std.specs.Prelude.{cond, List, [], ◌∷◌, ◌++◌, ℕ, leb, eqb, length, drop}
use Rattle.basics.specs.Checks.{Check, ◌else◌, first_failing}
use Rattle.basics.specs.Ranges.{is_quantum}
use Rattle.shares.specs.Cluster.{cluster_checks}
use Rattle.hamilton.specs.Hamilton.{counts_of}

-- Counts: 1, 2, 3 of the cluster, then 4, 5
abbrev pub later_checks : ℕ → ℕ → ℕ → List Check
later_checks q members room = (is_quantum q else 4) ∷ (leb members room else 5) ∷ []

unfoldable pub later_refusal : ℕ → ℕ → ℕ → ℕ
later_refusal q members room = first_failing (later_checks q members room)

unfoldable pub counts_refusal : List ℕ → ℕ → ℕ → ℕ → ℕ → ℕ
counts_refusal shares u r q room = first_failing (cluster_checks shares u r ++ later_checks q (length shares) room)

-- one place per member; later places stay, and a refusal leaves them all
unfoldable pub counts_out : List ℕ → ℕ → ℕ → ℕ → List ℕ → List ℕ
counts_out shares u r q out =
    cond (eqb (counts_refusal shares u r q (length out)) 0) (counts_of shares q ++ drop (length shares) out) out
