-- The first copy of a message: who sends it, and to whom. Assumes nothing.
use Rattle.std.specs.Prelude.{cond, Result, Ok, Err, List, [], ◌∷◌, ◌++◌, ℕ, ◌+◌, ◌-◌, ◌/◌, ◌%◌, eqb}
use Rattle.basics.specs.Checks.{Check, ◌else◌, first_failing}
use Rattle.basics.specs.Ranges.{is_quantum, is_message}
use Rattle.shares.specs.Cluster.{cluster_checks}
use Rattle.hamilton.specs.Hamilton.{counts_of}
use Rattle.deal.specs.Rounds.{owner_of}
use Rattle.basics.specs.declared.refusal.Refusal.{Refusal}
use Rattle.basics.specs.Refusals.{number_of}
use Rattle.deal.specs.declared.pairs.Pair.{Pair}

-- Message k: slot s = (k − 1) mod q
unfoldable pub slot_of : ℕ → ℕ → ℕ
slot_of q k = (k - 1) % q

-- quantum number Q = (k − 1) div q
unfoldable pub quantum_of : ℕ → ℕ → ℕ
quantum_of q k = (k - 1) / q

-- Sender: owner of slot s in the sending deal
unfoldable pub sender_of : List ℕ → ℕ → ℕ → ℕ
sender_of shares q k = owner_of (counts_of shares q) q (slot_of q k)

-- Receiver: owner of slot (s + Q) mod q in the receiving deal
unfoldable pub receiver_of : List ℕ → ℕ → ℕ → ℕ
receiver_of shares q k = owner_of (counts_of shares q) q ((slot_of q k + quantum_of q k) % q)

-- Pairs and opening: 1, 2, 3 of the sending cluster, then of the receiving, 4
abbrev pub pair_checks : List ℕ → ℕ → ℕ → List ℕ → ℕ → ℕ → ℕ → List Check
pair_checks ss su sr rs ru rr q =
    cluster_checks ss su sr ++ (cluster_checks rs ru rr ++ ((is_quantum q else 4) ∷ []))

unfoldable pub pair_refusal : List ℕ → ℕ → ℕ → List ℕ → ℕ → ℕ → ℕ → ℕ
pair_refusal ss su sr rs ru rr q = first_failing (pair_checks ss su sr rs ru rr q)

-- then for first pairs 6
unfoldable pub first_pair_refusal : List ℕ → ℕ → ℕ → List ℕ → ℕ → ℕ → ℕ → ℕ → ℕ
first_pair_refusal ss su sr rs ru rr q k =
    first_failing (pair_checks ss su sr rs ru rr q ++ ((is_message k else 6) ∷ []))

-- a refusal's number, 0 for none, and a pair
pub record PairAnswer : Type 0 where
  pub refusal : ℕ
  pub sender : ℕ
  pub receiver : ℕ

-- the refusal's number and zeros
abbrev pub no_pair : ℕ → PairAnswer
no_pair n = record { refusal = n; sender = 0; receiver = 0 }

-- the first copy's two ends
abbrev pub pair_at : List ℕ → List ℕ → ℕ → ℕ → PairAnswer
pair_at ss rs q k = record { refusal = 0; sender = sender_of ss q k; receiver = receiver_of rs q k }

unfoldable pub first_pair_of : List ℕ → ℕ → ℕ → List ℕ → ℕ → ℕ → ℕ → ℕ → PairAnswer
first_pair_of ss su sr rs ru rr q k =
    cond (eqb (first_pair_refusal ss su sr rs ru rr q k) 0)
    (pair_at ss rs q k)
    (no_pair (first_pair_refusal ss su sr rs ru rr q k))

-- the same of what the call hands back
abbrev pub answered : Pair → PairAnswer
answered p = record { refusal = 0; sender = p.sender; receiver = p.receiver }

abbrev pub told : Result Pair Refusal → PairAnswer
told (Ok p) = answered p
told (Err x) = no_pair (number_of x)
