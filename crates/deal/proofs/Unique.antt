-- Two results that meet a public call's contract are equal. Assumes nothing.
use mathlib.Core.Path.{◌≡◌, ap}
use mathlib.Core.List.{List}
use Prim.Native.Nat.{ℕ}
use native.Mathlib.Omega.{arith}
use Rattle.std.specs.Prelude.{Result, Ok, Err}
use Rattle.basics.specs.declared.refusal.Refusal.{Refusal}
use Rattle.basics.specs.Refusals.{outcome_number}
use Rattle.basics.proofs.Unique.{one_answer}
use Rattle.basics.proofs.RefusalLaws.{number_some, one_number, one_outcome}
use Rattle.deal.specs.Pairs.{PairAnswer, pair_refusal, first_pair_of, told}
use Rattle.deal.specs.declared.pairs.Pair.{Pair}

pub pair_refusal_unique : (ss : List ℕ) (su sr : ℕ) (rs : List ℕ) (ru rr q : ℕ) (m n : Result Unit Refusal)
    → outcome_number m ≡ pair_refusal ss su sr rs ru rr q → outcome_number n ≡ pair_refusal ss su sr rs ru rr q → m ≡ n
pair_refusal_unique ss su sr rs ru rr q m n a b = one_outcome m n (one_answer a b)

-- what is told of an answer tells it
pub one_told : (a b : Result Pair Refusal) → told a ≡ told b → a ≡ b
one_told (Ok p) (Ok q) e = ap (λ (x : PairAnswer). Ok (record { sender = x.sender; receiver = x.receiver })) e
one_told (Ok p) (Err y) e = absurd (omega (arith, number_some y, ap (λ (x : PairAnswer). x.refusal) e))
one_told (Err x) (Ok q) e = absurd (omega (arith, number_some x, ap (λ (x : PairAnswer). x.refusal) e))
one_told (Err x) (Err y) e = ap Err (one_number x y (ap (λ (x : PairAnswer). x.refusal) e))

pub first_pair_unique : (ss : List ℕ) (su sr : ℕ) (rs : List ℕ) (ru rr q k : ℕ) (a b : Result Pair Refusal)
    → told a ≡ first_pair_of ss su sr rs ru rr q k → told b ≡ first_pair_of ss su sr rs ru rr q k → a ≡ b
first_pair_unique ss su sr rs ru rr q k a b e f = one_told a b (one_answer e f)
