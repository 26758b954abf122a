-- The contracts leave no choice: two results that meet one are equal. Assumes nothing.
use mathlib.Core.Path.{◌≡◌, ap}
use mathlib.Core.List.{List}
use Prim.Native.Nat.{ℕ}
use native.Mathlib.Omega.{arith}
use Rattle.std.specs.Prelude.{Result, Ok, Err}
use Rattle.basics.specs.declared.refusal.Refusal.{Refusal}
use Rattle.basics.proofs.Unique.{one_answer}
use Rattle.basics.proofs.RefusalLaws.{number_some, one_number}
use Rattle.circle.specs.declared.walk.Resend.{Resend}
use Rattle.resend.specs.Resends.{ResendAnswer, resend_pair_of, told}

-- what is told of an answer tells it
pub one_told : (a b : Result Resend Refusal) → told a ≡ told b → a ≡ b
one_told (Ok p) (Ok q) e = ap (λ (x : ResendAnswer). Ok (record { sender = x.sender; receiver = x.receiver; run = x.run })) e
one_told (Ok p) (Err y) e = absurd (omega (arith, number_some y, ap (λ (x : ResendAnswer). x.refusal) e))
one_told (Err x) (Ok q) e = absurd (omega (arith, number_some x, ap (λ (x : ResendAnswer). x.refusal) e))
one_told (Err x) (Err y) e = ap Err (one_number x y (ap (λ (x : ResendAnswer). x.refusal) e))

pub one_resend : (ss : List ℕ) (su sr : ℕ) (rs : List ℕ) (ru rr q k n : ℕ) (a b : Result Resend Refusal) → told a ≡ resend_pair_of ss su sr rs ru rr q k n → told b ≡ resend_pair_of ss su sr rs ru rr q k n → a ≡ b
one_resend ss su sr rs ru rr q k n a b e f = one_told a b (one_answer e f)
