-- Resend pairs of a message, for any two clusters, quantum, message and resend number. Assumes nothing.
use Rattle.std.specs.Prelude.{cond, Result, Ok, Err, List, [], ◌∷◌, ◌++◌, ℕ, eqb}
use Rattle.basics.specs.Checks.{Check, ◌else◌, first_failing}
use Rattle.basics.specs.Ranges.{is_message, is_resend}
use Rattle.deal.specs.Pairs as deal
use Rattle.circle.specs.Circle as circle
use Rattle.basics.specs.declared.refusal.Refusal.{Refusal}
use Rattle.basics.specs.Refusals.{number_of}
use Rattle.circle.specs.declared.walk.Resend.{Resend}

-- Resend 1 of message k starts where the original sender's stretch ends: the ends and the run of resend n
unfoldable pub sender_of : List ℕ → List ℕ → ℕ → ℕ → ℕ → ℕ
sender_of ss rs q k n = circle.sender_of ss rs (deal.sender_of ss q k) n

unfoldable pub receiver_of : List ℕ → List ℕ → ℕ → ℕ → ℕ → ℕ
receiver_of ss rs q k n = circle.receiver_of ss rs (deal.sender_of ss q k) n

unfoldable pub run_of : List ℕ → List ℕ → ℕ → ℕ → ℕ → ℕ
run_of ss rs q k n = circle.run_of ss rs (deal.sender_of ss q k) n

-- Pairs: 1, 2, 3 of the sending cluster, then of the receiving, 4; then for resend pairs 6, 7
abbrev pub number_checks : ℕ → ℕ → List Check
number_checks k n = (is_message k else 6) ∷ (is_resend n else 7) ∷ []

unfoldable pub resend_refusal : List ℕ → ℕ → ℕ → List ℕ → ℕ → ℕ → ℕ → ℕ → ℕ → ℕ
resend_refusal ss su sr rs ru rr q k n = first_failing (deal.pair_checks ss su sr rs ru rr q ++ number_checks k n)

-- a refusal's number, 0 for none, and a resend
pub record ResendAnswer : Type 0 where
  pub refusal : ℕ
  pub sender : ℕ
  pub receiver : ℕ
  pub run : ℕ

-- the refusal's number and zeros
abbrev pub no_resend : ℕ → ResendAnswer
no_resend number = record { refusal = number; sender = 0; receiver = 0; run = 0 }

abbrev pub resend_at : List ℕ → List ℕ → ℕ → ℕ → ℕ → ResendAnswer
resend_at ss rs q k n = record { refusal = 0; sender = sender_of ss rs q k n; receiver = receiver_of ss rs q k n; run = run_of ss rs q k n }

-- the whole answer
unfoldable pub resend_pair_of : List ℕ → ℕ → ℕ → List ℕ → ℕ → ℕ → ℕ → ℕ → ℕ → ResendAnswer
resend_pair_of ss su sr rs ru rr q k n =
    cond (eqb (resend_refusal ss su sr rs ru rr q k n) 0)
    (resend_at ss rs q k n)
    (no_resend (resend_refusal ss su sr rs ru rr q k n))

-- the same of what the call hands back
abbrev pub told : Result Resend Refusal → ResendAnswer
told (Ok z) = record { refusal = 0; sender = z.sender; receiver = z.receiver; run = z.run }
told (Err x) = no_resend (number_of x)
