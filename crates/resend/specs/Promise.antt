-- Demand 3, in the order's words, over the answers of the resend call. Assumes nothing.
use Rattle.std.specs.Prelude.{◌≡◌, Bool, true, false, ◌⊎◌, List, ℕ, ◌+◌, ◌-◌, ◌*◌, ◌≤◌, ◌<◌, length}
use Rattle.basics.specs.Sums.{sum_below}
use Rattle.circle.specs.Circle.{circle_units, factor_of}
use Rattle.resend.specs.Resends.{ResendAnswer, resend_pair_of}

-- the two clusters' shares, u and r, the quantum and the message number, as the resend call takes them
pub record Asked : Type 0 where
  pub sending : List ℕ
  pub sending_u : ℕ
  pub sending_r : ℕ
  pub receiving : List ℕ
  pub receiving_u : ℕ
  pub receiving_r : ℕ
  pub quantum : ℕ
  pub message : ℕ

-- resend n, as the call answers it
abbrev pub resend : Asked → ℕ → ResendAnswer
resend a n = resend_pair_of a.sending a.sending_u a.sending_r a.receiving a.receiving_u a.receiving_r a.quantum a.message n

-- u times the scale factor of the sending cluster plus u times that of the receiving cluster
abbrev pub bound : Asked → ℕ
bound a =
    a.sending_u * factor_of (circle_units a.sending a.receiving) a.sending
    + a.receiving_u * factor_of (circle_units a.sending a.receiving) a.receiving

-- The promise, `fails` and `failr` saying which sending and receiving members failed. Among the first (sending members + receiving members − 1)
-- resends at least one has both ends unfailed. The runs of the resends before the first such one add up to at most the bound
pub record FirstUnfailed (a : Asked) (fails failr : ℕ → Bool) : Type 0 where
  pub number : ℕ
  pub from_one : 1 ≤ number
  pub among_the_first : number ≤ length a.sending + length a.receiving - 1
  pub answered : (resend a number).refusal ≡ 0
  pub sender_unfailed : fails (resend a number).sender ≡ false
  pub receiver_unfailed : failr (resend a number).receiver ≡ false
  pub first_such : (n : ℕ) → 1 ≤ n → n < number → (fails (resend a n).sender ≡ true) ⊎ (failr (resend a n).receiver ≡ true)
  pub runs_before : sum_below (number - 1) (λ j. (resend a (j + 1)).run) ≤ bound a
