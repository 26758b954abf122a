-- Resend pairs: their judgement, and the answer from what the code knows where it answers. Assumes nothing.
use mathlib.Core.Path.{◌≡◌, refl, sym, ◌∙◌}
use mathlib.Core.Bool.{true}
use mathlib.Core.List.{List, [], ◌∷◌}
use Prim.Native.Nat.{ℕ, ◌≤◌, ◌<◌}
use lib.Dec.{leb, lit<}
use lib.ListN.{length}
use borrow.Author.Tests.{eq-eqb, ne_eqb, leb-true}
use Rattle.basics.specs.Checks.{◌else◌, first_failing}
use Rattle.basics.specs.Ranges.{is_message, is_resend}
use Rattle.basics.proofs.BoolLaws.{and_left}
use Rattle.basics.proofs.CheckLaws.{checks_passed, checks_failed, checks_first, checks_later, first_passed, later_passed}
use Rattle.shares.specs.Cluster.{Accepted}
use Rattle.hamilton.specs.Hamilton.{Dealable}
use Rattle.deal.specs.Pairs as deal
use Rattle.deal.proofs.JudgeLaws.{pair_numbered, pair_quantum, sending_dealable, sending_accepted, receiving_accepted}
use Rattle.deal.proofs.DealIsWhole.{sender_is_a_member}
use Rattle.circle.specs.Positions.{Sized, resend_of}
use Rattle.circle.specs.declared.walk.Resend.{Resend}
use Rattle.circle.proofs.CircleLaws.{sized}
use Rattle.resend.specs.Resends.{sender_of, receiver_of, run_of, number_checks, resend_refusal, ResendAnswer, no_resend, resend_pair_of}

-- ---- the judgement
module _ (ss : List ℕ) (su sr : ℕ) (rs : List ℕ) (ru rr q k n m : ℕ) (e : m ≡ deal.pair_refusal ss su sr rs ru rr q) where
  pub resend_clusters : (m ≡ 0 → ⊥) → m ≡ resend_refusal ss su sr rs ru rr q k n
  unfolding resend_refusal deal.pair_refusal
  resend_clusters z = checks_failed (deal.pair_checks ss su sr rs ru rr q) (number_checks k n) e z

  pub resend_judged : (x : ℕ) → m ≡ 0 → x ≡ first_failing (number_checks k n) → x ≡ resend_refusal ss su sr rs ru rr q k n
  unfolding resend_refusal deal.pair_refusal
  resend_judged x z f = checks_passed (deal.pair_checks ss su sr rs ru rr q) (number_checks k n) (sym e ∙ z) f (pair_numbered ss su sr rs ru rr q)

-- ---- accepted
module _ (ss : List ℕ) (su sr : ℕ) (rs : List ℕ) (ru rr q k n : ℕ) (e : resend_refusal ss su sr rs ru rr q k n ≡ 0) where
  pub pair_passed : deal.pair_refusal ss su sr rs ru rr q ≡ 0
  unfolding resend_refusal deal.pair_refusal
  pair_passed = checks_first (deal.pair_checks ss su sr rs ru rr q) (number_checks k n) (pair_numbered ss su sr rs ru rr q) e

  numbers_passed : first_failing (number_checks k n) ≡ 0
  unfolding resend_refusal
  numbers_passed = checks_later (deal.pair_checks ss su sr rs ru rr q) (number_checks k n) (pair_numbered ss su sr rs ru rr q) e

  resend_passed : is_resend n ≡ true
  resend_passed = first_passed (is_resend n) 7 [] (lit< tt) (later_passed (is_message k) 6 ((is_resend n else 7) ∷ []) (lit< tt) numbers_passed)

  resend_some : 1 ≤ n
  unfolding is_resend
  resend_some = leb-true 1 n (and_left (leb 1 n) (leb n 255) resend_passed)

-- ---- as the code has it
module _ (ss : List ℕ) (su sr : ℕ) (rs : List ℕ) (ru rr q k n m : ℕ) (e : m ≡ resend_refusal ss su sr rs ru rr q k n) where
  pub resend_refused : (m ≡ 0 → ⊥) → no_resend m ≡ resend_pair_of ss su sr rs ru rr q k n
  unfolding resend_pair_of
  resend_refused z = simp (← e, ne_eqb m 0 z)

  module _ (z : m ≡ 0) where
    zero : resend_refusal ss su sr rs ru rr q k n ≡ 0
    zero = sym e ∙ z

    pub deals : Dealable ss q
    deals = sending_dealable ss su sr rs ru rr q (pair_passed ss su sr rs ru rr q k n zero)

    accepted_sending : Accepted ss su sr
    accepted_sending = sending_accepted ss su sr rs ru rr q (pair_passed ss su sr rs ru rr q k n zero)

    pub sends_sized : Sized ss
    sends_sized = sized ss su sr accepted_sending

    pub receives_sized : Sized rs
    receives_sized = sized rs ru rr (receiving_accepted ss su sr rs ru rr q (pair_passed ss su sr rs ru rr q k n zero))

    pub some_resend : 1 ≤ n
    some_resend = resend_some ss su sr rs ru rr q k n zero

    module _ (first : ℕ) (f : first ≡ deal.sender_of ss q k) where
      pub first_is_a_member : first < length ss
      first_is_a_member = rw f (sender_is_a_member ss su sr q accepted_sending (pair_quantum ss su sr rs ru rr q (pair_passed ss su sr rs ru rr q k n zero)) k)

      pub resend_told : (r : Resend) → r ≡ resend_of ss rs first n
          → ◌≡◌ {A = ResendAnswer} (record { refusal = 0; sender = r.sender; receiver = r.receiver; run = r.run }) (resend_pair_of ss su sr rs ru rr q k n)
      unfolding resend_pair_of sender_of receiver_of run_of resend_of
      resend_told r g = simp (← e, eq-eqb m 0 z) (rw (g, f) refl)
