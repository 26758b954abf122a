-- Demand 3: any two accepted clusters, an allowed quantum and a message number, and any choice of failed members whose shares in each
-- cluster total at most that cluster's u. Assumes nothing.
use mathlib.Core.Path.{◌≡◌, refl, sym}
use mathlib.Core.Bool.{Bool, true}
use mathlib.Core.List.{List, [], ◌∷◌}
use mathlib.Core.Logic.{◌⊎◌}
use Prim.Native.Nat.{ℕ, ◌+◌, ◌-◌, ◌≤◌, ◌<◌}
use native.Mathlib.Omega.{arith}
use lib.Dec.{leb}
use lib.ListN.{length}
use borrow.Author.Tests.{le-leb}
use Rattle.basics.specs.Sums.{sum_below}
use Rattle.basics.specs.Checks.{◌else◌}
use Rattle.basics.specs.Ranges.{is_message, is_resend}
use Rattle.basics.proofs.CheckLaws.{passes, none_fails}
use Rattle.basics.proofs.BoolLaws.{and_both}
use Rattle.basics.proofs.SumLaws.{sum_cong}
use Rattle.shares.specs.Shares.{share_of}
use Rattle.shares.specs.Cluster.{Accepted}
use Rattle.deal.specs.Pairs as deal
use Rattle.deal.proofs.JudgeLaws.{pair_quantum, sending_accepted, receiving_accepted}
use Rattle.deal.proofs.DealIsWhole.{sender_is_a_member}
use Rattle.circle.specs.Circle as circle
use Rattle.circle.specs.FirstGood.{FirstGood}
use Rattle.circle.proofs.FirstGood.{first_good}
use Rattle.resend.specs.Resends.{sender_of, receiver_of, run_of, resend_refusal, resend_at, resend_pair_of}
use Rattle.resend.specs.Promise.{Asked, resend, FirstUnfailed}
use Rattle.resend.proofs.ResendLaws.{resend_judged}

-- the clusters and the quantum are accepted, and the message number is in its range
pub record Allowed (a : Asked) : Type 0 where
  pub clusters : deal.pair_refusal a.sending a.sending_u a.sending_r a.receiving a.receiving_u a.receiving_r a.quantum ≡ 0
  pub message : is_message a.message ≡ true

module _ (a : Asked) (h : Allowed a) where
  abbrev ss : List ℕ
  ss = a.sending

  abbrev rs : List ℕ
  rs = a.receiving

  abbrev first : ℕ
  first = deal.sender_of ss a.quantum a.message

  acc_s : Accepted ss a.sending_u a.sending_r
  acc_s = sending_accepted ss a.sending_u a.sending_r rs a.receiving_u a.receiving_r a.quantum h.clusters

  acc_r : Accepted rs a.receiving_u a.receiving_r
  acc_r = receiving_accepted ss a.sending_u a.sending_r rs a.receiving_u a.receiving_r a.quantum h.clusters

  first_in : first < length ss
  first_in = sender_is_a_member ss a.sending_u a.sending_r a.quantum acc_s (pair_quantum ss a.sending_u a.sending_r rs a.receiving_u a.receiving_r a.quantum h.clusters) a.message

  -- each of the first 255 resends is answered
  judged : (n : ℕ) → 1 ≤ n → n ≤ 255 → resend_refusal ss a.sending_u a.sending_r rs a.receiving_u a.receiving_r a.quantum a.message n ≡ 0
  unfolding is_resend
  judged n l m = sym (resend_judged ss a.sending_u a.sending_r rs a.receiving_u a.receiving_r a.quantum a.message n 0 (sym h.clusters) 0 refl
      (passes (is_message a.message) 6 0 ((is_resend n else 7) ∷ []) h.message
      (passes (is_resend n) 7 0 [] (and_both (leb 1 n) (leb n 255) (le-leb 1 n l) (le-leb n 255 m)) none_fails)))

  pub answer : (n : ℕ) → 1 ≤ n → n ≤ 255 → resend a n ≡ resend_at ss rs a.quantum a.message n
  unfolding resend_pair_of
  answer n l m = simp (judged n l m)

  few : length ss + length rs - 1 ≤ 255
  few = omega (arith, acc_s.few_members, acc_r.few_members)

  module _ (fails failr : ℕ → Bool) (f : FirstGood ss a.sending_u a.sending_r rs a.receiving_u a.receiving_r first fails failr) where
    told : (n : ℕ) → 1 ≤ n → n ≤ f.number → resend a n ≡ resend_at ss rs a.quantum a.message n
    told n l m = answer n l (omega (arith, few, f.early))

    hit : (n : ℕ) → 1 ≤ n → n < f.number → (fails (resend a n).sender ≡ true) ⊎ (failr (resend a n).receiver ≡ true)
    unfolding sender_of receiver_of
    hit n l m = rw (told n l (omega arith)) (f.earlier_hit n l m)

    runs : sum_below (f.number - 1) (λ j. (resend a (j + 1)).run) ≡ circle.runs_before ss rs first f.number
    unfolding circle.runs_before run_of
    runs = sum_cong (λ j. (resend a (j + 1)).run) (λ j. circle.run_of ss rs first (j + 1)) (f.number - 1) (λ j l. rw (told (j + 1) (omega arith) (omega arith)) refl)

    promised : FirstUnfailed a fails failr
    unfolding sender_of receiver_of
    promised =
        let at = told f.number f.from_one (omega arith) in
        record {
          number = f.number;
          from_one = f.from_one;
          among_the_first = f.early;
          answered = rw at refl;
          sender_unfailed = rw at f.sender_well;
          receiver_unfailed = rw at f.receiver_well;
          first_such = hit;
          runs_before = rw runs f.units;
        }

pub demand3 : (a : Asked) → Allowed a → (fails failr : ℕ → Bool) → share_of a.sending fails ≤ a.sending_u → share_of a.receiving failr ≤ a.receiving_u → FirstUnfailed a fails failr
demand3 a h fails failr few-sending few-receiving =
    promised a h fails failr (first_good a.sending a.sending_u a.sending_r a.receiving a.receiving_u a.receiving_r (first a h) fails failr (acc_s a h) (acc_r a h) (first_in a h) few-sending few-receiving)
