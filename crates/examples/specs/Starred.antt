-- The examples that document 01 stars, in its order, as one list about the definitions that the public contracts cite: `Starred` states them,
-- `starred` proves them. Assumes nothing.
use Rattle.std.specs.Prelude.{◌≡◌, refl, true, false, [], ◌∷◌, ◌++◌, ◌+◌, replicate}
use Rattle.std.proofs.Common.{ap}
use Rattle.basics.specs.Sums.{sum_below, list_below}
use Rattle.shares.specs.Shares.{share_of}
use Rattle.shares.specs.Examples.{E}
use Rattle.hamilton.specs.Counts.{counts_out}
use Rattle.hamilton.specs.Examples as counts
use Rattle.deal.specs.Pairs as deal
use Rattle.deal.specs.Pairs.{first_pair_of}
use Rattle.deal.specs.Examples as pairs
use Rattle.circle.specs.Circle.{start_of}
use Rattle.circle.specs.Examples.{three, five, millions}
use Rattle.resend.specs.Resends.{resend_pair_of}
use Rattle.resend.specs.Promise.{resend, bound}
use Rattle.resend.specs.Examples as resends
use Rattle.resend.specs.Examples.{answer, first_resends, plan, failed_sender, failed_receiver, is_hit, whole_resend}
use Rattle.holdings.specs.State.{fresh_holdings}
use Rattle.holdings.specs.Sequence as arrivals
use Rattle.holdings.specs.Examples as holdings
use Rattle.holdings.specs.Examples.{two_to_64}
use Rattle.window.specs.Answers.{report_of, report_out}
use Rattle.window.specs.Season.{after_all, answers_of}
use Rattle.window.specs.Examples as window
use Rattle.window.specs.Examples.{opened, four_sends, says, accepted, verdict, one_verdict, before_last}

pub record Starred : Type 0 where
  -- Shares 25 four times, q 100: 25 each (000, figure 5; take u = r = 0). The lent output has four places, 7 in each before the call
  pub equal_shares : counts_out (25 ∷ 25 ∷ 25 ∷ 25 ∷ []) 0 0 100 (replicate 4 7) ≡ 25 ∷ 25 ∷ 25 ∷ 25 ∷ []
  -- 250 four times, q 100: 25 each
  pub larger_shares : counts_out (250 ∷ 250 ∷ 250 ∷ 250 ∷ []) 0 0 100 (replicate 4 7) ≡ 25 ∷ 25 ∷ 25 ∷ 25 ∷ []
  -- 214, 262, 262, 262, q 100: 22, 26, 26, 26
  pub uneven_shares : counts_out (214 ∷ 262 ∷ 262 ∷ 262 ∷ []) 0 0 100 (replicate 4 7) ≡ 22 ∷ 26 ∷ 26 ∷ 26 ∷ []
  -- 97, 1, 1, 1, q 10: 10, 0, 0, 0
  pub one_large_share : counts_out (97 ∷ 1 ∷ 1 ∷ 1 ∷ []) 0 0 10 (replicate 4 7) ≡ 10 ∷ 0 ∷ 0 ∷ 0 ∷ []
  -- Shares 1,1,1, q 4: 2, 1, 1
  pub lower_member_first : counts_out (1 ∷ 1 ∷ 1 ∷ []) 0 0 4 (replicate 3 7) ≡ 2 ∷ 1 ∷ 1 ∷ []
  -- E: message 6 goes 1 to 2; its resends 1 to 4 are 2–2, 3–3, 0–0, 1–1, each of run 1
  pub message_6 :
      (first_pair_of E 1 1 E 1 1 4 6 ≡ record { refusal = 0; sender = 1; receiver = 2 })
      × (first_resends 4 (resend_pair_of E 1 1 E 1 1 4 6) ≡ answer 2 2 1 ∷ answer 3 3 1 ∷ answer 0 0 1 ∷ answer 1 1 1 ∷ [])
  -- The seven resends listed above: sending shares 1,1,1 (u 1, r 0), receiving 1,1,1,1,1 (u 2, r 0), q 3, message 3
  pub seven_resends :
      first_resends 7 (resend_pair_of three 1 0 five 2 0 3 3)
      ≡ answer 0 0 3 ∷ answer 0 1 2 ∷ answer 1 1 1 ∷ answer 1 2 3 ∷ answer 1 3 1 ∷ answer 2 3 2 ∷ answer 2 4 3 ∷ []
  -- With sender 1 and receivers 0, 1 failed, the first good one is resend 6, after 10 units; the bound is 5 + 6. The failed shares are u's
  pub first_good :
      (list_below 6 (λ j. is_hit (j + 1)) ≡ true ∷ true ∷ true ∷ true ∷ true ∷ false ∷ [])
      × (sum_below 5 (λ j. (resend plan (j + 1)).run) ≡ 10)
      × (bound plan ≡ 5 + 6)
      × (share_of three failed_sender ≡ plan.sending_u)
      × (share_of five failed_receiver ≡ plan.receiving_u)
  -- E sending to four shares of 1,000,000 (u = r = 1,333,333), from unit 0: 0–0, 1–1, 2–2, each of run 1,000,000
  pub E_to_millions :
      (start_of E millions (deal.sender_of E 4 4) ≡ 0)
      × (first_resends 3 (resend_pair_of E 1 1 millions 1_333_333 1_333_333 4 4) ≡ answer 0 0 1_000_000 ∷ answer 1 1 1_000_000 ∷ answer 2 2 1_000_000 ∷ [])
  -- E, S = 4: member 0 reports 1, p = 0; member 3 reports 4, p = 1
  pub collecting :
      ((after_all opened four_sends).sent ≡ 4)
      × ((after_all opened (four_sends ++ (says 0 1 ∷ []))).downstream.point ≡ 0)
      × ((after_all opened (four_sends ++ (says 0 1 ∷ says 3 4 ∷ []))).downstream.point ≡ 1)
  -- Then member 1 reports 1 twice and member 0 reports 1 again: one verdict, message 2, sender 2, receiver 2, resend 1
  pub one_verdict_lem :
      (answers_of opened (four_sends ++ (says 0 1 ∷ says 3 4 ∷ says 1 1 ∷ says 1 1 ∷ says 0 1 ∷ []))
      ≡ replicate 8 accepted ++ (one_verdict 2 2 2 1 ∷ []))
      × ((report_of before_last 0 1 0 1_024).verdicts ≡ 1)
      × (report_out before_last 0 1 0 (replicate 1_024 7) ≡ verdict 2 2 2 1 ++ replicate 1_008 7)
  -- Messages 2 to 64 arrive, then 1: c = 64, mask 0
  pub then_the_first : arrivals.after_all fresh_holdings (two_to_64 ++ (1 ∷ [])) ≡ record { number = 64; mask = 0 }

pub starred : Starred
unfolding whole_resend
starred = record {
  equal_shares = counts.equal_shares;
  larger_shares = counts.larger_shares;
  uneven_shares = counts.uneven_shares;
  one_large_share = counts.one_large_share;
  lower_member_first = counts.lower_member_first;
  message_6 = (pairs.message_6, resends.message_6);
  seven_resends = resends.plan_message_3;
  first_good = resends.first_good;
  E_to_millions = (refl, resends.E_to_millions);
  collecting = (ap (λ w. w.sent) window.four_sent, window.one_report, window.two_reports);
  one_verdict_lem = (window.one_verdict_lem, (window.last_report).0, (window.last_report).1);
  then_the_first = holdings.then_the_first;
}
