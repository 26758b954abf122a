-- What is handed back and stored is what the definition's answer has, field by field. Assumes nothing.
use mathlib.Core.Path.{◌≡◌, ap}
use mathlib.Core.List.{[], ◌∷◌}
use Rattle.deal.specs.Pairs.{PairAnswer}
use Rattle.resend.specs.Resends.{ResendAnswer}
use Rattle.holdings.specs.declared.state.Holdings.{Holdings}
use Rattle.holdings.specs.State.{ReportAnswer}
use Rattle.holdings.specs.Arrival.{ArrivalAnswer}
use Rattle.link.specs.Numbers.{pair_numbers, resend_numbers}
use Rattle.link.specs.Holdings.{holdings_words, report_numbers}

module _ (a b : PairAnswer) (e : a ≡ b) where
  pub pair_refusal_lem : a.refusal ≡ b.refusal
  pair_refusal_lem = ap (λ (x : PairAnswer). x.refusal) e

  pub pair_numbers_lem : a.sender ∷ a.receiver ∷ [] ≡ pair_numbers b
  pair_numbers_lem = ap pair_numbers e

module _ (a b : ResendAnswer) (e : a ≡ b) where
  pub resend_refusal_lem : a.refusal ≡ b.refusal
  resend_refusal_lem = ap (λ (x : ResendAnswer). x.refusal) e

  pub resend_numbers_lem : a.sender ∷ a.receiver ∷ a.run ∷ [] ≡ resend_numbers b
  resend_numbers_lem = ap resend_numbers e

pub holdings_words_lem : (a b : Holdings) → a ≡ b → a.number ∷ a.mask ∷ [] ≡ holdings_words b
holdings_words_lem a b e = ap holdings_words e

module _ (a b : ArrivalAnswer) (e : a ≡ b) where
  pub arrival_refusal_lem : a.refusal ≡ b.refusal
  arrival_refusal_lem = ap (λ (x : ArrivalAnswer). x.refusal) e

  pub arrival_words : a.holdings.number ∷ a.holdings.mask ∷ [] ≡ holdings_words b.holdings
  arrival_words = ap (λ (x : ArrivalAnswer). holdings_words x.holdings) e

module _ (a b : ReportAnswer) (e : a ≡ b) where
  pub report_refusal_lem : a.refusal ≡ b.refusal
  report_refusal_lem = ap (λ (x : ReportAnswer). x.refusal) e

  pub report_numbers_lem : a.number ∷ a.mask ∷ [] ≡ report_numbers b
  report_numbers_lem = ap report_numbers e
