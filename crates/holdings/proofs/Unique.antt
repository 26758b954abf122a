-- Each public call's contract determines its answer, and the lent holdings: two results that meet it are equal. Assumes nothing.
use mathlib.Core.Path.{◌≡◌, ap}
use mathlib.Core.Bool.{Bool}
use Prim.Native.Nat.{ℕ}
use native.Mathlib.Omega.{arith}
use Rattle.std.specs.Prelude.{Result, Ok, Err}
use Rattle.basics.specs.declared.refusal.Refusal.{Refusal}
use Rattle.basics.specs.Refusals.{outcome_number}
use Rattle.basics.proofs.Unique.{one_answer}
use Rattle.basics.proofs.RefusalLaws.{number_some, one_number, one_outcome}
use Rattle.holdings.specs.State.{fresh_holdings, well_formed, ReportAnswer, report_of}
use Rattle.holdings.specs.State as state
use Rattle.holdings.specs.Arrival.{ArrivalAnswer, arrival_of}
use Rattle.holdings.specs.Arrival as arrival
use Rattle.holdings.specs.declared.state.Holdings.{Holdings}

pub fresh_unique : {r s : Holdings} → r ≡ fresh_holdings → s ≡ fresh_holdings → r ≡ s
fresh_unique p q = one_answer p q

pub well_formed_unique : (h : Holdings) {r s : Bool} → r ≡ well_formed h → s ≡ well_formed h → r ≡ s
well_formed_unique h p q = one_answer p q

-- what is told of an answer tells it
one_report : (r s : Result Holdings Refusal) → state.told r ≡ state.told s → r ≡ s
one_report (Ok h) (Ok g) e = ap (λ (x : ReportAnswer). Ok (record { number = x.number; mask = x.mask })) e
one_report (Ok h) (Err y) e = absurd (omega (arith, number_some y, ap (λ (x : ReportAnswer). x.refusal) e))
one_report (Err x) (Ok g) e = absurd (omega (arith, number_some x, ap (λ (x : ReportAnswer). x.refusal) e))
one_report (Err x) (Err y) e = ap Err (one_number x y (ap (λ (x : ReportAnswer). x.refusal) e))

one_arrival : (h : Holdings) (r s : Result Holdings Refusal) → arrival.told h r ≡ arrival.told h s → r ≡ s
one_arrival h (Ok f) (Ok g) e = ap (λ (x : ArrivalAnswer). Ok x.holdings) e
one_arrival h (Ok f) (Err y) e = absurd (omega (arith, number_some y, ap (λ (x : ArrivalAnswer). x.refusal) e))
one_arrival h (Err x) (Ok g) e = absurd (omega (arith, number_some x, ap (λ (x : ArrivalAnswer). x.refusal) e))
one_arrival h (Err x) (Err y) e = ap Err (one_number x y (ap (λ (x : ArrivalAnswer). x.refusal) e))

pub report_unique : (h : Holdings) {r s : Result Holdings Refusal} → state.told r ≡ report_of h → state.told s ≡ report_of h → r ≡ s
report_unique h p q = one_report _ _ (one_answer p q)

pub arrive_unique : (h : Holdings) (k : ℕ) {r s : Result Holdings Refusal} → arrival.told h r ≡ arrival_of h k → arrival.told h s ≡ arrival_of h k → r ≡ s
arrive_unique h k p q = one_arrival h _ _ (one_answer p q)

-- the outcome handed back, and the lent holdings after the call
pub arrive_at_unique : (h : Holdings) (k : ℕ) {r s : Result Unit Refusal} {x y : Holdings} →
    (outcome_number r ≡ (arrival_of h k).refusal) × (x ≡ (arrival_of h k).holdings) →
    (outcome_number s ≡ (arrival_of h k).refusal) × (y ≡ (arrival_of h k).holdings) →
    (r ≡ s) × (x ≡ y)
arrive_at_unique h k p q = (one_outcome _ _ (one_answer p.0 q.0), one_answer p.1 q.1)
