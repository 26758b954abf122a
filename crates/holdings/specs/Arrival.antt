-- The arrival of a message at a receiving member. Assumes nothing.
use Rattle.std.specs.Prelude.{cond, Result, Ok, Err, [], ◌∷◌, ℕ, ◌+◌, ◌-◌, ◌/◌, ◌^◌, leb, eqb}
use Rattle.basics.specs.Checks.{◌else◌, first_failing}
use Rattle.basics.specs.Ranges.{is_message}
use Rattle.marks.specs.Masks.{mark_of, run_of}
use Rattle.holdings.specs.State.{well_formed}
use Rattle.holdings.specs.declared.state.Holdings.{Holdings}
use Rattle.basics.specs.declared.refusal.Refusal.{Refusal}
use Rattle.basics.specs.Refusals.{number_of}

-- Arrival: 17, 6, 18.
unfoldable pub arrival_refusal : Holdings → ℕ → ℕ
arrival_refusal h k =
    first_failing
    ((well_formed h else 17) ∷
    (is_message k else 6) ∷
    (leb k (h.number + 64) else 18) ∷
    [])

-- c rises by the run of marked bits from bit 0 and the mask moves down by as much (all 64 marked: c rises by 64, mask zero)
unfoldable pub risen_of : ℕ → ℕ → Holdings
risen_of c mask = record { number = c + run_of mask; mask = mask / 2 ^ run_of mask }

-- a message above c is marked, and if k = c + 1, c rises
unfoldable pub marked_of : Holdings → ℕ → Holdings
marked_of h k =
    let marked : ℕ = mark_of h.mask (k - (h.number + 1)) in
    cond (eqb k (h.number + 1)) (risen_of h.number marked) (record { number = h.number; mask = marked })

-- Message k at most c: already held, nothing changes. Up to c + 64: marked.
unfoldable pub taken_of : Holdings → ℕ → Holdings
taken_of h k = cond (leb k h.number) h (marked_of h k)

-- a refusal's number, 0 for none, and holdings
pub record ArrivalAnswer : Type 0 where
  pub refusal : ℕ
  pub holdings : Holdings

-- an arrival: the refusal's number, and the holdings after it, which a refusal leaves unchanged
unfoldable pub arrival_of : Holdings → ℕ → ArrivalAnswer
arrival_of h k = record {
  refusal = arrival_refusal h k;
  holdings = cond (eqb (arrival_refusal h k) 0) (taken_of h k) h;
}

-- the same of what the call hands back: a refusal leaves the given holdings
abbrev pub told : Holdings → Result Holdings Refusal → ArrivalAnswer
told h (Ok next) = record { refusal = 0; holdings = next }
told h (Err x) = record { refusal = number_of x; holdings = h }
