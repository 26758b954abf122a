-- The holdings of a receiving member, and its report. Assumes nothing.
use Rattle.std.specs.Prelude.{Bool, cond, not, ◌&&◌, ℕ, Result, Ok, Err}
use Rattle.basics.specs.Ranges.{message_limit}
use Rattle.marks.specs.Masks.{is_marked}
use Rattle.marks.specs.Held.{none_above}
use Rattle.holdings.specs.declared.state.Holdings.{Holdings}
use Rattle.basics.specs.declared.refusal.Refusal.{Refusal}
use Rattle.basics.specs.Refusals.{number_of}

-- the holdings of a member that has received nothing
abbrev pub fresh_holdings : Holdings
fresh_holdings = record { number = 0; mask = 0 }

-- Well formed: bit 0 clear, nothing held above 1,000,000,000,000.
unfoldable pub well_formed : Holdings → Bool
well_formed h = not (is_marked h.mask 0) && none_above h.number h.mask message_limit

-- a refusal's number, 0 for none, and a report
pub record ReportAnswer : Type 0 where
  pub refusal : ℕ
  pub number : ℕ
  pub mask : ℕ

-- Its report is c and the mask. Receiver's report: 17.
unfoldable pub report_of : Holdings → ReportAnswer
report_of h =
    cond (well_formed h)
    (record { refusal = 0; number = h.number; mask = h.mask })
    (record { refusal = 17; number = 0; mask = 0 })

-- the same of what the call hands back
abbrev pub told : Result Holdings Refusal → ReportAnswer
told (Ok h) = record { refusal = 0; number = h.number; mask = h.mask }
told (Err x) = record { refusal = number_of x; number = 0; mask = 0 }
