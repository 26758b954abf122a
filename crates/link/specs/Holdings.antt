-- A receiving member's holdings in two words: c and the mask. Assumes nothing.
use Rattle.std.specs.Prelude.{List, [], ◌∷◌, ℕ, get_or}
use Rattle.holdings.specs.declared.state.Holdings.{Holdings}
use Rattle.holdings.specs.State.{ReportAnswer}

abbrev pub holdings_in : List ℕ → Holdings
holdings_in ws = record { number = get_or ws 0 0; mask = get_or ws 1 0 }

abbrev pub holdings_words : Holdings → List ℕ
holdings_words h = h.number ∷ h.mask ∷ []

abbrev pub report_numbers : ReportAnswer → List ℕ
report_numbers a = a.number ∷ a.mask ∷ []
