-- The answers' cases as the paper's numbers and values. Assumes nothing.
use Rattle.std.specs.Prelude.{Bool, true, ℕ, Result, Ok, Err}
use Rattle.basics.specs.declared.refusal.Refusal.{Refusal}
use Rattle.basics.specs.Refusals.{number_of}
use Rattle.records.specs.ByKind.{is_private}
use Rattle.records.specs.declared.Record.{Record}
use Rattle.records.specs.declared.Record.TheVariants.{Unused, Report, Arrival, Private}

-- what reading tells: the refusal number, or 0 and a record's values
pub record Told : Type 0 where
  pub refusal : ℕ
  pub kind : ℕ
  pub member : ℕ
  pub number : ℕ
  pub mask : ℕ

-- All return the number and zeros.
abbrev pub refused : ℕ → Told
refused n = record { refusal = n; kind = 0; member = 0; number = 0; mask = 0 }

abbrev pub accepted : ℕ → ℕ → ℕ → ℕ → Told
accepted k m n w = record { refusal = 0; kind = k; member = m; number = n; mask = w }

unfoldable pub told : Result Record Refusal → Told
told (Err x) = refused (number_of x)
told (Ok Unused) = accepted 0 0 0 0
told (Ok (Report m n w)) = accepted 1 m n w
told (Ok (Arrival m n)) = accepted 2 m n 0
told (Ok (Private k)) = accepted k 0 0 0

-- a private answer has a private kind, which tells it from the answers of the other kinds
abbrev pub is_proper : Result Record Refusal → Bool
is_proper (Err x) = true
is_proper (Ok Unused) = true
is_proper (Ok (Report m n w)) = true
is_proper (Ok (Arrival m n)) = true
is_proper (Ok (Private k)) = is_private k
