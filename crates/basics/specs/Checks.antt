-- A call's order of checks, as a list: the first check that fails gives the refusal number. Assumes nothing.
use Rattle.std.specs.Prelude.{Bool, cond, List, [], ◌∷◌, ℕ}

infix 20 ◌else◌
-- one check, and the refusal number where it fails
pub record Check : Type 0 where
  pub passed : Bool
  pub number : ℕ

abbrev pub ◌else◌ : Bool → ℕ → Check
passed else number = record { passed = passed; number = number }

-- the number of the first check that fails, or 0 where none does
unfoldable pub first_failing : List Check → ℕ
first_failing [] = 0
first_failing (c ∷ cs) = cond c.passed (first_failing cs) c.number
