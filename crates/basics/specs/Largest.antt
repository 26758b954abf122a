-- The largest number that passes a test. Assumes nothing.
use Rattle.std.specs.Prelude.{Bool, cond, ℕ, zero, suc}

-- the largest number from 1 to n that passes p, or 0 where none does
unfoldable pub largest : (ℕ → Bool) → ℕ → ℕ
largest p zero = 0
largest p (suc n) = cond (p (suc n)) (suc n) (largest p n)
