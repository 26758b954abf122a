-- The greatest common divisor and the least common multiple. Assumes nothing.
use Rattle.std.specs.Prelude.{ℕ, zero, suc, ◌*◌, ◌/◌, ◌%◌}

-- the divisor is found by Euclid's rule, each step on a smaller remainder: so b steps are enough, and the first argument counts them
unfoldable pub euclid : ℕ → ℕ → ℕ → ℕ
euclid zero a b = a
euclid (suc n) a zero = a
euclid (suc n) a (suc b) = euclid n (suc b) (a % suc b)

unfoldable pub divisor_of : ℕ → ℕ → ℕ
divisor_of a b = euclid b a b

-- the multiple comes from the divisor
unfoldable pub multiple_of : ℕ → ℕ → ℕ
multiple_of a b = a / divisor_of a b * b
