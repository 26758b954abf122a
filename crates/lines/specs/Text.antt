-- Text as bytes: numbers in decimal, and lines of four numbers. Assumes nothing.
use Rattle.std.specs.Prelude.{cond, List, [], ◌∷◌, ◌++◌, ℕ, zero, suc, ◌+◌, ◌/◌, ◌%◌, ltb, length, take, drop}

-- the last n decimal digits of x, fewer where x has fewer
unfoldable pub digits_in : ℕ → ℕ → List ℕ
digits_in zero x = []
digits_in (suc n) x = cond (ltb x 10) ((48 + x) ∷ []) (digits_in n (x / 10) ++ ((48 + x % 10) ∷ []))

-- in decimal: a number of 64 bits has at most 20 digits
unfoldable pub digits_of : ℕ → List ℕ
digits_of x = digits_in 20 x

-- a number below 100 in two digits, and one below 10,000 in four
unfoldable pub pair_of : ℕ → List ℕ
pair_of x = (48 + x / 10) ∷ (48 + x % 10) ∷ []

unfoldable pub four_of : ℕ → List ℕ
four_of x = pair_of (x / 100) ++ pair_of (x % 100)

-- a number and the byte that ends it
unfoldable pub field_of : ℕ → ℕ → List ℕ
field_of x e = digits_of x ++ (e ∷ [])

-- Fields: resend number, sender, receiver, run, in decimal, one space between; each line ends with a newline
unfoldable pub line_of : ℕ → ℕ → ℕ → ℕ → List ℕ
line_of n from to run = field_of n 32 ++ (field_of from 32 ++ (field_of to 32 ++ field_of run 10))

-- the bytes bs in the output o from place at on; the others stay
unfoldable pub put : ℕ → List ℕ → List ℕ → List ℕ
put at bs o = take at o ++ bs ++ drop (at + length bs) o
