-- The bits of many words, gathered in one. Assumes nothing.
use Rattle.std.specs.Prelude.{List, [], ◌∷◌, ℕ}
use Rattle.std.specs.Int.Bits.{bit_or}

-- the bits that are set in any of the words
unfoldable pub any_of : List ℕ → ℕ
any_of [] = 0
any_of (w ∷ ws) = bit_or w (any_of ws)
