-- What a straight pass over words gathers, without a branch for any of them. Assumes nothing.
use Rattle.std.specs.Prelude.{List, ℕ, zero, suc, ◌+◌}
use Rattle.std.specs.Int.Bits.{bit_or}
use Rattle.words.specs.Taken.{word_at}

-- the bits that are set in any of the n words from a place on
unfoldable pub any_in : List ℕ → ℕ → ℕ → ℕ
any_in ws from zero = 0
any_in ws from (suc n) = bit_or (any_in ws from n) (word_at ws (from + n))
