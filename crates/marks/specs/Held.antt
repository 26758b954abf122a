-- What a cumulative number c and a mask say is held. Assumes nothing.
use Rattle.std.specs.Prelude.{Bool, ◌||◌, ℕ, ◌+◌, ◌-◌, leb}
use Rattle.marks.specs.Masks.{is_marked, reach_of, set_below}

-- Bit b speaks of message c + 1 + b. Held means at most c, or marked.
unfoldable pub holds_of : ℕ → ℕ → ℕ → Bool
holds_of c mask k = leb k c || is_marked mask (k - (c + 1))

-- the highest message held
unfoldable pub highest_of : ℕ → ℕ → ℕ
highest_of c mask = c + reach_of mask

-- nothing above s is held
unfoldable pub none_above : ℕ → ℕ → ℕ → Bool
none_above c mask s = leb (highest_of c mask) s

-- what is held of the 64 messages after p, a bit for each: bit o speaks of message p + 1 + o
unfoldable pub held_after : ℕ → ℕ → ℕ → ℕ
held_after p c mask = set_below 64 (λ o. holds_of c mask (p + 1 + o))
