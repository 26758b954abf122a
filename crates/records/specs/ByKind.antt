-- What a record's kind decides: whether it is read, and which bytes and fields must be zero. Assumes nothing.
use Rattle.std.specs.Prelude.{Bool, not, ◌&&◌, ◌||◌, List, ℕ, leb, eqb}
use Rattle.basics.specs.Bytes.{all_zero, part}

infix 20 ◌asks◌
-- where the first holds, the second must
abbrev pub ◌asks◌ : Bool → Bool → Bool
a asks b = not a || b

-- 128 to 255 private
unfoldable pub is_private : ℕ → Bool
is_private k = leb 128 k && leb k 255

-- 3 to 127 reserved and refused, 128 to 255 private, accepted
unfoldable pub is_readable : ℕ → Bool
is_readable k = leb k 2 || is_private k

-- 0 is an unused place (all other bytes zero); bytes 2–7 zero, but private contents not read; 2 a message arrival (mask zero)
unfoldable pub zeros_kept : ℕ → List ℕ → Bool
zeros_kept k s =
    (eqb k 0 asks all_zero (part 1 24 s))
    && (not (is_private k) asks all_zero (part 2 8 s))
    && (eqb k 2 asks all_zero (part 16 24 s))

-- a kind 0 with a field that is not zero, or a kind 2 with a mask, is 15
unfoldable pub fields_kept : ℕ → ℕ → ℕ → ℕ → Bool
fields_kept k m n w = (eqb k 0 asks (eqb m 0 && eqb n 0 && eqb w 0)) && (eqb k 2 asks eqb w 0)
