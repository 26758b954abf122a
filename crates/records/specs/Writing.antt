-- Writing a record: its 24 bytes, what may be written, and what the output then holds. Assumes nothing.
use Rattle.std.specs.Prelude.{cond, List, [], ◌∷◌, ◌++◌, ℕ, leb, eqb, length, drop, replicate}
use Rattle.basics.specs.Bytes.{le_bytes}
use Rattle.basics.specs.Checks.{◌else◌, first_failing}
use Rattle.records.specs.ByKind.{fields_kept}

-- byte 0 kind, byte 1 member, bytes 2–7 zero
unfoldable pub head_of : ℕ → ℕ → List ℕ
head_of k m = k ∷ m ∷ replicate 6 0

-- 8–15 number, 16–23 mask, little-endian
unfoldable pub bytes_of : ℕ → ℕ → ℕ → ℕ → List ℕ
bytes_of k m n w = head_of k m ++ le_bytes 8 n ++ le_bytes 8 w

-- Writing: 14, 15, 5.
unfoldable pub write_refusal : ℕ → ℕ → ℕ → ℕ → ℕ → ℕ
write_refusal k m n w room =
    first_failing
    ((leb k 2 else 14)
    ∷ (fields_kept k m n w else 15)
    ∷ (leb 24 room else 5)
    ∷ [])

-- what the output then holds: the record and the later bytes as they were, or all as it was
unfoldable pub written_of : ℕ → ℕ → ℕ → ℕ → List ℕ → List ℕ
written_of k m n w o = cond (eqb (write_refusal k m n w (length o)) 0) (bytes_of k m n w ++ drop 24 o) o
