-- Reading a record of 24 bytes. Assumes nothing.
use Rattle.std.specs.Prelude.{cond, List, [], ◌∷◌, ℕ, eqb, length, get_or}
use Rattle.basics.specs.Bytes.{le_of, part}
use Rattle.basics.specs.Checks.{◌else◌, first_failing}
use Rattle.records.specs.ByKind.{is_private, is_readable, zeros_kept}
use Rattle.records.specs.Answers.{Told, refused, accepted}

-- byte 0 kind
abbrev pub kind_in : List ℕ → ℕ
kind_in s = get_or s 0 0

-- Reading: 16, 14, 15.
unfoldable pub read_refusal : List ℕ → ℕ
read_refusal s =
    first_failing
    ((eqb (length s) 24 else 16)
    ∷ (is_readable (kind_in s) else 14)
    ∷ (zeros_kept (kind_in s) s else 15)
    ∷ [])

-- byte 1 member, 8–15 number, 16–23 mask, little-endian; of a private record the contents are not read
unfoldable pub fields_of : List ℕ → Told
fields_of s =
    cond (is_private (kind_in s)) (accepted (kind_in s) 0 0 0)
    (accepted (kind_in s) (get_or s 1 0) (le_of (part 8 16 s)) (le_of (part 16 24 s)))

-- what reading these bytes tells
unfoldable pub read_of : List ℕ → Told
read_of s = cond (eqb (read_refusal s) 0) (fields_of s) (refused (read_refusal s))
