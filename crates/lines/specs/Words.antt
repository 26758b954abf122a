-- Words as bytes. Assumes nothing.
use Rattle.std.specs.Prelude.{ℕ, List, [] as none, ◌∷◌ as ◌then◌}
use Prim.Native.Char.{code}
use Prim.Native.String.{String, [], ◌∷◌}

-- the bytes of a text of plain letters: each is its letter's code
abbrev pub bytes_of : String → List ℕ
bytes_of [] = none
bytes_of (c ∷ cs) = code c then bytes_of cs
