-- The contracts leave no choice: two results that meet one are equal, the end of the text and every byte of the output. Assumes nothing.
use mathlib.Core.Path.{◌≡◌}
use mathlib.Core.List.{List}
use Prim.Native.Nat.{ℕ, ◌+◌}
use lib.ListN.{length}
use Rattle.lines.specs.Text.{put}

-- what each writer promises of its result and of an output that held o: the text t from place at on, up to the result. `put_refused`
-- and `put_head` write at place 0
abbrev Promised : ℕ → List ℕ → List ℕ → ℕ → List ℕ → Type 0
Promised at t o r out = (r ≡ at + length t) × (out ≡ put at t o)

pub one_text : (at : ℕ) (t o : List ℕ) (r z : ℕ) (p q : List ℕ) → Promised at t o r p → Promised at t o z q → (r ≡ z) × (p ≡ q)
one_text at t o r z p q e f = (cc, cc)
