-- Complaints, from what the code knows where it answers. Assumes nothing.
use mathlib.Core.Path.{◌≡◌, sym, ◌∙◌}
use mathlib.Core.Bool.{Bool, true, false, ◌&&◌, ◌||◌}
use Prim.Native.Nat.{ℕ, ◌+◌}
use lib.Dec.{ltb, eqb}
use Rattle.marks.specs.Masks.{mark_of, unmark_of}
use Rattle.marks.specs.Held.{holds_of, highest_of}
use Rattle.judging.specs.Complaints.{complains, complaints_after}

module _ (i c mask high : ℕ) (again : Bool) (p k bits r : ℕ) (held : Bool) (e : held ≡ holds_of c mask k) where
  pub complaint_out : held ≡ true → r ≡ unmark_of bits i → r ≡ complaints_after i c mask again p k bits
  unfolding complaints_after
  complaint_out h q = simp (sym e ∙ h) q

  module _ (h : held ≡ false) (top : high ≡ highest_of c mask) where
    pub complaint_in : (ltb k high || (again && eqb k (c + 1) && eqb c p)) ≡ true → r ≡ mark_of bits i → r ≡ complaints_after i c mask again p k bits
    unfolding complaints_after complains
    complaint_in t q = simp (sym e ∙ h, ← top, t) q

    pub complaint_none : (ltb k high || (again && eqb k (c + 1) && eqb c p)) ≡ false → bits ≡ complaints_after i c mask again p k bits
    unfolding complaints_after complains
    complaint_none t = simp (sym e ∙ h, ← top, t)
