-- Holdings that took in an accepted message are well formed again, with a mask of 64 bits. Assumes nothing.
use mathlib.Core.Path.{◌≡◌, ap, ◌∙◌}
use mathlib.Core.Bool.{true, false, not}
use Prim.Native.Nat.{ℕ, ◌+◌, ◌-◌, ◌/◌, ◌^◌, ◌<◌}
use native.Mathlib.Decide.{dec_le}
use native.Mathlib.Nat.{lt_of_le_of_lt}
use native.Mathlib.Omega.{arith}
use lib.Dec.{eqb}
use lib.Pow.{shr_le}
use borrow.Author.Tests.{ne_eqb, not-true}
use Rattle.basics.specs.Ranges.{message_limit}
use Rattle.basics.proofs.BoolLaws.{and_left, and_right, or_none}
use Rattle.marks.specs.Masks.{is_marked, run_of}
use Rattle.marks.specs.Held.{none_above}
use Rattle.marks.proofs.MaskLaws.{marked_with, marked_past, marked_beyond, with_lt}
use Rattle.marks.proofs.RunLaws.{run_end}
use Rattle.marks.proofs.HeldLaws.{none_above_lem, none_above_of}
use Rattle.holdings.specs.State.{well_formed}
use Rattle.holdings.specs.Arrival.{risen_of, taken_of}
use Rattle.holdings.specs.declared.state.Holdings.{Holdings}
use Rattle.holdings.proofs.ArrivalLaws.{Accepted}
use Rattle.holdings.proofs.TakenLaws.{marking, taken_cases, held, holds_taken}

-- ---- the two halves of the definition

module _ (h : Holdings) where
  formed_clear : well_formed h ≡ true → is_marked h.mask 0 ≡ false
  unfolding well_formed
  formed_clear w = not-true (is_marked h.mask 0) (and_left (not (is_marked h.mask 0)) (none_above h.number h.mask message_limit) w)

  formed_none : well_formed h ≡ true → none_above h.number h.mask message_limit ≡ true
  unfolding well_formed
  formed_none w = and_right (not (is_marked h.mask 0)) (none_above h.number h.mask message_limit) w

  forms : is_marked h.mask 0 ≡ false → none_above h.number h.mask message_limit ≡ true → well_formed h ≡ true
  unfolding well_formed
  forms c n = simp (c, n)

-- ---- past the run of marks the next bit is clear
past_run : (m : ℕ) → m < 2 ^ 64 → is_marked (m / 2 ^ run_of m) 0 ≡ false
past_run m f =
    let e : run_of m + 0 ≡ run_of m = omega arith in
    marked_past m (run_of m) 0 ∙ ap (λ (x : ℕ). is_marked m x) e ∙ elim (dec_le 64 (run_of m)) [
      | yes l ↦ marked_beyond 64 m (run_of m) f l
      | no l ↦ run_end m (omega arith)
    ]

-- ---- the three parts of the claim
module _ (h : Holdings) (k : ℕ) (fits : h.mask < 2 ^ 64) (a : Accepted h k) where
  marked_fits : h.number < k → marking h k < 2 ^ 64
  marked_fits above = with_lt 64 h.mask (k - (h.number + 1)) fits (omega arith)

  pub taken_fits : (taken_of h k).mask < 2 ^ 64
  unfolding risen_of
  taken_fits = taken_cases (λ x. x.mask < 2 ^ 64) h k a.near
      (λ again. fits)
      (λ above. lt_of_le_of_lt (shr_le (marking h k) (run_of (marking h k))) (marked_fits above))
      (λ above. marked_fits (omega arith))

  taken_clear : is_marked (taken_of h k).mask 0 ≡ false
  unfolding risen_of
  taken_clear =
      let was : is_marked h.mask 0 ≡ false = formed_clear h a.formed in
      taken_cases (λ x. is_marked x.mask 0 ≡ false) h k a.near
      (λ again. was)
      (λ above. past_run (marking h k) (marked_fits above))
      (λ above. marked_with h.mask (k - (h.number + 1)) 0 ∙ or_none (eqb 0 (k - (h.number + 1))) (is_marked h.mask 0) (ne_eqb 0 (k - (h.number + 1)) (λ e. omega arith)) was)

  taken_none : none_above (taken_of h k).number (taken_of h k).mask message_limit ≡ true
  taken_none = none_above_of (taken_of h k).number (taken_of h k).mask message_limit taken_fits (λ j over.
      let was : held h j ≡ false = none_above_lem h.number h.mask message_limit j fits (formed_none h a.formed) over in
      holds_taken h k j a.near ∙ or_none (eqb j k) (held h j) (ne_eqb j k (λ e. omega (arith, a.limit))) was)

  pub taken_formed : well_formed (taken_of h k) ≡ true
  taken_formed = forms (taken_of h k) taken_clear taken_none
