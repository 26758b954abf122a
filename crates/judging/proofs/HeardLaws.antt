-- Complaint sets after a report: they still name only members that exist and do not hold the message. Assumes nothing.
use mathlib.Core.Path.{◌≡◌, refl, ap, sym, ◌∙◌}
use mathlib.Core.Bool.{Bool, true, false, not, ◌&&◌, ◌||◌}
use mathlib.Core.List.{List}
use mathlib.Core.Logic.{◌⊎◌, inl, inr}
use Prim.Native.Nat.{ℕ, ◌≤◌, ◌<◌}
use native.Mathlib.Decide.{ℕ_discrete}
use native.Mathlib.Omega.{arith}
use lib.Dec.{ltb, eqb}
use borrow.Author.Tests.{eq-eqb, ne_eqb, lt-ltb}
use Rattle.basics.proofs.BoolLaws.{bool_cases, and_left, and_right, or_cases, or_right, no_both}
use Rattle.basics.proofs.SumLaws.{all_at, all_of}
use Rattle.marks.specs.Masks.{is_marked, mark_of, unmark_of}
use Rattle.marks.specs.Held.{holds_of}
use Rattle.marks.proofs.MaskLaws.{mark_is, unmark_is, marked_with, marked_without}
use Rattle.downstream.specs.State.{held_by}
use Rattle.downstream.specs.Formed.{complaints_kept}
use Rattle.judging.specs.Complaints.{complains, complaints_after}

-- whoever the set names after the report: the member itself, which then lacks k, or another that it named before
module _ (i c mask : ℕ) (again : Bool) (p k bits : ℕ) (l : i < 64) where
  abbrev Named : ℕ → Type 0
  Named j = ((j ≡ i) × (holds_of c mask k ≡ false)) ⊎ ((j ≡ i → ⊥) × (is_marked bits j ≡ true))

  named_out : (j : ℕ) → is_marked (unmark_of bits i) j ≡ true → Named j
  named_out j h =
      let m : (not (eqb j i) && is_marked bits j) ≡ true = sym (ap (λ (x : ℕ). is_marked x j) (unmark_is bits i l) ∙ marked_without bits i j) ∙ h in
      inr ((λ e. no_both (and_left (not (eqb j i)) (is_marked bits j) m) (simp (eq-eqb j i e))), and_right (not (eqb j i)) (is_marked bits j) m)

  named_in : holds_of c mask k ≡ false → (j : ℕ) → is_marked (mark_of bits i) j ≡ true → Named j
  named_in lacks j h =
      let m : (eqb j i || is_marked bits j) ≡ true = sym (ap (λ (x : ℕ). is_marked x j) (mark_is bits i l) ∙ marked_with bits i j) ∙ h in
      elim (ℕ_discrete j i) [
        | yes e ↦ inl (e, lacks)
        | no e ↦ elim (or_cases (eqb j i) (is_marked bits j) m) [ inl x ↦ no_both x (ne_eqb j i e) | inr x ↦ inr (e, x) ]
      ]

  named_same : holds_of c mask k ≡ false → (j : ℕ) → is_marked bits j ≡ true → Named j
  named_same lacks j h = elim (ℕ_discrete j i) [ yes e ↦ inl (e, lacks) | no e ↦ inr (e, h) ]

  pub named_after : (j : ℕ) → is_marked (complaints_after i c mask again p k bits) j ≡ true → Named j
  unfolding complaints_after
  named_after j h = elim (bool_cases (holds_of c mask k)) [
    | inl t ↦ named_out j (simp t at h)
    | inr t ↦ elim (bool_cases (complains c mask again p k)) [
      | inl y ↦ named_in t j (simp (t, y) at h)
      | inr y ↦ named_same t j (simp (t, y) at h)
    ]
  ]

-- the columns before and after the report of member i
module _ (n : ℕ) (numbers masks numbers' masks' : List ℕ) (i c mask k : ℕ) (member : i < n) (few : n ≤ 64) (own : held_by numbers' masks' k i ≡ holds_of c mask k)
    (others : (j : ℕ) → j < 64 → (j ≡ i → ⊥) → held_by numbers' masks' k j ≡ held_by numbers masks k j) where
  abbrev right : List ℕ → List ℕ → ℕ → ℕ → Bool
  right ns ms bits j = not (is_marked bits j) || (ltb j n && not (held_by ns ms k j))

  pub heard_kept : (again : Bool) (p bits : ℕ) → complaints_kept n numbers masks k bits ≡ true → complaints_kept n numbers' masks' k (complaints_after i c mask again p k bits) ≡ true
  unfolding complaints_kept
  heard_kept again p bits kept = all_of (right numbers' masks' (complaints_after i c mask again p k bits)) 64 (λ j l. elim (bool_cases (is_marked (complaints_after i c mask again p k bits) j)) [
    | inr t ↦ simp t
    | inl t ↦ or_right (not (is_marked (complaints_after i c mask again p k bits) j)) (ltb j n && not (held_by numbers' masks' k j)) (elim (named_after i c mask again p k bits (omega arith) j t) [
      | inl x ↦ rw x.0 (simp (lt-ltb i n member, own ∙ x.1))
      | inr x ↦ old j l x.0 x.1
    ])
  ])
    where
      old : (j : ℕ) → j < 64 → (j ≡ i → ⊥) → is_marked bits j ≡ true → (ltb j n && not (held_by numbers' masks' k j)) ≡ true
      old j l e m = elim (or_cases (not (is_marked bits j)) (ltb j n && not (held_by numbers masks k j)) (all_at (right numbers masks bits) 64 kept j l)) [
        | inl x ↦ no_both (sym (ap not m) ∙ x) refl
        | inr x ↦ ap (λ (b : Bool). ltb j n && not b) (others j l e) ∙ x
      ]
