-- A report keeps what its member's former report held, from what the code knows where it answers; and what that means. Assumes nothing.
use mathlib.Core.Path.{◌≡◌, refl, ap, sym, ◌∙◌}
use mathlib.Core.Bool.{Bool, true, false, not, ◌||◌}
use mathlib.Core.Logic.{inl, inr}
use Prim.Native.Nat.{ℕ, ◌+◌, ◌-◌, ◌/◌, ◌^◌, ◌≤◌, ◌<◌}
use native.Mathlib.Decide.{dec_lt, dec_le}
use native.Mathlib.Omega.{arith}
use lib.Dec.{leb}
use borrow.Author.Tests.{le-leb, lt-leb, leb-true}
use Rattle.basics.specs.Sums.{all_below}
use Rattle.basics.proofs.BoolLaws.{bool_cases, same_test, or_cases, no_both, and_left, and_right}
use Rattle.basics.proofs.SumLaws.{all_at, all_of}
use Rattle.marks.specs.Masks.{is_marked, is_subset}
use Rattle.marks.specs.Held.{holds_of}
use Rattle.marks.proofs.MaskLaws.{marked_past, marked_beyond}
use Rattle.marks.proofs.SetLaws.{subset_at, subset_of}
use Rattle.marks.proofs.HeldLaws.{holds_low, holds_high}
use Rattle.downstream.specs.declared.state.Report.{Report}
use Rattle.judging.specs.Reports.{keeps_all}

-- ---- nothing is lacking that the former report held
module _ (former : Report) (c mask : ℕ) where
  abbrev moved : ℕ
  moved = former.mask / 2 ^ (c - former.number)

  abbrev marks_held : ℕ → Bool
  marks_held b = not (is_marked former.mask b) || holds_of c mask (former.number + 1 + b)

  pub keeps_not : c < former.number → false ≡ keeps_all former c mask
  unfolding keeps_all
  keeps_not l = simp (lt-leb former.number c l)

  module _ (l : former.number ≤ c) where
    abbrev d : ℕ
    d = c - former.number

    -- bit b of the former mask, at or past the new number, is bit b - d of the new mask
    seen : (b : ℕ) → d ≤ b → holds_of c mask (former.number + 1 + b) ≡ is_marked mask (b - d)
    seen b h =
        let e : former.number + 1 + b - (c + 1) ≡ b - d = omega arith in
        holds_high c mask (former.number + 1 + b) (omega arith) ∙ ap (λ (x : ℕ). is_marked mask x) e

    at_moved : (b : ℕ) → d ≤ b → is_marked moved (b - d) ≡ is_marked former.mask b
    at_moved b h = marked_past former.mask d (b - d) ∙ ap (λ (x : ℕ). is_marked former.mask x) (omega arith)

    all_held : is_subset moved mask ≡ true → all_below 64 marks_held ≡ true
    all_held s = all_of marks_held 64 (λ b m. elim (bool_cases (is_marked former.mask b)) [
      | inr t ↦ simp t
      | inl t ↦ elim (dec_le d b) [
        | yes h ↦ simp (t, seen b h ∙ subset_at moved mask (b - d) (omega arith) s (at_moved b h ∙ t))
        | no h ↦ simp (t, holds_low c mask (former.number + 1 + b) (omega arith))
      ]
    ])

    all_seen : former.mask < 2 ^ 64 → all_below 64 marks_held ≡ true → is_subset moved mask ≡ true
    all_seen f s = subset_of moved mask (λ j m t.
        let b : ℕ = d + j in
        let u : is_marked former.mask b ≡ true = sym (marked_past former.mask d j) ∙ t in
        elim (dec_lt b 64) [
          | no h ↦ no_both u (marked_beyond 64 former.mask b f (omega arith))
          | yes h ↦ elim (or_cases (not (is_marked former.mask b)) (holds_of c mask (former.number + 1 + b)) (all_at marks_held 64 s b h)) [
            | inl n ↦ no_both (sym (ap not u) ∙ n) refl
            | inr n ↦ (let z : b - d ≡ j = omega arith in ap (λ (x : ℕ). is_marked mask x) (sym z) ∙ sym (seen b (omega arith)) ∙ n)
          ]
        ])

    pub keeps_told : (x : ℕ) (r : Bool) → former.mask < 2 ^ 64 → x ≡ moved → r ≡ is_subset x mask → r ≡ keeps_all former c mask
    unfolding keeps_all
    keeps_told x r f e q =
        q ∙ ap (λ (y : ℕ). is_subset y mask) e
        ∙ simp (le-leb former.number c l) (same_test (is_subset moved mask) (all_below 64 marks_held) all_held (all_seen f))

-- a report that is accepted holds all that the member's former report held
pub never_less : (former : Report) (c mask k : ℕ) → former.mask < 2 ^ 64 → keeps_all former c mask ≡ true → holds_of former.number former.mask k ≡ true → holds_of c mask k ≡ true
unfolding keeps_all
never_less former c mask k f h held =
    let held-marks : ℕ → Bool = λ b. not (is_marked former.mask b) || holds_of c mask (former.number + 1 + b) in
    let up : former.number ≤ c = leb-true former.number c (and_left (leb former.number c) (all_below 64 held-marks) h) in
    elim (dec_le k former.number) [
      | yes l ↦ holds_low c mask k (omega arith)
      | no l ↦ (let b : ℕ = k - (former.number + 1) in
          let t : is_marked former.mask b ≡ true = sym (holds_high former.number former.mask k (omega arith)) ∙ held in
          elim (dec_lt b 64) [
            | no m ↦ no_both t (marked_beyond 64 former.mask b f (omega arith))
            | yes m ↦ elim (or_cases (not (is_marked former.mask b)) (holds_of c mask (former.number + 1 + b)) (all_at held-marks 64 (and_right (leb former.number c) (all_below 64 held-marks) h) b m)) [
              | inl n ↦ no_both (sym (ap not t) ∙ n) refl
              | inr n ↦ (let e : former.number + 1 + b ≡ k = omega arith in rw e at n)
            ]
          ])
    ]
