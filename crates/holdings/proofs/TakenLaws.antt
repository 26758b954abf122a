-- A message taken in, by its three cases; and what is held then: what was held before, and the message. Assumes nothing.
use mathlib.Core.Path.{◌≡◌, sym, ◌∙◌, ap₂}
use mathlib.Core.Bool.{Bool, true, ◌||◌}
use Prim.Native.Nat.{ℕ, ◌+◌, ◌-◌, ◌≤◌, ◌<◌}
use native.Mathlib.Decide.{dec_le}
use native.Mathlib.Omega.{arith}
use lib.Dec.{eqb}
use borrow.Author.Tests.{le-leb, lt-leb, eqb-true, eqb-false}
use Rattle.basics.proofs.BoolLaws.{either, or_right, eqb_same}
use Rattle.marks.specs.Masks.{with_mark, mark_of, run_of}
use Rattle.marks.specs.Held.{holds_of}
use Rattle.marks.proofs.MaskLaws.{marked_with, mark_is}
use Rattle.marks.proofs.HeldLaws.{holds_low, holds_high, holds_risen}
use Rattle.holdings.specs.Arrival.{risen_of, marked_of, taken_of}
use Rattle.holdings.specs.declared.state.Holdings.{Holdings}

-- the mask with message k marked, which is above c
abbrev pub marking : Holdings → ℕ → ℕ
marking h k = with_mark h.mask (k - (h.number + 1))

-- already held, next in line, or later
pub taken_cases : (P : Holdings → Type 0) (h : Holdings) (k : ℕ) → k ≤ h.number + 64 →
    (k ≤ h.number → P h) →
    (h.number < k → P (risen_of h.number (marking h k))) →
    (h.number + 1 < k → P (record { number = h.number; mask = marking h k })) →
    P (taken_of h k)
unfolding taken_of marked_of
taken_cases P h k near again next later = elim (dec_le k h.number) [
  | yes l ↦ simp (le-leb k h.number l) (again l)
  | no l ↦ new (omega arith)
]
  where
    new : h.number < k → P (taken_of h k)
    new above =
        let bit : mark_of h.mask (k - (h.number + 1)) ≡ marking h k = mark_is h.mask (k - (h.number + 1)) (omega arith) in
        either (P (taken_of h k)) (eqb k (h.number + 1))
        (λ e. simp (lt-leb k h.number above, e, bit) (next above))
        (λ e. simp (lt-leb k h.number above, e, bit) (later (omega (arith, eqb-false k (h.number + 1) e))))

-- ---- what is held
abbrev pub held : Holdings → ℕ → Bool
held h j = holds_of h.number h.mask j

-- two messages above c are the same where their bits are
same_bits : (c j k : ℕ) → c < j → c < k → eqb (j - (c + 1)) (k - (c + 1)) ≡ eqb j k
same_bits c j k a b = eqb_same (j - (c + 1)) (k - (c + 1)) j k (λ e. omega arith) (λ e. omega arith)

module _ (h : Holdings) (k j : ℕ) where
  holds_again : k ≤ h.number → held h j ≡ (eqb j k || held h j)
  holds_again l = either (held h j ≡ (eqb j k || held h j)) (eqb j k)
      (λ e. let s : held h j ≡ true = holds_low h.number h.mask j (omega (arith, eqb-true j k e)) in s ∙ sym (or_right (eqb j k) (held h j) s))
      (λ e. simp e)

  holds_marking : h.number < k → holds_of h.number (marking h k) j ≡ (eqb j k || held h j)
  holds_marking above = elim (dec_le j h.number) [
    | yes l ↦ holds_low h.number (marking h k) j l ∙ sym (or_right (eqb j k) (held h j) (holds_low h.number h.mask j l))
    | no l ↦ (let a : h.number < j = omega arith in
        holds_high h.number (marking h k) j a ∙ marked_with h.mask (k - (h.number + 1)) (j - (h.number + 1)) ∙
        ap₂ ◌||◌ (same_bits h.number j k a above) (sym (holds_high h.number h.mask j a)))
  ]

  pub holds_taken : k ≤ h.number + 64 → held (taken_of h k) j ≡ (eqb j k || held h j)
  unfolding risen_of
  holds_taken near = taken_cases (λ x. held x j ≡ (eqb j k || held h j)) h k near
      holds_again
      (λ above. holds_risen h.number (marking h k) (run_of (marking h k)) j (omega arith) ∙ holds_marking above)
      (λ above. holds_marking (omega arith))
