-- The numbers of refusals: none is 0, and no two are the same. Assumes nothing.
use mathlib.Core.Path.{◌≡◌, refl, sym, ◌∙◌, ap}
use Prim.Native.Nat.{ℕ, ◌≤◌, ◌+◌}
use native.Mathlib.Omega.{arith}
use lib.Dec.{lit≤, eqb}
use Rattle.std.specs.Prelude.{cond, Result, Ok, Err, is_ok, IsErrAnd}
use borrow.Author.Tests.{ne_eqb}
use denote.Enum.Declared.{tag_of}
use Rattle.basics.specs.contracts.refusal.Refusal.{the_type}
use Rattle.basics.specs.declared.refusal.Refusal.{Refusal}
use Rattle.basics.specs.declared.refusal.Refusal.TheVariants.{Members, Share, Bounds, Quantum, ShortOutput, Message, Resend, NoMember, TooFar, NotNext, NotSent, FirstBit, HeldBefore, WrongKind, NotZero, WrongLength, IllFormed, TooEarly, BadlyBuilt}
use Rattle.basics.specs.Refusals.{number_of, outcome_number}

pub number_some : (x : Refusal) → 1 ≤ number_of x
number_some Members = lit≤ tt
number_some Share = lit≤ tt
number_some Bounds = lit≤ tt
number_some Quantum = lit≤ tt
number_some ShortOutput = lit≤ tt
number_some Message = lit≤ tt
number_some Resend = lit≤ tt
number_some NoMember = lit≤ tt
number_some TooFar = lit≤ tt
number_some NotNext = lit≤ tt
number_some NotSent = lit≤ tt
number_some FirstBit = lit≤ tt
number_some HeldBefore = lit≤ tt
number_some WrongKind = lit≤ tt
number_some NotZero = lit≤ tt
number_some WrongLength = lit≤ tt
number_some IllFormed = lit≤ tt
number_some TooEarly = lit≤ tt
number_some BadlyBuilt = lit≤ tt

-- the place in the table, counted from 1
pub number_placed : (x : Refusal) → tag_of the_type x + 1 ≡ number_of x
number_placed Members = refl
number_placed Share = refl
number_placed Bounds = refl
number_placed Quantum = refl
number_placed ShortOutput = refl
number_placed Message = refl
number_placed Resend = refl
number_placed NoMember = refl
number_placed TooFar = refl
number_placed NotNext = refl
number_placed NotSent = refl
number_placed FirstBit = refl
number_placed HeldBefore = refl
number_placed WrongKind = refl
number_placed NotZero = refl
number_placed WrongLength = refl
number_placed IllFormed = refl
number_placed TooEarly = refl
number_placed BadlyBuilt = refl

-- the way back from the number
abbrev pub refusal_at : ℕ → Refusal
refusal_at n =
    cond (eqb n 1) Members (
    cond (eqb n 2) Share (
    cond (eqb n 3) Bounds (
    cond (eqb n 4) Quantum (
    cond (eqb n 5) ShortOutput (
    cond (eqb n 6) Message (
    cond (eqb n 7) Resend (
    cond (eqb n 8) NoMember (
    cond (eqb n 9) TooFar (
    cond (eqb n 10) NotNext (
    cond (eqb n 11) NotSent (
    cond (eqb n 12) FirstBit (
    cond (eqb n 13) HeldBefore (
    cond (eqb n 14) WrongKind (
    cond (eqb n 15) NotZero (
    cond (eqb n 16) WrongLength (
    cond (eqb n 17) IllFormed (
    cond (eqb n 18) TooEarly (
    BadlyBuilt))))))))))))))))))

pub number_back : (x : Refusal) → refusal_at (number_of x) ≡ x
number_back Members = refl
number_back Share = refl
number_back Bounds = refl
number_back Quantum = refl
number_back ShortOutput = refl
number_back Message = refl
number_back Resend = refl
number_back NoMember = refl
number_back TooFar = refl
number_back NotNext = refl
number_back NotSent = refl
number_back FirstBit = refl
number_back HeldBefore = refl
number_back WrongKind = refl
number_back NotZero = refl
number_back WrongLength = refl
number_back IllFormed = refl
number_back TooEarly = refl
number_back BadlyBuilt = refl

pub one_number : (x y : Refusal) → number_of x ≡ number_of y → x ≡ y
one_number x y e = sym (number_back x) ∙ ap refusal_at e ∙ number_back y

-- outcomes of a call that answers nothing else
pub one_outcome : (x y : Result Unit Refusal) → outcome_number x ≡ outcome_number y → x ≡ y
one_outcome (Ok a) (Ok b) e = refl
one_outcome (Ok a) (Err y) e = absurd (omega (arith, number_some y))
one_outcome (Err x) (Ok b) e = absurd (omega (arith, number_some x))
one_outcome (Err x) (Err y) e = ap Err (one_number x y e)

-- whether a call was done is whether its number is 0
pub done : {T : Type 0} (r : Result T Refusal) → is_ok r ≡ eqb (outcome_number r) 0
done (Ok v) = refl
done (Err x) = sym (ne_eqb (number_of x) 0 (λ e. omega (arith, number_some x)))

-- ---- what `?` makes of an outcome: one that is Ok has number 0, and of another the same refusal is handed on
pub passed : {T : Type 0} (r : Result T Refusal) (v : T) → r ≡ Ok v → outcome_number r ≡ 0
passed r v e = rw e refl

pub handed_on : {T : Type 0} (z : Result T Refusal) (x : Refusal) → IsErrAnd z (λ y. y ≡ x) → z ≡ Err x
handed_on (Ok v) x e = absurd e
handed_on (Err y) x e = ap Err e

pub not_zero : (x : Refusal) → number_of x ≡ 0 → ⊥
not_zero x e = omega (arith, number_some x)

pub refused : {T U : Type 0} (r : Result T Refusal) (z : Result U Refusal) (x : Refusal) → r ≡ Err x → IsErrAnd z (λ y. y ≡ x)
    → (outcome_number z ≡ outcome_number r) × (outcome_number z ≡ 0 → ⊥)
refused r z x e f = rw (handed_on z x f, e) (refl, not_zero x)
