-- A contract that is an equation leaves no choice: two results that meet it are equal. Assumes nothing.
use mathlib.Core.Path.{◌≡◌, sym, ◌∙◌}
use mathlib.Core.Bool.{Bool}
use mathlib.Core.List.{List}
use Prim.Native.Nat.{ℕ, ◌-◌, ◌<◌, min}
use lib.ListN.{length}
use Rattle.basics.specs.Ranges.{is_message, is_quantum, is_resend}
use Rattle.basics.specs.Bytes.{le_bytes, all_zero}
use Rattle.std.specs.Prelude.{Result}
use Rattle.basics.specs.declared.refusal.Refusal.{Refusal}
use Rattle.basics.specs.Refusals.{number_of, outcome_number}

-- a call that hands back one answer
pub one_answer : {A : Type 0} {r z x : A} → r ≡ x → z ≡ x → r ≡ z
one_answer p q = p ∙ sym q

-- a call that also alters what it is lent
pub one_answer_and_exit : {A B : Type 0} {r z x : A} {o o' y : B} → (r ≡ x) × (o ≡ y) → (z ≡ x) × (o' ≡ y) → (r ≡ z) × (o ≡ o')
one_answer_and_exit p q = (one_answer p.0 q.0, one_answer p.1 q.1)

-- ---- this crate's own calls
pub one_wide : (x r z : ℕ) → (r ≡ x) × (r < 4_294_967_296) → (z ≡ x) × (z < 4_294_967_296) → r ≡ z
one_wide x r z p q = one_answer p.0 q.0

pub one_less : (a b r z : ℕ) → r ≡ a - b → z ≡ a - b → r ≡ z
one_less a b r z p q = one_answer p q

pub one_least : (a b r z : ℕ) → r ≡ min a b → z ≡ min a b → r ≡ z
one_least a b r z p q = one_answer p q

pub one_is_message : (k : ℕ) (r z : Bool) → r ≡ is_message k → z ≡ is_message k → r ≡ z
one_is_message k r z p q = one_answer p q

pub one_is_quantum : (q : ℕ) (r z : Bool) → r ≡ is_quantum q → z ≡ is_quantum q → r ≡ z
one_is_quantum q r z p e = one_answer p e

pub one_is_resend : (n : ℕ) (r z : Bool) → r ≡ is_resend n → z ≡ is_resend n → r ≡ z
one_is_resend n r z p q = one_answer p q

pub one_put_number : (out : List ℕ) (x : ℕ) (o o' : List ℕ) → o ≡ le_bytes (length out) x → o' ≡ le_bytes (length out) x → o ≡ o'
one_put_number out x o o' p q = one_answer p q

pub one_all_zero : (part : List ℕ) (r z : Bool) → r ≡ all_zero part → z ≡ all_zero part → r ≡ z
one_all_zero part r z p q = one_answer p q

pub one_refusal_number : (x : Refusal) (r z : ℕ) → r ≡ number_of x → z ≡ number_of x → r ≡ z
one_refusal_number x r z p q = one_answer p q

pub one_outcome_number : {T : Type 0} (x : Result T Refusal) (r z : ℕ) → r ≡ outcome_number x → z ≡ outcome_number x → r ≡ z
one_outcome_number x r z p q = one_answer p q
