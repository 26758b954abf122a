-- The contracts leave no choice: two results that meet one are equal. By a way back from what is told to the answer. Assumes nothing.
use mathlib.Core.Path.{◌≡◌, refl, ap, sym, ◌∙◌}
use mathlib.Core.Bool.{true, cond}
use mathlib.Core.List.{List}
use Prim.Native.Nat.{ℕ, ◌≤◌}
use native.Mathlib.Omega.{arith}
use lib.Dec.{eqb, leb}
use lib.ListN.{length}
use borrow.Author.Tests.{ne_eqb, leb-true}
use Rattle.basics.proofs.BoolLaws.{and_left}
use Rattle.records.specs.ByKind.{is_private}
use Rattle.records.specs.Answers.{Told, told, is_proper}
use Rattle.records.specs.Reading.{read_of}
use Rattle.records.specs.Writing.{write_refusal, written_of}
use Rattle.records.specs.declared.Record.{Record}
use Rattle.records.specs.declared.Record.TheVariants.{Unused, Report, Arrival, Private}
use Rattle.basics.specs.declared.refusal.Refusal.{Refusal}
use Rattle.basics.specs.Refusals.{number_of, outcome_number}
use Rattle.basics.proofs.RefusalLaws.{refusal_at, number_back, not_zero}
use Rattle.std.specs.Prelude.{Result, Ok, Err}

-- what `read` ensures of its answer
abbrev pub ReadMeets : List ℕ → Result Record Refusal → Type 0
ReadMeets s r = (told r ≡ read_of s) × (is_proper r ≡ true)

-- what `write` ensures of its answer and of the output at exit
abbrev pub WriteMeets : ℕ → ℕ → ℕ → ℕ → List ℕ → Result Unit Refusal → List ℕ → Type 0
WriteMeets k m n w s r o = (outcome_number r ≡ write_refusal k m n w (length s)) × (o ≡ written_of k m n w s)

-- ---- the way back
record_back : Told → Record
record_back t =
    cond (eqb t.kind 0) Unused
    (cond (eqb t.kind 1) (Report t.member t.number t.mask)
    (cond (eqb t.kind 2) (Arrival t.member t.number) (Private t.kind)))

read_back : Told → Result Record Refusal
read_back t = cond (eqb t.refusal 0) (Ok (record_back t)) (Err (refusal_at t.refusal))

write_back : ℕ → Result Unit Refusal
write_back n = cond (eqb n 0) (Ok tt) (Err (refusal_at n))

record_back_lem : (x : Record) → is_proper (Ok x) ≡ true → record_back (told (Ok x)) ≡ x
unfolding record_back told is_private
record_back_lem Unused p = refl
record_back_lem (Report m n w) p = refl
record_back_lem (Arrival m n) p = refl
record_back_lem (Private k) p =
    let high : 128 ≤ k = leb-true 128 k (and_left (leb 128 k) (leb k 255) p) in
    simp (ne_eqb k 0 (λ e. omega arith), ne_eqb k 1 (λ e. omega arith), ne_eqb k 2 (λ e. omega arith))

-- no refusal is told of a record
is_told : (x : Record) → (told (Ok x)).refusal ≡ 0
unfolding told
is_told Unused = refl
is_told (Report m n w) = refl
is_told (Arrival m n) = refl
is_told (Private k) = refl

read_back_lem : (r : Result Record Refusal) → is_proper r ≡ true → read_back (told r) ≡ r
unfolding read_back told
read_back_lem (Ok x) p = simp (is_told x) (ap Ok (record_back_lem x p))
read_back_lem (Err x) p = simp (ne_eqb (number_of x) 0 (not_zero x)) (ap Err (number_back x))

write_back_lem : (r : Result Unit Refusal) → write_back (outcome_number r) ≡ r
unfolding write_back
write_back_lem (Ok u) = refl
write_back_lem (Err x) = simp (ne_eqb (number_of x) 0 (not_zero x)) (ap Err (number_back x))

-- ---- the theorems
pub one_read : (s : List ℕ) (r r' : Result Record Refusal) → ReadMeets s r → ReadMeets s r' → r ≡ r'
one_read s r r' a b = sym (read_back_lem r a.1) ∙ ap read_back (a.0 ∙ sym b.0) ∙ read_back_lem r' b.1

pub one_write : (k m n w : ℕ) (s o o' : List ℕ) (r r' : Result Unit Refusal) → WriteMeets k m n w s r o → WriteMeets k m n w s r' o' → (r ≡ r') × (o ≡ o')
one_write k m n w s o o' r r' a b = (sym (write_back_lem r) ∙ ap write_back (a.0 ∙ sym b.0) ∙ write_back_lem r', a.1 ∙ sym b.1)
