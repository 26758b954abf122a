-- What reading tells in each case, from what the code knows where it answers. Assumes nothing.
use mathlib.Core.Path.{◌≡◌, refl, ap₂, sym, ◌∙◌}
use mathlib.Core.Bool.{Bool, true, false, ◌&&◌}
use mathlib.Core.List.{List, ◌∷◌}
use Prim.Native.Nat.{ℕ, ◌<◌, ◌≤◌}
use native.Mathlib.Omega.{arith}
use lib.ListN.{length, get_or, drop, replicate, length-drop}
use lib.Seq.{drop-cons, take_all}
use borrow.Author.Rules.{rules}
use borrow.Author.Tests.{eq-eqb, ne_eqb, le-leb, lt-leb}
use Rattle.basics.specs.Bytes.{le_of, all_zero, part}
use Rattle.basics.specs.Checks.{first_failing}
use Rattle.basics.proofs.BoolLaws.{and_right}
use Rattle.basics.proofs.ByteLaws.{Bytes, part_zeros, zero_number}
use Rattle.records.specs.ByKind.{is_private, is_readable, zeros_kept}
use Rattle.std.specs.Prelude.{Ok, Err}
use Rattle.records.specs.Answers.{accepted, told, is_proper}
use Rattle.records.specs.Reading.{kind_in, read_refusal, fields_of, read_of}
use Rattle.records.specs.declared.Record.TheVariants.{Unused, Report, Arrival, Private}
use Rattle.basics.specs.declared.refusal.Refusal.TheVariants.{WrongLength, WrongKind, NotZero}

-- an unused place is 24 zeros
pub unused_bytes : (s : List ℕ) → length s ≡ 24 → kind_in s ≡ 0 → all_zero (part 1 24 s) ≡ true → s ≡ replicate 24 0
unused_bytes s l k z =
    drop-cons s 0 0 (omega arith)
    ∙ ap₂ (λ (x : ℕ) (t : List ℕ). x ∷ t) k (sym (take_all 23 (drop 1 s) (simp length-drop (omega arith))) ∙ part_zeros s 1 24 (omega arith) z)

-- ---- refused
module _ (s : List ℕ) where
  pub read_length : (length s ≡ 24 → ⊥) → told (Err WrongLength) ≡ read_of s
  unfolding told read_of read_refusal first_failing
  read_length n = simp (ne_eqb _ _ n)

  pub read_reserved : length s ≡ 24 → (kind_in s ≡ 0 → ⊥) → (kind_in s ≡ 1 → ⊥) → (kind_in s ≡ 2 → ⊥) → kind_in s < 128 → told (Err WrongKind) ≡ read_of s
  unfolding told read_of read_refusal first_failing is_readable is_private
  read_reserved l a b c h = simp (eq-eqb _ _ l, lt-leb (kind_in s) 2 (omega arith), lt-leb 128 (kind_in s) h)

  not_zero : (k : ℕ) → k ≤ 2 → length s ≡ 24 → kind_in s ≡ k → zeros_kept k s ≡ false → told (Err NotZero) ≡ read_of s
  unfolding told read_of read_refusal first_failing is_readable
  not_zero k h l e z = simp (eq-eqb _ _ l, e, le-leb k 2 h, z)

  pub not_unused : (z : Bool) → length s ≡ 24 → kind_in s ≡ 0 → z ≡ all_zero (part 1 24 s) → z ≡ false → told (Err NotZero) ≡ read_of s
  unfolding zeros_kept is_private
  not_unused z l k a t = not_zero 0 (omega arith) l k (simp (← a, t))

  pub not_report : (z : Bool) → length s ≡ 24 → kind_in s ≡ 1 → z ≡ all_zero (part 2 8 s) → z ≡ false → told (Err NotZero) ≡ read_of s
  unfolding zeros_kept is_private
  not_report z l k a t = not_zero 1 (omega arith) l k (simp (← a, t))

  pub not_arrival : (z y : Bool) → length s ≡ 24 → kind_in s ≡ 2 → z ≡ all_zero (part 2 8 s) → y ≡ all_zero (part 16 24 s) → (z && y) ≡ false → told (Err NotZero) ≡ read_of s
  unfolding zeros_kept is_private
  not_arrival z y l k a b t = not_zero 2 (omega arith) l k (simp (← a, ← b, t))

  -- ---- accepted
  pub read_private : length s ≡ 24 → 127 < kind_in s → Bytes s → told (Ok (Private (kind_in s))) ≡ read_of s
  unfolding told read_of read_refusal first_failing is_readable is_private zeros_kept fields_of
  read_private l a b =
      simp (eq-eqb _ _ l, lt-leb (kind_in s) 2 (omega arith), le-leb 128 (kind_in s) (omega arith), le-leb (kind_in s) 255 (omega (arith, b 0)), ne_eqb (kind_in s) 0 (λ e. omega arith), ne_eqb (kind_in s) 2 (λ e. omega arith))

  pub private_proper : 127 < kind_in s → Bytes s → is_proper (Ok (Private (kind_in s))) ≡ true
  unfolding is_private
  private_proper a b = simp (le-leb 128 (kind_in s) (omega arith), le-leb (kind_in s) 255 (omega (arith, b 0)))

  pub with_fields : (k : ℕ) → k ≤ 2 → length s ≡ 24 → kind_in s ≡ k → zeros_kept k s ≡ true → accepted k (get_or s 1 0) (le_of (part 8 16 s)) (le_of (part 16 24 s)) ≡ read_of s
  unfolding read_of read_refusal first_failing is_readable is_private fields_of
  with_fields k h l e z = simp (eq-eqb _ _ l, e, le-leb k 2 h, z, lt-leb 128 k (omega arith))

  pub read_unused : (z : Bool) → length s ≡ 24 → kind_in s ≡ 0 → z ≡ all_zero (part 1 24 s) → z ≡ true → told (Ok Unused) ≡ read_of s
  unfolding told read_of read_refusal first_failing is_readable is_private fields_of zeros_kept all_zero le_of
  read_unused z l k a t = rw (unused_bytes s l k (sym a ∙ t)) refl

  pub read_report : (z : Bool) (n w : ℕ) → length s ≡ 24 → kind_in s ≡ 1 → z ≡ all_zero (part 2 8 s) → z ≡ true → n ≡ le_of (part 8 16 s) → w ≡ le_of (part 16 24 s)
      → told (Ok (Report (get_or s 1 0) n w)) ≡ read_of s
  unfolding told zeros_kept is_private
  read_report z n w l k a t e f = ap₂ (accepted 1 (get_or s 1 0)) e f ∙ with_fields 1 (omega arith) l k (simp (← a, t))

  pub read_arrival : (z y : Bool) (n : ℕ) → length s ≡ 24 → kind_in s ≡ 2 → z ≡ all_zero (part 2 8 s) → y ≡ all_zero (part 16 24 s) → (z && y) ≡ true → n ≡ le_of (part 8 16 s)
      → told (Ok (Arrival (get_or s 1 0) n)) ≡ read_of s
  unfolding told zeros_kept is_private
  read_arrival z y n l k a b t e =
      ap₂ (accepted 2 (get_or s 1 0)) e (sym (zero_number (part 16 24 s) (sym b ∙ and_right z y t)))
      ∙ with_fields 2 (omega arith) l k (simp (← a, ← b, t))

pub ruleset reads = (read_length, read_reserved, not_unused, not_report, not_arrival, read_unused, read_report, read_arrival, read_private, private_proper, rules)
