-- What an accepted record's bytes are, and what a written record's bytes hold. Assumes nothing.
use mathlib.Core.Path.{◌≡◌, refl, ap, sym, ◌∙◌}
use mathlib.Core.Bool.{true, ◌&&◌}
use mathlib.Core.List.{List, [], ◌∷◌, ◌++◌}
use Prim.Native.Nat.{ℕ, zero, suc, ◌≤◌}
use native.Mathlib.Omega.{arith}
use lib.Dec.{eqb}
use lib.ListN.{length, get_or, drop, take-append-drop, length-drop}
use lib.Seq.{drop-cons, drop-drop, take_all}
use borrow.Author.Tests.{eqb-true, eq-eqb, lt-leb}
use Rattle.basics.specs.Bytes.{le_of, le_bytes, all_zero, part}
use Rattle.basics.specs.Checks.{Check, ◌else◌}
use Rattle.basics.proofs.BoolLaws.{either, and_left, and_right}
use Rattle.basics.proofs.ByteLaws.{Bytes, part_zeros, part_back, zero_number}
use Rattle.basics.proofs.CheckLaws.{first_passed, later_passed}
use Rattle.records.specs.ByKind.{◌asks◌, is_private, is_readable, zeros_kept, fields_kept}
use Rattle.records.specs.Reading.{kind_in, read_refusal, fields_of, read_of}
use Rattle.records.specs.Writing.{head_of, bytes_of}
use Rattle.records.proofs.ReadLaws.{unused_bytes}

-- ---- written
-- an unused place has no fields
unused_fields : (m n w : ℕ) → fields_kept 0 m n w ≡ true → (m ≡ 0) × (n ≡ 0) × (w ≡ 0)
unfolding fields_kept
unused_fields m n w f =
    let all : ((eqb m 0 && eqb n 0) && eqb w 0) ≡ true = and_left _ _ f in
    let two : (eqb m 0 && eqb n 0) ≡ true = and_left _ _ all in
    (eqb-true m 0 (and_left _ _ two), eqb-true n 0 (and_right (eqb m 0) _ two), eqb-true w 0 (and_right (eqb m 0 && eqb n 0) _ all))

-- fields that may be written leave zeros where the kind asks for them
pub zeros_written : (k m n w : ℕ) → k ≤ 2 → fields_kept k m n w ≡ true → zeros_kept k (bytes_of k m n w) ≡ true
unfolding zeros_kept is_private fields_kept bytes_of head_of all_zero le_bytes
zeros_written zero m n w l f = let z = unused_fields m n w f in rw (z.0, z.1, z.2) refl
zeros_written (suc zero) m n w l f = refl
zeros_written (suc (suc zero)) m n w l f = rw (eqb-true w 0 f) refl
zeros_written (suc (suc (suc k))) m n w l f = absurd (omega arith)

-- ---- read
-- what is accepted has the kind that it tells, 24 bytes, and zeros where the kind asks for them
module _ (s : List ℕ) (e : (read_of s).refusal ≡ 0) where
  not_refused : read_refusal s ≡ 0
  unfolding read_of
  not_refused = either (read_refusal s ≡ 0) (eqb (read_refusal s) 0) (λ t. eqb-true (read_refusal s) 0 t) (λ t. simp t at e)

  pub told_kind : (read_of s).kind ≡ kind_in s
  unfolding read_of fields_of
  told_kind = rw not_refused (either _ (is_private (kind_in s)) (λ t. simp t) (λ t. simp t))

  abbrev checks_left : List Check
  checks_left = (is_readable (kind_in s) else 14) ∷ (zeros_kept (kind_in s) s else 15) ∷ []

  pub right_length : length s ≡ 24
  unfolding read_refusal
  right_length = eqb-true (length s) 24 (first_passed (eqb (length s) 24) 16 checks_left (omega arith) not_refused)

  pub right_zeros : zeros_kept (kind_in s) s ≡ true
  unfolding read_refusal
  right_zeros =
      first_passed (zeros_kept (kind_in s) s) 15 [] (omega arith)
      (later_passed (is_readable (kind_in s)) 14 ((zeros_kept (kind_in s) s else 15) ∷ []) (omega arith)
      (later_passed (eqb (length s) 24) 16 checks_left (omega arith) not_refused))

-- such zeros leave bytes 2 to 7 zero and fields that may be written, whichever of the three kinds it is
module _ (s : List ℕ) (l : length s ≡ 24) where
  pub six_zeros : (k : ℕ) → k ≤ 2 → zeros_kept k s ≡ true → all_zero (part 2 8 s) ≡ true
  unfolding zeros_kept is_private
  six_zeros k h z =
      let others = eqb k 0 asks all_zero (part 1 24 s) in
      and_right others _ (and_left (others && all_zero (part 2 8 s)) (eqb k 2 asks all_zero (part 16 24 s)) (simp (lt-leb 128 k (omega arith)) at z))

  pub fields_back : (k : ℕ) → k ≤ 2 → kind_in s ≡ k → zeros_kept k s ≡ true → fields_kept k (get_or s 1 0) (le_of (part 8 16 s)) (le_of (part 16 24 s)) ≡ true
  unfolding zeros_kept is_private fields_kept le_of
  fields_back zero h e z =
      let others : all_zero (part 1 24 s) ≡ true = and_left _ (all_zero (part 2 8 s)) (and_left _ true z) in
      rw (unused_bytes s l e others) refl
  fields_back (suc zero) h e z = refl
  fields_back (suc (suc zero)) h e z = eq-eqb _ 0 (zero_number (part 16 24 s) (and_right (all_zero (part 2 8 s)) _ z))
  fields_back (suc (suc (suc k))) h e z = absurd (omega arith)

  -- the bytes, part by part
  whole : s ≡ get_or s 0 0 ∷ get_or s 1 0 ∷ (part 2 8 s ++ (part 8 16 s ++ part 16 24 s))
  whole =
      drop-cons s 0 0 (omega arith)
      ∙ ap (λ (t : List ℕ). get_or s 0 0 ∷ t) (drop-cons s 1 0 (omega arith)
      ∙ ap (λ (t : List ℕ). get_or s 1 0 ∷ t) (sym (take-append-drop 6 (drop 2 s))
      ∙ ap (λ (t : List ℕ). part 2 8 s ++ t) (drop-drop 6 2 s ∙ sym (take-append-drop 8 (drop 8 s))
      ∙ ap (λ (t : List ℕ). part 8 16 s ++ t) (drop-drop 8 8 s ∙ sym (take_all 8 (drop 16 s) (simp length-drop (omega arith)))))))

  pub bytes_back : Bytes s → all_zero (part 2 8 s) ≡ true → bytes_of (kind_in s) (get_or s 1 0) (le_of (part 8 16 s)) (le_of (part 16 24 s)) ≡ s
  unfolding bytes_of head_of
  bytes_back b z =
      rw (part_back s 8 16 (omega arith) b, part_back s 16 24 (omega arith) b) (sym (rw (part_zeros s 2 8 (omega arith) z) at whole))
