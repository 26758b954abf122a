-- What is written reads back, and what is read writes back; a refused write changes nothing, and no write changes a later byte.
-- Assumes nothing.
use mathlib.Core.Path.{◌≡◌, refl, ap₂, sym, ◌∙◌}
use mathlib.Core.List.{List}
use Prim.Native.Nat.{ℕ, ◌^◌, ◌<◌, ◌≤◌}
use lib.Dec.{eqb}
use lib.ListN.{length, get_or, take, drop}
use borrow.Author.Tests.{eq-eqb, ne_eqb}
use Rattle.basics.specs.Bytes.{le_of, le_bytes, part}
use Rattle.basics.proofs.BoolLaws.{either}
use Rattle.basics.proofs.ByteLaws.{Bytes, le_back}
use Rattle.records.specs.Answers.{Told, accepted}
use Rattle.records.specs.Reading.{kind_in, read_of}
use Rattle.records.specs.Writing.{head_of, bytes_of, write_refusal, written_of}
use Rattle.records.proofs.ReadLaws.{with_fields}
use Rattle.records.proofs.WriteLaws.{writable, written_kept, fields_accepted}
use Rattle.records.proofs.BackLaws.{zeros_written, told_kind, right_length, right_zeros, six_zeros, fields_back, bytes_back}

-- writing the fields that were told
abbrev pub refusal_again : Told → ℕ
refusal_again t = write_refusal t.kind t.member t.number t.mask 24

abbrev pub bytes_again : Told → List ℕ
bytes_again t = bytes_of t.kind t.member t.number t.mask

-- reading a written record gives back its fields
pub read_written : (k m n w : ℕ) → write_refusal k m n w 24 ≡ 0 → n < 2 ^ 64 → w < 2 ^ 64 → read_of (bytes_of k m n w) ≡ record { refusal = 0; kind = k; member = m; number = n; mask = w }
unfolding bytes_of head_of le_bytes
read_written k m n w e hn hw =
    let s = bytes_of k m n w in
    sym (with_fields s k (writable k m n w 24 e) refl refl (zeros_written k m n w (writable k m n w 24 e) (written_kept k m n w 24 e)))
    ∙ ap₂ (accepted k m) (le_back 8 n hn) (le_back 8 w hw)

-- writing an accepted record of kind 0, 1 or 2 is not refused and gives back its bytes
pub write_read : (s : List ℕ) → Bytes s → (read_of s).refusal ≡ 0 → (read_of s).kind ≤ 2 → (refusal_again (read_of s) ≡ 0) × (bytes_again (read_of s) ≡ s)
write_read s b e h =
    let l : length s ≡ 24 = right_length s e in
    let small : kind_in s ≤ 2 = rw (told_kind s e) at h in
    let t : accepted (kind_in s) (get_or s 1 0) (le_of (part 8 16 s)) (le_of (part 16 24 s)) ≡ read_of s = with_fields s (kind_in s) small l refl (right_zeros s e) in
    rw (← t) (
      fields_accepted (kind_in s) (get_or s 1 0) (le_of (part 8 16 s)) (le_of (part 16 24 s)) small (fields_back s l (kind_in s) small refl (right_zeros s e)),
      bytes_back s l b (six_zeros s l (kind_in s) small (right_zeros s e)),
    )

-- a refused write changes no byte
pub refused_same : (k m n w : ℕ) (o : List ℕ) → (write_refusal k m n w (length o) ≡ 0 → ⊥) → written_of k m n w o ≡ o
unfolding written_of
refused_same k m n w o h = simp (ne_eqb _ 0 h)

-- a write that is not refused puts the record's bytes in front
pub written_first : (k m n w : ℕ) (o : List ℕ) → write_refusal k m n w (length o) ≡ 0 → take 24 (written_of k m n w o) ≡ bytes_of k m n w
unfolding written_of bytes_of head_of le_bytes
written_first k m n w o h = simp (eq-eqb _ 0 h)

-- no write changes a byte past the 24th
pub later_same : (k m n w : ℕ) (o : List ℕ) → drop 24 (written_of k m n w o) ≡ drop 24 o
unfolding written_of bytes_of head_of le_bytes
later_same k m n w o = either (drop 24 (written_of k m n w o) ≡ drop 24 o) (eqb (write_refusal k m n w (length o)) 0) (λ t. simp t) (λ t. simp t)
