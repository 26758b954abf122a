-- Small records by computation: a report written and read, a private record, and each refusal. Assumes nothing.
use Rattle.std.specs.Prelude.{◌≡◌, refl, List, [], ◌∷◌, ◌++◌, ℕ, replicate}
use Rattle.basics.specs.Bytes.{le_of, le_bytes, all_zero}
use Rattle.basics.specs.Checks.{first_failing}
use Rattle.records.specs.ByKind.{is_private, is_readable, zeros_kept, fields_kept}
use Rattle.records.specs.Answers.{refused, accepted}
use Rattle.records.specs.Reading.{read_refusal, fields_of, read_of}
use Rattle.records.specs.Writing.{head_of, bytes_of, write_refusal, written_of}

-- member 3 reports 260 and a mask with bits 1 and 8
abbrev pub report : List ℕ
report = 1 ∷ 3 ∷ replicate 6 0 ++ (4 ∷ 1 ∷ replicate 6 0) ++ (2 ∷ 1 ∷ replicate 6 0)

pub report_written : written_of 1 3 260 258 (replicate 25 7) ≡ report ++ (7 ∷ [])
unfolding written_of bytes_of head_of le_bytes write_refusal fields_kept first_failing
report_written = refl

-- ---- reading, the first refusal of several
pub report_read : read_of report ≡ accepted 1 3 260 258
unfolding read_of read_refusal fields_of is_readable is_private zeros_kept all_zero le_of first_failing
report_read = refl

pub private_read : read_of (200 ∷ replicate 23 9) ≡ accepted 200 0 0 0
unfolding read_of read_refusal fields_of is_readable is_private zeros_kept all_zero le_of first_failing
private_read = refl

pub short_refused : read_of (replicate 23 3) ≡ refused 16
unfolding read_of read_refusal first_failing
short_refused = refl

pub reserved_refused : read_of (3 ∷ replicate 23 9) ≡ refused 14
unfolding read_of read_refusal is_readable is_private first_failing
reserved_refused = refl

pub mask_refused : read_of (2 ∷ 3 ∷ replicate 21 0 ++ (1 ∷ [])) ≡ refused 15
unfolding read_of read_refusal is_readable is_private zeros_kept all_zero first_failing
mask_refused = refl

-- ---- writing, the first refusal of several
pub private_not_written : write_refusal 128 0 0 0 24 ≡ 14
unfolding write_refusal first_failing
private_not_written = refl

pub arrival_without_mask : write_refusal 2 3 260 1 23 ≡ 15
unfolding write_refusal fields_kept first_failing
arrival_without_mask = refl

pub no_room : write_refusal 1 3 260 258 23 ≡ 5
unfolding write_refusal fields_kept first_failing
no_room = refl
