-- Columns of the reports and of the entries, and the members that lack a message. Assumes nothing.
use mathlib.Core.Path.{◌≡◌, ap, ◌∙◌}
use mathlib.Core.Bool.{Bool, not, ◌&&◌, ◌||◌}
use mathlib.Core.Logic.{inl, inr}
use mathlib.Core.List.{List}
use Prim.Native.Nat.{ℕ, ◌<◌, min}
use native.Mathlib.Omega.{arith}
use mir.Syntax.{w64}
use mir.Val.{Fits}
use lib.Dec.{ltb}
use lib.ListN.{length, get_or}
use Rattle.basics.proofs.BoolLaws.{bool_cases, ltb_same}
use Rattle.basics.proofs.SumLaws.{all_cong, length_list, list_at}
use Rattle.marks.specs.Masks.{is_marked, is_subset, reach_of}
use Rattle.marks.proofs.RunLaws.{reach_above}
use Rattle.marks.proofs.SetLaws.{marked_set}
use Rattle.downstream.specs.declared.state.Report.{Report}
use Rattle.downstream.specs.declared.state.Entry.{Entry}
use Rattle.downstream.specs.State.{no_entry, report_at, numbers_of, masks_of, counts_of, complaints_of, held_by, lacking_of}
use Rattle.downstream.specs.Formed.{complaints_kept}

pub number_at : (reports : List Report) (i : ℕ) → i < 64 → get_or (numbers_of reports) i 0 ≡ (report_at reports i).number
unfolding numbers_of
number_at reports i l = list_at (λ j. (report_at reports j).number) 0 64 i l

pub mask_at : (reports : List Report) (i : ℕ) → i < 64 → get_or (masks_of reports) i 0 ≡ (report_at reports i).mask
unfolding masks_of
mask_at reports i l = list_at (λ j. (report_at reports j).mask) 0 64 i l

pub length_resent : (entries : List Entry) → length (counts_of entries) ≡ 64
unfolding counts_of
length_resent entries = length_list (λ j. (get_or entries j no_entry).count) 64

pub count_at : (entries : List Entry) (i : ℕ) → i < 64 → get_or (counts_of entries) i 0 ≡ (get_or entries i no_entry).count
unfolding counts_of
count_at entries i l = list_at (λ j. (get_or entries j no_entry).count) 0 64 i l

pub complaint_at : (entries : List Entry) (i : ℕ) → i < 64 → get_or (complaints_of entries) i 0 ≡ (get_or entries i no_entry).complaints
unfolding complaints_of
complaint_at entries i l = list_at (λ j. (get_or entries j no_entry).complaints) 0 64 i l

-- ---- the set of those that lack
pub subset_lacking : (n : ℕ) (numbers masks : List ℕ) (k bits : ℕ) {l : ℕ} {b : Bool} → l ≡ lacking_of numbers masks n k → b ≡ is_subset bits l → b ≡ complaints_kept n numbers masks k bits
unfolding is_subset lacking_of complaints_kept
subset_lacking n numbers masks k bits {l} {b} e q = q ∙ rw e (simp (marked_set (λ i. not (held_by numbers masks k i)) n))

-- past the last member that a set names it makes no difference how many there are
module _ (n : ℕ) (numbers masks : List ℕ) (k bits : ℕ) (fits : Fits w64 bits) where
  abbrev asks : ℕ → ℕ → Bool
  asks m i = not (is_marked bits i) || (ltb i m && not (held_by numbers masks k i))

  named_same : (m i : ℕ) → m ≡ min n (reach_of bits) → asks m i ≡ asks n i
  named_same m i e = elim (bool_cases (is_marked bits i)) [
    | inl t ↦ (let l : i < reach_of bits = reach_above bits i fits.fits t in
        ap (λ (b : Bool). not (is_marked bits i) || (b && not (held_by numbers masks k i))) (ltb_same i m i n (λ a. omega arith) (λ a. omega arith)))
    | inr t ↦ simp t
  ]

  pub subset_named : (m r l : ℕ) (b : Bool) → r ≡ reach_of bits → m ≡ min n r → l ≡ lacking_of numbers masks m k → b ≡ is_subset bits l → b ≡ complaints_kept n numbers masks k bits
  unfolding complaints_kept
  subset_named m r l b f e g h = subset_lacking m numbers masks k bits g h ∙ all_cong (asks m) (asks n) 64 (λ i x. named_same m i (rw f at e))
