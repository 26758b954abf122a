-- The columns of the entries, place by place, from what the code knows. Assumes nothing.
use mathlib.Core.Path.{◌≡◌, ap, ◌∙◌}
use mathlib.Core.Bool.{Bool, true, cond, ◌||◌}
use mathlib.Core.List.{List}
use Prim.Native.Nat.{ℕ, ◌+◌, ◌≤◌, ◌<◌}
use native.Mathlib.Decide.{dec_lt}
use native.Mathlib.Omega.{arith}
use lib.Dec.{ltb, eqb}
use lib.ListN.{length}
use borrow.Author.Tests.{lt-ltb, le-ltb, eqb-true}
use Rattle.basics.proofs.SumLaws.{all_at, length_list}
use Rattle.downstream.specs.State.{offset_at, place_after}
use Rattle.judging.specs.Complaints.{complaints_after}
use Rattle.judging.proofs.PlaceLaws.{place_offset}
use Rattle.words.specs.Entries.{closed_zero}
use Rattle.words.specs.Taken.{word_at, column_at}
use Rattle.steps.specs.Columns.{open_at, heard_after}
use Rattle.steps.proofs.EntryLaws.{same_list}

-- ---- the offset of a place, as it was worked out
module _ (o e : ℕ) (q : o ≡ e) where
  pub open_word : (n x : ℕ) → o < n → x ≡ cond (ltb e n) x 0
  open_word n x l = rw (← q) (simp (lt-ltb o n l))

  pub closed_word : (n x : ℕ) → n ≤ o → 0 ≡ cond (ltb e n) x 0
  closed_word n x l = rw (← q) (simp (le-ltb o n l))

-- ---- they have 64 places
pub open_long : (ws : List ℕ) (at p n : ℕ) (column : List ℕ) → column ≡ open_at ws at p n → length column ≡ 64
unfolding open_at
open_long ws at p n column e = ap length e ∙ length_list (λ j. cond (ltb (offset_at p j) n) (word_at ws (at + j)) 0) 64

pub heard_long : (ws : List ℕ) (i c mask : ℕ) (again : Bool) (p n : ℕ) (sets : List ℕ) → sets ≡ heard_after ws i c mask again p n → length sets ≡ 64
unfolding heard_after
heard_long ws i c mask again p n sets e = ap length e ∙ length_list (λ j. cond (ltb (offset_at p j) n) (complaints_after i c mask again p (p + 1 + offset_at p j) (word_at ws (393 + j))) 0) 64

-- ---- what is closed is zero already
pub open_kept : (ws : List ℕ) (at p n q : ℕ) (column : List ℕ) → (p ≡ q → closed_zero ws at p n ≡ true) → p ≡ q → column ≡ column_at ws at → column ≡ open_at ws at p n
unfolding column_at open_at closed_zero
open_kept ws at p n q column h z e = e ∙ same_list (λ j. word_at ws (at + j)) (λ j. cond (ltb (offset_at p j) n) (word_at ws (at + j)) 0) 0 (λ j m. elim (dec_lt (offset_at p j) n) [
  | yes l ↦ simp (lt-ltb (offset_at p j) n l)
  | no l ↦ (let closed = all_at (λ o. ltb o n || eqb (word_at ws (at + place_after p o)) 0) 64 (h z) (offset_at p j) (omega arith) in
      let zero : word_at ws (at + j) ≡ 0 = eqb-true (word_at ws (at + j)) 0 (rw (place_offset p j m) at (simp (le-ltb (offset_at p j) n (omega arith)) at closed)) in
      simp (le-ltb (offset_at p j) n (omega arith)) zero)
])
