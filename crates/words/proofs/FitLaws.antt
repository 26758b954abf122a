-- What it means that no word is too large for its field. Assumes nothing.
use mathlib.Core.Path.{◌≡◌}
use mathlib.Core.Bool.{Bool, true, ◌&&◌}
use mathlib.Core.List.{List}
use Prim.Native.Nat.{ℕ, ◌+◌, ◌≤◌, ◌<◌}
use native.Mathlib.Nat.{zero-add}
use native.Mathlib.Omega.{arith}
use lib.Dec.{leb}
use borrow.Author.Tests.{leb-true}
use Rattle.basics.proofs.SumLaws.{all_at}
use Rattle.basics.proofs.BoolLaws.{and_left, and_right}
use Rattle.words.specs.Taken.{word_at, none_above, fits}

pub none_at : (ws : List ℕ) (from n most : ℕ) → none_above ws from n most ≡ true → (i : ℕ) → i < n → word_at ws (from + i) ≤ most
unfolding none_above
none_at ws from n most h i l = leb-true _ _ (all_at (λ (j : ℕ). leb (word_at ws (from + j)) most) n h i l)

module _ (ws : List ℕ) (f : fits ws ≡ true) where
  abbrev first : Bool
  first = none_above ws 0 135 4294967295

  abbrev second : Bool
  second = none_above ws 265 64 1

  abbrev third : Bool
  third = none_above ws 329 64 4294967295

  pub narrow_at : (i : ℕ) → i < 135 → word_at ws i < 4294967296
  unfolding fits
  narrow_at i l =
      let h : word_at ws (0 + i) ≤ 4294967295 = none_at ws 0 135 4294967295 (and_left first second (and_left (first && second) third f)) i l in
      let g : word_at ws i ≤ 4294967295 = rw zero-add at h in
      omega (arith, g)

  pub flag_at : (i : ℕ) → i < 64 → word_at ws (265 + i) ≤ 1
  unfolding fits
  flag_at i l = none_at ws 265 64 1 (and_right first second (and_left (first && second) third f)) i l

  pub count_at : (i : ℕ) → i < 64 → word_at ws (329 + i) < 4294967296
  unfolding fits
  count_at i l = omega (arith, none_at ws 329 64 4294967295 (and_right (first && second) third f) i l)

  pub share_at : (at i : ℕ) → at + 64 ≤ 135 → i < 64 → word_at ws (at + i) < 4294967296
  share_at at i h l = narrow_at (at + i) (omega arith)

  -- the three words in front of a cluster's shares
  pub members_at : (at : ℕ) → at + 67 ≤ 135 → word_at ws at < 4294967296
  members_at at h = narrow_at at (omega arith)

  pub u_at : (at : ℕ) → at + 67 ≤ 135 → word_at ws (at + 1) < 4294967296
  u_at at h = narrow_at (at + 1) (omega arith)

  pub r_at : (at : ℕ) → at + 67 ≤ 135 → word_at ws (at + 2) < 4294967296
  r_at at h = narrow_at (at + 2) (omega arith)
