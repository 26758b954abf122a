-- Which messages enough members complain of, from what the code knows where it answers. Assumes nothing.
use mathlib.Core.Path.{◌≡◌, refl, ap, ◌∙◌}
use mathlib.Core.Bool.{Bool, true, false, cond, ◌&&◌}
use mathlib.Core.List.{List}
use Prim.Native.Nat.{ℕ, zero, suc, ◌+◌, ◌*◌, ◌%◌, ◌^◌, ◌≤◌, ◌<◌}
use native.Mathlib.Nat.{zero-mul}
use native.Mathlib.Decide.{dec_lt}
use native.Mathlib.Numerals.{add-one}
use native.Mathlib.Omega.{arith}
use lib.Bits.{bit_or, or_zero_r}
use mir.Val.{bool_byte}
use lib.Dec.{leb, ltb}
use lib.ListN.{length, get_or}
use borrow.Author.Tests.{lt-leb}
use Rattle.basics.proofs.BoolLaws.{or_left, or_right, and_not_left}
use Rattle.marks.specs.Gathered.{any_of}
use Rattle.marks.specs.Masks.{is_marked, mark_of, set_below}
use Rattle.marks.proofs.GatheredLaws.{any_all_by_index}
use Rattle.marks.proofs.MaskLaws.{mark_in}
use Rattle.marks.proofs.SetLaws.{set_turn, marked_or}
use Rattle.shares.specs.Shares.{share_of}
use Rattle.shares.proofs.ShareLaws.{share_mono}
use Rattle.downstream.specs.State.{place_after}
use Rattle.judging.specs.Verdicts.{enough_against, complainers_of}

-- ---- those that complain of anything
module _ (complaints : List ℕ) where
  pub complainers_any : (any : ℕ) → any ≡ any_of complaints → length complaints ≡ 64 → any ≡ complainers_of complaints 64
  unfolding complainers_of
  complainers_any any e long = e ∙ any_all_by_index (complainers_of complaints) complaints 64 refl (λ k. rw add-one) long

  complainer_in : (n j b : ℕ) → j < n → is_marked (get_or complaints j 0) b ≡ true → is_marked (complainers_of complaints n) b ≡ true
  unfolding complainers_of
  complainer_in zero j b l h = absurd (omega arith)
  complainer_in (suc n) j b l h = marked_or (complainers_of complaints n) (get_or complaints n 0) b ∙ elim (dec_lt j n) [
    | yes k ↦ or_left (is_marked (complainers_of complaints n) b) (is_marked (get_or complaints n 0) b) (complainer_in n j b k h)
    | no k ↦ (let z : j ≡ n = omega arith in or_right (is_marked (complainers_of complaints n) b) (is_marked (get_or complaints n 0) b) (rw z at h))
  ]

-- ---- a test that is made a bit
pub bit_put : (set o : ℕ) (b : Bool) → o < 64 → bit_or set ((bool_byte b * 2 ^ o) % 18446744073709551616) ≡ cond b (mark_of set o) set
bit_put set o true l = mark_in set o l
bit_put set o false l = ap (bit_or set) (simp (zero-mul (2 ^ o))) ∙ or_zero_r set

-- ---- a turn of the loop, and when none is found
module _ (shares : List ℕ) (r : ℕ) (counts complaints : List ℕ) (p : ℕ) where
  pub enough_turn : (o n set share next : ℕ) → o < n → n ≤ 64 → set ≡ set_below o (enough_against shares r counts complaints p)
      → share ≡ share_of shares (is_marked (get_or complaints (place_after p o) 0))
      → next ≡ cond (leb (r + 1) share && ltb (get_or counts (place_after p o) 0) 255) (mark_of set o) set
      → next ≡ set_below (o + 1) (enough_against shares r counts complaints p)
  unfolding enough_against
  enough_turn o n set share next l few e q f =
      set_turn (enough_against shares r counts complaints p) o n l few e
      (f ∙ ap (λ (x : ℕ). cond (leb (r + 1) x && ltb (get_or counts (place_after p o) 0) 255) (mark_of set o) set) q)

  pub few_against : (o any against : ℕ) → any ≡ complainers_of complaints 64 → against ≡ share_of shares (is_marked any) → against ≤ r → enough_against shares r counts complaints p o ≡ false
  unfolding enough_against
  few_against o any against ea es l =
      let set : ℕ = get_or complaints (place_after p o) 0 in
      let m : share_of shares (is_marked set) ≤ share_of shares (is_marked any) = share_mono shares (is_marked set) (is_marked any)
      (λ i k t. ap (λ (x : ℕ). is_marked x i) ea ∙ complainer_in complaints 64 (place_after p o) i (omega arith) t) in
      and_not_left (leb (r + 1) (share_of shares (is_marked set))) (ltb (get_or counts (place_after p o) 0) 255) (lt-leb (r + 1) (share_of shares (is_marked set)) (omega (arith, m, es)))
