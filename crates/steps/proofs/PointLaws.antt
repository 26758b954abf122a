-- The point after a report, by the point before it: no number falls, so it stays unless those above it come to have enough. Assumes nothing.
use mathlib.Core.Path.{◌≡◌, refl}
use mathlib.Core.Bool.{Bool, true, false, cond}
use mathlib.Core.List.{List}
use Prim.Native.Nat.{ℕ, zero, suc, ◌+◌, ◌*◌, ◌≤◌, ◌<◌}
use native.Mathlib.Decide.{dec_le, ℕ_discrete}
use native.Mathlib.Omega.{arith}
use mir.Syntax.{w64}
use mir.Val.{Fits}
use lib.Dec.{leb}
use lib.ListN.{length, get_or, set, take, get_or-eq_default}
use lib.Seq.{get_or-set_same, get_or-set_other}
use borrow.Author.Tests.{le-leb, leb-true}
use Rattle.basics.specs.Sums.{sum_below}
use Rattle.basics.proofs.SumLaws.{sum_mono, all_of, length_list, list_at}
use Rattle.shares.specs.Shares.{share_of}
use Rattle.shares.specs.Point.{reached_of, point_of}
use Rattle.shares.proofs.ShareLaws.{share_mono}
use Rattle.shares.proofs.PointLaws.{point_reached, point_largest, reached_falls, point_grows}
use Rattle.downstream.specs.State.{point_from}
use Rattle.words.specs.Taken.{word_at, none_above, fits, column_at, cluster_at}
use Rattle.words.proofs.FitLaws.{narrow_at}
use Rattle.words.proofs.ClusterLaws.{shares_length, shares_at}

-- ---- where one of the parts alone may grow, by so much at most, so does the sum
sum_one : (f g : ℕ → ℕ) (i x n : ℕ) → ((j : ℕ) → (j ≡ i → ⊥) → f j ≤ g j) → f i ≤ x → sum_below n f ≤ sum_below n g + x
unfolding sum_below
sum_one f g i x zero h l = omega arith
sum_one f g i x (suc n) h l = elim (ℕ_discrete n i) [
  | yes e ↦ omega (arith, sum_mono f g n (λ j m. h j (λ z. omega arith)), rw (← e) at l)
  | no e ↦ omega (arith, sum_one f g i x n h l, h n e)
]

module _ (shares before : List ℕ) (t p i c : ℕ) (some : 1 ≤ t) (point : p ≡ point_of shares before t) (place : i < length before) (up : get_or before i 0 ≤ c) where
  abbrev after : List ℕ
  after = set before i c

  rises : (j : ℕ) → j < length shares → get_or before j 0 ≤ get_or after j 0
  rises j l = elim (ℕ_discrete j i) [
    | yes e ↦ rw e (rw (get_or-set_same before i c 0 place) up)
    | no e ↦ omega (arith, get_or-set_other before i j c 0 e)
  ]

  missed : reached_of shares before (p + 1) < t
  missed = elim (dec_le t (reached_of shares before (p + 1))) [
    | yes l ↦ absurd (omega (arith, point, point_largest shares before t (p + 1) some l))
    | no l ↦ omega arith
  ]

  stays : reached_of shares after (p + 1) < t → p ≡ point_of shares after t
  stays l = elim (dec_le (point_of shares after t) p) [
    | yes m ↦ omega (arith, point, point_grows shares before after rises t some)
    | no m ↦ absurd (omega (arith, reached_falls shares after (p + 1) (point_of shares after t) (omega arith), point_reached shares after t (omega arith)))
  ]

  -- the member is above p neither before nor after, or both
  same_above : (p + 1 ≤ c → p + 1 ≤ get_or before i 0) → p ≡ point_of shares after t
  unfolding reached_of
  same_above h = stays (omega (arith, missed, share_mono shares (λ j. leb (p + 1) (get_or after j 0)) (λ j. leb (p + 1) (get_or before j 0)) within))
    where
      within : (j : ℕ) → j < length shares → leb (p + 1) (get_or after j 0) ≡ true → leb (p + 1) (get_or before j 0) ≡ true
      within j l a = elim (ℕ_discrete j i) [
        | yes e ↦ rw e (le-leb (p + 1) (get_or before i 0) (h (leb-true (p + 1) c (rw (e, get_or-set_same before i c 0 place) at a))))
        | no e ↦ rw (get_or-set_other before i j c 0 e) at a
      ]

  -- the member comes to those above p
  one_more : (above share : ℕ) → above ≡ reached_of shares before (p + 1) → share ≡ get_or shares i 0 → above + share < t → p ≡ point_of shares after t
  unfolding reached_of share_of
  one_more above share ea es l = stays (omega (arith, ea, es, sum_one (part after) (part before) i (get_or shares i 0) (length shares) other (most (leb (p + 1) (get_or after i 0)))))
    where
      part : List ℕ → ℕ → ℕ
      part values j = cond (leb (p + 1) (get_or values j 0)) (get_or shares j 0) 0

      other : (j : ℕ) → (j ≡ i → ⊥) → part after j ≤ part before j
      other j e = rw (get_or-set_other before i j c 0 e) (omega arith)

      most : (b : Bool) → cond b (get_or shares i 0) 0 ≤ get_or shares i 0
      most true = omega arith
      most false = omega arith

-- ---- in the words
module _ (ws : List ℕ) (fit : fits ws ≡ true) where
  pub shares_narrow : word_at ws 67 ≤ 64 → none_above ws 70 (word_at ws 67) 4294967295 ≡ true
  unfolding none_above
  shares_narrow few = all_of (λ j. leb (word_at ws (70 + j)) 4294967295) (word_at ws 67) (λ j l. le-leb (word_at ws (70 + j)) 4294967295 (omega (arith, narrow_at ws fit (70 + j) (omega arith))))

  pub shares_fit_lem : (i above : ℕ) → i < 64 → above ≤ 64 * 4294967295 → Fits w64 (above + word_at ws (70 + i))
  shares_fit_lem i above l m = record { fits = omega (arith, narrow_at ws fit (70 + i) (omega arith)) }

module _ (ws : List ℕ) (i c : ℕ) (member : i < 64) (few : word_at ws 67 ≤ 64) (point : word_at ws 136 ≡ point_from (cluster_at ws 67) (column_at ws 137)) (up : word_at ws (137 + i) ≤ c) where
  abbrev numbers : List ℕ
  numbers = column_at ws 137

  abbrev rs : List ℕ
  rs = take (word_at ws 67) (column_at ws 70)

  is_point : word_at ws 136 ≡ point_of rs numbers (word_at ws 68 + 1)
  unfolding point_from cluster_at
  is_point = point

  place : i < length numbers
  unfolding column_at
  place = omega (arith, length_list (λ j. word_at ws (137 + j)) 64)

  number : get_or numbers i 0 ≡ word_at ws (137 + i)
  unfolding column_at
  number = list_at (λ j. word_at ws (137 + j)) 0 64 i member

  risen : get_or numbers i 0 ≤ c
  risen = omega (arith, number, up)

  pub point_below : c ≤ word_at ws 136 → word_at ws 136 ≡ point_from (cluster_at ws 67) (set (column_at ws 137) i c)
  unfolding point_from cluster_at
  point_below l = same_above rs numbers (word_at ws 68 + 1) (word_at ws 136) i c (omega arith) is_point place risen (λ m. absurd (omega arith))

  pub point_above : word_at ws 136 < word_at ws (137 + i) → word_at ws 136 ≡ point_from (cluster_at ws 67) (set (column_at ws 137) i c)
  unfolding point_from cluster_at
  point_above l = same_above rs numbers (word_at ws 68 + 1) (word_at ws 136) i c (omega arith) is_point place risen (λ m. omega (arith, number))

  -- a place that is no member's has no share
  share_most : get_or rs i 0 ≤ word_at ws (70 + i)
  unfolding column_at
  share_most = elim (dec_le (word_at ws 67) i) [
    | yes l ↦ omega (arith, get_or-eq_default rs 0 {n = i} (omega (arith, shares_length ws 70 (word_at ws 67) few)))
    | no l ↦ omega (arith, shares_at ws 70 (word_at ws 67) few i (omega arith))
  ]

  pub point_few : (above : ℕ) → above ≡ reached_of (take (word_at ws 67) (column_at ws 70)) (column_at ws 137) (word_at ws 136 + 1) → above + word_at ws (70 + i) ≤ word_at ws 68
      → word_at ws 136 ≡ point_from (cluster_at ws 67) (set (column_at ws 137) i c)
  unfolding point_from cluster_at
  point_few above e l = one_more rs numbers (word_at ws 68 + 1) (word_at ws 136) i c (omega arith) is_point place risen above (get_or rs i 0) e refl (omega (arith, share_most))
