-- One layout: a unit lies in its owner's stretch and in no other's, stretches end one after another, and scaled shares. Assumes nothing.
use mathlib.Core.Path.{◌≡◌, refl, ap, sym, ◌∙◌}
use mathlib.Core.List.{List, [], ◌∷◌}
use Prim.Native.Nat.{ℕ, zero, suc, ◌+◌, ◌-◌, ◌*◌, ◌≤◌, ◌<◌, zero-le}
use native.Mathlib.Decide.{dec_lt}
use native.Mathlib.Numerals.{add-one}
use native.Mathlib.Omega.{arith}
use lib.ListN.{length, get_or}
use borrow.Author.Tests.{lt-ltb, le-ltb}
use Rattle.basics.specs.Sums.{sum_below}
use Rattle.basics.proofs.SumLaws.{sum_more, sum_front}
use Rattle.shares.specs.Shares.{total_of}
use Rattle.shares.proofs.ShareLaws.{total_none, total_cons}
use Rattle.circle.specs.Stretches.{scaled, units_before, owner_of, end_after, place_of}

-- ---- the clauses, by the order of x and w
module _ (w : ℕ) (ws : List ℕ) (x : ℕ) where
  pub owner_in : x < w → owner_of (w ∷ ws) x ≡ 0
  unfolding owner_of
  owner_in h = simp (lt-ltb x w h)

  pub owner_past : w ≤ x → owner_of (w ∷ ws) x ≡ suc (owner_of ws (x - w))
  unfolding owner_of
  owner_past h = simp (le-ltb x w h)

  pub end_in : x < w → end_after (w ∷ ws) x ≡ w
  unfolding end_after
  end_in h = simp (lt-ltb x w h)

  pub end_past : w ≤ x → end_after (w ∷ ws) x ≡ w + end_after ws (x - w)
  unfolding end_after
  end_past h = simp (le-ltb x w h)

-- ---- the units before a stretch
pub before_none : (ws : List ℕ) → units_before ws 0 ≡ 0
unfolding units_before sum_below
before_none ws = refl

pub before_more : (ws : List ℕ) (i : ℕ) → units_before ws (i + 1) ≡ units_before ws i + get_or ws i 0
unfolding units_before
before_more ws i = sum_more (λ j. get_or ws j 0) i

pub before_all : (ws : List ℕ) → units_before ws (length ws) ≡ total_of ws
unfolding units_before total_of
before_all ws = refl

before_cons : (w : ℕ) (ws : List ℕ) (i : ℕ) → units_before (w ∷ ws) (suc i) ≡ w + units_before ws i
unfolding units_before
before_cons w ws i = sum_front (λ j. get_or (w ∷ ws) j 0) i

-- ---- unit x lies in its owner's stretch
pub owner_lt : (ws : List ℕ) (x : ℕ) → x < total_of ws → owner_of ws x < length ws
owner_lt [] x h = omega (arith, total_none)
owner_lt (w ∷ ws) x h = elim (dec_lt x w) [
  | yes i ↦ omega (arith, owner_in w ws x i)
  | no o ↦ omega (arith, owner_past w ws x (omega arith), owner_lt ws (x - w) (omega (arith, total_cons w ws)))
]

pub owner_from : (ws : List ℕ) (x : ℕ) → x < total_of ws → units_before ws (owner_of ws x) ≤ x
owner_from [] x h = omega (arith, total_none)
owner_from (w ∷ ws) x h = elim (dec_lt x w) [
  | yes i ↦ rw (owner_in w ws x i, before_none) zero-le
  | no o ↦ rw (owner_past w ws x (omega arith), before_cons) (omega (arith, owner_from ws (x - w) (omega (arith, total_cons w ws))))
]

pub end_owner : (ws : List ℕ) (x : ℕ) → x < total_of ws → end_after ws x ≡ units_before ws (owner_of ws x + 1)
end_owner [] x h = absurd (omega (arith, total_none))
end_owner (w ∷ ws) x h = elim (dec_lt x w) [
  | yes i ↦ rw (end_in w ws x i, owner_in w ws x i, add-one) (omega (arith, before_cons w ws 0, before_none ws))
  | no o ↦ rw (end_past w ws x (omega arith), owner_past w ws x (omega arith), add-one)
      (omega (arith, before_cons w ws (suc (owner_of ws (x - w))), end_owner ws (x - w) (omega (arith, total_cons w ws)), ap (units_before ws) (add-one (owner_of ws (x - w)))))
]

-- ---- and in no other's
pub owner_unique : (ws : List ℕ) (x m : ℕ) → m < length ws → units_before ws m ≤ x → x < units_before ws (m + 1) → owner_of ws x ≡ m
owner_unique [] x m h a b = absurd (omega arith)
owner_unique (w ∷ ws) x zero h a b = owner_in w ws x (omega (arith, before_cons w ws 0, before_none ws))
owner_unique (w ∷ ws) x (suc m) h a b =
    let o : w ≤ x = omega (arith, before_cons w ws m) in
    let e : suc m + 1 ≡ suc (m + 1) = omega arith in
    owner_past w ws x o
    ∙ ap suc (owner_unique ws (x - w) m (omega arith) (omega (arith, before_cons w ws m)) (omega (arith, before_cons w ws (m + 1), rw e at b)))

pub before_mono : (ws : List ℕ) (i d : ℕ) → units_before ws i ≤ units_before ws (i + d)
before_mono ws i zero = omega (arith, ap (units_before ws) (no_more i))
  where
    no_more : (k : ℕ) → k + 0 ≡ k
    no_more k = omega arith
before_mono ws i (suc d) = omega (arith, before_mono ws i d, before_more ws (i + d), ap (units_before ws) (one_more i))
  where
    one_more : (k : ℕ) → k + suc d ≡ k + d + 1
    one_more k = omega arith

pub before_le : (ws : List ℕ) (i : ℕ) → i ≤ length ws → units_before ws i ≤ total_of ws
before_le ws i h =
    let e : i + (length ws - i) ≡ length ws = omega arith in
    omega (arith, before_mono ws i (length ws - i), ap (units_before ws) e, before_all ws)

-- the place of a unit in member m's stretch
pub place_in : (ws : List ℕ) (x m : ℕ) → m < length ws → units_before ws m ≤ x → x < units_before ws m + get_or ws m 0
    → place_of ws x ≡ record { member = m; left = units_before ws m + get_or ws m 0 - x }
unfolding place_of
place_in ws x m h a b =
    let o : owner_of ws x ≡ m = owner_unique ws x m h a (omega (arith, before_more ws m)) in
    let e : end_after ws x ≡ units_before ws m + get_or ws m 0 =
    end_owner ws x (omega (arith, before_more ws m, before_le ws (m + 1) (omega arith))) ∙ ap (λ (k : ℕ). units_before ws (k + 1)) o ∙ before_more ws m in
    rw (o, e)

-- ---- the next stretch end, on the circle
pub end_gt : (ws : List ℕ) (x : ℕ) → x < total_of ws → x < end_after ws x
end_gt [] x h = omega (arith, total_none)
end_gt (w ∷ ws) x h = elim (dec_lt x w) [
  | yes i ↦ omega (arith, end_in w ws x i)
  | no o ↦ omega (arith, end_past w ws x (omega arith), end_gt ws (x - w) (omega (arith, total_cons w ws)))
]

pub end_le : (ws : List ℕ) (x : ℕ) → x < total_of ws → end_after ws x ≤ total_of ws
end_le ws x h = omega (arith, end_owner ws x h, before_le ws (owner_of ws x + 1) (omega (arith, owner_lt ws x h)))

-- no stretch crosses the end of another
pub end_no_cross : (ws : List ℕ) (k x : ℕ) → x < units_before ws k → x < total_of ws → end_after ws x ≤ units_before ws k
end_no_cross ws k x h t = elim (dec_lt (owner_of ws x) k) [
  | yes l ↦ (let e : owner_of ws x + 1 + (k - (owner_of ws x + 1)) ≡ k = omega arith in
      omega (arith, end_owner ws x t, before_mono ws (owner_of ws x + 1) (k - (owner_of ws x + 1)), ap (units_before ws) e))
  | no l ↦ (let e : k + (owner_of ws x - k) ≡ owner_of ws x = omega arith in
      absurd (omega (arith, owner_from ws x t, before_mono ws k (owner_of ws x - k), ap (units_before ws) e)))
]

-- ---- scaled shares
pub length_scaled : (f : ℕ) (xs : List ℕ) → length (scaled f xs) ≡ length xs
unfolding scaled
length_scaled f [] = refl
length_scaled f (x ∷ xs) = ap suc (length_scaled f xs)

pub scaled_at : (f : ℕ) (xs : List ℕ) (i : ℕ) → get_or (scaled f xs) i 0 ≡ f * get_or xs i 0
unfolding scaled
scaled_at f [] i = omega arith
scaled_at f (x ∷ xs) zero = refl
scaled_at f (x ∷ xs) (suc i) = scaled_at f xs i

pub before_scaled : (f : ℕ) (xs : List ℕ) (i : ℕ) → units_before (scaled f xs) i ≡ f * units_before xs i
before_scaled f xs zero = rw (before_none (scaled f xs), before_none xs) (omega arith)
before_scaled f xs (suc i) =
    let e : suc i ≡ i + 1 = omega arith in
    rw (e, before_more (scaled f xs) i, before_more xs i, scaled_at f xs i) (omega (arith, before_scaled f xs i))

pub total_scaled : (f : ℕ) (xs : List ℕ) → total_of (scaled f xs) ≡ f * total_of xs
total_scaled f xs = sym (before_all (scaled f xs)) ∙ ap (units_before (scaled f xs)) (length_scaled f xs) ∙ before_scaled f xs (length xs) ∙ ap (λ (k : ℕ). f * k) (before_all xs)
