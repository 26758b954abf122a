-- The failed units of a layout before a unit: they grow along the layout, one for one within a failed member's stretch, up to the failed share.
-- And the owner as a count of the stretch ends passed. Assumes nothing.
use mathlib.Core.Path.{◌≡◌, refl, ap}
use mathlib.Core.Bool.{Bool, true, false, cond}
use mathlib.Core.List.{List, [], ◌∷◌}
use Prim.Native.Nat.{ℕ, suc, ◌+◌, ◌-◌, ◌*◌, ◌≤◌, ◌<◌, zero-le}
use native.Mathlib.Decide.{dec_lt}
use native.Mathlib.Omega.{arith}
use lib.Dec.{ltb}
use borrow.Author.Tests.{lt-ltb, le-ltb}
use Rattle.shares.specs.Shares.{total_of, share_of}
use Rattle.shares.proofs.ShareLaws.{total_none, total_cons, share_none, share_cons}
use Rattle.circle.specs.Stretches.{scaled, owner_of, end_after}
use Rattle.circle.proofs.StretchLaws.{owner_in, owner_past, end_in, end_past}

-- ---- owner: the number of stretch ends at or before x
pub owner_mono : (ws : List ℕ) (x y : ℕ) → x ≤ y → owner_of ws x ≤ owner_of ws y
unfolding owner_of
owner_mono [] x y h = omega arith
owner_mono (w ∷ ws) x y h = elim (dec_lt x w) [
  | yes i ↦ omega (arith, owner_in w ws x i)
  | no o ↦ omega (arith, owner_past w ws x (omega arith), owner_past w ws y (omega arith), owner_mono ws (x - w) (y - w) (omega arith))
]

-- past a stretch end the owner is a later one
pub owner_end : (ws : List ℕ) (x : ℕ) → x < total_of ws → owner_of ws x < owner_of ws (end_after ws x)
owner_end [] x h = absurd (omega (arith, total_none))
owner_end (w ∷ ws) x h = elim (dec_lt x w) [
  | yes i ↦ rw (end_in w ws x i) (omega (arith, owner_in w ws x i, owner_past w ws w (omega arith)))
  | no o ↦ rw (end_past w ws x (omega arith)) (omega (
    arith,
    owner_past w ws x (omega arith),
    owner_past w ws (w + end_after ws (x - w)) (omega arith),
    owner_end ws (x - w) (omega (arith, total_cons w ws)),
    ap (owner_of ws) (the_rest (end_after ws (x - w))),
  ))
]
  where
    the_rest : (e : ℕ) → w + e - w ≡ e
    the_rest e = omega arith

-- ---- the failed units before unit x
unfoldable pub failed_before : (ℕ → Bool) → List ℕ → ℕ → ℕ
failed_before p [] x = 0
failed_before p (w ∷ ws) x = cond (ltb x w) (cond (p 0) x 0) (cond (p 0) w 0 + failed_before (λ i. p (suc i)) ws (x - w))

module _ (w : ℕ) (ws : List ℕ) (x : ℕ) (p : ℕ → Bool) where
  failed_in : x < w → failed_before p (w ∷ ws) x ≡ cond (p 0) x 0
  unfolding failed_before
  failed_in h = simp (lt-ltb x w h)

  failed_past : w ≤ x → failed_before p (w ∷ ws) x ≡ cond (p 0) w 0 + failed_before (λ i. p (suc i)) ws (x - w)
  unfolding failed_before
  failed_past h = simp (le-ltb x w h)

part_mono : (b : Bool) (x y : ℕ) → x ≤ y → cond b x 0 ≤ cond b y 0
part_mono true x y h = h
part_mono false x y h = zero-le

part_whole : (b : Bool) (x : ℕ) → b ≡ true → cond b x 0 ≡ x
part_whole b x e = simp e

pub failed_mono : (p : ℕ → Bool) (ws : List ℕ) (x y : ℕ) → x ≤ y → failed_before p ws x ≤ failed_before p ws y
unfolding failed_before
failed_mono p [] x y h = zero-le
failed_mono p (w ∷ ws) x y h = elim (dec_lt x w) [
  | yes i ↦ elim (dec_lt y w) [
    | yes k ↦ omega (arith, failed_in w ws x p i, failed_in w ws y p k, part_mono (p 0) x y h)
    | no o ↦ omega (arith, failed_in w ws x p i, failed_past w ws y p (omega arith), part_mono (p 0) x w (omega arith))
  ]
  | no o ↦ omega (arith, failed_past w ws x p (omega arith), failed_past w ws y p (omega arith), failed_mono (λ i. p (suc i)) ws (x - w) (y - w) (omega arith))
]

pub failed_le : (p : ℕ → Bool) (ws : List ℕ) (x : ℕ) → failed_before p ws x ≤ share_of ws p
unfolding failed_before
failed_le p [] x = zero-le
failed_le p (w ∷ ws) x = elim (dec_lt x w) [
  | yes i ↦ omega (arith, failed_in w ws x p i, part_mono (p 0) x w (omega arith), share_cons w ws p)
  | no o ↦ omega (arith, failed_past w ws x p (omega arith), failed_le (λ i. p (suc i)) ws (x - w), share_cons w ws p)
]

-- within a failed member's stretch every unit counts
pub failed_grows : (p : ℕ → Bool) (ws : List ℕ) (x e : ℕ) → x < total_of ws → x ≤ e → e ≤ end_after ws x → p (owner_of ws x) ≡ true
    → failed_before p ws x + e ≤ failed_before p ws e + x
failed_grows p [] x e h u v f = absurd (omega (arith, total_none))
failed_grows p (w ∷ ws) x e h u v f = elim (dec_lt x w) [
  | yes i ↦ (let p0 : p 0 ≡ true = rw (owner_in w ws x i) at f in elim (dec_lt e w) [
    | yes k ↦ omega (arith, failed_in w ws x p i, failed_in w ws e p k, part_whole (p 0) x p0, part_whole (p 0) e p0)
    | no o ↦ omega (arith, failed_in w ws x p i, failed_past w ws e p (omega arith), part_whole (p 0) x p0, part_whole (p 0) w p0, end_in w ws x i)
  ])
  | no o ↦ (let q : w ≤ x = omega arith in
      let g : p (suc (owner_of ws (x - w))) ≡ true = rw (owner_past w ws x q) at f in omega (
        arith,
        failed_past w ws x p q,
        failed_past w ws e p (omega arith),
        failed_grows (λ i. p (suc i)) ws (x - w) (e - w) (omega (arith, total_cons w ws)) (omega arith) (omega (arith, end_past w ws x q)) g,
      ))
]

-- ---- scaled shares
part_scaled : (b : Bool) (f x : ℕ) → cond b (f * x) 0 ≡ f * cond b x 0
part_scaled true f x = refl
part_scaled false f x = omega arith

pub share_scaled : (p : ℕ → Bool) (f : ℕ) (xs : List ℕ) → share_of (scaled f xs) p ≡ f * share_of xs p
unfolding scaled
share_scaled p f [] = rw share_none (omega arith)
share_scaled p f (x ∷ xs) = rw (share_cons (f * x) (scaled f xs) p, share_cons x xs p) (omega (arith, part_scaled (p 0) f x, share_scaled (λ i. p (suc i)) f xs))
