-- Parts of a lent slice, written one after another. Assumes nothing.
use mathlib.Core.Path.{◌≡◌, ap, sym, ◌∙◌}
use mathlib.Core.List.{List, ◌++◌, append_assoc}
use Prim.Native.Nat.{ℕ, ◌+◌, ◌≤◌}
use native.Mathlib.Omega.{arith}
use lib.ListN.{length, drop, length-take, length-drop}
use lib.Seq.{take_at, drop_at, drop-drop}
use borrow.Rule.Slice.PartMut.{mid_of, put_mid}
use Rattle.basics.specs.Bytes.{le_bytes}
use Rattle.basics.proofs.ByteLaws.{length_le}

-- behind p stands the rest of s: ys goes into the next k places
pub put_next : (p ys s : List ℕ) (a k : ℕ) → length p ≡ a → length ys ≡ k → put_mid a k (p ++ drop a s) ys ≡ (p ++ ys) ++ drop (a + k) s
put_next p ys s a k e f = rw (take_at p (drop a s) a e, drop_at p (drop a s) a e, drop-drop) (sym (append_assoc p ys (drop (a + k) s)))

-- a number that fills the next k places: as long as the part that was lent
pub fill_next : (p s ys : List ℕ) (a k x : ℕ) → length p ≡ a → a + k ≤ length s → ys ≡ le_bytes (length (mid_of a k (p ++ drop a s))) x → put_mid a k (p ++ drop a s) ys ≡ (p ++ le_bytes k x) ++ drop (a + k) s
fill_next p s ys a k x e l f =
    let n : length (mid_of a k (p ++ drop a s)) ≡ k = rw (drop_at p (drop a s) a e) (simp (length-take, length-drop) (omega arith)) in
    let y : ys ≡ le_bytes k x = f ∙ ap (λ (j : ℕ). le_bytes j x) n in
    rw y (put_next p (le_bytes k x) s a k e (length_le k x))
