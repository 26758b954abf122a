-- What writing answers in each case, and the parts of a record put one after another. Assumes nothing.
use mathlib.Core.Path.{◌≡◌, refl, ap, sym, ◌∙◌}
use mathlib.Core.Bool.{Bool, true, false, not, ◌&&◌, ◌||◌}
use mathlib.Core.List.{List, [], ◌∷◌, ◌++◌}
use Prim.Native.Nat.{ℕ, ◌+◌, ◌*◌, ◌/◌, ◌%◌, ◌<◌, ◌≤◌}
use native.Mathlib.Omega.{arith}
use lib.Dec.{leb, eqb}
use lib.ListN.{length, drop}
use borrow.Author.Rules.{rules}
use borrow.Author.Tests.{le-leb, lt-leb, leb-true, ne_eqb, not-true, not-false}
use borrow.Rule.Slice.PartMut.{mid_of, put_mid}
use Rattle.basics.specs.Bytes.{le_bytes}
use Rattle.basics.specs.Checks.{Check, ◌else◌, first_failing}
use Rattle.basics.proofs.BoolLaws.{told, and_true}
use Rattle.basics.proofs.CheckLaws.{first_passed, later_passed}
use Rattle.basics.proofs.PartLaws.{put_next, fill_next}
use Rattle.records.specs.ByKind.{fields_kept}
use Rattle.records.specs.Writing.{head_of, bytes_of, write_refusal, written_of}

-- ---- the bytes
pub put_head : (k m n : ℕ) (l : List ℕ) → k < 256 → m < 256 → n ≡ 8 → l ≡ le_bytes n (m * 256 + k) → l ≡ head_of k m
unfolding head_of le_bytes
put_head k m n l a b e f =
    let x : (m * 256 + k) % 256 ≡ k = omega arith in
    let y : (m * 256 + k) / 256 ≡ m = omega arith in
    let u : m % 256 ≡ m = omega arith in
    let v : m / 256 ≡ 0 = omega arith in
    f ∙ rw (e, x, y, u, v) refl

pub put_record : (k m n w : ℕ) (s h a b : List ℕ) → 24 ≤ length s → h ≡ head_of k m → a ≡ le_bytes (length (mid_of 8 8 (put_mid 0 8 s h))) n
    → b ≡ le_bytes (length (mid_of 16 8 (put_mid 8 8 (put_mid 0 8 s h) a))) w → put_mid 16 8 (put_mid 8 8 (put_mid 0 8 s h) a) b ≡ bytes_of k m n w ++ drop 24 s
unfolding bytes_of head_of le_bytes
put_record k m n w s h a b l e f g =
    let lh : length h ≡ 8 = ap length e in
    let one : put_mid 0 8 s h ≡ h ++ drop 8 s = put_next [] h s 0 8 refl lh in
    let two : put_mid 8 8 (put_mid 0 8 s h) a ≡ (h ++ le_bytes 8 n) ++ drop 16 s = rw one (fill_next h s a 8 8 n lh (omega arith) (rw one at f)) in
    rw (two, e) (fill_next (head_of k m ++ le_bytes 8 n) s b 16 8 w refl l (rw (two, e) at g))

-- ---- the fields that a kind may have
module _ (k m n w : ℕ) where
  pub fields_unused : k ≡ 0 → ((eqb m 0 && eqb n 0) && eqb w 0) ≡ fields_kept k m n w
  unfolding fields_kept
  fields_unused e = rw e (sym (and_true ((eqb m 0 && eqb n 0) && eqb w 0)))

  pub fields_used : (k ≡ 0 → ⊥) → (not (eqb k 2) || eqb w 0) ≡ fields_kept k m n w
  unfolding fields_kept
  fields_used e = simp (ne_eqb k 0 e)

  pub fields_any : k ≡ 1 → fields_kept k m n w ≡ true
  unfolding fields_kept
  fields_any e = rw e refl

-- ---- the answer, and the output then
module _ (k m n w : ℕ) (o : List ℕ) where
  pub write_kind : 2 < k → 14 ≡ write_refusal k m n w (length o)
  unfolding write_refusal first_failing
  write_kind h = simp (lt-leb k 2 h)

  pub write_zero : (g : Bool) → k ≤ 2 → g ≡ fields_kept k m n w → g ≡ false → 15 ≡ write_refusal k m n w (length o)
  unfolding write_refusal first_failing
  write_zero g h e f = simp (le-leb k 2 h, ← e, f)

  pub write_short : k ≤ 2 → fields_kept k m n w ≡ true → length o < 24 → 5 ≡ write_refusal k m n w (length o)
  unfolding write_refusal first_failing
  write_short h f l = simp (le-leb k 2 h, f, lt-leb 24 (length o) l)

  pub write_done : k ≤ 2 → fields_kept k m n w ≡ true → 24 ≤ length o → 0 ≡ write_refusal k m n w (length o)
  unfolding write_refusal first_failing
  write_done h f l = simp (le-leb k 2 h, f, le-leb 24 (length o) l)

  kept : (x : ℕ) → (x ≡ 0 → ⊥) → x ≡ write_refusal k m n w (length o) → o ≡ written_of k m n w o
  unfolding written_of
  kept x z e = simp (← e, ne_eqb x 0 z)

  pub kept_kind : 2 < k → o ≡ written_of k m n w o
  kept_kind h = kept 14 (λ z. omega arith) (write_kind h)

  pub kept_zero : (g : Bool) → k ≤ 2 → g ≡ fields_kept k m n w → g ≡ false → o ≡ written_of k m n w o
  kept_zero g h e f = kept 15 (λ z. omega arith) (write_zero g h e f)

  pub kept_short : k ≤ 2 → fields_kept k m n w ≡ true → length o < 24 → o ≡ written_of k m n w o
  kept_short h f l = kept 5 (λ z. omega arith) (write_short h f l)

  pub put_done : (p : List ℕ) → k ≤ 2 → fields_kept k m n w ≡ true → 24 ≤ length o → p ≡ bytes_of k m n w ++ drop 24 o → p ≡ written_of k m n w o
  unfolding written_of
  put_done p h f l q = simp (← write_done h f l) q

pub ruleset writes = (fields_any, write_kind, write_zero, write_short, write_done, kept_kind, kept_zero, kept_short, put_done, told, not-true, not-false, rules)

-- ---- what the answer 0 says, of the kind and of the fields
module _ (k m n w room : ℕ) where
  abbrev later : List Check
  later = (fields_kept k m n w else 15) ∷ (leb 24 room else 5) ∷ []

  pub writable : write_refusal k m n w room ≡ 0 → k ≤ 2
  unfolding write_refusal
  writable e = leb-true k 2 (first_passed (leb k 2) 14 later (omega arith) e)

  pub written_kept : write_refusal k m n w room ≡ 0 → fields_kept k m n w ≡ true
  unfolding write_refusal
  written_kept e = first_passed (fields_kept k m n w) 15 ((leb 24 room else 5) ∷ []) (omega arith) (later_passed (leb k 2) 14 later (omega arith) e)

pub fields_accepted : (k m n w : ℕ) → k ≤ 2 → fields_kept k m n w ≡ true → write_refusal k m n w 24 ≡ 0
unfolding write_refusal first_failing
fields_accepted k m n w h f = simp (le-leb k 2 h, f)
