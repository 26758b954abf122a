-- Decimal digits and text put into an output: lengths, and one text behind another. Assumes nothing.
use mathlib.Core.Path.{◌≡◌, ap, ap₂, sym, ◌∙◌}
use mathlib.Core.List.{List, [], ◌∷◌, ◌++◌, append_assoc}
use Prim.Native.Nat.{ℕ, zero, suc, ◌+◌, ◌-◌, ◌/◌, ◌^◌, ◌<◌, ◌≤◌}
use native.Mathlib.Nat.{pow-suc}
use native.Mathlib.Numerals.{add-one}
use native.Mathlib.Omega.{arith}
use lib.Dec.{ltb}
use lib.ListN.{length, take, drop, set, get_or, length-append}
use lib.Seq.{drop-cons, set_at, set_split, length-take-le, take_at, drop-append-add, drop-drop}
use borrow.Author.Tests.{lt-ltb}
use borrow.Rule.Slice.PartMut.{put_mid}
use Rattle.basics.proofs.BoolLaws.{either}
use Rattle.lines.specs.Text.{digits_in, put}

-- ---- digits
-- a number below 10 ^ n has at most n digits, and 0 has one
pub digits_few : (n m x : ℕ) → x < 10 ^ suc n → length (digits_in m x) ≤ suc n
unfolding digits_in
digits_few n zero x h = omega arith
digits_few zero (suc m) x h = simp (lt-ltb x 10 h) (omega arith)
digits_few (suc n) (suc m) x h = either _ (ltb x 10)
    (λ e. simp e (omega arith))
    (λ e. simp (e, length-append) (omega (arith, digits_few n m (x / 10) (omega (arith, pow-suc 10 (suc n))))))

-- no text has more digits than it has room for
pub digits_le : (m x : ℕ) → length (digits_in m x) ≤ m
unfolding digits_in
digits_le zero x = omega arith
digits_le (suc m) x = either _ (ltb x 10)
    (λ e. simp e (omega arith))
    (λ e. simp (e, length-append) (omega (arith, digits_le m (x / 10))))

-- ---- text in an output
-- one byte
pub put_one : (at : ℕ) (o : List ℕ) (v : ℕ) → at < length o → set o at v ≡ put at (v ∷ []) o
unfolding put
put_one at o v h = set_split o at v h ∙ rw add-one (sym (append_assoc (take at o) (v ∷ []) (drop (suc at) o)))

-- one byte more, behind those that were put
pub put_more : (at : ℕ) (bs o : List ℕ) (v : ℕ) → at + length bs < length o → set (put at bs o) (at + length bs) v ≡ put at (bs ++ (v ∷ [])) o
unfolding put
put_more at bs o v h =
    let n : length (take at o ++ bs) ≡ at + length bs = length-append (take at o) bs ∙ ap (λ (k : ℕ). k + length bs) (length-take-le at o (omega arith)) in
    let m : at + length (bs ++ (v ∷ [])) ≡ suc (at + length bs) = omega (arith, length-append bs (v ∷ [])) in
    rw (drop-cons o (at + length bs) 0 h, m)
    (set_at (take at o ++ bs) (get_or o (at + length bs) 0) (drop (suc (at + length bs)) o) v (at + length bs) n
    ∙ sym (ap (λ (l : List ℕ). l ++ drop (suc (at + length bs)) o) (sym (append_assoc (take at o) bs (v ∷ []))) ∙ append_assoc (take at o ++ bs) (v ∷ []) (drop (suc (at + length bs)) o)))

-- one text behind another is both at once
pub put_put : (at : ℕ) (a b o : List ℕ) → at + (length a + length b) ≤ length o → put (at + length a) b (put at a o) ≡ put at (a ++ b) o
unfolding put
put_put at a b o h =
    let n : length (take at o ++ a) ≡ at + length a = length-append (take at o) a ∙ ap (λ (k : ℕ). k + length a) (length-take-le at o (omega arith)) in
    let m : at + length a + length b ≡ length (take at o ++ a) + length b = ap (λ (k : ℕ). k + length b) (sym n) in
    let w : at + length a + length b ≡ at + length (a ++ b) = omega (arith, length-append a b) in
    ap (λ (l : List ℕ). l ++ b ++ drop (at + length a + length b) (take at o ++ a ++ drop (at + length a) o)) (take_at (take at o ++ a) (drop (at + length a) o) (at + length a) n)
    ∙ ap (λ (l : List ℕ). take at o ++ a ++ b ++ l) (ap (λ (k : ℕ). drop k (take at o ++ a ++ drop (at + length a) o)) m ∙ drop-append-add (take at o ++ a) (drop (at + length a) o) (length b) ∙ drop-drop (length b) (at + length a) o)
    ∙ ap₂ (λ (l : List ℕ) (k : ℕ). l ++ drop k o) (append_assoc (take at o) a b) w

-- the same, as the code has it after two calls
pub put_next : (at n : ℕ) (a b o p q : List ℕ) → n ≡ at + length a → p ≡ put at a o → q ≡ put n b p → at + (length a + length b) ≤ length o → q ≡ put at (a ++ b) o
put_next at n a b o p q e u v h = v ∙ ap₂ (λ (k : ℕ) (l : List ℕ). put k b l) e u ∙ put_put at a b o h

-- ---- bytes copied into the part of an output that is as long
pub bytes_put : (at : ℕ) (bs o l : List ℕ) → l ≡ bs → put_mid at (at + length bs - at) o l ≡ put at bs o
unfolding put
bytes_put at bs o l e = let n : at + length bs - at ≡ length bs = omega arith in rw (e, n, drop-drop) (sym (append_assoc (take at o) bs (drop (at + length bs) o)))
