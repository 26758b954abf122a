-- The digits of a number, taken apart as the code puts them: the last two or four behind the others. Assumes nothing.
use mathlib.Core.Path.{◌≡◌, refl, ap, sym, ◌∙◌}
use mathlib.Core.List.{List, [], ◌∷◌, ◌++◌, append_assoc}
use Prim.Native.Nat.{ℕ, zero, suc, ◌+◌, ◌/◌, ◌%◌, ◌^◌, ◌<◌, ◌≤◌}
use native.Mathlib.Nat.{pow-suc}
use native.Mathlib.Omega.{arith}
use lib.Dec.{ltb}
use lib.ListN.{length, set, length-append, length-set}
use mir.Val.{Fits}
use mir.Syntax.{w64}
use borrow.Author.Tests.{lt-ltb, le-ltb}
use Rattle.basics.proofs.BoolLaws.{either}
use Rattle.lines.specs.Text.{digits_in, digits_of, pair_of, four_of, put}
use Rattle.lines.proofs.TextLaws.{put_one, put_more, put_next}

-- more room than digits changes nothing
enough : (n x : ℕ) → x < 10 ^ suc n → digits_in (suc (suc n)) x ≡ digits_in (suc n) x
unfolding digits_in
enough zero x h = simp (lt-ltb x 10 h)
enough (suc n) x h = either _ (ltb x 10)
    (λ e. simp e)
    (λ e. simp e (ap (λ (l : List ℕ). l ++ ((48 + x % 10) ∷ [])) (enough n (x / 10) (omega (arith, pow-suc 10 (suc n))))))

digits_one : (x : ℕ) → x < 10 → digits_of x ≡ (48 + x) ∷ []
unfolding digits_of digits_in
digits_one x h = simp (lt-ltb x 10 h)

one_more : (n x : ℕ) → 10 ≤ x → digits_in (suc n) x ≡ digits_in n (x / 10) ++ ((48 + x % 10) ∷ [])
unfolding digits_in
one_more n x h = simp (le-ltb x 10 h)

digits_more : (x : ℕ) → Fits w64 x → 10 ≤ x → digits_of x ≡ digits_of (x / 10) ++ ((48 + x % 10) ∷ [])
unfolding digits_of
digits_more x f h = one_more 19 x h ∙ ap (λ (l : List ℕ). l ++ ((48 + x % 10) ∷ [])) (sym (enough 18 (x / 10) (omega (arith, f.fits))))

digits_two : (x : ℕ) → Fits w64 x → 10 ≤ x → x < 100 → digits_of x ≡ pair_of x
unfolding pair_of
digits_two x f h k = digits_more x f h ∙ ap (λ (l : List ℕ). l ++ ((48 + x % 10) ∷ [])) (digits_one (x / 10) (omega arith))

digits_pair : (x : ℕ) → Fits w64 x → 100 ≤ x → digits_of x ≡ digits_of (x / 100) ++ pair_of (x % 100)
unfolding pair_of
digits_pair x f h =
    let a : x / 10 / 10 ≡ x / 100 = omega arith in
    let b : x / 10 % 10 ≡ x % 100 / 10 = omega arith in
    let c : x % 10 ≡ x % 100 % 10 = omega arith in
    digits_more x f (omega arith)
    ∙ ap (λ (l : List ℕ). l ++ ((48 + x % 10) ∷ [])) (digits_more (x / 10) (record { fits = omega (arith, f.fits) }) (omega arith))
    ∙ append_assoc (digits_of (x / 10 / 10)) ((48 + x / 10 % 10) ∷ []) ((48 + x % 10) ∷ [])
    ∙ rw (a, b, c) refl

digits_four : (x : ℕ) → Fits w64 x → 10000 ≤ x → digits_of x ≡ digits_of (x / 10000) ++ four_of (x % 10000)
unfolding four_of
digits_four x f h =
    let a : x / 100 / 100 ≡ x / 10000 = omega arith in
    let b : x / 100 % 100 ≡ x % 10000 / 100 = omega arith in
    let c : x % 100 ≡ x % 10000 % 100 = omega arith in
    digits_pair x f (omega arith)
    ∙ ap (λ (l : List ℕ). l ++ pair_of (x % 100)) (digits_pair (x / 100) (record { fits = omega (arith, f.fits) }) (omega arith))
    ∙ append_assoc (digits_of (x / 100 / 100)) (pair_of (x / 100 % 100)) (pair_of (x % 100))
    ∙ rw (a, b, c) refl

-- ---- two digits, and four
pub pair_room : (at v : ℕ) (o : List ℕ) → at + 2 ≤ length o → at + 1 < length (set o at v)
pair_room at v o r = rw length-set (omega arith)

pub pair_put : (x at : ℕ) (o : List ℕ) → at + 2 ≤ length o → set (set o at (48 + x / 10)) (at + 1) (48 + x % 10) ≡ put at (pair_of x) o
unfolding pair_of
pair_put x at o r = rw (put_one at o (48 + x / 10) (omega arith)) (put_more at ((48 + x / 10) ∷ []) o (48 + x % 10) (omega arith))

pub four_put : (x at n : ℕ) (o p q : List ℕ) → at + 4 ≤ length o → n ≡ at + 2 → p ≡ put at (pair_of (x / 100)) o → q ≡ put n (pair_of (x % 100)) p → q ≡ put at (four_of x) o
unfolding four_of pair_of
four_put x at n o p q r e u v = put_next at n (pair_of (x / 100)) (pair_of (x % 100)) o p q e u v r

-- ---- one digit, or two
module _ (x at : ℕ) (o : List ℕ) (r : at + length (digits_of x) ≤ length o) where
  module _ (h : x < 10) where
    pub one_room : at < length o
    one_room = omega (arith, ap length (digits_one x h))

    pub one_end : at + 1 ≡ at + length (digits_of x)
    one_end = rw (digits_one x h) refl

    pub one_put : set o at (48 + x) ≡ put at (digits_of x) o
    one_put = rw (digits_one x h) (put_one at o (48 + x) one_room)

  module _ (f : Fits w64 x) (h : 10 ≤ x) (k : x < 100) where
    two : length (digits_of x) ≡ 2
    unfolding pair_of
    two = ap length (digits_two x f h k)

    pub two_room : at + 2 ≤ length o
    two_room = omega (arith, two)

    pub two_end : at + 2 ≡ at + length (digits_of x)
    two_end = ap (λ (n : ℕ). at + n) (sym two)

    pub two_put : (p : List ℕ) → p ≡ put at (pair_of x) o → p ≡ put at (digits_of x) o
    two_put p e = e ∙ ap (λ (l : List ℕ). put at l o) (sym (digits_two x f h k))

-- ---- digits t behind those of y
module _ (x y at m : ℕ) (t o : List ℕ) (s : digits_of x ≡ digits_of y ++ t) (k : length t ≡ m) (r : at + length (digits_of x) ≤ length o) where
  lengths : length (digits_of x) ≡ length (digits_of y) + m
  lengths = ap length s ∙ length-append (digits_of y) t ∙ ap (λ (j : ℕ). length (digits_of y) + j) k

  front_room : at + length (digits_of y) ≤ length o
  front_room = omega (arith, lengths)

  module _ (n : ℕ) (e : n ≡ at + length (digits_of y)) where
    behind_room : n + m ≤ length o
    behind_room = omega (arith, lengths)

    behind_end : n + m ≡ at + length (digits_of x)
    behind_end = omega (arith, lengths)

    behind_put : (p q : List ℕ) → p ≡ put at (digits_of y) o → q ≡ put n t p → q ≡ put at (digits_of x) o
    behind_put p q u v = put_next at n (digits_of y) t o p q e u v (omega (arith, lengths)) ∙ ap (λ (l : List ℕ). put at l o) (sym s)

module _ (x at : ℕ) (o : List ℕ) (f : Fits w64 x) (h : 100 ≤ x) (r : at + length (digits_of x) ≤ length o) where
  length_pair : length (pair_of (x % 100)) ≡ 2
  unfolding pair_of
  length_pair = refl

  pub few_front : at + length (digits_of (x / 100)) ≤ length o
  few_front = front_room x (x / 100) at 2 (pair_of (x % 100)) o (digits_pair x f h) length_pair r

  module _ (n : ℕ) (e : n ≡ at + length (digits_of (x / 100))) where
    pub few_room : (p : List ℕ) → length p ≡ length o → n + 2 ≤ length p
    few_room p l = rw l (behind_room x (x / 100) at 2 (pair_of (x % 100)) o (digits_pair x f h) length_pair r n e)

    pub few_end : n + 2 ≡ at + length (digits_of x)
    few_end = behind_end x (x / 100) at 2 (pair_of (x % 100)) o (digits_pair x f h) length_pair r n e

    pub few_fits : length o < 2 ^ 64 → Fits w64 (n + 2)
    few_fits b = record { fits = omega (arith, few_end) }

    pub few_put : (p q : List ℕ) → p ≡ put at (digits_of (x / 100)) o → q ≡ put n (pair_of (x % 100)) p → q ≡ put at (digits_of x) o
    few_put = behind_put x (x / 100) at 2 (pair_of (x % 100)) o (digits_pair x f h) length_pair r n e

module _ (x at : ℕ) (o : List ℕ) (f : Fits w64 x) (h : 10000 ≤ x) (r : at + length (digits_of x) ≤ length o) where
  length_four : length (four_of (x % 10000)) ≡ 4
  unfolding four_of pair_of
  length_four = refl

  pub long_front : at + length (digits_of (x / 10000)) ≤ length o
  long_front = front_room x (x / 10000) at 4 (four_of (x % 10000)) o (digits_four x f h) length_four r

  module _ (n : ℕ) (e : n ≡ at + length (digits_of (x / 10000))) where
    pub long_room : (p : List ℕ) → length p ≡ length o → n + 4 ≤ length p
    long_room p l = rw l (behind_room x (x / 10000) at 4 (four_of (x % 10000)) o (digits_four x f h) length_four r n e)

    pub long_end : n + 4 ≡ at + length (digits_of x)
    long_end = behind_end x (x / 10000) at 4 (four_of (x % 10000)) o (digits_four x f h) length_four r n e

    pub long_fits : length o < 2 ^ 64 → Fits w64 (n + 4)
    long_fits b = record { fits = omega (arith, long_end) }

    pub long_put : (p q : List ℕ) → p ≡ put at (digits_of (x / 10000)) o → q ≡ put n (four_of (x % 10000)) p → q ≡ put at (digits_of x) o
    long_put = behind_put x (x / 10000) at 4 (four_of (x % 10000)) o (digits_four x f h) length_four r n e
