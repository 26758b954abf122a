-- Numbers in bytes: bounds, both ways back, and the turns of the loops that read and write them. Assumes nothing.
use mathlib.Core.Path.{◌≡◌, refl, ap, sym, ◌∙◌}
use mathlib.Core.Bool.{Bool, true, false, ◌&&◌}
use mathlib.Core.List.{List, [], ◌∷◌, ◌++◌, append-nil}
use Prim.Native.Nat.{ℕ, zero, suc, ◌+◌, ◌*◌, ◌^◌, ◌/◌, ◌%◌, ◌-◌, ◌<◌, ◌≤◌, zero-le}
use native.Mathlib.Numerals.{add-one}
use native.Mathlib.Nat.{pow-suc, div-div-eq-div-mul, div-one, mul_comm}
use native.Mathlib.Omega.{arith}
use lib.Bits.{bit_or}
use lib.Dec.{lit<, eqb, ltb, eqb-suc-zero}
use lib.ListN.{length, get_or, take, drop, set, replicate, drop_of_length-le, length-drop, length-take, get_or-eq_default}
use Rattle.std.specs.Prelude.{reverse}
use Rattle.std.proofs.lemmas.List.{length-reverse, get_or-reverse}
use Rattle.std.proofs.lemmas.Grind.{get_or_default_zero}
use lib.Seq.{drop-cons, get_or-drop, get_or-take, set_at, append_snoc}
use borrow.Author.Tests.{eqb-true, ltb-true, ltb-false}
use borrow.Rule.Slice.PartMut.{mid_len}
use mir.Val.{Fits}
use mir.Facts.{Fits-lit}
use mir.Syntax.{w8, w64}
use Rattle.basics.specs.Bytes.{le_of, le_bytes, all_zero, part}
use Rattle.basics.proofs.BoolLaws.{either, no_both, and_true, and_left, and_right}
use Rattle.basics.proofs.BitLaws.{or_zero}

-- each element is a byte
abbrev pub Bytes : List ℕ → Type 0
Bytes s = (k : ℕ) → Fits w8 (get_or s k 0)

-- a part of bytes is bytes
pub bytes_part : (s : List ℕ) (n a : ℕ) → Bytes s → Bytes (take n (drop a s))
bytes_part s n a b k = either (Fits w8 (get_or (take n (drop a s)) k 0)) (ltb k n)
    (λ e. rw (get_or-take n (drop a s) k 0 (ltb-true k n e), get_or-drop) (b (a + k)))
    (λ e. rw (get_or-eq_default (take n (drop a s)) 0 {n = k} (rw length-take (omega (arith, ltb-false k n e)))) (Fits-lit tt))

-- ---- the number that bytes stand for
le_at : (s : List ℕ) (i : ℕ) → i < length s → le_of (drop i s) ≡ get_or s i 0 + 256 * le_of (drop (i + 1) s)
unfolding le_of
le_at s i h = rw (add-one, drop-cons s i 0)

le_end : (s : List ℕ) (i : ℕ) → length s ≤ i → le_of (drop i s) ≡ 0
unfolding le_of
le_end s i h = rw (drop_of_length-le s)

-- n bytes stand for a number below 256 ^ n
pub le_lt : (n : ℕ) (s : List ℕ) → length s ≤ n → Bytes s → le_of s < 256 ^ n
unfolding le_of
le_lt zero [] h b = lit< tt
le_lt zero (x ∷ s) h b = omega arith
le_lt (suc n) [] h b = omega (arith, pow-suc 256 n, le_lt n [] zero-le b)
le_lt (suc n) (x ∷ s) h b = omega (arith, pow-suc 256 n, b 0, le_lt n s (omega arith) (λ k. b (suc k)))

-- read from the highest byte down, n of them so far: the number of the last n bytes, for which 64 bits have room
pub number_start : (s : List ℕ) → 0 ≡ le_of (drop (length s - 0) s)
number_start s = sym (le_end s (length s - 0) (omega arith))

pub number_done : (s : List ℕ) (n x : ℕ) → n ≡ length s → x ≡ le_of (drop (length s - n) s) → x ≡ le_of s
number_done s n x h e =
    let z : length s - n ≡ 0 = omega arith in
    e ∙ ap (λ (j : ℕ). le_of (drop j s)) z

module _ (s : List ℕ) (n x : ℕ) (k : length s ≤ 8) (b : Bytes s) (e : x ≡ le_of (drop (length s - n) s)) (y : ℕ) (t : (n < length (reverse s)) × (y ≡ get_or (reverse s) n y)) where
  inside : n < length s
  inside = omega (arith, t.0, length-reverse s)

  read : y ≡ get_or s (length s - 1 - n) 0
  read = t.1 ∙ get_or-reverse s n y inside ∙ get_or_default_zero s (length s - 1 - n) y (omega (arith, inside))

  below : x < 256 ^ 7
  below = rw e (le_lt 7 (drop (length s - n) s) (simp length-drop (omega (arith, inside))) (λ j. rw get_or-drop (b (length s - n + j))))

  pub number_times : Fits w64 (x * 256)
  number_times = record { fits = omega (arith, below) }

  pub number_sum : (z : ℕ) → z ≡ y → Fits w64 (x * 256 + z)
  number_sum z f = record { fits = omega (arith, below, read, b (length s - 1 - n)) }

  pub number_turn : (z : ℕ) → z ≡ y → x * 256 + z ≡ le_of (drop (length s - (n + 1)) s)
  number_turn z f =
      let one : length s - 1 - n ≡ length s - (n + 1) = omega arith in
      let back : length s - (n + 1) + 1 ≡ length s - n = omega (arith, inside) in
      omega (arith, le_at s (length s - (n + 1)) (omega (arith, inside)), ap (λ (j : ℕ). le_of (drop j s)) back, read, ap (λ (j : ℕ). get_or s j 0) one)

-- ---- the bytes of a number
pub length_le : (n x : ℕ) → length (le_bytes n x) ≡ n
unfolding le_bytes
length_le zero x = refl
length_le (suc n) x = ap suc (length_le n (x / 256))

shorter : (x n : ℕ) → x / 256 / 256 ^ n ≡ x / 256 ^ suc n
shorter x n = div-div-eq-div-mul x 256 (256 ^ n) ∙ ap (λ (y : ℕ). x / y) (mul_comm 256 (256 ^ n) ∙ sym (pow-suc 256 n))

-- one byte more, behind the others
le_more : (n x : ℕ) → le_bytes (suc n) x ≡ le_bytes n x ++ (x / 256 ^ n % 256 ∷ [])
unfolding le_bytes
le_more zero x = ap (λ (y : ℕ). y % 256 ∷ []) (sym (div-one x))
le_more (suc n) x = ap (λ (l : List ℕ). x % 256 ∷ l) (le_more n (x / 256) ∙ ap (λ (y : ℕ). le_bytes n (x / 256) ++ (y % 256 ∷ [])) (shorter x n))

pub put_start : (x : ℕ) (o : List ℕ) → o ≡ le_bytes 0 x ++ drop 0 o
unfolding le_bytes
put_start x [] = refl
put_start x (y ∷ o) = refl

pub rest_start : (x : ℕ) → x ≡ x / 256 ^ 0
rest_start x = sym (div-one x)

pub rest_turn : (x i r : ℕ) → r ≡ x / 256 ^ i → r / 256 ≡ x / 256 ^ (i + 1)
rest_turn x i r e = rw (add-one, e) (div-div-eq-div-mul x (256 ^ i) 256 ∙ ap (λ (y : ℕ). x / y) (sym (pow-suc 256 i)))

pub put_turn : (x i r : ℕ) (l o : List ℕ) → l ≡ le_bytes i x ++ drop i o → i < length l → length l ≡ length o → r ≡ x / 256 ^ i → set l i (r % 256) ≡ le_bytes (i + 1) x ++ drop (i + 1) o
put_turn x i r l o e h n q =
    let inside : i < length o = omega arith in
    rw (add-one, e, drop-cons o i 0, q, le_more i x)
    (set_at (le_bytes i x) (get_or o i 0) (drop (suc i) o) (x / 256 ^ i % 256) i (length_le i x) ∙ sym (append_snoc (le_bytes i x) (x / 256 ^ i % 256) (drop (suc i) o)))

pub put_done : (x i : ℕ) (l o : List ℕ) → l ≡ le_bytes i x ++ drop i o → i ≤ length o → length l ≤ i → length l ≡ length o → l ≡ le_bytes (length o) x
put_done x i l o e a b n =
    let z : i ≡ length o = omega arith in
    e ∙ ap (λ (t : List ℕ). le_bytes i x ++ t) (drop_of_length-le o {i = i} (omega arith)) ∙ append-nil (le_bytes i x) ∙ ap (λ (j : ℕ). le_bytes j x) z

pub ruleset puts = (put_start, rest_start, rest_turn, put_turn, put_done)

-- ---- a number of n bytes, written and read; bytes, read and written
pub le_back : (n x : ℕ) → x < 256 ^ n → le_of (le_bytes n x) ≡ x
unfolding le_of le_bytes
le_back zero x h = omega arith
le_back (suc n) x h =
    let small : x / 256 < 256 ^ n = omega (arith, pow-suc 256 n) in
    omega (arith, le_back n (x / 256) small)

pub le_forth : (l : List ℕ) → Bytes l → le_bytes (length l) (le_of l) ≡ l
unfolding le_of le_bytes
le_forth [] b = refl
le_forth (x ∷ l) b =
    let low : (x + 256 * le_of l) % 256 ≡ x = omega (arith, b 0) in
    let high : (x + 256 * le_of l) / 256 ≡ le_of l = omega (arith, b 0) in
    rw (low, high, le_forth l (λ k. b (suc k))) refl

-- ---- zeros
zero_at : (s : List ℕ) (i : ℕ) → i < length s → all_zero (drop i s) ≡ (eqb (get_or s i 0) 0 && all_zero (drop (i + 1) s))
unfolding all_zero
zero_at s i h = rw (add-one, drop-cons s i 0)

zero_end : (s : List ℕ) (i : ℕ) → length s ≤ i → all_zero (drop i s) ≡ true
unfolding all_zero
zero_end s i h = rw (drop_of_length-le s)

-- no bit of the bytes before place i, gathered in z, and none of those from place i on
pub zero_turn : (s : List ℕ) (i z : ℕ) → i < length s → (eqb z 0 && all_zero (drop i s)) ≡ all_zero s → (eqb (bit_or z (get_or s i 0)) 0 && all_zero (drop (i + 1) s)) ≡ all_zero s
zero_turn s i z h a = rw (or_zero z (get_or s i 0), and_and (eqb z 0) (eqb (get_or s i 0) 0) (all_zero (drop (i + 1) s)), sym (zero_at s i h)) a
  where
    and_and : (a b c : Bool) → ((a && b) && c) ≡ (a && (b && c))
    and_and true b c = refl
    and_and false b c = refl

pub zero_done : (s : List ℕ) (i z : ℕ) → length s ≤ i → (eqb z 0 && all_zero (drop i s)) ≡ all_zero s → eqb z 0 ≡ all_zero s
zero_done s i z h a = sym (and_true (eqb z 0)) ∙ sym (ap (λ (b : Bool). eqb z 0 && b) (zero_end s i h)) ∙ a

pub zeros : (l : List ℕ) → all_zero l ≡ true → l ≡ replicate (length l) 0
unfolding all_zero
zeros [] h = refl
zeros (zero ∷ l) h = ap (λ (t : List ℕ). 0 ∷ t) (zeros l h)
zeros (suc x ∷ l) h = no_both (and_left (eqb (suc x) 0) (all_zero l) h) (eqb-suc-zero x)

pub zero_number : (l : List ℕ) → all_zero l ≡ true → le_of l ≡ 0
unfolding le_of all_zero
zero_number [] h = refl
zero_number (x ∷ l) h = omega (arith, eqb-true x 0 (and_left (eqb x 0) (all_zero l) h), zero_number l (and_right (eqb x 0) (all_zero l) h))

-- ---- a part of bytes, as zeros and as a number
pub part_zeros : (s : List ℕ) (a e : ℕ) → e ≤ length s → all_zero (part a e s) ≡ true → part a e s ≡ replicate (e - a) 0
part_zeros s a e h z = zeros (part a e s) z ∙ ap (λ (n : ℕ). replicate n 0) (mid_len a e s h)

pub part_back : (s : List ℕ) (a e : ℕ) → e ≤ length s → Bytes s → le_bytes (e - a) (le_of (part a e s)) ≡ part a e s
part_back s a e h b = ap (λ (n : ℕ). le_bytes n (le_of (part a e s))) (sym (mid_len a e s h)) ∙ le_forth (part a e s) (bytes_part s (e - a) a b)
