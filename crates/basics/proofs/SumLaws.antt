-- Sums, conjunctions and lists over the numbers below n: start, turn and end of a loop, and what follows from the parts. Assumes nothing.
use mathlib.Core.Path.{◌≡◌, refl, ap, ap₂, sym, ◌∙◌}
use mathlib.Core.Bool.{Bool, true, ◌&&◌}
use mathlib.Core.List.{List, [], ◌∷◌, ◌++◌}
use Prim.Native.Nat.{ℕ, zero, suc, ◌+◌, ◌*◌, ◌≤◌, ◌<◌, zero-le}
use native.Mathlib.Nat.{add-mul, zero-mul, add-zero, add-suc}
use native.Mathlib.Numerals.{add-one}
use native.Mathlib.Decide.{dec_lt, dec_le}
use native.Mathlib.Omega.{arith}
use lib.ListN.{length, get_or, drop, set, length-append, get_or-append}
use lib.Seq.{drop-cons, set_at, append_snoc, get_or_at, ext_get_or}
use borrow.Author.Rules.{rules}
use Rattle.basics.specs.Sums.{sum_below, all_below, highest_below, list_below}
use Rattle.basics.proofs.BoolLaws.{and_both, and_left, and_right}

-- ---- sums
pub sum_start : (f : ℕ → ℕ) → 0 ≡ sum_below 0 f
unfolding sum_below
sum_start f = refl

pub sum_more : (f : ℕ → ℕ) (n : ℕ) → sum_below (n + 1) f ≡ sum_below n f + f n
unfolding sum_below
sum_more f n = rw add-one

pub sum_turn : (f : ℕ → ℕ) {i t r : ℕ} → t ≡ sum_below i f → r ≡ f i → t + r ≡ sum_below (i + 1) f
sum_turn f {i} {t} {r} p q = rw (sum_more, p, q)

pub sum_done : (f : ℕ → ℕ) {i n t : ℕ} → t ≡ sum_below i f → i ≤ n → n ≤ i → t ≡ sum_below n f
sum_done f {i} {n} {t} p a b = let e : i ≡ n = omega arith in rw e at p

pub ruleset sums = (sum_start, sum_turn, sum_done, rules)

pub sum_cong : (f g : ℕ → ℕ) (n : ℕ) → ((j : ℕ) → j < n → f j ≡ g j) → sum_below n f ≡ sum_below n g
unfolding sum_below
sum_cong f g zero h = refl
sum_cong f g (suc n) h = ap₂ ◌+◌ (sum_cong f g n (λ j l. h j (omega arith))) (h n (omega arith))

pub sum_zero : (f : ℕ → ℕ) (n : ℕ) → ((j : ℕ) → j < n → f j ≡ 0) → sum_below n f ≡ 0
unfolding sum_below
sum_zero f zero h = refl
sum_zero f (suc n) h = omega (arith, sum_zero f n (λ j l. h j (omega arith)), h n (omega arith))

-- a sum in two parts
pub sum_split : (f : ℕ → ℕ) (n d : ℕ) → sum_below (n + d) f ≡ sum_below n f + sum_below d (λ j. f (n + j))
unfolding sum_below
sum_split f n zero = ap (λ (m : ℕ). sum_below m f) (add-zero n) ∙ sym (add-zero (sum_below n f))
sum_split f n (suc d) = ap (λ (m : ℕ). sum_below m f) (add-suc n d) ∙ omega (arith, sum_split f n d)

-- what is 0 from n on adds nothing
pub sum_tail : (f : ℕ → ℕ) (n d : ℕ) → ((j : ℕ) → n ≤ j → j < n + d → f j ≡ 0) → sum_below (n + d) f ≡ sum_below n f
unfolding sum_below
sum_tail f n zero h = ap (λ (m : ℕ). sum_below m f) (add-zero n)
sum_tail f n (suc d) h = ap (λ (m : ℕ). sum_below m f) (add-suc n d) ∙ omega (arith, sum_tail f n d (λ j a b. h j a (omega arith)), h (n + d) (omega arith) (omega arith))

pub sum_mono : (f g : ℕ → ℕ) (n : ℕ) → ((j : ℕ) → j < n → f j ≤ g j) → sum_below n f ≤ sum_below n g
unfolding sum_below
sum_mono f g zero h = zero-le
sum_mono f g (suc n) h = omega (arith, sum_mono f g n (λ j l. h j (omega arith)), h n (omega arith))

pub sum_add : (f g : ℕ → ℕ) (n : ℕ) → sum_below n (λ j. f j + g j) ≡ sum_below n f + sum_below n g
unfolding sum_below
sum_add f g zero = refl
sum_add f g (suc n) = omega (arith, sum_add f g n)

pub sum_times : (f : ℕ → ℕ) (q n : ℕ) → sum_below n (λ j. f j * q) ≡ sum_below n f * q
unfolding sum_below
sum_times f q zero = sym (zero-mul q)
sum_times f q (suc n) = ap (λ (x : ℕ). x + f n * q) (sum_times f q n) ∙ sym (add-mul (sum_below n f) (f n) q)

-- each at most b: all at most n times b
pub sum_bound : (f : ℕ → ℕ) (b n : ℕ) → ((j : ℕ) → j < n → f j ≤ b) → sum_below n f ≤ n * b
unfolding sum_below
sum_bound f b zero h = zero-le
sum_bound f b (suc n) h = omega (arith, sum_bound f b n (λ j l. h j (omega arith)), h n (omega arith), add-mul n 1 b, add-one n, ap (λ (k : ℕ). k * b) (add-one n))

-- one of them is at most all of them
pub sum_part : (f : ℕ → ℕ) (n j : ℕ) → j < n → f j ≤ sum_below n f
unfolding sum_below
sum_part f zero j l = absurd (omega arith)
sum_part f (suc n) j l = elim (dec_lt j n) [
  | yes m ↦ omega (arith, sum_part f n j m)
  | no m ↦ (let e : j ≡ n = omega arith in rw e (omega arith))
]

-- nor are the first of them more
pub sum_grows : (f : ℕ → ℕ) (m n : ℕ) → m ≤ n → sum_below m f ≤ sum_below n f
unfolding sum_below
sum_grows f m zero l = (let z : m ≡ 0 = omega arith in rw z (omega arith))
sum_grows f m (suc n) l = elim (dec_le m n) [
  | yes k ↦ omega (arith, sum_grows f m n k)
  | no k ↦ (let z : m ≡ suc n = omega arith in rw z (omega arith))
]

-- so that a bound on all of them is one on what a loop has of them
pub sum_within : (f : ℕ → ℕ) {i n t r b : ℕ} → t ≡ sum_below i f → r ≡ f i → i < n → sum_below n f ≤ b → t + r ≤ b
sum_within f {i} {n} {t} {r} {b} p q l m = omega (arith, sum_turn f {i = i} {t = t} {r = r} p q, sum_grows f (i + 1) n (omega arith))

-- the first one set apart: how a sum by index meets one along a list
pub sum_front : (f : ℕ → ℕ) (n : ℕ) → sum_below (suc n) f ≡ f 0 + sum_below n (λ j. f (suc j))
unfolding sum_below
sum_front f zero = omega arith
sum_front f (suc n) = omega (arith, sum_front f n)

-- ---- conjunctions
pub all_start : (p : ℕ → Bool) → true ≡ all_below 0 p
unfolding all_below
all_start p = refl

pub all_turn : (p : ℕ → Bool) {i : ℕ} {t r : Bool} → t ≡ all_below i p → r ≡ p i → (t && r) ≡ all_below (i + 1) p
unfolding all_below
all_turn p {i} {t} {r} a b = rw (add-one, a, b)

pub all_done : (p : ℕ → Bool) {i n : ℕ} {t : Bool} → t ≡ all_below i p → i ≤ n → n ≤ i → t ≡ all_below n p
all_done p {i} {n} {t} a l m = let e : i ≡ n = omega arith in rw e at a

pub ruleset alls = (all_start, all_turn, all_done, rules)

pub all_at : (p : ℕ → Bool) (n : ℕ) → all_below n p ≡ true → (j : ℕ) → j < n → p j ≡ true
unfolding all_below
all_at p zero h j l = absurd (omega arith)
all_at p (suc n) h j l = elim (dec_lt j n) [
  | yes m ↦ all_at p n (and_left (all_below n p) (p n) h) j m
  | no m ↦ (let e : j ≡ n = omega arith in rw e (and_right (all_below n p) (p n) h))
]

pub all_of : (p : ℕ → Bool) (n : ℕ) → ((j : ℕ) → j < n → p j ≡ true) → all_below n p ≡ true
unfolding all_below
all_of p zero h = refl
all_of p (suc n) h = and_both (all_below n p) (p n) (all_of p n (λ j l. h j (omega arith))) (h n (omega arith))

pub all_cong : (p q : ℕ → Bool) (n : ℕ) → ((j : ℕ) → j < n → p j ≡ q j) → all_below n p ≡ all_below n q
unfolding all_below
all_cong p q zero h = refl
all_cong p q (suc n) h = ap₂ ◌&&◌ (all_cong p q n (λ j l. h j (omega arith))) (h n (omega arith))

-- ---- the highest
pub highest_at : (f : ℕ → ℕ) (n j : ℕ) → j < n → f j ≤ highest_below n f
unfolding highest_below
highest_at f zero j l = absurd (omega arith)
highest_at f (suc n) j l = elim (dec_lt j n) [
  | yes m ↦ omega (arith, highest_at f n j m)
  | no m ↦ (let e : j ≡ n = omega arith in rw e (omega arith))
]

pub highest_le : (f : ℕ → ℕ) (b n : ℕ) → ((j : ℕ) → j < n → f j ≤ b) → highest_below n f ≤ b
unfolding highest_below
highest_le f b zero h = zero-le
highest_le f b (suc n) h = omega (arith, highest_le f b n (λ j l. h j (omega arith)), h n (omega arith))

-- ---- lists
module _ {A : Type 0} (f : ℕ → A) where
  pub list_start : (o : List A) → o ≡ list_below 0 f ++ drop 0 o
  unfolding list_below
  list_start [] = refl
  list_start (x ∷ o) = refl

  pub length_list : (n : ℕ) → length (list_below n f) ≡ n
  unfolding list_below
  length_list zero = refl
  length_list (suc n) = length-append (list_below n f) (f n ∷ []) ∙ omega (arith, length_list n)

  -- one more element, stored behind those that are there
  pub list_turn : {i : ℕ} {v : A} {l : List A} (o : List A) → l ≡ list_below i f ++ drop i o → i < length l → length l ≡ length o → v ≡ f i → set l i v ≡ list_below (i + 1) f ++ drop (i + 1) o
  unfolding list_below
  list_turn {i} {v} {l} o e h n q =
      let inside : i < length o = omega arith in
      rw (add-one, e, drop-cons o i (f i), q)
      (set_at (list_below i f) (get_or o i (f i)) (drop (suc i) o) (f i) i (length_list i) ∙ sym (append_snoc (list_below i f) (f i) (drop (suc i) o)))

  pub list_at : (d : A) (n j : ℕ) → j < n → get_or (list_below n f) j d ≡ f j
  unfolding list_below
  list_at d zero j l = absurd (omega arith)
  list_at d (suc n) j l = elim (dec_lt j n) [
    | yes m ↦ get_or-append (list_below n f) (f n ∷ []) d j (omega (arith, length_list n)) ∙ list_at d n j m
    | no m ↦ (let e : j ≡ n = omega arith in rw e (get_or_at (list_below n f) (f n) [] d n (length_list n)))
  ]

  -- a list is known by its places
  pub list_is : (d : A) (n : ℕ) (l : List A) → length l ≡ n → ((j : ℕ) → j < n → get_or l j d ≡ f j) → l ≡ list_below n f
  list_is d n l e h = ext_get_or d l (list_below n f) (omega (arith, length_list n)) (λ j m. h j (omega arith) ∙ sym (list_at d n j (omega arith)))
