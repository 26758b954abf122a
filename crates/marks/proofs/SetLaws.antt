-- Masks as sets: a part of another, and the set of those that pass a test. Assumes nothing.
use mathlib.Core.Path.{◌≡◌, refl, ap, ap₂, sym, ◌∙◌}
use mathlib.Core.Bool.{Bool, true, false, cond, not, ◌&&◌, ◌||◌}
use mathlib.Core.Logic.{inl, inr}
use Prim.Native.Nat.{ℕ, zero, suc, ◌+◌, ◌-◌, ◌/◌, ◌%◌, ◌^◌, ◌≤◌, ◌<◌}
use native.Mathlib.Decide.{dec_lt}
use native.Mathlib.Nat.{two-pow-succ, lt_of_le_of_lt}
use native.Mathlib.Numerals.{add-one}
use native.Mathlib.Omega.{arith}
use lib.Bits.{bit_and, bit_or, bit_xor, and_shr, and_mod, and_le_l, and_zero_l, or_shr, or_mod, or_zero_l, xor_shr, xor_mod, xor_zero_l}
use lib.Dec.{eqb, ltb}
use lib.Pow.{pow_pos}
use borrow.Author.Tests.{eq-eqb, ne_eqb, eqb-true, lt-ltb, le-ltb}
use mir.Val.{Fits}
use mir.Syntax.{w64}
use Rattle.basics.proofs.BoolLaws.{bool_cases, same_test, no_both, or_cases}
use Rattle.basics.proofs.SumLaws.{all_at, all_of}
use Rattle.marks.specs.Masks.{is_marked, with_mark, mark_of, is_subset, set_below}
use Rattle.marks.proofs.MaskLaws.{marked_step, marked_low, marked_none, marked_beyond, marked_with, same_marks, with_lt, mark_is}

-- ---- the bits of an and, and of a complement
digit_and : (x y : ℕ) → x < 2 → y < 2 → eqb (bit_and x y) 1 ≡ (eqb x 1 && eqb y 1)
digit_and zero y h k = ap (λ (z : ℕ). eqb z 1) (and_zero_l y)
digit_and (suc zero) zero h k = refl
digit_and (suc zero) (suc zero) h k = refl
digit_and (suc zero) (suc (suc y)) h k = absurd (omega arith)
digit_and (suc (suc x)) y h k = absurd (omega arith)

pub marked_and : (a b j : ℕ) → is_marked (bit_and a b) j ≡ (is_marked a j && is_marked b j)
unfolding is_marked
marked_and a b j =
    ap (λ (x : ℕ). eqb (x % 2) 1) (and_shr a b j)
    ∙ ap (λ (x : ℕ). eqb x 1) (and_mod (a / 2 ^ j) (b / 2 ^ j) 1)
    ∙ digit_and (a / 2 ^ j % 2) (b / 2 ^ j % 2) (omega arith) (omega arith)

digit_or : (x y : ℕ) → x < 2 → y < 2 → eqb (bit_or x y) 1 ≡ (eqb x 1 || eqb y 1)
digit_or zero y h k = ap (λ (z : ℕ). eqb z 1) (or_zero_l y)
digit_or (suc zero) zero h k = refl
digit_or (suc zero) (suc zero) h k = refl
digit_or (suc zero) (suc (suc y)) h k = absurd (omega arith)
digit_or (suc (suc x)) y h k = absurd (omega arith)

pub marked_or : (a b j : ℕ) → is_marked (bit_or a b) j ≡ (is_marked a j || is_marked b j)
unfolding is_marked
marked_or a b j =
    ap (λ (x : ℕ). eqb (x % 2) 1) (or_shr a b j)
    ∙ ap (λ (x : ℕ). eqb x 1) (or_mod (a / 2 ^ j) (b / 2 ^ j) 1)
    ∙ digit_or (a / 2 ^ j % 2) (b / 2 ^ j % 2) (omega arith) (omega arith)

digit_xor : (x y : ℕ) → x < 2 → y < 2 → eqb (bit_xor x y) 1 ≡ false → eqb x 1 ≡ eqb y 1
digit_xor zero y h k e = sym (sym (ap (λ (z : ℕ). eqb z 1) (xor_zero_l y)) ∙ e)
digit_xor (suc zero) zero h k e = no_both refl e
digit_xor (suc zero) (suc zero) h k e = refl
digit_xor (suc zero) (suc (suc y)) h k e = absurd (omega arith)
digit_xor (suc (suc x)) y h k e = absurd (omega arith)

-- where two masks do not differ
pub marked_xor : (a b j : ℕ) → is_marked (bit_xor a b) j ≡ false → is_marked a j ≡ is_marked b j
unfolding is_marked
marked_xor a b j e = digit_xor (a / 2 ^ j % 2) (b / 2 ^ j % 2) (omega arith) (omega arith)
    (sym (ap (λ (x : ℕ). eqb (x % 2) 1) (xor_shr a b j) ∙ ap (λ (x : ℕ). eqb x 1) (xor_mod (a / 2 ^ j) (b / 2 ^ j) 1)) ∙ e)

pub marked_not : (n m j : ℕ) → m < 2 ^ n → j < n → is_marked (2 ^ n - 1 - m) j ≡ not (is_marked m j)
marked_not zero m j h l = absurd (omega arith)
marked_not (suc n) m zero h l = marked_low (2 ^ suc n - 1 - m) ∙ go (m % 2) refl ∙ ap not (sym (marked_low m))
  where
    go : (r : ℕ) → m % 2 ≡ r → eqb ((2 ^ suc n - 1 - m) % 2) 1 ≡ not (eqb (m % 2) 1)
    go zero e = let d : (2 ^ suc n - 1 - m) % 2 ≡ 1 = omega (arith, two-pow-succ n) in rw (d, e) refl
    go (suc zero) e = let d : (2 ^ suc n - 1 - m) % 2 ≡ 0 = omega (arith, two-pow-succ n) in rw (d, e) refl
    go (suc (suc r)) e = absurd (omega arith)
marked_not (suc n) m (suc j) h l =
    let rest : (2 ^ suc n - 1 - m) / 2 ≡ 2 ^ n - 1 - m / 2 = omega (arith, two-pow-succ n) in
    marked_step (2 ^ suc n - 1 - m) j ∙ ap (λ (x : ℕ). is_marked x j) rest
    ∙ marked_not n (m / 2) j (omega (arith, two-pow-succ n)) (omega arith) ∙ ap not (sym (marked_step m j))

-- ---- a part of another set
pub subset_at : (a b j : ℕ) → j < 64 → is_subset a b ≡ true → is_marked a j ≡ true → is_marked b j ≡ true
unfolding is_subset
subset_at a b j l h m = elim (or_cases (not (is_marked a j)) (is_marked b j) (all_at (λ i. not (is_marked a i) || is_marked b i) 64 h j l)) [
  | inl n ↦ no_both (sym (ap not m) ∙ n) refl
  | inr n ↦ n
]

pub subset_of : (a b : ℕ) → ((j : ℕ) → j < 64 → is_marked a j ≡ true → is_marked b j ≡ true) → is_subset a b ≡ true
unfolding is_subset
subset_of a b h = all_of (λ i. not (is_marked a i) || is_marked b i) 64 (λ j l. elim (bool_cases (is_marked a j)) [
  | inl t ↦ simp (t, h j l t)
  | inr t ↦ simp t
])

module _ (a b : ℕ) (f : a < 2 ^ 64) (g : b < 2 ^ 64) where
  abbrev left : ℕ
  left = bit_and a (18446744073709551615 - b)

  left_at : (j : ℕ) → j < 64 → is_marked left j ≡ (is_marked a j && not (is_marked b j))
  left_at j l = marked_and a (18446744073709551615 - b) j ∙ ap (λ (t : Bool). is_marked a j && t) (marked_not 64 b j g l)

  none_left : eqb left 0 ≡ true → is_subset a b ≡ true
  none_left e = subset_of a b (λ j l m. elim (bool_cases (is_marked b j)) [
    | inl t ↦ t
    | inr t ↦ no_both (left_at j l ∙ simp (m, t)) (ap (λ (x : ℕ). is_marked x j) (eqb-true left 0 e) ∙ marked_none j)
  ])

  some_left : is_subset a b ≡ true → eqb left 0 ≡ true
  some_left h = eq-eqb left 0 (same_marks 64 left 0 (lt_of_le_of_lt (and_le_l a (18446744073709551615 - b)) f) (pow_pos 64) (λ j. gone j ∙ sym (marked_none j)))
    where
      gone : (j : ℕ) → is_marked left j ≡ false
      gone j = elim (dec_lt j 64) [
        | yes l ↦ elim (bool_cases (is_marked a j)) [
          | inl t ↦ left_at j l ∙ simp (t, subset_at a b j l h t)
          | inr t ↦ left_at j l ∙ simp t
        ]
        | no l ↦ marked_beyond 64 left j (lt_of_le_of_lt (and_le_l a (18446744073709551615 - b)) f) (omega arith)
      ]

pub subset_told : (a b : ℕ) → Fits w64 a → Fits w64 b → eqb (bit_and a (18446744073709551615 - b)) 0 ≡ is_subset a b
subset_told a b f g = same_test (eqb (left a b f.fits g.fits) 0) (is_subset a b) (none_left a b f.fits g.fits) (some_left a b f.fits g.fits)

-- ---- the set of those that pass
pub set_start : (p : ℕ → Bool) → 0 ≡ set_below 0 p
unfolding set_below
set_start p = refl

pub set_in : (p : ℕ → Bool) (n : ℕ) {t : ℕ} → t ≡ set_below n p → p n ≡ true → with_mark t n ≡ set_below (n + 1) p
unfolding set_below
set_in p n {t} e h = rw (add-one, e) (sym (simp h))

pub set_out : (p : ℕ → Bool) (n : ℕ) {t : ℕ} → t ≡ set_below n p → p n ≡ false → t ≡ set_below (n + 1) p
unfolding set_below
set_out p n {t} e h = rw (add-one, e) (sym (simp h))

-- a turn of a loop that builds the set, and its end
pub set_turn : (p : ℕ → Bool) (i n : ℕ) {t r : ℕ} → i < n → n ≤ 64 → t ≡ set_below i p → r ≡ cond (p i) (mark_of t i) t → r ≡ set_below (i + 1) p
set_turn p i n {t} {r} l few e q = elim (bool_cases (p i)) [
  | inl b ↦ q ∙ simp b (mark_is t i (omega arith) ∙ set_in p i e b)
  | inr b ↦ q ∙ simp b (set_out p i e b)
]

pub set_done : (p : ℕ → Bool) (i n : ℕ) {t : ℕ} → t ≡ set_below i p → i ≤ n → n ≤ i → t ≡ set_below n p
set_done p i n {t} e a b = let z : i ≡ n = omega arith in rw z at e

-- the same test, the same set
pub set_cong : (p q : ℕ → Bool) (n : ℕ) → ((j : ℕ) → j < n → p j ≡ q j) → set_below n p ≡ set_below n q
unfolding set_below
set_cong p q zero h = refl
set_cong p q (suc n) h = ap₂ (λ (b : Bool) (t : ℕ). cond b (with_mark t n) t) (h n (omega arith)) (set_cong p q n (λ j l. h j (omega arith)))

-- none passes
pub set_none : (p : ℕ → Bool) (n : ℕ) → ((j : ℕ) → j < n → p j ≡ false) → 0 ≡ set_below n p
unfolding set_below
set_none p zero h = refl
set_none p (suc n) h = simp (h n (omega arith)) (set_none p n (λ j l. h j (omega arith)))

pub set_lt : (p : ℕ → Bool) (n : ℕ) → set_below n p < 2 ^ n
unfolding set_below
set_lt p zero = omega arith
set_lt p (suc n) = elim (bool_cases (p n)) [
  | inl t ↦ simp t (with_lt (suc n) (set_below n p) n (omega (arith, set_lt p n, two-pow-succ n)) (omega arith))
  | inr t ↦ simp t (omega (arith, set_lt p n, two-pow-succ n))
]

pub marked_set : (p : ℕ → Bool) (n j : ℕ) → is_marked (set_below n p) j ≡ (ltb j n && p j)
unfolding set_below
marked_set p zero j = marked_none j ∙ sym (simp (le-ltb j 0 (omega arith)))
marked_set p (suc n) j = elim (dec_lt j n) [
  | yes l ↦ inside l (marked_set p n j)
  | no l ↦ elim (dec_lt n j) [
    | yes m ↦ marked_beyond (suc n) (set_below (suc n) p) j (set_lt p (suc n)) m ∙ sym (simp (le-ltb j (suc n) m))
    | no m ↦ (let e : j ≡ n = omega arith in rw e last)
  ]
]
  where
    other : (j < n) → eqb j n ≡ false
    other l = ne_eqb j n (λ e. omega arith)

    inside : (j < n) → is_marked (set_below n p) j ≡ (ltb j n && p j) → is_marked (set_below (suc n) p) j ≡ (ltb j (suc n) && p j)
    inside l ih = elim (bool_cases (p n)) [
      | inl t ↦ simp (t, lt-ltb j (suc n) (omega arith)) (marked_with (set_below n p) n j ∙ simp (other l) (ih ∙ simp (lt-ltb j n l)))
      | inr t ↦ simp (t, lt-ltb j (suc n) (omega arith)) (ih ∙ simp (lt-ltb j n l))
    ]

    last : is_marked (set_below (suc n) p) n ≡ (ltb n (suc n) && p n)
    last = elim (bool_cases (p n)) [
      | inl t ↦ simp (t, lt-ltb n (suc n) (omega arith)) (marked_with (set_below n p) n n ∙ simp (eq-eqb n n refl))
      | inr t ↦ simp (t, lt-ltb n (suc n) (omega arith)) (marked_beyond n (set_below n p) n (set_lt p n) (omega arith))
    ]
