-- How many of the numbers below n pass a test: the turns of a loop that counts, and what follows from the tests. Assumes nothing.
use mathlib.Core.Path.{◌≡◌, refl, ap}
use mathlib.Core.Bool.{Bool, true, false, cond}
use Prim.Native.Nat.{ℕ, zero, suc, ◌+◌, ◌≤◌, ◌<◌, zero-le}
use native.Mathlib.Decide.{dec_lt}
use native.Mathlib.Omega.{arith}
use Rattle.basics.specs.Sums.{sum_below, how_many}
use Rattle.basics.proofs.SumLaws.{sum_start, sum_turn, sum_done, sum_cong, sum_mono}

-- what one test adds
abbrev pub one : Bool → ℕ
one b = cond b 1 0

pub one_le : (b : Bool) → one b ≤ 1
one_le true = omega arith
one_le false = omega arith

-- a test that implies another counts no more
pub one_mono : (a b : Bool) → (a ≡ true → b ≡ true) → one a ≤ one b
one_mono true b h = rw (h refl) (omega arith)
one_mono false b h = zero-le

pub many_none : (p : ℕ → Bool) → 0 ≡ how_many 0 p
unfolding how_many
many_none p = sum_start (λ i. one (p i))

pub many_suc : (p : ℕ → Bool) (n : ℕ) → how_many (suc n) p ≡ how_many n p + one (p n)
unfolding how_many sum_below
many_suc p n = refl

pub many_turn : (p : ℕ → Bool) (i : ℕ) {t r : ℕ} → t ≡ how_many i p → r ≡ cond (p i) 1 0 → t + r ≡ how_many (i + 1) p
unfolding how_many
many_turn p i e f = sum_turn (λ j. one (p j)) {i = i} e f

pub many_done : (p : ℕ → Bool) {i n t : ℕ} → t ≡ how_many i p → i ≤ n → n ≤ i → t ≡ how_many n p
unfolding how_many
many_done p {i} {n} {t} e a b = sum_done (λ j. one (p j)) e a b

pub many_le : (p : ℕ → Bool) (n : ℕ) → how_many n p ≤ n
many_le p zero = omega (arith, many_none p)
many_le p (suc n) = omega (arith, many_suc p n, many_le p n, one_le (p n))

pub many_cong : (p q : ℕ → Bool) (n : ℕ) → ((i : ℕ) → i < n → p i ≡ q i) → how_many n p ≡ how_many n q
unfolding how_many
many_cong p q n h = sum_cong (λ i. one (p i)) (λ i. one (q i)) n (λ i l. ap one (h i l))

module _ (p q : ℕ → Bool) where
  pub many_mono : (n : ℕ) → ((i : ℕ) → i < n → p i ≡ true → q i ≡ true) → how_many n p ≤ how_many n q
  unfolding how_many
  many_mono n h = sum_mono (λ i. one (p i)) (λ i. one (q i)) n (λ i l. one_mono (p i) (q i) (h i l))

  -- and fewer where the other has one that it lacks
  pub many_strict : (n m : ℕ) → m < n → ((i : ℕ) → i < n → p i ≡ true → q i ≡ true) → p m ≡ false → q m ≡ true → how_many n p < how_many n q
  many_strict zero m l h a b = absurd (omega arith)
  many_strict (suc n) m l h a b = elim (dec_lt m n) [
    | yes k ↦ omega (arith, many_suc p n, many_suc q n, many_strict n m k (λ i g. h i (omega arith)) a b, one_mono (p n) (q n) (h n (omega arith)))
    | no k ↦ (let z : n ≡ m = omega arith in
        omega (
          arith,
          many_suc p n,
          many_suc q n,
          many_mono n (λ i g. h i (omega arith)),
          ap (λ (j : ℕ). one (p j)) z,
          ap (λ (j : ℕ). one (q j)) z,
          ap one a,
          ap one b,
        ))
  ]
