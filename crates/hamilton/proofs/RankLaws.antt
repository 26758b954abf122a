-- Where members are ranked by keys that differ, just m of them have a rank below m, and a number parts them from the others. Assumes nothing.
use mathlib.Core.Path.{◌≡◌, refl, ap, sym, ◌∙◌}
use mathlib.Core.Bool.{Bool}
use Prim.Native.Nat.{ℕ, zero, suc, ◌+◌, ◌-◌, ◌%◌, ◌<◌, ◌≤◌}
use native.Mathlib.Decide.{dec_lt}
use native.Mathlib.Nat.{mod-lt, mod-eq_of_lt, add-mod_right}
use native.Mathlib.Omega.{arith}
use lib.Dec.{ltb}
use borrow.Author.Tests.{lt-ltb, le-ltb, ltb-true}
use Rattle.basics.proofs.BoolLaws.{same_test}
use Rattle.basics.specs.Sums.{how_many}
use Rattle.basics.proofs.HowManyLaws.{one, many_none, many_suc, many_le, many_cong, many_mono, many_strict}

pub ltb_same : (a b x y : ℕ) → (a < b → x < y) → (x < y → a < b) → ltb a b ≡ ltb x y
ltb_same a b x y f g = same_test (ltb a b) (ltb x y) (λ t. lt-ltb x y (f (ltb-true a b t))) (λ t. lt-ltb a b (g (ltb-true x y t)))

-- the next of n places, counted round: there is one where one is below n
pub next_place : (a n m : ℕ) → m < n → a % n < n
next_place a n m l = mod-lt a (omega arith)

pub next_member : (r a n m : ℕ) → r ≡ a % n → m < n → r < n
next_member r a n m e l = rw e (next_place a n m l)

pub next_within : (a n : ℕ) → a < n → a ≡ a % n
next_within a n l = sym (mod-eq_of_lt l)

pub next_again : (m d n : ℕ) → m < n → d < n → n ≤ m + d → m + d - n ≡ (m + d) % n
next_again m d n a b l =
    let e : m + d ≡ m + d - n + n = omega arith in
    sym (ap (λ (x : ℕ). x % n) e ∙ add-mod_right (m + d - n) n ∙ mod-eq_of_lt (omega arith))

-- how many of the first n have a smaller key than k
abbrev pub under : (ℕ → ℕ) → ℕ → ℕ → ℕ
under key n k = how_many n (λ j. ltb (key j) k)

module _ (key : ℕ → ℕ) where
  -- the keys of the first n differ
  abbrev pub Apart : ℕ → Type 0
  Apart n = (i j : ℕ) → i < j → j < n → key i ≡ key j → ⊥

  pub under_strict : (n i k : ℕ) → i < n → key i < k → under key n (key i) < under key n k
  under_strict n i k l h =
      many_strict (λ j. ltb (key j) (key i)) (λ j. ltb (key j) k) n i l
      (λ j m e. lt-ltb (key j) k (omega (arith, ltb-true (key j) (key i) e)))
      (le-ltb (key i) (key i) (omega arith))
      (lt-ltb (key i) k h)

  pub under_mono : (n a b : ℕ) → a ≤ b → under key n a ≤ under key n b
  under_mono n a b h = many_mono (λ j. ltb (key j) a) (λ j. ltb (key j) b) n (λ j m e. lt-ltb (key j) b (omega (arith, ltb-true (key j) a e)))

  -- one key more raises the ranks of the larger keys, by one
  raised : (n k : ℕ) → key n < k → under key (suc n) k ≡ under key n k + 1
  raised n k h = many_suc (λ j. ltb (key j) k) n ∙ rw (lt-ltb (key n) k h) refl

  kept : (n k : ℕ) → k ≤ key n → under key (suc n) k ≡ under key n k
  kept n k h = many_suc (λ j. ltb (key j) k) n ∙ rw (le-ltb (key n) k h) (omega arith)

  -- with the new key among the first m, the others among the first m are those that were among the first m - 1
  above : (n m i : ℕ) → Apart (suc n) → i < n → under key n (key n) < m → ltb (under key (suc n) (key i)) m ≡ ltb (under key n (key i)) (m - 1)
  above n m i d l h = elim (dec_lt (key n) (key i)) [
    | yes k ↦ ltb_same (under key (suc n) (key i)) m (under key n (key i)) (m - 1) (λ a. omega (arith, raised n (key i) k)) (λ a. omega (arith, raised n (key i) k))
    | no k ↦ (let s : key i < key n = omega (arith, d i n l (omega arith)) in
        ltb_same (under key (suc n) (key i)) m (under key n (key i)) (m - 1)
        (λ a. omega (arith, under_strict n i (key n) l s))
        (λ a. omega (arith, under_strict n i (key n) l s, kept n (key i) (omega arith))))
  ]

  -- with the new key behind the first m, those stay who they were
  below : (n m i : ℕ) → i < n → m ≤ under key n (key n) → ltb (under key (suc n) (key i)) m ≡ ltb (under key n (key i)) m
  below n m i l h = elim (dec_lt (key n) (key i)) [
    | yes k ↦ ltb_same (under key (suc n) (key i)) m (under key n (key i)) m
        (λ a. omega (arith, raised n (key i) k))
        (λ a. omega (arith, under_mono n (key n) (key i) (omega arith)))
    | no k ↦ (let s : key i ≤ key n = omega arith in
        ltb_same (under key (suc n) (key i)) m (under key n (key i)) m (λ a. omega (arith, kept n (key i) s)) (λ a. omega (arith, kept n (key i) s)))
  ]

  -- the numbers below n that are among the first m
  abbrev pub first : ℕ → ℕ → ℕ → Bool
  first n m i = ltb (under key n (key i)) m

  pub ranks : (n m : ℕ) → Apart n → m ≤ n → how_many n (first n m) ≡ m
  ranks zero m d h = omega (arith, many_none (first zero m))
  ranks (suc n) m d h =
      let own : under key (suc n) (key n) ≡ under key n (key n) = kept n (key n) (omega arith) in
      let before : Apart n = λ i j l k. d i j l (omega arith) in
      elim (dec_lt (under key n (key n)) m) [
        | yes k ↦ omega (
          arith,
          many_suc (first (suc n) m) n,
          many_cong (first (suc n) m) (first n (m - 1)) n (λ i l. above n m i d l k),
          ranks n (m - 1) before (omega arith),
          ap one (lt-ltb (under key (suc n) (key n)) m (omega arith)),
        )
        | no k ↦ omega (
          arith,
          many_suc (first (suc n) m) n,
          many_cong (first (suc n) m) (first n m) n (λ i l. below n m i l (omega arith)),
          ranks n m before (omega (arith, many_le (λ j. ltb (key j) (key n)) n)),
          ap one (le-ltb (under key (suc n) (key n)) m (omega arith)),
        )
      ]

  -- ---- a number that parts the keys
  under_none : (n : ℕ) → 0 ≡ under key n 0
  under_none zero = many_none (λ j. ltb (key j) 0)
  under_none (suc n) = omega (arith, kept n 0 (omega arith), under_none n)

  pub none_below : (n m : ℕ) → m ≡ 0 → m ≡ under key n 0
  none_below n m e = e ∙ under_none n

  pub few_below : (n m : ℕ) → under key n 0 ≤ m
  few_below n m = omega (arith, under_none n)

  pub under_all : (n k : ℕ) → ((j : ℕ) → j < n → key j < k) → under key n k ≡ n
  under_all zero k h = omega (arith, many_none (λ j. ltb (key j) k))
  under_all (suc n) k h = omega (arith, raised n k (h n (omega arith)), under_all n k (λ j l. h j (omega arith)))

  -- the keys differ, so that from one number to the next at most one key more is below
  under_next : (n k : ℕ) → Apart n → under key n (k + 1) ≤ under key n k + 1
  under_next zero k d = omega (arith, many_none (λ j. ltb (key j) (k + 1)))
  under_next (suc n) k d =
      let before : Apart n = λ i j l m. d i j l (omega arith) in
      elim (dec_lt (key n) k) [
        | yes l ↦ omega (arith, raised n k l, raised n (k + 1) (omega arith), under_next n k before)
        | no l ↦ elim (dec_lt k (key n)) [
          | yes m ↦ omega (arith, kept n k (omega arith), kept n (k + 1) (omega arith), under_next n k before)
          | no m ↦ omega (
            arith,
            kept n k (omega arith),
            raised n (k + 1) (omega arith),
            many_cong (λ j. ltb (key j) (k + 1)) (λ j. ltb (key j) k) n
                (λ i h. ltb_same (key i) (k + 1) (key i) k (λ a. omega (arith, d i n h (omega arith))) (λ a. omega arith)),
          )
        ]
      ]

  -- where halving ends: m keys are below the low end, for at most m are, more than m below the high end, and one number lies between them
  pub halves_met : (n m low high : ℕ) → Apart n → under key n low ≤ m → m < under key n high → high ≤ low + 1 → m ≡ under key n low
  halves_met n m low high d a b c = omega (arith, under_mono n high (low + 1) c, under_next n low d)

  -- the first m are those below the number that m keys are below
  pub first_below : (n k i : ℕ) → i < n → ltb (under key n (key i)) (under key n k) ≡ ltb (key i) k
  first_below n k i l = ltb_same (under key n (key i)) (under key n k) (key i) k
      (λ a. elim (dec_lt (key i) k) [ yes h ↦ h | no h ↦ absurd (omega (arith, under_mono n k (key i) (omega arith))) ])
      (λ a. under_strict n i k l a)
