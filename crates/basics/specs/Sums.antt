-- Sums, conjunctions and lists over the numbers below n: how a loop that counts up meets a definition. Assumes nothing.
use Rattle.std.specs.Prelude.{Bool, true, cond, ◌&&◌, List, [], ◌∷◌, ◌++◌, ℕ, zero, suc, ◌+◌, max}

-- f 0 + f 1 + .. + f (n - 1)
unfoldable pub sum_below : ℕ → (ℕ → ℕ) → ℕ
sum_below zero f = 0
sum_below (suc n) f = sum_below n f + f n

-- how many of the numbers below n pass a test
unfoldable pub how_many : ℕ → (ℕ → Bool) → ℕ
how_many n p = sum_below n (λ i. cond (p i) 1 0)

-- p holds of every number below n
unfoldable pub all_below : ℕ → (ℕ → Bool) → Bool
all_below zero p = true
all_below (suc n) p = all_below n p && p n

-- the highest of f 0, f 1, .., f (n - 1), or 0
unfoldable pub highest_below : ℕ → (ℕ → ℕ) → ℕ
highest_below zero f = 0
highest_below (suc n) f = max (highest_below n f) (f n)

-- f 0, f 1, .., f (n - 1)
unfoldable pub list_below {ℓ} : {A : Type ℓ} → ℕ → (ℕ → A) → List A
list_below zero f = []
list_below (suc n) f = list_below n f ++ (f n ∷ [])

-- the lists f 0, f 1, .., f (n - 1), one after another
unfoldable pub join_below : ℕ → (ℕ → List ℕ) → List ℕ
join_below zero f = []
join_below (suc n) f = join_below n f ++ f n
