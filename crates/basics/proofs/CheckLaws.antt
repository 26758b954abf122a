-- The order of checks: a call that has passed some checks goes on to the next, and answers with the first that fails. Assumes nothing.
use mathlib.Core.Path.{◌≡◌, refl}
use mathlib.Core.Bool.{Bool, true, false}
use mathlib.Core.List.{List, [], ◌∷◌, ◌++◌}
use Prim.Native.Nat.{ℕ, ◌<◌}
use native.Mathlib.Omega.{arith}
use borrow.Author.Rules.{rules}
use Rattle.basics.specs.Checks.{Check, ◌else◌, first_failing}
use Rattle.basics.proofs.BoolLaws.{tests, either}

pub passes : (b : Bool) (n k : ℕ) (cs : List Check) → b ≡ true → k ≡ first_failing cs → k ≡ first_failing ((b else n) ∷ cs)
unfolding first_failing
passes b n k cs p q = simp p q

pub fails : (b : Bool) (n : ℕ) (cs : List Check) → b ≡ false → n ≡ first_failing ((b else n) ∷ cs)
unfolding first_failing
fails b n cs p = simp p

pub none_fails : 0 ≡ first_failing []
unfolding first_failing
none_fails = refl

-- what a call's answer 0 says of its first check, and of the later ones
pub first_passed : (b : Bool) (n : ℕ) (cs : List Check) → 0 < n → first_failing ((b else n) ∷ cs) ≡ 0 → b ≡ true
unfolding first_failing
first_passed true n cs l e = refl
first_passed false n cs l e = absurd (omega arith)

pub later_passed : (b : Bool) (n : ℕ) (cs : List Check) → 0 < n → first_failing ((b else n) ∷ cs) ≡ 0 → first_failing cs ≡ 0
unfolding first_failing
later_passed true n cs l e = e
later_passed false n cs l e = absurd (omega arith)

-- every check of a list has a number other than 0
abbrev pub Numbered : List Check → Type 0
Numbered [] = Unit {0}
Numbered (c ∷ cs) = (0 < c.number) × Numbered cs

-- two lists of checks, one after the other
pub checks_passed : (xs ys : List Check) {n : ℕ} → first_failing xs ≡ 0 → n ≡ first_failing ys → Numbered xs → n ≡ first_failing (xs ++ ys)
unfolding first_failing
checks_passed [] ys p q m = q
checks_passed (x ∷ xs) ys p q m = either _ x.passed
    (λ t. simp t (checks_passed xs ys (simp t at p) q m.1))
    (λ t. absurd (omega (arith, m.0, simp t at p)))

pub checks_failed : (xs ys : List Check) {n : ℕ} → n ≡ first_failing xs → (n ≡ 0 → ⊥) → n ≡ first_failing (xs ++ ys)
unfolding first_failing
checks_failed [] ys p q = absurd (q p)
checks_failed (x ∷ xs) ys p q = either _ x.passed
    (λ t. simp t (checks_failed xs ys (simp t at p) q))
    (λ t. simp t (simp t at p))

pub checks_first : (xs ys : List Check) → Numbered xs → first_failing (xs ++ ys) ≡ 0 → first_failing xs ≡ 0
unfolding first_failing
checks_first [] ys m e = refl
checks_first (x ∷ xs) ys m e = either _ x.passed
    (λ t. simp t (checks_first xs ys m.1 (simp t at e)))
    (λ t. simp t (simp t at e))

pub checks_later : (xs ys : List Check) → Numbered xs → first_failing (xs ++ ys) ≡ 0 → first_failing ys ≡ 0
unfolding first_failing
checks_later [] ys m e = e
checks_later (x ∷ xs) ys m e = either _ x.passed
    (λ t. checks_later xs ys m.1 (simp t at e))
    (λ t. absurd (omega (arith, m.0, simp t at e)))

pub ruleset checks = (passes, fails, none_fails, tests, rules)
