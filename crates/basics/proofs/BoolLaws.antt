-- Tests and branches: what a test that was made says, and what a branch gives against `cond`. Assumes nothing.
use mathlib.Core.Path.{◌≡◌, refl, sym, ◌∙◌}
use mathlib.Core.Bool.{Bool, true, false, cond, not, ◌&&◌, ◌||◌, true≢false}
use mathlib.Core.Logic.{◌⊎◌, inl, inr}
use Prim.Native.Nat.{ℕ, ◌≤◌, ◌<◌}
use lib.Dec.{leb, ltb, eqb}
use borrow.Author.Tests.{lt-ltb, le-ltb, le-leb, lt-leb, eq-eqb, ne_eqb, eqb-true, leb-true, ltb-true, not-true, not-false}
use borrow.Author.Rules.{rules}

pub bool_cases : (b : Bool) → (b ≡ true) ⊎ (b ≡ false)
bool_cases true = inl refl
bool_cases false = inr refl

-- either way a test goes
pub either : (P : Type 0) (b : Bool) → (b ≡ true → P) → (b ≡ false → P) → P
either P true f g = f refl
either P false f g = g refl

pub no_both : {P : Type 0} {b : Bool} → b ≡ true → b ≡ false → P
no_both p q = absurd (true≢false (sym p ∙ q))

-- what a call told, and the branch on it
pub told : {a b t : Bool} → a ≡ b → a ≡ t → b ≡ t
told p q = sym p ∙ q

-- ---- conjunction, disjunction, negation
pub and_both : (a b : Bool) → a ≡ true → b ≡ true → (a && b) ≡ true
and_both a b p q = simp (p, q)

pub and_not_left : (a b : Bool) → a ≡ false → (a && b) ≡ false
and_not_left a b p = simp p

pub and_not_right : (a b : Bool) → b ≡ false → (a && b) ≡ false
and_not_right true b q = q
and_not_right false b q = refl

pub and_true : (b : Bool) → (b && true) ≡ b
and_true true = refl
and_true false = refl

pub and_left : (a b : Bool) → (a && b) ≡ true → a ≡ true
and_left true b p = refl
and_left false b p = p

pub and_right : (a b : Bool) → (a && b) ≡ true → b ≡ true
and_right true b p = p
and_right false b p = absurd (true≢false (sym p))

pub or_left : (a b : Bool) → a ≡ true → (a || b) ≡ true
or_left a b p = simp p

pub or_right : (a b : Bool) → b ≡ true → (a || b) ≡ true
or_right true b q = refl
or_right false b q = q

pub or_none : (a b : Bool) → a ≡ false → b ≡ false → (a || b) ≡ false
or_none a b p q = simp (p, q)

pub or_cases : (a b : Bool) → (a || b) ≡ true → (a ≡ true) ⊎ (b ≡ true)
or_cases true b p = inl refl
or_cases false b p = inr p

pub not_of_true : {a : Bool} → a ≡ true → not a ≡ false
not_of_true p = simp p

pub not_of_false : {a : Bool} → a ≡ false → not a ≡ true
not_of_false p = simp p

-- two tests that follow from one another
pub same_test : (a b : Bool) → (a ≡ true → b ≡ true) → (b ≡ true → a ≡ true) → a ≡ b
same_test true b f g = sym (f refl)
same_test false true f g = g refl
same_test false false f g = refl

pub eqb_same : (a b x y : ℕ) → (a ≡ b → x ≡ y) → (x ≡ y → a ≡ b) → eqb a b ≡ eqb x y
eqb_same a b x y f g = same_test (eqb a b) (eqb x y) (λ t. eq-eqb x y (f (eqb-true a b t))) (λ t. eq-eqb a b (g (eqb-true x y t)))

pub leb_same : (a b x y : ℕ) → (a ≤ b → x ≤ y) → (x ≤ y → a ≤ b) → leb a b ≡ leb x y
leb_same a b x y f g = same_test (leb a b) (leb x y) (λ t. le-leb x y (f (leb-true a b t))) (λ t. le-leb a b (g (leb-true x y t)))

pub ltb_same : (a b x y : ℕ) → (a < b → x < y) → (x < y → a < b) → ltb a b ≡ ltb x y
ltb_same a b x y f g = same_test (ltb a b) (ltb x y) (λ t. lt-ltb x y (f (ltb-true a b t))) (λ t. lt-ltb a b (g (ltb-true x y t)))

-- ---- the arms of a branch, against `cond`
module _ {A : Type 0} where
  pub if_lt : (a b : ℕ) (x y z : A) → a < b → z ≡ x → z ≡ cond (ltb a b) x y
  if_lt a b x y z h e = simp (lt-ltb a b h) e

  pub if_ge : (a b : ℕ) (x y z : A) → b ≤ a → z ≡ y → z ≡ cond (ltb a b) x y
  if_ge a b x y z h e = simp (le-ltb a b h) e

  pub if_le : (a b : ℕ) (x y z : A) → a ≤ b → z ≡ x → z ≡ cond (leb a b) x y
  if_le a b x y z h e = simp (le-leb a b h) e

  pub if_gt : (a b : ℕ) (x y z : A) → b < a → z ≡ y → z ≡ cond (leb a b) x y
  if_gt a b x y z h e = simp (lt-leb a b h) e

  pub if_eq : (a b : ℕ) (x y z : A) → a ≡ b → z ≡ x → z ≡ cond (eqb a b) x y
  if_eq a b x y z h e = simp (eq-eqb a b h) e

  pub if_ne : (a b : ℕ) (x y z : A) → (a ≡ b → ⊥) → z ≡ y → z ≡ cond (eqb a b) x y
  if_ne a b x y z h e = simp (ne_eqb a b h) e

  pub if_true : (b : Bool) (x y z : A) → b ≡ true → z ≡ x → z ≡ cond b x y
  if_true b x y z h e = simp h e

  pub if_false : (b : Bool) (x y z : A) → b ≡ false → z ≡ y → z ≡ cond b x y
  if_false b x y z h e = simp h e

-- a test that the code made, as the definition's test
pub ruleset tests = (le-leb, lt-leb, lt-ltb, le-ltb, eq-eqb, ne_eqb, not-true, not-false, told, and_both, and_not_left, and_not_right, or_left, or_right, or_none, not_of_true, not_of_false)

pub ruleset branches = (if_lt, if_ge, if_le, if_gt, if_eq, if_ne, if_true, if_false, told, not-true, not-false, rules)
