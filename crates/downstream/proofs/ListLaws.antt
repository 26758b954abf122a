-- Tests that run over a whole list, as those over the numbers below its length. Assumes nothing.
use mathlib.Core.Path.{◌≡◌, refl, ap, sym, ◌∙◌}
use mathlib.Core.Bool.{Bool, true, false, ◌&&◌, ◌||◌}
use mathlib.Core.List.{List, [], ◌∷◌}
use Prim.Native.Nat.{ℕ, zero, suc, ◌+◌, ◌-◌, ◌≤◌}
use native.Mathlib.Nat.{add-zero, add-suc}
use native.Mathlib.Omega.{arith}
use lib.Dec.{ltb}
use lib.ListN.{length, get_or, drop}
use Rattle.std.proofs.lemmas.List.{length-drop, get_or-drop}
use borrow.Author.Tests.{lt-ltb, le-ltb}
use Rattle.std.specs.List.{list_all}
use Rattle.basics.specs.Sums.{all_below}
use Rattle.basics.proofs.BoolLaws.{and_true}
use Rattle.basics.proofs.SumLaws.{all_of, all_cong}

and_assoc : (a b x : Bool) → ((a && b) && x) ≡ (a && (b && x))
and_assoc true b x = refl
and_assoc false b x = refl

-- the numbers in two parts
pub all_parts : (f : ℕ → Bool) (o n : ℕ) → all_below (o + n) f ≡ (all_below o f && all_below n (λ j. f (o + j)))
unfolding all_below
all_parts f o zero = ap (λ (x : ℕ). all_below x f) (add-zero o) ∙ sym (and_true (all_below o f))
all_parts f o (suc n) = ap (λ (x : ℕ). all_below x f) (add-suc o n) ∙ ap (λ (b : Bool). b && f (o + n)) (all_parts f o n) ∙ and_assoc (all_below o f) (all_below n (λ j. f (o + j))) (f (o + n))

-- the first number set apart: how a test by index meets one along a list
all_front : (f : ℕ → Bool) (n : ℕ) → all_below (suc n) f ≡ (f 0 && all_below n (λ j. f (suc j)))
unfolding all_below
all_front f zero = sym (and_true (f 0))
all_front f (suc n) = ap (λ (b : Bool). b && f (suc n)) (all_front f n) ∙ and_assoc (f 0) (all_below n (λ j. f (suc j))) (f (suc n))

module _ {A : Type 0} where
  pub all_listed : (test : A → Bool) (d : A) (xs : List A) → list_all test xs ≡ all_below (length xs) (λ i. test (get_or xs i d))
  unfolding all_below
  all_listed test d [] = refl
  all_listed test d (x ∷ xs) = ap (λ (b : Bool). test x && b) (all_listed test d xs) ∙ sym (all_front (λ i. test (get_or (x ∷ xs) i d)) (length xs))

  -- behind the first n of m places
  pub all_behind : (test : A → Bool) (d : A) (n m : ℕ) (xs : List A) → length xs ≡ m → n ≤ m → list_all test (drop n xs) ≡ all_below m (λ i. ltb i n || test (get_or xs i d))
  all_behind test d n m xs e l =
      let f = λ (i : ℕ). ltb i n || test (get_or xs i d) in
      let both : n + (m - n) ≡ m = omega arith in
      let long : length (drop n xs) ≡ m - n = length-drop n xs ∙ omega arith in
      all_listed test d (drop n xs)
      ∙ ap (λ (k : ℕ). all_below k (λ i. test (get_or (drop n xs) i d))) long
      ∙ all_cong _ (λ j. f (n + j)) (m - n) (λ j k. rw (get_or-drop n xs j d, le-ltb (n + j) n (omega arith)) refl)
      ∙ ap (λ (b : Bool). b && all_below (m - n) (λ j. f (n + j))) (sym (all_of f n (λ i k. simp (lt-ltb i n k))))
      ∙ sym (all_parts f n (m - n))
      ∙ ap (λ (k : ℕ). all_below k f) both
