-- The contracts leave no choice: two results that meet one are equal. Assumes nothing.
use mathlib.Core.Path.{◌≡◌, refl, sym, ap}
use mathlib.Core.List.{List, ◌++◌}
use Prim.Native.Nat.{ℕ}
use lib.ListN.{drop}
use Rattle.basics.proofs.Unique.{one_answer}
use mathlib.Core.Bool.{true≢false}
use Rattle.std.specs.Prelude.{Option, None, Some}
use Rattle.input.specs.declared.input.Build as code
use Rattle.input.specs.Input.{build_of, told, shares_at, numbers_of, Build}
use Rattle.input.specs.declared.input.Numbers.{Numbers}

one_told : (r z : Option code.Build) → told r ≡ told z → r ≡ z
one_told None None e = refl
one_told None (Some b) e = absurd (true≢false (sym (ap (λ (x : Build). x.built) e)))
one_told (Some a) None e = absurd (true≢false (ap (λ (x : Build). x.built) e))
one_told (Some a) (Some b) e = ap (λ (x : Build). Some (record { senders = x.senders; receivers = x.receivers })) e

pub one_build : (s : List ℕ) (r z : Option code.Build) → told r ≡ build_of s → told z ≡ build_of s → r ≡ z
one_build s r z p q = one_told r z (one_answer p q)

pub one_copy : (s : List ℕ) (i n : ℕ) (o p q : List ℕ) → p ≡ shares_at s i n ++ drop n o → q ≡ shares_at s i n ++ drop n o → p ≡ q
one_copy s i n o p q e f = one_answer e f

pub one_reading : (s : List ℕ) (a b : ℕ) (r z : Numbers) → r ≡ numbers_of s a b → z ≡ numbers_of s a b → r ≡ z
one_reading s a b r z p q = one_answer p q
