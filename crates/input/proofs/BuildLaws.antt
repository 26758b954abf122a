-- How an input is built, from what the code knows where it answers; and the records and shares of one that is well built. Assumes nothing.
use mathlib.Core.Path.{◌≡◌, refl, sym}
use mathlib.Core.Bool.{Bool, true, false}
use mathlib.Core.List.{List, ◌++◌}
use Prim.Native.Nat.{ℕ, ◌+◌, ◌/◌, ◌<◌, ◌≤◌}
use native.Mathlib.Omega.{arith}
use lib.ListN.{length, take, drop}
use lib.Seq.{take_at, length-take-le}
use mir.Val.{Fits}
use mir.Syntax.{w64}
use borrow.Author.Tests.{le-leb, lt-leb}
use borrow.Author.Rules.{rules}
use Rattle.basics.proofs.SumLaws.{length_list}
use Rattle.input.specs.Input.{first_of, shares_from, senders, receivers, in_order, is_built, badly_built, build_of, shares_at, Build}
use Rattle.input.specs.Build.{BuiltOf}

-- ---- the three ways through `build_of`
module _ (s : List ℕ) where
  pub too_long : (most : ℕ) → most < length s → 4_096 ≤ most → badly_built ≡ build_of s
  unfolding build_of is_built
  too_long most h l = simp (lt-leb (length s) 4_096 (omega arith))

  module _ (few : length s ≤ 4_096) (a b : ℕ) (e : a ≡ shares_from 2 s 1 (length s / 12)) (f : b ≡ shares_from 4 s (a + 2) (length s / 12)) (t : Bool) (g : t ≡ in_order s a b) where
    senders_are : a ≡ senders s
    unfolding senders
    senders_are = e

    receivers_are : b ≡ receivers s
    unfolding receivers senders
    receivers_are = rw e at f

    built_is : is_built s ≡ t
    unfolding is_built
    built_is = simp (le-leb (length s) 4_096 few) (sym (rw (senders_are, receivers_are) at g))

    pub other_order : t ≡ false → badly_built ≡ build_of s
    unfolding build_of
    other_order h = simp (built_is, h)

    pub right_order : t ≡ true → ◌≡◌ {A = Build} (record { built = true; senders = a; receivers = b }) (build_of s)
    unfolding build_of
    right_order h = simp (built_is, h) (rw (senders_are, receivers_are) refl)

pub ruleset building = (too_long, other_order, right_order, rules)

-- ---- a well-built input has so many records
module _ (s : List ℕ) (a b : ℕ) (h : BuiltOf s a b) where
  pub records_in : (i n : ℕ) → i + n ≤ a + b + 3 → i + n ≤ length s / 12
  records_in i n l = omega (arith, h.all_records)

  pub record_in : (i : ℕ) → i < a + b + 3 → i < length s / 12
  record_in i l = omega (arith, h.all_records)

  pub few_shares : (n : ℕ) → n ≤ a + b → n ≤ 338
  few_shares n l = omega (arith, h.all_records, h.few_bytes)

  module _ (l : List ℕ) (e : length l ≡ 338) where
    pub sending_cut : a ≡ length (take a l)
    sending_cut = sym (length-take-le a l (omega (arith, few_shares a (omega arith))))

    pub receiving_cut : b ≡ length (take b l)
    receiving_cut = sym (length-take-le b l (omega (arith, few_shares b (omega arith))))

  pub record_fits : (i : ℕ) → i < a + b + 3 → Fits w64 i
  record_fits i l = record { fits = omega (arith, h.all_records, h.few_bytes) }

-- ---- shares in a longer list, cut to as many as there are
pub cut : (s : List ℕ) (i n : ℕ) (l z : List ℕ) → l ≡ shares_at s i n ++ drop n z → take n l ≡ shares_at s i n
unfolding shares_at
cut s i n l z e = rw e (take_at (shares_at s i n) (drop n z) n (length_list (λ j. first_of s (i + j)) n))
