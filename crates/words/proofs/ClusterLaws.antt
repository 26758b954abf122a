-- A cluster judged in the words where it lies, from what the code knows where it answers. Assumes nothing.
use mathlib.Core.Path.{◌≡◌, refl, ap, ap₂, sym, ◌∙◌}
use mathlib.Core.Bool.{Bool, true, false, cond, ◌&&◌, ◌||◌}
use mathlib.Core.List.{List}
use Prim.Native.Nat.{ℕ, ◌+◌, ◌-◌, ◌*◌, ◌/◌, ◌^◌, ◌≤◌, ◌<◌}
use native.Mathlib.Decide.{dec_lt}
use native.Mathlib.Omega.{arith}
use lib.Bits.{bit_or}
use lib.Dec.{leb, ltb, eqb}
use lib.ListN.{length, get_or, take, length-take}
use lib.Seq.{get_or-take}
use borrow.Author.Rules.{rules}
use borrow.Author.Tests.{le-leb, lt-leb, leb-true, lt-ltb, le-ltb, ltb-true, eq-eqb, eqb-true}
use Rattle.basics.specs.Sums.{all_below, sum_below, list_below}
use Rattle.basics.specs.Checks.{first_failing}
use Rattle.basics.proofs.BitLaws.{or_below}
use Rattle.basics.proofs.BoolLaws.{and_true, and_right, and_not_left, and_not_right, or_left, or_right, same_test, either, no_both}
use Rattle.basics.proofs.SumLaws.{all_at, all_of, all_cong, sum_cong, list_at, length_list}
use Rattle.shares.specs.Shares.{total_of}
use Rattle.shares.specs.Cluster.{is_share, members_fit, shares_fit, bounds_fit, cluster_refusal}
use Rattle.downstream.specs.Formed.{places_zero, cluster_kept}
use Rattle.words.specs.Taken.{word_at, none_above, column_at, cluster_at}

-- ---- one share
high_zero : (x : ℕ) → eqb (x / 2 ^ 63) 0 ≡ ltb x 9223372036854775808
high_zero x =
    same_test (eqb (x / 9223372036854775808) 0) (ltb x 9223372036854775808)
    (λ t. lt-ltb x 9223372036854775808 (omega (arith, eqb-true (x / 9223372036854775808) 0 t)))
    (λ t. eq-eqb (x / 9223372036854775808) 0 (omega (arith, ltb-true x 9223372036854775808 t)))

share_range : (x : ℕ) → x ≤ 4294967295 → ltb (bit_or (9223372036854775808 - x) (x + 9223372036853775807)) 9223372036854775808 ≡ is_share x
unfolding is_share
share_range x h =
    or_below 63 (9223372036854775808 - x) (x + 9223372036853775807)
    ∙ ap₂ ◌&&◌
    (same_test (ltb (9223372036854775808 - x) 9223372036854775808) (leb 1 x)
    (λ t. le-leb 1 x (omega (arith, ltb-true (9223372036854775808 - x) 9223372036854775808 t)))
    (λ t. lt-ltb (9223372036854775808 - x) 9223372036854775808 (omega (arith, leb-true 1 x t))))
    (same_test (ltb (x + 9223372036853775807) 9223372036854775808) (leb x 1000000)
    (λ t. le-leb x 1000000 (omega (arith, ltb-true (x + 9223372036853775807) 9223372036854775808 t)))
    (λ t. lt-ltb (x + 9223372036853775807) 9223372036854775808 (omega (arith, leb-true x 1000000 t))))

pub share_told : (x : ℕ) → x ≤ 4294967295 → eqb (bit_or (9223372036854775808 - x) (x + 9223372036853775807) / 2 ^ 63) 0 ≡ is_share x
share_told x h = high_zero (bit_or (9223372036854775808 - x) (x + 9223372036853775807)) ∙ share_range x h

-- ---- the first n shares of a column
module _ (ws : List ℕ) (at n : ℕ) (few : n ≤ 64) where
  abbrev shares : List ℕ
  shares = take n (column_at ws at)

  pub shares_length : length shares ≡ n
  unfolding column_at
  shares_length = length-take n (list_below 64 (λ i. word_at ws (at + i))) ∙ omega (arith, length_list (λ i. word_at ws (at + i)) 64)

  pub shares_at : (i : ℕ) → i < n → get_or shares i 0 ≡ word_at ws (at + i)
  unfolding column_at
  shares_at i l = get_or-take n (list_below 64 (λ j. word_at ws (at + j))) i 0 l ∙ list_at (λ j. word_at ws (at + j)) 0 64 i (omega arith)

  pub fit_in_words : all_below n (λ i. is_share (word_at ws (at + i))) ≡ shares_fit shares
  unfolding shares_fit
  fit_in_words = sym (
      ap (λ (m : ℕ). all_below m (λ i. is_share (get_or shares i 0))) shares_length
      ∙ all_cong (λ i. is_share (get_or shares i 0)) (λ i. is_share (word_at ws (at + i))) n (λ i l. ap is_share (shares_at i l)))

-- ---- the bounds
module _ (s : List ℕ) (u r d : ℕ) (e : d ≡ total_of s) where
  pub bounds_far : d < u → false ≡ bounds_fit s u r
  unfolding bounds_fit
  bounds_far l = sym (and_not_right (leb r u) (leb (2 * u + r + 1) (total_of s)) (lt-leb (2 * u + r + 1) (total_of s) (omega arith)))

  pub bounds_lies : u < r → false ≡ bounds_fit s u r
  unfolding bounds_fit
  bounds_lies l = simp (lt-leb r u l)

  pub bounds_near : r ≤ u → leb (2 * u + r + 1) d ≡ bounds_fit s u r
  unfolding bounds_fit
  bounds_near l = simp (le-leb r u l, e)

-- ---- where all shares are allowed, none has more than 32 bits
allowed_narrow : (ws : List ℕ) (at n : ℕ) → n ≤ 64 → shares_fit (take n (column_at ws at)) ≡ true → none_above ws at n 4294967295 ≡ true
unfolding none_above is_share
allowed_narrow ws at n few h = all_of (λ i. leb (word_at ws (at + i)) 4294967295) n (λ i l.
    let k : is_share (word_at ws (at + i)) ≡ true = all_at (λ j. is_share (word_at ws (at + j))) n (fit_in_words ws at n few ∙ h) i l in
    le-leb (word_at ws (at + i)) 4294967295 (omega (arith, leb-true (word_at ws (at + i)) 1000000 (and_right (leb 1 (word_at ws (at + i))) (leb (word_at ws (at + i)) 1000000) k))))

pub fit_wide : (ws : List ℕ) (at n : ℕ) (bounds narrow : Bool) → n ≤ 64 → narrow ≡ none_above ws at n 4294967295 → narrow ≡ false → false ≡ (shares_fit (take n (column_at ws at)) && bounds)
fit_wide ws at n bounds narrow few e h = either (false ≡ (shares_fit (take n (column_at ws at)) && bounds)) (shares_fit (take n (column_at ws at)))
    (λ t. no_both (allowed_narrow ws at n few t) (sym e ∙ h))
    (λ t. sym (and_not_left (shares_fit (take n (column_at ws at))) bounds t))

-- ---- a cluster
refusal_told : (s : List ℕ) (u r : ℕ) → eqb (cluster_refusal s u r) 0 ≡ (members_fit s && shares_fit s && bounds_fit s u r)
unfolding cluster_refusal first_failing
refusal_told s u r = go (members_fit s) (shares_fit s) (bounds_fit s u r)
  where
    go : (a b c : Bool) → eqb (cond a (cond b (cond c 0 3) 2) 1) 0 ≡ (a && b && c)
    go true true true = refl
    go true true false = refl
    go true false c = refl
    go false b c = refl

module _ (ws : List ℕ) (at : ℕ) where
  abbrev n : ℕ
  n = word_at ws at

  abbrev fit : Bool
  fit = shares_fit (take n (column_at ws (at + 3)))

  abbrev bounds : Bool
  bounds = bounds_fit (take n (column_at ws (at + 3))) (word_at ws (at + 1)) (word_at ws (at + 2))

  cluster_parts : n ≤ 64 → cluster_kept (cluster_at ws at) ≡ (leb 1 n && fit && bounds && places_zero (cluster_at ws at))
  unfolding cluster_kept cluster_at members_fit
  cluster_parts few = simp (le-leb n 64 few, refusal_told, shares_length ws (at + 3) n few) (ap (λ (b : Bool). b && fit && bounds && places_zero (cluster_at ws at)) (and_true (leb 1 n)))

  places_past : n ≤ 64 → none_above ws (at + 3 + n) (64 - n) 0 ≡ places_zero (cluster_at ws at)
  unfolding none_above places_zero cluster_at column_at
  places_past few =
      same_test (all_below (64 - n) (λ i. leb (word_at ws (at + 3 + n + i)) 0)) (all_below 64 (λ i. ltb i n || eqb (get_or (list_below 64 (λ j. word_at ws (at + 3 + j))) i 0) 0))
      (λ t. all_of (λ i. ltb i n || eqb (get_or (list_below 64 (λ j. word_at ws (at + 3 + j))) i 0) 0) 64 (λ i l. elim (dec_lt i n) [
        | yes m ↦ or_left (ltb i n) (eqb (get_or (list_below 64 (λ j. word_at ws (at + 3 + j))) i 0) 0) (lt-ltb i n m)
        | no m ↦
            (let z : at + 3 + n + (i - n) ≡ at + 3 + i = omega arith in
            let w : word_at ws (at + 3 + i) ≤ 0 = rw z at (leb-true (word_at ws (at + 3 + n + (i - n))) 0 (all_at (λ j. leb (word_at ws (at + 3 + n + j)) 0) (64 - n) t (i - n) (omega arith))) in
            or_right (ltb i n) (eqb (get_or (list_below 64 (λ j. word_at ws (at + 3 + j))) i 0) 0) (eq-eqb (get_or (list_below 64 (λ j. word_at ws (at + 3 + j))) i 0) 0 (omega (arith, w, list_at (λ j. word_at ws (at + 3 + j)) 0 64 i l))))
      ]))
      (λ t. all_of (λ i. leb (word_at ws (at + 3 + n + i)) 0) (64 - n) (λ i l.
      let z : at + 3 + (n + i) ≡ at + 3 + n + i = omega arith in
      let w : (ltb (n + i) n || eqb (get_or (list_below 64 (λ j. word_at ws (at + 3 + j))) (n + i) 0) 0) ≡ true = all_at (λ j. ltb j n || eqb (get_or (list_below 64 (λ y. word_at ws (at + 3 + y))) j 0) 0) 64 t (n + i) (omega arith) in
      let e : get_or (list_below 64 (λ j. word_at ws (at + 3 + j))) (n + i) 0 ≡ 0 = eqb-true _ _ (simp (le-ltb (n + i) n (omega arith)) at w) in
      le-leb (word_at ws (at + 3 + n + i)) 0 (omega (arith, e, list_at (λ j. word_at ws (at + 3 + j)) 0 64 (n + i) (omega arith), ap (word_at ws) z))))

  -- from what the code knows where it answers
  pub cluster_none : n < 1 → false ≡ cluster_kept (cluster_at ws at)
  cluster_none l = sym (cluster_parts (omega arith) ∙ simp (lt-leb 1 n l))

  pub cluster_many : 64 < n → false ≡ cluster_kept (cluster_at ws at)
  unfolding cluster_kept cluster_at
  cluster_many l = simp (lt-leb n 64 l)

  pub cluster_told : (f z : Bool) → 1 ≤ n → n ≤ 64 → f ≡ (fit && bounds) → z ≡ none_above ws (at + 3 + n) (64 - n) 0 → (f && z) ≡ cluster_kept (cluster_at ws at)
  cluster_told f z some few ef ez = rw (ef, ez, places_past few, cluster_parts few, le-leb 1 n some) refl

pub ruleset clusters = (cluster_none, cluster_many, cluster_told, rules)
