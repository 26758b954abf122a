-- Quotas, remainders and ranks of a cluster that can be dealt: the counts add up to the quantum. Assumes nothing.
use mathlib.Core.Path.{◌≡◌, refl, ap, sym, ◌∙◌}
use mathlib.Core.List.{List, [], ◌∷◌}
use mathlib.Core.Logic.{inl, inr}
use Prim.Native.Nat.{ℕ, ◌+◌, ◌*◌, ◌-◌, ◌<◌, ◌≤◌}
use native.Mathlib.Decide.{dec_lt}
use native.Mathlib.Nat.{div-add-mod', mod-lt, add-mul, mul-add, mul_comm, lt_of_mul-lt-mul_right, le_of_mul-le-mul_right}
use native.Mathlib.Omega.{arith}
use lib.Dec.{ltb, eqb}
use lib.ListN.{length, get_or}
use borrow.Author.Tests.{lt-ltb, le-ltb, eqb-true, eqb-false}
use Rattle.basics.specs.Sums.{sum_below, how_many}
use Rattle.basics.proofs.BoolLaws.{bool_cases}
use Rattle.basics.proofs.SumLaws.{sum_cong, sum_add, sum_times, sum_bound, sum_part}
use Rattle.shares.specs.Shares.{total_of}
use Rattle.shares.proofs.ShareLaws.{total_none}
use Rattle.hamilton.specs.Hamilton.{quota_of, remainder_of, undealt_of, goes_first, ahead_of, rank_of, count_of, Dealable}
use Rattle.basics.proofs.HowManyLaws.{one, many_cong}
use Rattle.hamilton.proofs.RankLaws.{under, Apart, ranks, first_below}

-- the order of two members, as an order of numbers
first_key : (d x j y i : ℕ) → x ≤ d → y ≤ d → j < 64 → i < 64 → goes_first x j y i ≡ ltb ((d - x) * 64 + j) ((d - y) * 64 + i)
unfolding goes_first
first_key d x j y i a b c e = elim (dec_lt y x) [
  | yes l ↦ simp (lt-ltb y x l) (sym (lt-ltb ((d - x) * 64 + j) ((d - y) * 64 + i) (omega arith)))
  | no l ↦ elim (bool_cases (eqb x y)) [
    | inl z ↦ elim (dec_lt j i) [
      | yes m ↦ simp (le-ltb y x (omega arith), z, lt-ltb j i m) (sym (lt-ltb ((d - x) * 64 + j) ((d - y) * 64 + i) (omega (arith, eqb-true x y z))))
      | no m ↦ simp (le-ltb y x (omega arith), z, le-ltb j i (omega arith)) (sym (le-ltb ((d - x) * 64 + j) ((d - y) * 64 + i) (omega (arith, eqb-true x y z))))
    ]
    | inr z ↦ simp (le-ltb y x (omega arith), z) (sym (le-ltb ((d - x) * 64 + j) ((d - y) * 64 + i) (omega (arith, eqb-false x y z))))
  ]
]

-- a member's share times q, in quotas and remainders
split : (s : List ℕ) (q i : ℕ) → quota_of s q i * total_of s + remainder_of s q i ≡ get_or s i 0 * q
unfolding quota_of remainder_of
split s q i = div-add-mod' (get_or s i 0 * q) (total_of s)

-- all of them: the quotas of all members times D, and all remainders, are q times D
whole : (s : List ℕ) (q : ℕ) → sum_below (length s) (quota_of s q) * total_of s + sum_below (length s) (remainder_of s q) ≡ q * total_of s
unfolding total_of
whole s q =
    let n = length s in
    ap (λ (x : ℕ). x + sum_below n (remainder_of s q)) (sym (sum_times (quota_of s q) (total_of s) n))
    ∙ sym (sum_add (λ i. quota_of s q i * total_of s) (remainder_of s q) n)
    ∙ sum_cong (λ i. quota_of s q i * total_of s + remainder_of s q i) (λ i. get_or s i 0 * q) n (λ i l. split s q i)
    ∙ sum_times (λ i. get_or s i 0) q n
    ∙ mul_comm (total_of s) q

members : (s : List ℕ) → 0 < total_of s → 0 < length s
members [] l = absurd (omega (arith, total_none))
members (x ∷ s) l = omega arith

-- the order of the members, as an order of keys
abbrev pub key : List ℕ → ℕ → ℕ → ℕ
key s q i = (total_of s - remainder_of s q i) * 64 + i

module _ (s : List ℕ) (q : ℕ) (h : Dealable s q) where
  pub some_member : 0 < length s
  some_member = members s h.some_total

  pub remainder_lt : (i : ℕ) → remainder_of s q i < total_of s
  unfolding remainder_of
  remainder_lt i = mod-lt (get_or s i 0 * q) h.some_total

  -- the lower quotas are no more than the quantum
  pub quotas_le : sum_below (length s) (quota_of s q) ≤ q
  quotas_le = le_of_mul-le-mul_right {k = total_of s} (omega (arith, whole s q)) h.some_total

  pub quotas_and_undealt : sum_below (length s) (quota_of s q) + undealt_of s q ≡ q
  unfolding undealt_of
  quotas_and_undealt = omega (arith, quotas_le)

  -- fewer messages are left undealt than there are members
  pub few_undealt : undealt_of s q < length s
  few_undealt =
      let n = length s in
      let used = sum_below n (quota_of s q) in
      let each : sum_below n (remainder_of s q) ≤ n * (total_of s - 1) = sum_bound (remainder_of s q) (total_of s - 1) n (λ i l. omega (arith, remainder_lt i)) in
      let less : total_of s - 1 + 1 ≡ total_of s = omega (arith, h.some_total) in
      let all : q * total_of s < (used + n) * total_of s =
      omega (arith, whole s q, add-mul used n (total_of s), mul-add n (total_of s - 1) 1, some_member, ap (λ (x : ℕ). n * x) less) in
      let done : q < used + n = lt_of_mul-lt-mul_right (total_of s) all in
      omega (arith, quotas_and_undealt)

  -- ---- ranks by keys
  pub ahead_key : (j i : ℕ) → j < length s → i < length s → ahead_of s q j i ≡ ltb (key s q j) (key s q i)
  unfolding ahead_of
  ahead_key j i l m =
      first_key (total_of s) (remainder_of s q j) j (remainder_of s q i) i
      (omega (arith, remainder_lt j)) (omega (arith, remainder_lt i)) (omega (arith, h.few_members)) (omega (arith, h.few_members))

  pub rank_key : (i : ℕ) → i < length s → rank_of s q i ≡ under (key s q) (length s) (key s q i)
  unfolding rank_of
  rank_key i l = many_cong (λ j. ahead_of s q j i) (λ j. ltb (key s q j) (key s q i)) (length s) (λ j m. ahead_key j i m l)

  pub keys_apart : Apart (key s q) (length s)
  keys_apart i j l m e = omega (arith, remainder_lt i, remainder_lt j, h.few_members)

  pub key_lt : (i : ℕ) → i < length s → key s q i < (total_of s + 1) * 64
  key_lt i l = omega (arith, h.few_members)

  -- the leftovers go to the keys below a number that as many keys are below
  pub count_by_key : (end i : ℕ) → undealt_of s q ≡ under (key s q) (length s) end → i < length s → count_of s q i ≡ quota_of s q i + one (ltb (key s q i) end)
  unfolding count_of
  count_by_key end i e l = rw (rank_key i l, e, first_below (key s q) (length s) end i l) refl

  -- the leftovers go to just as many members as there are leftovers
  pub leftovers : how_many (length s) (λ i. ltb (rank_of s q i) (undealt_of s q)) ≡ undealt_of s q
  leftovers =
      many_cong (λ i. ltb (rank_of s q i) (undealt_of s q)) (λ i. ltb (under (key s q) (length s) (key s q i)) (undealt_of s q)) (length s)
      (λ i l. ap (λ (x : ℕ). ltb x (undealt_of s q)) (rank_key i l))
      ∙ ranks (key s q) (length s) (undealt_of s q) keys_apart (omega (arith, few_undealt))

  pub counts_sum : sum_below (length s) (count_of s q) ≡ q
  unfolding count_of how_many
  counts_sum =
      sum_add (quota_of s q) (λ i. one (ltb (rank_of s q i) (undealt_of s q))) (length s)
      ∙ omega (arith, quotas_and_undealt, leftovers)

  pub count_le : (i : ℕ) → i < length s → count_of s q i ≤ q
  count_le i l = omega (arith, sum_part (count_of s q) (length s) i l, counts_sum)
