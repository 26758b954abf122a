-- Hamilton's counts of an accepted cluster, for any allowed quantum: they add up to it, each is the lower quota or one more, one more goes
-- to the larger remainders and on ties to the lower member, and there are fewer messages left over than members. Assumes nothing.
use mathlib.Core.Path.{◌≡◌, ◌∙◌}
use mathlib.Core.Bool.{true, cond, ◌&&◌}
use mathlib.Core.List.{List}
use mathlib.Core.Logic.{◌⊎◌, inl, inr}
use Prim.Native.Nat.{ℕ, ◌+◌, ◌<◌, ◌≤◌}
use native.Mathlib.Decide.{dec_lt}
use native.Mathlib.Omega.{arith}
use lib.Dec.{ltb, eqb}
use lib.ListN.{length, get_or}
use borrow.Author.Tests.{lt-ltb, le-ltb, ltb-true, eqb-true}
use Rattle.basics.specs.Ranges.{is_quantum}
use Rattle.basics.proofs.BoolLaws.{bool_cases, or_cases, and_left, and_right}
use Rattle.basics.proofs.SumLaws.{sum_cong, list_at}
use Rattle.shares.specs.Shares.{total_of}
use Rattle.shares.specs.Cluster.{Accepted}
use Rattle.hamilton.specs.Hamilton.{quota_of, remainder_of, undealt_of, goes_first, ahead_of, rank_of, count_of, counts_of, Dealable}
use Rattle.hamilton.proofs.RankLaws.{under_mono}
use Rattle.hamilton.proofs.QuotaLaws.{few_undealt, key, ahead_key, rank_key, counts_sum}
use Rattle.hamilton.proofs.JudgeLaws.{dealable, length_counts}

-- what "member i comes ahead of member j" says
ahead_means : (s : List ℕ) (q i j : ℕ) → ahead_of s q i j ≡ true → (remainder_of s q j < remainder_of s q i) ⊎ ((remainder_of s q i ≡ remainder_of s q j) × (i < j))
unfolding ahead_of goes_first
ahead_means s q i j t =
    let x = remainder_of s q i in
    let y = remainder_of s q j in
    elim (or_cases (ltb y x) (eqb x y && ltb i j) t) [
      | inl l ↦ inl (ltb-true y x l)
      | inr l ↦ inr (eqb-true x y (and_left (eqb x y) (ltb i j) l), ltb-true i j (and_right (eqb x y) (ltb i j) l))
    ]

has_one : (c x y : ℕ) → c + cond (ltb x y) 1 0 ≡ c + 1 → x < y
has_one c x y e = elim (dec_lt x y) [ yes l ↦ l | no l ↦ absurd (omega (arith, simp (le-ltb x y (omega arith)) at e)) ]

has_none : (c x y : ℕ) → c + cond (ltb x y) 1 0 ≡ c → y ≤ x
has_none c x y e = elim (dec_lt x y) [ yes l ↦ absurd (omega (arith, simp (lt-ltb x y l) at e)) | no l ↦ omega arith ]

module _ (s : List ℕ) (u r q : ℕ) (a : Accepted s u r) (b : is_quantum q ≡ true) where
  abbrev deals : Dealable s q
  deals = dealable s u r q a b

  -- the counts sum to q
  pub counts_add_up : total_of (counts_of s q) ≡ q
  unfolding total_of counts_of
  counts_add_up =
      rw (length_counts s q)
      (sum_cong (λ i. get_or (counts_of s q) i 0) (count_of s q) (length s) (λ i l. list_at (count_of s q) 0 (length s) i l) ∙ counts_sum s q deals)

  -- every count is its lower quota or one more
  pub quota_or_one_more : (i : ℕ) → (count_of s q i ≡ quota_of s q i) ⊎ (count_of s q i ≡ quota_of s q i + 1)
  unfolding count_of
  quota_or_one_more i = elim (bool_cases (ltb (rank_of s q i) (undealt_of s q))) [
    | inl t ↦ inr (simp t)
    | inr t ↦ inl (simp t (omega arith))
  ]

  -- where i has one more than its lower quota and j has not, i has the larger remainder, or an equal one and is the lower member
  pub leftover_to_the_larger : (i j : ℕ) → i < length s → j < length s → count_of s q i ≡ quota_of s q i + 1 → count_of s q j ≡ quota_of s q j
      → (remainder_of s q j < remainder_of s q i) ⊎ ((remainder_of s q i ≡ remainder_of s q j) × (i < j))
  unfolding count_of
  leftover_to_the_larger i j l m e f =
      let x = key s q i in
      let y = key s q j in
      let few : rank_of s q i < undealt_of s q = has_one (quota_of s q i) (rank_of s q i) (undealt_of s q) e in
      let many : undealt_of s q ≤ rank_of s q j = has_none (quota_of s q j) (rank_of s q j) (undealt_of s q) f in
      let before : x < y = elim (dec_lt x y) [
        | yes k ↦ k
        | no k ↦ absurd (omega (arith, rank_key s q deals i l, rank_key s q deals j m, under_mono (key s q) (length s) y x (omega arith)))
      ] in
      ahead_means s q i j (ahead_key s q deals i j l m ∙ lt-ltb x y before)

  -- fewer messages are left undealt than there are members, so one each is enough
  pub one_each_is_enough : undealt_of s q < length s
  one_each_is_enough = few_undealt s q deals
