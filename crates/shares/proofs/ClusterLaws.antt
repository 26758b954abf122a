-- What an accepted cluster is, from the answer 0 and back, and the sizes that follow. Assumes nothing.
use mathlib.Core.Path.{◌≡◌, refl, sym, ◌∙◌}
use mathlib.Core.Bool.{Bool, true, false, ◌&&◌}
use mathlib.Core.List.{List}
use Prim.Native.Nat.{ℕ, ◌+◌, ◌*◌, ◌%◌, ◌≤◌, ◌<◌}
use native.Mathlib.Nat.{mod-eq_of_lt}
use native.Mathlib.Omega.{arith}
use lib.Dec.{leb, ltb, lit<}
use lib.ListN.{length, get_or}
use borrow.Author.Rules.{rules}
use borrow.Author.Tests.{le-leb, lt-leb, lt-ltb, le-ltb, leb-true, not-true, not-false}
use Rattle.basics.specs.Checks.{first_failing}
use Rattle.basics.proofs.BoolLaws.{and_both, and_left, and_right, and_not_left, and_not_right}
use Rattle.basics.proofs.SumLaws.{all_at, all_of, sum_bound}
use Rattle.basics.proofs.CheckLaws.{first_passed, later_passed, Numbered}
use Rattle.shares.specs.Shares.{total_of}
use Rattle.shares.specs.Cluster.{members_fit, is_share, shares_fit, bounds_fit, cluster_checks, cluster_refusal, ClusterAnswer, cluster_answer, Accepted}

-- ---- the checks, from what the code knows where it answers
members_none : (s : List ℕ) → length s < 1 → members_fit s ≡ false
unfolding members_fit
members_none s l = and_not_left (leb 1 (length s)) (leb (length s) 64) (lt-leb 1 (length s) l)

members_many : (s : List ℕ) → 64 < length s → members_fit s ≡ false
unfolding members_fit
members_many s l = and_not_right (leb 1 (length s)) (leb (length s) 64) (lt-leb (length s) 64 l)

members_fit_lem : (s : List ℕ) → 1 ≤ length s → length s ≤ 64 → members_fit s ≡ true
unfolding members_fit
members_fit_lem s l m = and_both (leb 1 (length s)) (leb (length s) 64) (le-leb 1 (length s) l) (le-leb (length s) 64 m)

-- ---- the answers
module _ (s : List ℕ) (u r : ℕ) where
  told_none : members_fit s ≡ false → 1 ≡ cluster_refusal s u r → ◌≡◌ {A = ClusterAnswer} (record { refusal = 1; total = 0 }) (cluster_answer s u r)
  unfolding cluster_answer
  told_none m e = rw (← e, m) refl

  pub refused_none : length s < 1 → ◌≡◌ {A = ClusterAnswer} (record { refusal = 1; total = 0 }) (cluster_answer s u r)
  unfolding cluster_refusal first_failing
  refused_none l = told_none (members_none s l) (simp (members_none s l))

  pub refused_many : 64 < length s → ◌≡◌ {A = ClusterAnswer} (record { refusal = 1; total = 0 }) (cluster_answer s u r)
  unfolding cluster_refusal first_failing
  refused_many l = told_none (members_many s l) (simp (members_many s l))

  module _ (l : 1 ≤ length s) (few : length s ≤ 64) (d : ℕ) (e : d ≡ total_of s % 4294967296) where
    told_some : (n : ℕ) → n ≡ cluster_refusal s u r → ◌≡◌ {A = ClusterAnswer} (record { refusal = n; total = d }) (cluster_answer s u r)
    unfolding cluster_answer
    told_some n f = rw (f, e, members_fit_lem s l few) refl

    module _ (bits : ℕ) (f : ltb bits 2147483648 ≡ shares_fit s) where
      pub refused_share : 2147483648 ≤ bits → ◌≡◌ {A = ClusterAnswer} (record { refusal = 2; total = d }) (cluster_answer s u r)
      unfolding cluster_refusal first_failing
      refused_share z = told_some 2 (simp (members_fit_lem s l few, sym f ∙ le-ltb bits 2147483648 z))

      module _ (t : bits < 2147483648) where
        all_allowed : shares_fit s ≡ true
        all_allowed = sym f ∙ lt-ltb bits 2147483648 t

        total_told : d ≡ total_of s
        unfolding total_of shares_fit is_share
        total_told =
            let each = all_at (λ j. is_share (get_or s j 0)) (length s) all_allowed in
            let small = sum_bound (λ i. get_or s i 0) 1000000 (length s) (λ i k. leb-true (get_or s i 0) 1000000 (and_right (leb 1 (get_or s i 0)) (leb (get_or s i 0) 1000000) (each i k))) in
            e ∙ mod-eq_of_lt (omega (arith, small))

        module _ (b : Bool) (g : b ≡ (leb r u && leb (2 * u + r + 1) d)) where
          bounds_told : b ≡ bounds_fit s u r
          unfolding bounds_fit
          bounds_told = g ∙ rw total_told refl

          pub refused_bounds : b ≡ false → ◌≡◌ {A = ClusterAnswer} (record { refusal = 3; total = d }) (cluster_answer s u r)
          unfolding cluster_refusal first_failing
          refused_bounds h = told_some 3 (simp (members_fit_lem s l few, all_allowed, sym bounds_told ∙ h))

          pub cluster_accepted : b ≡ true → ◌≡◌ {A = ClusterAnswer} (record { refusal = 0; total = d }) (cluster_answer s u r)
          unfolding cluster_refusal first_failing
          cluster_accepted h = told_some 0 (simp (members_fit_lem s l few, all_allowed, sym bounds_told ∙ h))

pub ruleset judging = (not-true, not-false, refused_none, refused_many, refused_share, refused_bounds, cluster_accepted, rules)

pub cluster_numbered : (s : List ℕ) (u r : ℕ) → Numbered (cluster_checks s u r)
cluster_numbered s u r = (lit< tt, (lit< tt, (lit< tt, tt)))

-- ---- accepted
module _ (s : List ℕ) (u r : ℕ) where
  pub accepts : cluster_refusal s u r ≡ 0 → Accepted s u r
  unfolding cluster_refusal members_fit shares_fit is_share bounds_fit
  accepts e =
      let a : members_fit s ≡ true = first_passed (members_fit s) 1 _ (lit< tt) e in
      let e₂ = later_passed (members_fit s) 1 _ (lit< tt) e in
      let b : shares_fit s ≡ true = first_passed (shares_fit s) 2 _ (lit< tt) e₂ in
      let e₃ = later_passed (shares_fit s) 2 _ (lit< tt) e₂ in
      let d : bounds_fit s u r ≡ true = first_passed (bounds_fit s u r) 3 _ (lit< tt) e₃ in
      let each : (i : ℕ) → i < length s → is_share (get_or s i 0) ≡ true = all_at (λ i. is_share (get_or s i 0)) (length s) b in
      record {
        some_member = leb-true _ _ (and_left (leb 1 (length s)) (leb (length s) 64) a);
        few_members = leb-true _ _ (and_right (leb 1 (length s)) (leb (length s) 64) a);
        some_share = λ i l. leb-true _ _ (and_left (leb 1 (get_or s i 0)) (leb (get_or s i 0) 1000000) (each i l));
        small_share = λ i l. leb-true _ _ (and_right (leb 1 (get_or s i 0)) (leb (get_or s i 0) 1000000) (each i l));
        liars = leb-true _ _ (and_left (leb r u) (leb (2 * u + r + 1) (total_of s)) d);
        enough = leb-true _ _ (and_right (leb r u) (leb (2 * u + r + 1) (total_of s)) d);
      }

  pub accepted : Accepted s u r → 0 ≡ cluster_refusal s u r
  unfolding cluster_refusal first_failing members_fit shares_fit is_share bounds_fit
  accepted a =
      simp (
        le-leb _ _ a.some_member,
        le-leb _ _ a.few_members,
        all_of (λ i. leb 1 (get_or s i 0) && leb (get_or s i 0) 1000000) (length s)
            (λ i l. and_both (leb 1 (get_or s i 0)) (leb (get_or s i 0) 1000000) (le-leb _ _ (a.some_share i l)) (le-leb _ _ (a.small_share i l))),
        le-leb _ _ a.liars,
        le-leb _ _ a.enough,
      )

  -- an accepted cluster's total fits 32 bits
  pub total_small : Accepted s u r → total_of s ≤ 64_000_000
  unfolding total_of
  total_small a = omega (arith, a.few_members, sum_bound (λ i. get_or s i 0) 1000000 (length s) a.small_share)

-- ---- the answer's parts
module _ (s : List ℕ) (u r : ℕ) (a : ClusterAnswer) (e : a ≡ cluster_answer s u r) where
  pub answer_refusal : a.refusal ≡ cluster_refusal s u r
  unfolding cluster_answer
  answer_refusal = rw e refl

  pub answer_total : a.refusal ≡ 0 → a.total ≡ total_of s
  unfolding cluster_answer
  answer_total z =
      let ok = accepts s u r (sym answer_refusal ∙ z) in
      rw (e, members_fit_lem s ok.some_member ok.few_members) (mod-eq_of_lt (omega (arith, total_small s u r ok)))
