-- The call for counts: what a judgement that passed says of cluster, quantum and room, and what a refusal leaves. Assumes nothing.
use mathlib.Core.Path.{◌≡◌, sym, ◌∙◌}
use mathlib.Core.Bool.{true}
use mathlib.Core.List.{List, [], ◌∷◌, ◌++◌}
use Prim.Native.Nat.{ℕ, ◌≤◌}
use native.Mathlib.Omega.{arith}
use lib.Dec.{leb, lit<}
use lib.ListN.{length, drop}
use borrow.Author.Tests.{leb-true, eq-eqb, ne_eqb}
use Rattle.basics.specs.Checks.{◌else◌}
use Rattle.basics.specs.Ranges.{is_quantum}
use Rattle.basics.proofs.BoolLaws.{and_left, and_right}
use Rattle.basics.proofs.CheckLaws.{checks_passed, checks_failed, first_passed, later_passed}
use Rattle.basics.proofs.SumLaws.{length_list}
use Rattle.shares.specs.Shares.{total_of}
use Rattle.shares.specs.Cluster.{cluster_checks, cluster_refusal, ClusterAnswer, cluster_answer, Accepted}
use Rattle.shares.proofs.ClusterLaws.{cluster_numbered, accepts, total_small, answer_refusal, answer_total}
use Rattle.hamilton.specs.Hamilton.{count_of, counts_of, Dealable}
use Rattle.hamilton.specs.Counts.{later_checks, later_refusal, counts_refusal, counts_out}

-- an accepted cluster and an allowed quantum can be dealt
pub dealable : (s : List ℕ) (u r q : ℕ) → Accepted s u r → is_quantum q ≡ true → Dealable s q
unfolding is_quantum
dealable s u r q a b = record {
  few_members = a.few_members;
  small_share = a.small_share;
  some_total = omega (arith, a.enough);
  small_total = total_small s u r a;
  some_quantum = leb-true 1 q (and_left (leb 1 q) (leb q 1024) b);
  small_quantum = leb-true q 1024 (and_right (leb 1 q) (leb q 1024) b);
}

-- ---- the call for counts
module _ (s : List ℕ) (u r q : ℕ) (o : List ℕ) (a : ClusterAnswer) (e : a ≡ cluster_answer s u r) where
  judged : cluster_refusal s u r ≡ a.refusal
  judged = sym (answer_refusal s u r a e)

  kept : (n : ℕ) → n ≡ counts_refusal s u r q (length o) → (n ≡ 0 → ⊥) → o ≡ counts_out s u r q o
  unfolding counts_out
  kept n f z = simp (← f, ne_eqb n 0 z)

  pub cluster_refused : (n : ℕ) → n ≡ a.refusal → (n ≡ 0 → ⊥) → (n ≡ counts_refusal s u r q (length o)) × (o ≡ counts_out s u r q o)
  unfolding counts_refusal cluster_refusal
  cluster_refused n p z =
      let f : n ≡ counts_refusal s u r q (length o) = checks_failed (cluster_checks s u r) (later_checks q (length s) (length o)) (p ∙ sym judged) z in
      (f, kept n f z)

  module _ (y : a.refusal ≡ 0) where
    pub total_told : a.total ≡ total_of s
    total_told = answer_total s u r a e y

    module _ (n : ℕ) (f : n ≡ later_refusal q (length s) (length o)) where
      later_told : n ≡ counts_refusal s u r q (length o)
      unfolding counts_refusal cluster_refusal later_refusal
      later_told = checks_passed (cluster_checks s u r) (later_checks q (length s) (length o)) (judged ∙ y) f (cluster_numbered s u r)

      pub later_refused : (m : ℕ) → m ≡ n → (m ≡ 0 → ⊥) → (m ≡ counts_refusal s u r q (length o)) × (o ≡ counts_out s u r q o)
      later_refused m p z = (p ∙ later_told, kept m (p ∙ later_told) z)

      module _ (z : n ≡ 0) where
        pub counts_dealable : Dealable s q
        unfolding later_refusal
        counts_dealable = dealable s u r q (accepts s u r (judged ∙ y)) (first_passed (is_quantum q) 4 ((leb (length s) (length o) else 5) ∷ []) (lit< tt) (sym f ∙ z))

        pub counts_room : length s ≤ length o
        unfolding later_refusal
        counts_room =
            leb-true (length s) (length o)
            (first_passed (leb (length s) (length o)) 5 [] (lit< tt) (later_passed (is_quantum q) 4 ((leb (length s) (length o) else 5) ∷ []) (lit< tt) (sym f ∙ z)))

        pub counts_answered : (l : List ℕ) → l ≡ counts_of s q ++ drop (length s) o → (0 ≡ counts_refusal s u r q (length o)) × (l ≡ counts_out s u r q o)
        unfolding counts_out
        counts_answered l g = (sym z ∙ later_told, simp (← later_told, eq-eqb n 0 z) g)

-- one count for each member
pub length_counts : (s : List ℕ) (q : ℕ) → length (counts_of s q) ≡ length s
unfolding counts_of
length_counts s q = length_list (count_of s q) (length s)
