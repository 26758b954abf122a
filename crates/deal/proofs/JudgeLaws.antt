-- The order of checks: what a judgement that passed says of two clusters and a quantum. Assumes nothing.
use mathlib.Core.Path.{◌≡◌, sym, ◌∙◌}
use mathlib.Core.Bool.{true}
use mathlib.Core.List.{List, [], ◌∷◌, ◌++◌}
use Prim.Native.Nat.{ℕ}
use lib.Dec.{lit<}
use Rattle.basics.specs.Checks.{◌else◌, first_failing}
use Rattle.basics.specs.Ranges.{is_quantum}
use Rattle.basics.proofs.CheckLaws.{Numbered, checks_passed, checks_failed, checks_first, checks_later, first_passed}
use Rattle.shares.specs.Cluster.{cluster_checks, cluster_refusal, Accepted}
use Rattle.shares.proofs.ClusterLaws.{cluster_numbered, accepts}
use Rattle.hamilton.specs.Hamilton.{Dealable}
use Rattle.hamilton.proofs.JudgeLaws.{dealable}
use Rattle.deal.specs.Pairs.{pair_checks, pair_refusal}

pub pair_numbered : (ss : List ℕ) (su sr : ℕ) (rs : List ℕ) (ru rr q : ℕ) → Numbered (pair_checks ss su sr rs ru rr q)
pair_numbered ss su sr rs ru rr q = (lit< tt, (lit< tt, (lit< tt, (lit< tt, (lit< tt, (lit< tt, (lit< tt, tt)))))))

module _ (ss : List ℕ) (su sr : ℕ) (rs : List ℕ) (ru rr q n : ℕ) (e : n ≡ cluster_refusal ss su sr) where
  pub pair_sending : (n ≡ 0 → ⊥) → n ≡ pair_refusal ss su sr rs ru rr q
  unfolding pair_refusal cluster_refusal
  pair_sending z = checks_failed (cluster_checks ss su sr) (cluster_checks rs ru rr ++ ((is_quantum q else 4) ∷ [])) e z

  module _ (y : n ≡ 0) (m : ℕ) (f : m ≡ cluster_refusal rs ru rr) where
    pub pair_receiving : (m ≡ 0 → ⊥) → m ≡ pair_refusal ss su sr rs ru rr q
    unfolding pair_refusal cluster_refusal
    pair_receiving z =
        checks_passed (cluster_checks ss su sr) (cluster_checks rs ru rr ++ ((is_quantum q else 4) ∷ [])) (sym e ∙ y)
        (checks_failed (cluster_checks rs ru rr) ((is_quantum q else 4) ∷ []) f z) (cluster_numbered ss su sr)

    pub pair_judged : (k : ℕ) → m ≡ 0 → k ≡ first_failing ((is_quantum q else 4) ∷ []) → k ≡ pair_refusal ss su sr rs ru rr q
    unfolding pair_refusal cluster_refusal
    pair_judged k z g =
        checks_passed (cluster_checks ss su sr) (cluster_checks rs ru rr ++ ((is_quantum q else 4) ∷ [])) (sym e ∙ y)
        (checks_passed (cluster_checks rs ru rr) ((is_quantum q else 4) ∷ []) (sym f ∙ z) g (cluster_numbered rs ru rr)) (cluster_numbered ss su sr)

module _ (ss : List ℕ) (su sr : ℕ) (rs : List ℕ) (ru rr q : ℕ) (e : pair_refusal ss su sr rs ru rr q ≡ 0) where
  rest : first_failing (cluster_checks rs ru rr ++ ((is_quantum q else 4) ∷ [])) ≡ 0
  unfolding pair_refusal
  rest = checks_later (cluster_checks ss su sr) (cluster_checks rs ru rr ++ ((is_quantum q else 4) ∷ [])) (cluster_numbered ss su sr) e

  pub pair_quantum : is_quantum q ≡ true
  pair_quantum = first_passed (is_quantum q) 4 [] (lit< tt) (checks_later (cluster_checks rs ru rr) ((is_quantum q else 4) ∷ []) (cluster_numbered rs ru rr) rest)

  -- both clusters are accepted
  pub sending_accepted : Accepted ss su sr
  unfolding pair_refusal cluster_refusal
  sending_accepted = accepts ss su sr (checks_first (cluster_checks ss su sr) (cluster_checks rs ru rr ++ ((is_quantum q else 4) ∷ [])) (cluster_numbered ss su sr) e)

  pub receiving_accepted : Accepted rs ru rr
  unfolding cluster_refusal
  receiving_accepted = accepts rs ru rr (checks_first (cluster_checks rs ru rr) ((is_quantum q else 4) ∷ []) (cluster_numbered rs ru rr) rest)

  -- and can be dealt
  pub sending_dealable : Dealable ss q
  sending_dealable = dealable ss su sr q sending_accepted pair_quantum

  pub receiving_dealable : Dealable rs q
  receiving_dealable = dealable rs ru rr q receiving_accepted pair_quantum
