-- The contracts leave no choice: two results that meet one are equal. Assumes nothing.
use mathlib.Core.Path.{◌≡◌, ap, ◌∙◌}
use mathlib.Core.List.{List}
use Prim.Native.Nat.{ℕ}
use Rattle.basics.proofs.Unique.{one_answer}
use Rattle.std.specs.Prelude.{Result}
use Rattle.basics.specs.declared.refusal.Refusal.{Refusal}
use Rattle.basics.specs.Refusals.{outcome_number}
use Rattle.basics.proofs.RefusalLaws.{one_outcome}
use Rattle.shares.specs.Cluster.{cluster_refusal, ClusterAnswer, cluster_answer, told}
use Rattle.shares.specs.declared.cluster.Judgement.{Judgement}

pub one_refusal : (shares : List ℕ) (u r : ℕ) (a b : Result Unit Refusal) → outcome_number a ≡ cluster_refusal shares u r → outcome_number b ≡ cluster_refusal shares u r → a ≡ b
one_refusal shares u r a b e f = one_outcome a b (one_answer e f)

abbrev judged : Result Unit Refusal → ℕ → Judgement
judged outcome total = record { outcome = outcome; total = total }

pub one_judgement : (shares : List ℕ) (u r : ℕ) (a b : Judgement) → told a ≡ cluster_answer shares u r → told b ≡ cluster_answer shares u r → a ≡ b
one_judgement shares u r a b e f =
    let same : told a ≡ told b = one_answer e f in
    ap (λ (x : Result Unit Refusal). judged x a.total) (one_outcome a.outcome b.outcome (ap (λ (x : ClusterAnswer). x.refusal) same))
    ∙ ap (judged b.outcome) (ap (λ (x : ClusterAnswer). x.total) same)
