-- The contracts leave no choice: two results that meet one are equal. Assumes nothing.
use mathlib.Core.Path.{◌≡◌}
use mathlib.Core.Bool.{Bool}
use mathlib.Core.List.{List}
use Prim.Native.Nat.{ℕ}
use Rattle.basics.proofs.Unique.{one_answer}
use Rattle.downstream.specs.declared.state.Cluster.{Cluster}
use Rattle.downstream.specs.declared.state.Report.{Report}
use Rattle.downstream.specs.declared.state.Entry.{Entry}
use Rattle.downstream.specs.declared.state.Downstream.{Downstream}
use Rattle.downstream.specs.State.{numbers_of, masks_of, counts_of, complaints_of}
use Rattle.downstream.specs.Formed.{cluster_kept, span_kept, report_kept, downstream_kept}

pub one_numbers : (reports : List Report) (a b : List ℕ) → a ≡ numbers_of reports → b ≡ numbers_of reports → a ≡ b
one_numbers reports a b e f = one_answer e f

pub one_masks : (reports : List Report) (a b : List ℕ) → a ≡ masks_of reports → b ≡ masks_of reports → a ≡ b
one_masks reports a b e f = one_answer e f

pub one_counts : (entries : List Entry) (a b : List ℕ) → a ≡ counts_of entries → b ≡ counts_of entries → a ≡ b
one_counts entries a b e f = one_answer e f

pub one_complaints : (entries : List Entry) (a b : List ℕ) → a ≡ complaints_of entries → b ≡ complaints_of entries → a ≡ b
one_complaints entries a b e f = one_answer e f

pub one_cluster_kept : (c : Cluster) (a b : Bool) → a ≡ cluster_kept c → b ≡ cluster_kept c → a ≡ b
one_cluster_kept c a b e f = one_answer e f

pub one_span_kept : (p s : ℕ) (a b : Bool) → a ≡ span_kept p s → b ≡ span_kept p s → a ≡ b
one_span_kept p s a b e f = one_answer e f

pub one_report_kept : (members s i : ℕ) (rep : Report) (a b : Bool) → a ≡ report_kept members s i rep → b ≡ report_kept members s i rep → a ≡ b
one_report_kept members s i rep a b e f = one_answer e f

pub one_downstream_kept : (d : Downstream) (s : ℕ) (a b : Bool) → a ≡ downstream_kept d s → b ≡ downstream_kept d s → a ≡ b
one_downstream_kept d s a b e f = one_answer e f
