-- When all that belongs to a receiving cluster is well formed, clause by clause. Assumes nothing.
use Rattle.std.specs.Prelude.{Bool, cond, not, ◌&&◌, ◌||◌, List, ℕ, ◌+◌, leb, ltb, eqb, get_or}
use Rattle.basics.specs.Sums.{all_below}
use Rattle.basics.specs.Ranges.{message_limit}
use Rattle.marks.specs.Masks.{is_marked}
use Rattle.marks.specs.Held.{none_above}
use Rattle.shares.specs.Cluster.{cluster_refusal}
use Rattle.downstream.specs.declared.state.Cluster.{Cluster}
use Rattle.downstream.specs.declared.state.Report.{Report}
use Rattle.downstream.specs.declared.state.Entry.{Entry}
use Rattle.downstream.specs.declared.state.Downstream.{Downstream}
use Rattle.downstream.specs.State.{no_entry, shares_of, place_after, report_at, held_by, numbers_of, masks_of, point_from}

-- a cluster is accepted, share places past its end being zero
unfoldable pub places_zero : Cluster → Bool
places_zero c = all_below 64 (λ i. ltb i c.members || eqb (get_or c.shares i 0) 0)

unfoldable pub cluster_kept : Cluster → Bool
cluster_kept c = leb c.members 64 && eqb (cluster_refusal (shares_of c) c.u c.r) 0 && places_zero c

-- p ≤ S ≤ p + 64 and S ≤ 1,000,000,000,000
unfoldable pub span_kept : ℕ → ℕ → Bool
span_kept p s = leb s message_limit && leb p s && leb s (p + 64)

-- each member's report has bit 0 clear and holds nothing above S; a member that has not reported, and every place past the cluster's end
-- (never marked as reported), has an all-zero report
abbrev pub report_kept : ℕ → ℕ → ℕ → Report → Bool
report_kept members s i rep =
    cond rep.heard
    (ltb i members && not (is_marked rep.mask 0) && none_above rep.number rep.mask s)
    (eqb rep.number 0 && eqb rep.mask 0)

unfoldable pub reports_kept : ℕ → List Report → ℕ → Bool
reports_kept members reports s = all_below 64 (λ i. report_kept members s i (report_at reports i))

-- a complaint set names only members that exist and do not hold the message
unfoldable pub complaints_kept : ℕ → List ℕ → List ℕ → ℕ → ℕ → Bool
complaints_kept members numbers masks k bits = all_below 64 (λ i. not (is_marked bits i) || (ltb i members && not (held_by numbers masks k i)))

-- counts are at most 255; entries outside p + 1 to S are empty
abbrev pub entry_kept : ℕ → List ℕ → List ℕ → ℕ → ℕ → Entry → Bool
entry_kept members numbers masks s k e =
    cond (leb k s)
    (leb e.count 255 && complaints_kept members numbers masks k e.complaints)
    (eqb e.count 0 && eqb e.complaints 0)

unfoldable pub entries_kept : ℕ → List ℕ → List ℕ → List Entry → ℕ → ℕ → Bool
entries_kept members numbers masks entries p s =
    all_below 64 (λ o. entry_kept members numbers masks s (p + 1 + o) (get_or entries (place_after p o) no_entry))

-- what is asked of all that belongs to the receiving cluster; p is the point that the reports give
unfoldable pub downstream_kept : Downstream → ℕ → Bool
downstream_kept d s =
    span_kept d.point s
    && cluster_kept d.cluster
    && reports_kept d.cluster.members d.reports s
    && eqb d.point (point_from d.cluster (numbers_of d.reports))
    && entries_kept d.cluster.members (numbers_of d.reports) (masks_of d.reports) d.entries d.point s
