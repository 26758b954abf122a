-- The words of a state. Assumes nothing.
use Rattle.std.specs.Prelude.{cond, List, [], ◌∷◌, ◌++◌, ℕ, get_or}
use Rattle.basics.specs.Sums.{list_below}
use Rattle.downstream.specs.declared.state.Cluster.{Cluster}
use Rattle.downstream.specs.declared.state.Report.{Report}
use Rattle.downstream.specs.declared.state.Entry.{Entry}
use Rattle.downstream.specs.State.{report_at, numbers_of, masks_of, counts_of, complaints_of}
use Rattle.window.specs.declared.state.Window.{Window}

-- members, u, r, and 64 shares
unfoldable pub shares_words : Cluster → List ℕ
shares_words c = list_below 64 (λ i. get_or c.shares i 0)

unfoldable pub cluster_words : Cluster → List ℕ
cluster_words c = (c.members ∷ c.u ∷ c.r ∷ []) ++ shares_words c

-- whether each member has reported: 1 or 0
unfoldable pub heard_of : List Report → List ℕ
heard_of reports = list_below 64 (λ i. cond (report_at reports i).heard 1 0)

unfoldable pub report_words : List Report → List ℕ
report_words reports = numbers_of reports ++ masks_of reports ++ heard_of reports

unfoldable pub entry_words : List Entry → List ℕ
entry_words entries = counts_of entries ++ complaints_of entries

-- both clusters, q, S and p, the reports and the entries, one after another
unfoldable pub words_of : Window → List ℕ
words_of w =
    cluster_words w.sending
    ++ cluster_words w.downstream.cluster
    ++ (w.quantum ∷ w.sent ∷ w.downstream.point ∷ [])
    ++ report_words w.downstream.reports
    ++ entry_words w.downstream.entries

-- as many words that are zero
unfoldable pub zeros : ℕ → List ℕ
zeros n = list_below n (λ _. 0)
