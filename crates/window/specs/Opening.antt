-- Opening a window for two clusters and a quantum: 1, 2, 3 of the sending cluster, then of the receiving, 4. Assumes nothing.
use Rattle.std.specs.Prelude.{cond, List, ◌++◌, ℕ, ◌-◌, eqb, length, replicate}
use Rattle.deal.specs.Pairs.{pair_refusal}
use Rattle.basics.specs.Refusals.{outcome_number}
use Rattle.window.specs.declared.opening.OpenAnswer as code
use Rattle.downstream.specs.declared.state.Cluster.{Cluster}
use Rattle.downstream.specs.declared.state.Downstream.{Downstream}
use Rattle.window.specs.declared.state.Window.{Window}
use Rattle.downstream.specs.State.{no_report, no_entry}

-- the lent list of shares, share places past the cluster's end being zero
abbrev pub cluster_from : List ℕ → ℕ → ℕ → Cluster
cluster_from shares u r = record { members = length shares; u = u; r = r; shares = shares ++ replicate (64 - length shares) 0 }

-- nothing reported, nothing complained of, the point at 0
abbrev pub downstream_from : Cluster → Downstream
downstream_from c = record { cluster = c; point = 0; reports = replicate 64 no_report; entries = replicate 64 no_entry }

-- the highest sent number S is 0 at opening
abbrev pub window_from : Cluster → Cluster → ℕ → Window
window_from sending receiving q = record { sending = sending; quantum = q; sent = 0; downstream = downstream_from receiving }

-- a state of zeros
abbrev pub no_cluster : Cluster
no_cluster = record { members = 0; u = 0; r = 0; shares = replicate 64 0 }

abbrev pub no_window : Window
no_window = window_from no_cluster no_cluster 0

-- a refusal's number, 0 for none, and a state
pub record OpenAnswer : Type 0 where
  pub refusal : ℕ
  pub window : Window

-- a refused opening hands back a state of zeros
unfoldable pub open_of : List ℕ → ℕ → ℕ → List ℕ → ℕ → ℕ → ℕ → OpenAnswer
open_of ss su sr rs ru rr q =
    cond (eqb (pair_refusal ss su sr rs ru rr q) 0)
    (record { refusal = 0; window = window_from (cluster_from ss su sr) (cluster_from rs ru rr) q })
    (record { refusal = pair_refusal ss su sr rs ru rr q; window = no_window })

-- the same of what the call hands back
abbrev pub told : code.OpenAnswer → OpenAnswer
told a = record { refusal = outcome_number a.outcome; window = a.window }
