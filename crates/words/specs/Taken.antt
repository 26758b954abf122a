-- The state that stands in words, and which words are too large for their fields. Assumes nothing.
use Rattle.std.specs.Prelude.{Bool, ◌&&◌, List, ℕ, ◌+◌, leb, eqb, get_or}
use Rattle.basics.specs.Sums.{all_below, list_below}
use Rattle.downstream.specs.declared.state.Cluster.{Cluster}
use Rattle.downstream.specs.declared.state.Report.{Report}
use Rattle.downstream.specs.declared.state.Entry.{Entry}
use Rattle.window.specs.declared.state.Window.{Window}
use Rattle.window.specs.Formed.{well_formed}
use Rattle.words.specs.Places.{sending_at, receiving_at, quantum_at, sent_at, point_at, numbers_at, masks_at, heard_at, counts_at, complaints_at, most32}

-- the word at a place
abbrev pub word_at : List ℕ → ℕ → ℕ
word_at ws i = get_or ws i 0

-- the n words from a place on are at most so large
unfoldable pub none_above : List ℕ → ℕ → ℕ → ℕ → Bool
none_above ws from n most = all_below n (λ i. leb (word_at ws (from + i)) most)

-- no word is too large for its field: both clusters and q have 32 bits each, so have the resend counts, and whether a member has reported
-- is 0 or 1
unfoldable pub fits : List ℕ → Bool
fits ws = none_above ws sending_at 135 most32 && none_above ws heard_at 64 1 && none_above ws counts_at 64 most32

-- 64 words from a place on
unfoldable pub column_at : List ℕ → ℕ → List ℕ
column_at ws at = list_below 64 (λ i. word_at ws (at + i))

unfoldable pub cluster_at : List ℕ → ℕ → Cluster
cluster_at ws at = record { members = word_at ws at; u = word_at ws (at + 1); r = word_at ws (at + 2); shares = column_at ws (at + 3) }

-- the report of member i, and the entry with place i
abbrev pub report_in : List ℕ → ℕ → Report
report_in ws i = record { number = word_at ws (numbers_at + i); mask = word_at ws (masks_at + i); heard = eqb (word_at ws (heard_at + i)) 1 }

abbrev pub entry_in : List ℕ → ℕ → Entry
entry_in ws i = record { count = word_at ws (counts_at + i); complaints = word_at ws (complaints_at + i) }

unfoldable pub reports_in : List ℕ → List Report
reports_in ws = list_below 64 (report_in ws)

unfoldable pub entries_in : List ℕ → List Entry
entries_in ws = list_below 64 (entry_in ws)

-- the state, field by field
unfoldable pub window_in : List ℕ → Window
window_in ws =
    record {
      sending = cluster_at ws sending_at;
      quantum = word_at ws quantum_at;
      sent = word_at ws sent_at;
      downstream = record { cluster = cluster_at ws receiving_at; point = word_at ws point_at; reports = reports_in ws; entries = entries_in ws };
    }

-- a well-formed state stands in the words
unfoldable pub formed_in : List ℕ → Bool
formed_in ws = fits ws && well_formed (window_in ws)
