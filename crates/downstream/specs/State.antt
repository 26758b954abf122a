-- The sending window's state, and what is read off it. All that belongs to the receiving cluster stands in one `Downstream`. Assumes nothing.
use Rattle.std.specs.Prelude.{Bool, false, not, List, ℕ, ◌+◌, ◌-◌, ◌%◌, leb, get_or, take}
use Rattle.basics.specs.Sums.{list_below}
use Rattle.marks.specs.Masks.{set_below}
use Rattle.marks.specs.Held.{holds_of}
use Rattle.shares.specs.Shares.{share_of}
use Rattle.shares.specs.Point.{point_of}
use Rattle.downstream.specs.declared.state.Cluster.{Cluster}
use Rattle.downstream.specs.declared.state.Report.{Report}
use Rattle.downstream.specs.declared.state.Entry.{Entry}

-- an all-zero report, and an empty entry
abbrev pub no_report : Report
no_report = record { number = 0; mask = 0; heard = false }

abbrev pub no_entry : Entry
no_entry = record { count = 0; complaints = 0 }

-- the shares of the members that a cluster has
abbrev pub shares_of : Cluster → List ℕ
shares_of c = take c.members c.shares

-- message k has place (k − 1) mod 64: so message p + 1 + o has place (p + o) mod 64
abbrev pub place_after : ℕ → ℕ → ℕ
place_after p o = (p + o) % 64

-- and the message that has place j, of the 64 from p + 1 on, is p + 1 + offset_at p j
abbrev pub offset_at : ℕ → ℕ → ℕ
offset_at p j = (j + 64 - p % 64) % 64

-- the latest report of member i
abbrev pub report_at : List Report → ℕ → Report
report_at reports i = get_or reports i no_report

-- the members' cumulative numbers, and their masks, by their latest reports
unfoldable pub numbers_of : List Report → List ℕ
numbers_of reports = list_below 64 (λ i. (report_at reports i).number)

unfoldable pub masks_of : List Report → List ℕ
masks_of reports = list_below 64 (λ i. (report_at reports i).mask)

-- the entries' resend counts, and their complaint sets
unfoldable pub counts_of : List Entry → List ℕ
counts_of entries = list_below 64 (λ i. (get_or entries i no_entry).count)

unfoldable pub complaints_of : List Entry → List ℕ
complaints_of entries = list_below 64 (λ i. (get_or entries i no_entry).complaints)

-- member i holds message k
abbrev pub held_by : List ℕ → List ℕ → ℕ → ℕ → Bool
held_by numbers masks k i = holds_of (get_or numbers i 0) (get_or masks i 0) k

-- the members that lack message k, of the first n, a bit for each
unfoldable pub lacking_of : List ℕ → List ℕ → ℕ → ℕ → ℕ
lacking_of numbers masks n k = set_below n (λ i. not (held_by numbers masks k i))

-- p is the largest k such that members whose cumulative number is at least k have share u + 1 or more
unfoldable pub point_from : Cluster → List ℕ → ℕ
point_from c numbers = point_of (shares_of c) numbers (c.u + 1)

-- Message k is QUACKed when members holding it, by their latest reports, have share u + 1 or more
unfoldable pub is_quacked : List ℕ → ℕ → List ℕ → List ℕ → ℕ → Bool
is_quacked shares u numbers masks k = leb (u + 1) (share_of shares (held_by numbers masks k))
