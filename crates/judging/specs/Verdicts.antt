-- Judging the open messages: which are lost, and what a verdict changes. Assumes nothing.
use Rattle.std.specs.Prelude.{Bool, cond, not, ◌&&◌, List, ℕ, zero, suc, ◌+◌, ◌-◌, ◌≤◌, leb, ltb, get_or}
use Rattle.std.specs.Int.Bits.{bit_or}
use Rattle.marks.specs.Masks.{is_marked, set_below}
use Rattle.shares.specs.Shares.{share_of}
use Rattle.downstream.specs.declared.state.Entry.{Entry}
use Rattle.downstream.specs.declared.state.Downstream.{Downstream}
use Rattle.downstream.specs.State.{no_entry, shares_of, place_after, numbers_of, masks_of, is_quacked}
use Rattle.judging.specs.Complaints.{entries_after}

-- if k is not QUACKed, its complaint share is at least r + 1 and its resend count is below 255
unfoldable pub is_due : List ℕ → ℕ → ℕ → List ℕ → List ℕ → ℕ → Entry → Bool
is_due shares u r numbers masks k e =
    not (is_quacked shares u numbers masks k)
    && leb (r + 1) (share_of shares (is_marked e.complaints))
    && ltb e.count 255

-- the part of that which the entry of message p + 1 + o decides: complaint share at least r + 1, and resend count below 255
unfoldable pub enough_against : List ℕ → ℕ → List ℕ → List ℕ → ℕ → ℕ → Bool
enough_against shares r counts complaints p o =
    leb (r + 1) (share_of shares (is_marked (get_or complaints (place_after p o) 0)))
    && ltb (get_or counts (place_after p o) 0) 255

-- the members that complain of anything at all, by the first n of the sets
unfoldable pub complainers_of : List ℕ → ℕ → ℕ
complainers_of complaints zero = 0
complainers_of complaints (suc n) = bit_or (complainers_of complaints n) (get_or complaints n 0)

-- the share of the members whose word has bit o
unfoldable pub holding_share : List ℕ → List ℕ → ℕ → ℕ
holding_share shares rows o = share_of shares (λ i. is_marked (get_or rows i 0) o)

-- a message in a set of which those that hold it have share u at most
unfoldable pub is_lost : List ℕ → ℕ → List ℕ → ℕ → ℕ → Bool
is_lost shares u rows enough o = is_marked enough o && leb (holding_share shares rows o) u

-- message p + 1 + o is due
abbrev pub due_at : Downstream → ℕ → Bool
due_at d o =
    is_due (shares_of d.cluster) d.cluster.u d.cluster.r (numbers_of d.reports) (masks_of d.reports)
    (d.point + 1 + o) (get_or d.entries (place_after d.point o) no_entry)

-- the messages from p + 1 up to S that are due, a bit for each
unfoldable pub due_of : Downstream → ℕ → ℕ
due_of d s = set_below (s - d.point) (due_at d)

-- raise the count, empty the set
abbrev pub raised_entry : Entry → Entry
raised_entry e = record { count = e.count + 1; complaints = 0 }

-- the state after the verdicts on the messages up to S
unfoldable pub judged_of : Downstream → ℕ → Downstream
judged_of d s = record {
  cluster = d.cluster;
  point = d.point;
  reports = d.reports;
  entries = entries_after (λ o e. cond (is_marked (due_of d s) o) (raised_entry e) e) d.point (s - d.point) d.entries;
}

-- what is known where the open messages are judged
pub record Judging (d : Downstream) (s : ℕ) : Type 0 where
  pub few : d.cluster.members ≤ 64
  pub limit : s ≤ 1_000_000_000_000
  pub order : d.point ≤ s
  pub near : s ≤ d.point + 64
  pub counts : (j : ℕ) → (get_or d.entries j no_entry).count ≤ 255
