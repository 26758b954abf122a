-- Taking a report: it is stored, the point is worked out, collected entries are emptied, and complaints are heard. Assumes nothing.
use Rattle.std.specs.Prelude.{Bool, true, cond, not, ◌&&◌, ◌||◌, List, ℕ, ◌+◌, ◌-◌, ◌≤◌, ◌<◌, ltb, eqb, get_or, set}
use Rattle.basics.specs.Sums.{list_below}
use Rattle.marks.specs.Masks.{mark_of, unmark_of}
use Rattle.marks.specs.Held.{holds_of, highest_of}
use Rattle.downstream.specs.declared.state.Report.{Report}
use Rattle.downstream.specs.declared.state.Entry.{Entry}
use Rattle.downstream.specs.declared.state.Downstream.{Downstream}
use Rattle.downstream.specs.State.{no_entry, offset_at, report_at, numbers_of, point_from}

-- a step at the entry of each of the n messages after p, by the message's offset from p + 1; every other entry is empty
unfoldable pub entries_after : (ℕ → Entry → Entry) → ℕ → ℕ → List Entry → List Entry
entries_after step p n entries = list_below 64 (λ j. cond (ltb (offset_at p j) n) (step (offset_at p j) (get_or entries j no_entry)) no_entry)

-- the member has reported before, with the same c
abbrev pub is_again : Report → ℕ → Bool
is_again former c = former.heard && eqb former.number c

-- A report complains of k if it does not hold k and either (gap) it holds some later message, or (repeat) the member has reported before,
-- with the same c, and k = c + 1 and c = p
unfoldable pub complains : ℕ → ℕ → Bool → ℕ → ℕ → Bool
complains c mask again p k = not (holds_of c mask k) && (ltb k (highest_of c mask) || (again && eqb k (c + 1) && eqb c p))

-- take the member out of the complaint sets of what it holds and add it where it complains
unfoldable pub complaints_after : ℕ → ℕ → ℕ → Bool → ℕ → ℕ → ℕ → ℕ
complaints_after i c mask again p k bits =
    cond (holds_of c mask k) (unmark_of bits i)
    (cond (complains c mask again p k) (mark_of bits i)
    bits)

abbrev pub complained_entry : ℕ → ℕ → ℕ → Bool → ℕ → ℕ → Entry → Entry
complained_entry i c mask again p o e = record { count = e.count; complaints = complaints_after i c mask again p (p + 1 + o) e.complaints }

-- the reports with that of member i stored
abbrev pub reports_after : List Report → ℕ → ℕ → ℕ → List Report
reports_after reports i c mask = set reports i (record { number = c; mask = mask; heard = true })

-- the report of member i taken, up to S, p being the new one
abbrev pub point_after : Downstream → ℕ → ℕ → ℕ → ℕ
point_after d i c mask = point_from d.cluster (numbers_of (reports_after d.reports i c mask))

unfoldable pub taken_of : Downstream → ℕ → ℕ → ℕ → ℕ → Downstream
taken_of d s i c mask = record {
  cluster = d.cluster;
  point = point_after d i c mask;
  reports = reports_after d.reports i c mask;
  entries = entries_after (complained_entry i c mask (is_again (report_at d.reports i) c) (point_after d i c mask)) (point_after d i c mask) (s - point_after d i c mask) d.entries;
}

-- what is known where a report is taken: the member has a place, and S is within reach of the new point
pub record Taking (d : Downstream) (s i c mask : ℕ) : Type 0 where
  pub few : d.cluster.members ≤ 64
  pub member : i < 64
  pub low : c ≤ 1_000_000_000_000
  pub limit : s ≤ 1_000_000_000_000
  pub order : point_after d i c mask ≤ s
  pub near : s ≤ point_after d i c mask + 64
