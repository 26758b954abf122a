-- A member's report beside its former one. Assumes nothing.
use Rattle.std.specs.Prelude.{◌≡◌, Bool, true, false, not, ◌&&◌, ◌||◌, ℕ, ◌+◌, ◌<◌, leb}
use Rattle.basics.specs.Sums.{all_below}
use Rattle.marks.specs.Masks.{is_marked}
use Rattle.marks.specs.Held.{holds_of, none_above}
use Rattle.downstream.specs.declared.state.Report.{Report}
use Rattle.downstream.specs.declared.state.Downstream.{Downstream}
use Rattle.downstream.specs.State.{report_at}
use Rattle.downstream.specs.Formed.{downstream_kept}

-- the report (c, mask) lacks no message that the member's former report held: its numbers up to c, and each that it marked
unfoldable pub keeps_all : Report → ℕ → ℕ → Bool
keeps_all former c mask = leb former.number c && all_below 64 (λ b. not (is_marked former.mask b) || holds_of c mask (former.number + 1 + b))

-- what is known of an accepted report
pub record Accepting (d : Downstream) (s i c mask : ℕ) : Type 0 where
  pub kept : downstream_kept d s ≡ true
  pub member : i < d.cluster.members
  pub clear : is_marked mask 0 ≡ false
  pub none_above : none_above c mask s ≡ true
  pub keeps : keeps_all (report_at d.reports i) c mask ≡ true
