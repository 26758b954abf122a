-- What collecting and verdicts mean, over the definitions that the contracts cite: every collected message is QUACKed, and a verdict's
-- message is open, not QUACKed, and complained of by share r + 1 or more. Assumes nothing.
use mathlib.Core.Path.{◌≡◌, sym, ◌∙◌}
use mathlib.Core.Bool.{true, false, ◌&&◌}
use mathlib.Core.List.{List}
use Prim.Native.Nat.{ℕ, ◌+◌, ◌-◌, ◌≤◌, ◌<◌}
use native.Mathlib.Omega.{arith}
use lib.Dec.{leb, ltb}
use lib.ListN.{get_or}
use borrow.Author.Tests.{le-leb, leb-true, ltb-true}
use Rattle.basics.proofs.BoolLaws.{and_left, and_right}
use Rattle.marks.specs.Masks.{is_marked}
use Rattle.marks.proofs.SetLaws.{marked_set}
use Rattle.marks.proofs.HeldLaws.{holds_low}
use Rattle.shares.specs.Shares.{share_of}
use Rattle.shares.specs.Point.{reached_of}
use Rattle.shares.proofs.ShareLaws.{share_mono}
use Rattle.shares.proofs.PointLaws.{point_reached}
use Rattle.downstream.specs.declared.state.Cluster.{Cluster}
use Rattle.downstream.specs.declared.state.Downstream.{Downstream}
use Rattle.downstream.specs.State.{no_entry, place_after, shares_of, numbers_of, masks_of, held_by, point_from, is_quacked}
use Rattle.judging.specs.Verdicts.{due_at, due_of}
use Rattle.judging.proofs.JudgeLaws.{due_lost, due_against}

-- every message at or below the point that the reports give is QUACKed
pub collected_quacked : (c : Cluster) (numbers masks : List ℕ) (k : ℕ) → 1 ≤ k → k ≤ point_from c numbers → is_quacked (shares_of c) c.u numbers masks k ≡ true
unfolding point_from is_quacked reached_of
collected_quacked c numbers masks k l h =
    let p : ℕ = point_from c numbers in
    let more : share_of (shares_of c) (λ i. leb p (get_or numbers i 0)) ≤ share_of (shares_of c) (held_by numbers masks k) =
    share_mono (shares_of c) (λ i. leb p (get_or numbers i 0)) (held_by numbers masks k) (λ i m t. holds_low (get_or numbers i 0) (get_or masks i 0) k (omega (arith, leb-true p (get_or numbers i 0) t))) in
    le-leb (c.u + 1) (share_of (shares_of c) (held_by numbers masks k)) (omega (arith, point_reached (shares_of c) numbers (c.u + 1) (omega arith)))

-- what stands behind a verdict on the message at offset o
pub record Behind (d : Downstream) (s o : ℕ) : Type 0 where
  pub open_message : d.point + 1 + o ≤ s
  pub not_quacked : is_quacked (shares_of d.cluster) d.cluster.u (numbers_of d.reports) (masks_of d.reports) (d.point + 1 + o) ≡ false
  pub complained : d.cluster.r + 1 ≤ share_of (shares_of d.cluster) (is_marked (get_or d.entries (place_after d.point o) no_entry).complaints)

pub verdict_means : (d : Downstream) (s o : ℕ) → is_marked (due_of d s) o ≡ true → Behind d s o
unfolding due_of
verdict_means d s o t =
    let both : (ltb o (s - d.point) && due_at d o) ≡ true = sym (marked_set (due_at d) (s - d.point) o) ∙ t in
    let inside : o < s - d.point = ltb-true o (s - d.point) (and_left (ltb o (s - d.point)) (due_at d o) both) in
    let due : due_at d o ≡ true = and_right (ltb o (s - d.point)) (due_at d o) both in
    let shares = shares_of d.cluster in
    let e = get_or d.entries (place_after d.point o) no_entry in
    record {
      open_message = omega arith;
      not_quacked = due_lost shares d.cluster.u d.cluster.r (numbers_of d.reports) (masks_of d.reports) (d.point + 1 + o) e due;
      complained = due_against shares d.cluster.u d.cluster.r (numbers_of d.reports) (masks_of d.reports) (d.point + 1 + o) e due;
    }
