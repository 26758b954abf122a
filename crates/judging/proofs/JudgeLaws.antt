-- What a verdict means: each part of it. Assumes nothing.
use mathlib.Core.Path.{◌≡◌}
use mathlib.Core.Bool.{Bool, true, false, not, ◌&&◌}
use mathlib.Core.List.{List}
use Prim.Native.Nat.{ℕ, ◌+◌, ◌≤◌, ◌<◌}
use lib.Dec.{leb, ltb}
use borrow.Author.Tests.{leb-true, ltb-true, not-true}
use Rattle.basics.proofs.BoolLaws.{and_left, and_right}
use Rattle.marks.specs.Masks.{is_marked}
use Rattle.shares.specs.Shares.{share_of}
use Rattle.downstream.specs.declared.state.Entry.{Entry}
use Rattle.downstream.specs.State.{is_quacked}
use Rattle.judging.specs.Verdicts.{is_due}

-- ---- what a verdict means
module _ (shares : List ℕ) (u r : ℕ) (numbers masks : List ℕ) (k : ℕ) (e : Entry) (h : is_due shares u r numbers masks k e ≡ true) where
  abbrev lost : Bool
  lost = not (is_quacked shares u numbers masks k)

  abbrev against : Bool
  against = leb (r + 1) (share_of shares (is_marked e.complaints))

  pub due_few : e.count < 255
  unfolding is_due
  due_few = ltb-true e.count 255 (and_right (lost && against) (ltb e.count 255) h)

  pub due_against : r + 1 ≤ share_of shares (is_marked e.complaints)
  unfolding is_due
  due_against = leb-true (r + 1) (share_of shares (is_marked e.complaints)) (and_right lost against (and_left (lost && against) (ltb e.count 255) h))

  pub due_lost : is_quacked shares u numbers masks k ≡ false
  unfolding is_due
  due_lost = not-true (is_quacked shares u numbers masks k) (and_left lost against (and_left (lost && against) (ltb e.count 255) h))
