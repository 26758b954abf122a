-- The contracts leave no choice: two results that meet one are equal. Assumes nothing.
use mathlib.Core.Path.{◌≡◌}
use mathlib.Core.Bool.{Bool}
use mathlib.Core.List.{List}
use Prim.Native.Nat.{ℕ, ◌/◌, ◌^◌, ◌≤◌}
use Rattle.basics.proofs.Unique.{one_answer}
use Rattle.marks.specs.Masks.{is_marked, mark_of, unmark_of, run_of, reach_of, is_subset, among_of}
use Rattle.marks.specs.Gathered.{any_of}
use Rattle.marks.specs.Held.{holds_of, none_above, held_after}

pub one_is_marked : (mask b : ℕ) (r z : Bool) → r ≡ is_marked mask b → z ≡ is_marked mask b → r ≡ z
one_is_marked mask b r z p q = one_answer p q

pub one_mark : (mask b r z : ℕ) → r ≡ mark_of mask b → z ≡ mark_of mask b → r ≡ z
one_mark mask b r z p q = one_answer p q

pub one_unmark : (mask b r z : ℕ) → r ≡ unmark_of mask b → z ≡ unmark_of mask b → r ≡ z
one_unmark mask b r z p q = one_answer p q

pub one_run : (mask r z : ℕ) → (r ≡ run_of mask) × (r ≤ 64) → (z ≡ run_of mask) × (z ≤ 64) → r ≡ z
one_run mask r z p q = one_answer p.0 q.0

pub one_past : (mask d r z : ℕ) → r ≡ mask / 2 ^ d → z ≡ mask / 2 ^ d → r ≡ z
one_past mask d r z p q = one_answer p q

pub one_reach : (mask r z : ℕ) → (r ≡ reach_of mask) × (r ≤ 64) → (z ≡ reach_of mask) × (z ≤ 64) → r ≡ z
one_reach mask r z p q = one_answer p.0 q.0

pub one_is_subset : (a b : ℕ) (r z : Bool) → r ≡ is_subset a b → z ≡ is_subset a b → r ≡ z
one_is_subset a b r z p q = one_answer p q

pub one_holds : (c mask k : ℕ) (r z : Bool) → r ≡ holds_of c mask k → z ≡ holds_of c mask k → r ≡ z
one_holds c mask k r z p q = one_answer p q

pub one_none_above : (c mask s : ℕ) (r z : Bool) → r ≡ none_above c mask s → z ≡ none_above c mask s → r ≡ z
one_none_above c mask s r z p q = one_answer p q

pub one_held_after : (p c mask r z : ℕ) → r ≡ held_after p c mask → z ≡ held_after p c mask → r ≡ z
one_held_after p c mask r z e f = one_answer e f

pub one_among : (mask from to r z : ℕ) → r ≡ among_of mask from to → z ≡ among_of mask from to → r ≡ z
one_among mask from to r z e f = one_answer e f

pub one_any : (sets : List ℕ) (r z : ℕ) → r ≡ any_of sets → z ≡ any_of sets → r ≡ z
one_any sets r z e f = one_answer e f
