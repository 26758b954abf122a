-- What is held after a list of arrivals: what was held before, and the messages of those that were accepted. Assumes nothing.
use mathlib.Core.Path.{◌≡◌, refl, ap, ◌∙◌}
use mathlib.Core.Bool.{Bool, true, false, ◌||◌}
use mathlib.Core.List.{List, [], ◌∷◌}
use Prim.Native.Nat.{ℕ, ◌+◌, ◌-◌, ◌≤◌}
use native.Mathlib.Omega.{arith}
use lib.Dec.{eqb}
use borrow.Author.Tests.{eqb-true, eqb-false}
use Rattle.basics.proofs.BoolLaws.{either}
use Rattle.marks.proofs.MaskLaws.{marked_none}
use Rattle.marks.proofs.HeldLaws.{holds_high}
use Rattle.holdings.specs.State.{fresh_holdings}
use Rattle.holdings.specs.Arrival.{arrival_of}
use Rattle.holdings.specs.Sequence.{after_all, accepted_of, is_in}
use Rattle.holdings.specs.declared.state.Holdings.{Holdings}
use Rattle.holdings.proofs.ArrivalLaws.{accepts}
use Rattle.holdings.proofs.TakenLaws.{held, holds_taken}
use Rattle.holdings.proofs.Kept.{accepted_takes, refused_same}

-- one accepted arrival adds its message, and nothing else
pub accepted_holds : (h : Holdings) (k j : ℕ) → (arrival_of h k).refusal ≡ 0 → held (arrival_of h k).holdings j ≡ (eqb j k || held h j)
unfolding arrival_of
accepted_holds h k j e = rw (accepted_takes h k e) (holds_taken h k j (accepts h k e).near)

-- any arrivals add the messages of those that were accepted
pub all_hold : (h : Holdings) (ks : List ℕ) (j : ℕ) → held (after_all h ks) j ≡ (held h j || is_in j (accepted_of h ks))
unfolding after_all accepted_of is_in
all_hold h [] j = or_nothing (held h j)
  where
    or_nothing : (a : Bool) → a ≡ (a || false)
    or_nothing true = refl
    or_nothing false = refl
all_hold h (k ∷ ks) j = either (held (after_all h (k ∷ ks)) j ≡ (held h j || is_in j (accepted_of h (k ∷ ks)))) (eqb (arrival_of h k).refusal 0)
    (λ t. simp t (all_hold next ks j ∙ ap (λ (b : Bool). b || later) (accepted_holds h k j (eqb-true (arrival_of h k).refusal 0 t)) ∙ or_turn (eqb j k) (held h j) later))
    (λ t. simp t (all_hold next ks j ∙ ap (λ (x : Holdings). held x j || later) (refused_same h k (eqb-false (arrival_of h k).refusal 0 t))))
  where
    next : Holdings
    next = (arrival_of h k).holdings

    later : Bool
    later = is_in j (accepted_of next ks)

    or_turn : (a b c : Bool) → ((a || b) || c) ≡ (b || (a || c))
    or_turn true true c = refl
    or_turn true false c = refl
    or_turn false b c = refl

-- fresh holdings hold no message
pub fresh_holds : (j : ℕ) → 1 ≤ j → held fresh_holdings j ≡ false
fresh_holds j l = holds_high 0 0 j (omega arith) ∙ marked_none (j - (0 + 1))
