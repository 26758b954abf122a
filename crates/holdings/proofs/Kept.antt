-- Holdings stay well formed: fresh ones are, an accepted arrival keeps them so, and a refused one changes nothing. Assumes nothing.
use mathlib.Core.Path.{◌≡◌, refl}
use mathlib.Core.Bool.{true}
use mathlib.Core.List.{List, [], ◌∷◌}
use Prim.Native.Nat.{ℕ, ◌^◌, ◌<◌}
use native.Mathlib.Omega.{arith}
use lib.Dec.{eqb}
use borrow.Author.Tests.{ne_eqb, eqb-true, eqb-false}
use Rattle.basics.proofs.BoolLaws.{either}
use Rattle.marks.specs.Masks.{is_marked, reach_in, reach_of}
use Rattle.marks.specs.Held.{highest_of, none_above}
use Rattle.holdings.specs.State.{fresh_holdings, well_formed}
use Rattle.holdings.specs.Arrival.{arrival_of, taken_of}
use Rattle.holdings.specs.Sequence.{after_all}
use Rattle.holdings.specs.declared.state.Holdings.{Holdings}
use Rattle.holdings.proofs.ArrivalLaws.{accepts}
use Rattle.holdings.proofs.FormedLaws.{taken_formed, taken_fits}

-- well formed, with a mask of 64 bits
pub record Sound (h : Holdings) : Type 0 where
  pub formed : well_formed h ≡ true
  pub fits : h.mask < 2 ^ 64

pub fresh_sound : Sound fresh_holdings
unfolding well_formed is_marked none_above highest_of reach_of reach_in
fresh_sound = record { formed = refl; fits = omega arith }

module _ (h : Holdings) (k : ℕ) where
  -- what an accepted and a refused arrival leave
  pub accepted_takes : (arrival_of h k).refusal ≡ 0 → (arrival_of h k).holdings ≡ taken_of h k
  unfolding arrival_of
  accepted_takes e = simp e

  pub refused_same : ((arrival_of h k).refusal ≡ 0 → ⊥) → (arrival_of h k).holdings ≡ h
  unfolding arrival_of
  refused_same n = simp (ne_eqb (arrival_of h k).refusal 0 n)

  -- well formed again, in 64 bits
  pub accepted_kept : h.mask < 2 ^ 64 → (arrival_of h k).refusal ≡ 0 → Sound (arrival_of h k).holdings
  unfolding arrival_of
  accepted_kept fits e = rw (accepted_takes e) (record { formed = taken_formed h k fits (accepts h k e); fits = taken_fits h k fits (accepts h k e) })

  pub arrival_kept : Sound h → Sound (arrival_of h k).holdings
  arrival_kept s = either (Sound (arrival_of h k).holdings) (eqb (arrival_of h k).refusal 0)
      (λ t. accepted_kept s.fits (eqb-true (arrival_of h k).refusal 0 t))
      (λ t. rw (refused_same (eqb-false (arrival_of h k).refusal 0 t)) s)

-- any arrivals, one after another
pub all_kept : (h : Holdings) (ks : List ℕ) → Sound h → Sound (after_all h ks)
unfolding after_all
all_kept h [] s = s
all_kept h (k ∷ ks) s = all_kept (arrival_of h k).holdings ks (arrival_kept h k s)
