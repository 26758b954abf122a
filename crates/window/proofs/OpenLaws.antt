-- Opening, from what the code knows where it answers. Assumes nothing.
use mathlib.Core.Path.{◌≡◌, refl, ap₂, sym, ◌∙◌}
use mathlib.Core.List.{List, ◌++◌}
use Prim.Native.Nat.{ℕ, ◌-◌, ◌≤◌}
use native.Mathlib.Omega.{arith}
use lib.ListN.{length, drop, replicate}
use Rattle.std.proofs.lemmas.List.{drop-replicate}
use borrow.Author.Tests.{eq-eqb, ne_eqb}
use mir.Val.{Fits}
use mir.Syntax.{w32}
use Rattle.deal.specs.Pairs.{pair_refusal}
use Rattle.deal.proofs.JudgeLaws.{sending_accepted, receiving_accepted}
use Rattle.downstream.specs.declared.state.Cluster.{Cluster}
use Rattle.window.specs.declared.state.Window.{Window}
use Rattle.window.specs.Opening.{cluster_from, window_from, no_window, open_of, OpenAnswer}

-- the shares in front, and what is left of 64 zeros
pub places_told : (s p : List ℕ) → p ≡ s → p ++ drop (length s) (replicate 64 0) ≡ s ++ replicate (64 - length s) 0
places_told s p e = ap₂ ◌++◌ e (drop-replicate (length s) 64 0)

pub members_fit_lem : (s : List ℕ) → length s ≤ 64 → Fits w32 (length s)
members_fit_lem s l = record { fits = omega arith }

module _ (ss : List ℕ) (su sr : ℕ) (rs : List ℕ) (ru rr q n : ℕ) (e : n ≡ pair_refusal ss su sr rs ru rr q) where
  pub open_refused : (w : Window) → w ≡ no_window → (n ≡ 0 → ⊥) → ◌≡◌ {A = OpenAnswer} (record { refusal = n; window = w }) (open_of ss su sr rs ru rr q)
  unfolding open_of
  open_refused w ew z = simp (← e, ne_eqb n 0 z) (rw ew refl)

  module _ (z : n ≡ 0) where
    pub open_sending : length ss ≤ 64
    open_sending = (sending_accepted ss su sr rs ru rr q (sym e ∙ z)).few_members

    pub open_receiving : length rs ≤ 64
    open_receiving = (receiving_accepted ss su sr rs ru rr q (sym e ∙ z)).few_members

    pub open_told : (a b : Cluster) (w : Window) → a ≡ cluster_from ss su sr → b ≡ cluster_from rs ru rr → w ≡ window_from a b q → ◌≡◌ {A = OpenAnswer} (record { refusal = 0; window = w }) (open_of ss su sr rs ru rr q)
    unfolding open_of
    open_told a b w ea eb ew = simp (← e, eq-eqb n 0 z) (rw (ew, ea, eb) refl)
