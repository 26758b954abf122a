-- The receiving member is honest: whatever arrives, it holds exactly the messages whose arrivals were accepted. Assumes nothing.
use mathlib.Core.Path.{◌≡◌, refl, ap, ◌∙◌}
use mathlib.Core.Bool.{Bool, ◌||◌}
use mathlib.Core.List.{List}
use Prim.Native.Nat.{ℕ, ◌≤◌}
use Rattle.marks.specs.Held.{holds_of}
use Rattle.holdings.specs.State.{fresh_holdings, report_of}
use Rattle.holdings.specs.Sequence.{after_all, accepted_of, is_in}
use Rattle.holdings.proofs.SequenceLaws.{all_hold, fresh_holds}
use Rattle.holdings.proofs.Kept.{fresh_sound, all_kept}

-- from fresh holdings and any arrivals ks, message k is held exactly if an arrival of k was accepted
pub honest : (ks : List ℕ) (k : ℕ) → 1 ≤ k →
    holds_of (after_all fresh_holdings ks).number (after_all fresh_holdings ks).mask k ≡ is_in k (accepted_of fresh_holdings ks)
honest ks k l = all_hold fresh_holdings ks k ∙ ap (λ (b : Bool). b || is_in k (accepted_of fresh_holdings ks)) (fresh_holds k l)

-- and so says its report, which is never refused
pub honest_report : (ks : List ℕ) (k : ℕ) → 1 ≤ k →
    ((report_of (after_all fresh_holdings ks)).refusal ≡ 0) ×
    (holds_of (report_of (after_all fresh_holdings ks)).number (report_of (after_all fresh_holdings ks)).mask k ≡ is_in k (accepted_of fresh_holdings ks))
unfolding report_of
honest_report ks k l = simp (all_kept fresh_holdings ks fresh_sound).formed (refl, honest ks k l)
