-- What the plan prints: the resends in their order, each line as the resend call answers, so that demand 3 speaks of these lines.
-- Assumes nothing.
use mathlib.Core.Path.{◌≡◌, refl}
use mathlib.Core.Bool.{Bool}
use mathlib.Core.List.{List, ◌++◌}
use Prim.Native.Nat.{ℕ, suc, ◌+◌, ◌≤◌}
use native.Mathlib.Omega.{arith}
use Rattle.basics.proofs.BoolLaws.{either}
use Rattle.shares.specs.Shares.{share_of}
use Rattle.basics.specs.Sums.{join_below}
use Rattle.resend.specs.Promise.{Asked, resend, FirstUnfailed}
use Rattle.resend.proofs.Demand3.{answer, demand3}
use Rattle.input.specs.Input.{is_built}
use Rattle.lines.specs.Text.{line_of}
use Rattle.lines.specs.Lines.{header_line, copy_line}
use Rattle.planner.specs.Asked.{asked_of}
use Rattle.planner.specs.Plan.{asked_refusal, plan_refusal, first_copy, resend_line, resend_count, plan_lines, text_of, plan_text}
use Rattle.planner.proofs.AskedLaws.{allowed}

-- the line of resend n + 1 comes right behind those of resends 1 to n
pub in_resend_order : (a : Asked) (n : ℕ) → join_below (suc n) (λ j. resend_line a (j + 1)) ≡ join_below n (λ j. resend_line a (j + 1)) ++ resend_line a (n + 1)
unfolding join_below
in_resend_order a n = refl

module _ (s : List ℕ) (e : plan_refusal s ≡ 0) where
  asked_accepted : asked_refusal (asked_of s) ≡ 0
  unfolding plan_refusal
  asked_accepted = either _ (is_built s) (λ t. simp t at e) (λ t. absurd (omega (arith, simp t at e)))

  -- an accepted input prints the header, the first copy and the resends
  pub accepted_prints : plan_text s ≡ header_line ++ (copy_line (first_copy (asked_of s)) ++ join_below (resend_count (asked_of s)) (λ j. resend_line (asked_of s) (j + 1)))
  unfolding plan_text text_of plan_lines
  accepted_prints = simp e

  -- the line of resend n is what the resend call answers
  pub line_is_the_answer : (n : ℕ) → 1 ≤ n → n ≤ 255
      → resend_line (asked_of s) n ≡ line_of n (resend (asked_of s) n).sender (resend (asked_of s) n).receiver (resend (asked_of s) n).run
  unfolding resend_line
  line_is_the_answer n l m = rw (answer (asked_of s) (allowed (asked_of s) asked_accepted) n l m) refl

  -- the promise of demand 3 holds of the lines that are printed
  pub promise : (fails failr : ℕ → Bool) → share_of (asked_of s).sending fails ≤ (asked_of s).sending_u → share_of (asked_of s).receiving failr ≤ (asked_of s).receiving_u → FirstUnfailed (asked_of s) fails failr
  promise = demand3 (asked_of s) (allowed (asked_of s) asked_accepted)
