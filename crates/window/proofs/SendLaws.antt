-- Sending, from what the code knows where it answers. Assumes nothing.
use mathlib.Core.Path.{◌≡◌, sym, ◌∙◌}
use mathlib.Core.Bool.{Bool, true, false}
use Prim.Native.Nat.{ℕ, ◌≤◌}
use native.Mathlib.Omega.{arith}
use borrow.Author.Tests.{eq-eqb, ne_eqb}
use Rattle.basics.specs.Checks.{first_failing}
use Rattle.window.specs.declared.state.Window.{Window}
use Rattle.window.specs.Formed.{well_formed}
use Rattle.window.specs.Sending.{next_refusal, send_refusal, send_of, with_sent, SendAnswer}
use Rattle.downstream.proofs.FormedLaws.{kept_span, span_limit, span_order}
use Rattle.window.proofs.FormedLaws.{formed_down}

-- S and p of a well formed state leave room above them
module _ (w : Window) (b : Bool) (e : b ≡ well_formed w) (t : b ≡ true) where
  formed : well_formed w ≡ true
  formed = sym e ∙ t

  small : w.sent ≤ 1000000000000
  small = span_limit w.downstream.point w.sent (kept_span w.downstream w.sent (formed_down w formed))

  pub sent_small : w.sent ≤ 1000000000000
  sent_small = small

  pub point_small : w.downstream.point ≤ 1000000000000
  point_small = omega (arith, small, span_order w.downstream.point w.sent (kept_span w.downstream w.sent (formed_down w formed)))

  pub send_next : (k r : ℕ) → r ≡ next_refusal w.sent w.downstream.point k → r ≡ send_refusal w k
  unfolding send_refusal next_refusal first_failing
  send_next k r h = h ∙ simp formed

pub send_17 : (w : Window) (b : Bool) → b ≡ well_formed w → b ≡ false → (k : ℕ) → 17 ≡ send_refusal w k
unfolding send_refusal first_failing
send_17 w b e t k = simp (sym e ∙ t)

pub sent_on : (w : Window) (k n : ℕ) → n ≡ send_refusal w k → n ≡ 0 → ◌≡◌ {A = SendAnswer} (record { refusal = n; window = with_sent w k }) (send_of w k)
unfolding send_of
sent_on w k n e z = rw (← e) (simp (eq-eqb n 0 z))

pub sent_not : (w : Window) (k n : ℕ) → n ≡ send_refusal w k → (n ≡ 0 → ⊥) → ◌≡◌ {A = SendAnswer} (record { refusal = n; window = w }) (send_of w k)
unfolding send_of
sent_not w k n e z = rw (← e) (simp (ne_eqb n 0 z))
