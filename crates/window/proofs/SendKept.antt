-- An accepted send leaves the state well formed, a refused one leaves it as it was, and the entry of the message sent is empty.
-- Assumes nothing.
use mathlib.Core.Path.{◌≡◌}
use mathlib.Core.Bool.{true}
use mathlib.Core.List.{[], ◌∷◌}
use Prim.Native.Nat.{ℕ, ◌+◌, ◌-◌, ◌≤◌}
use native.Mathlib.Omega.{arith}
use lib.Dec.{leb, eqb, lit<}
use lib.ListN.{get_or}
use borrow.Author.Tests.{leb-true, eqb-true, ne_eqb, eq-eqb}
use Rattle.basics.specs.Checks.{◌else◌, first_failing}
use Rattle.basics.specs.Ranges.{is_message, message_limit}
use Rattle.basics.proofs.BoolLaws.{and_right}
use Rattle.basics.proofs.CheckLaws.{first_passed, later_passed}
use Rattle.downstream.specs.declared.state.Downstream.{Downstream}
use Rattle.downstream.specs.State.{no_entry, place_after}
use Rattle.downstream.specs.Formed.{downstream_kept}
use Rattle.judging.proofs.Later.{later_kept, next_empty}
use Rattle.window.specs.declared.state.Window.{Window}
use Rattle.window.specs.Formed.{well_formed}
use Rattle.window.specs.Sending.{send_refusal, send_of}
use Rattle.window.proofs.FormedLaws.{formed_down, formed_sending, formed_quantum}

pub refused_send : (w : Window) (k : ℕ) → (send_refusal w k ≡ 0 → ⊥) → (send_of w k).window ≡ w
unfolding send_of
refused_send w k n = simp (ne_eqb (send_refusal w k) 0 n)

module _ (w : Window) (k : ℕ) (e : send_refusal w k ≡ 0) where
  abbrev d : Downstream
  d = w.downstream

  abbrev s : ℕ
  s = w.sent

  pub send_formed : well_formed w ≡ true
  unfolding send_refusal
  send_formed = first_passed (well_formed w) 17 _ (lit< tt) e

  later : first_failing ((is_message k else 6) ∷ (eqb k (s + 1) else 10) ∷ (leb k (d.point + 64) else 9) ∷ []) ≡ 0
  unfolding send_refusal
  later = later_passed (well_formed w) 17 _ (lit< tt) e

  message : is_message k ≡ true
  message = first_passed (is_message k) 6 _ (lit< tt) later

  last : first_failing ((eqb k (s + 1) else 10) ∷ (leb k (d.point + 64) else 9) ∷ []) ≡ 0
  last = later_passed (is_message k) 6 _ (lit< tt) later

  pub send_next : k ≡ s + 1
  send_next = eqb-true k (s + 1) (first_passed (eqb k (s + 1)) 10 _ (lit< tt) last)

  near : k ≤ d.point + 64
  near = leb-true k (d.point + 64) (first_passed (leb k (d.point + 64)) 9 _ (lit< tt) (later_passed (eqb k (s + 1)) 10 _ (lit< tt) last))

  limit : k ≤ message_limit
  unfolding is_message
  limit = leb-true k message_limit (and_right (leb 1 k) (leb k message_limit) message)

  down : downstream_kept d s ≡ true
  down = formed_down w send_formed

  -- an accepted send keeps the state well formed
  pub send_kept : well_formed (send_of w k).window ≡ true
  unfolding well_formed send_of
  send_kept =
      let kept : downstream_kept d k ≡ true = rw send_next (later_kept d s down (omega (arith, limit, send_next)) (omega (arith, near, send_next))) in
      simp (eq-eqb (send_refusal w k) 0 e) (simp (formed_sending w send_formed, formed_quantum w send_formed, kept))

  -- the entry of the message sent starts with resend count 0 and no complaints
  pub sent_empty : get_or d.entries (place_after d.point (k - d.point - 1)) no_entry ≡ no_entry
  sent_empty =
      let at : k - d.point - 1 ≡ s - d.point = omega (arith, send_next) in
      rw at (next_empty d s down (omega (arith, limit, send_next)) (omega (arith, near, send_next)))
