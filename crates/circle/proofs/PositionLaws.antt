-- Positions as the code keeps them: that of resend 1, that of resend n + 1 from that of resend n, and the resend of each. Assumes nothing.
use mathlib.Core.Path.{◌≡◌, ap, ap₂, sym, ◌∙◌}
use mathlib.Core.List.{List}
use Prim.Native.Nat.{ℕ, ◌+◌, ◌%◌, ◌≤◌, ◌<◌}
use native.Mathlib.Omega.{arith}
use Rattle.shares.specs.Shares.{total_of}
use Rattle.circle.specs.Stretches.{scaled, end_of, place_of, moved_of}
use Rattle.circle.specs.Circle.{circle_units, factor_of, send_layout, receive_layout, next_end, walk_of, start_of, unit_of, sender_of, receiver_of, run_of}
use Rattle.circle.specs.Positions.{Sized, OnCircle, circle_of, position_at, position_of, run_at, next_of, resend_from, resend_of}
use Rattle.circle.specs.declared.stretches.Place.{Place}
use Rattle.circle.specs.declared.walk.Circle.{Circle}
use Rattle.circle.specs.declared.walk.Position.{Position}
use Rattle.circle.specs.declared.walk.Resend.{Resend}
use Rattle.circle.proofs.StepLaws.{moved_place}
use Rattle.circle.proofs.CircleLaws.{some_units, send_full, receive_full, send_small, receive_small, send_some, receive_some, stretches_some}
use Rattle.circle.proofs.WalkLaws.{start_in, unit_in, sender_in, receiver_in, unit_next}

module _ (ss rs : List ℕ) (a : Sized ss) (b : Sized rs) where
  abbrev l : ℕ
  l = circle_units ss rs

  abbrev s : List ℕ
  s = send_layout ss rs

  abbrev r : List ℕ
  r = receive_layout ss rs

  pub run_at_lem : (i n : ℕ) → run_at (position_of ss rs i n) ≡ run_of ss rs i n
  unfolding run_at position_of position_at place_of run_of next_end
  run_at_lem i n = omega arith

  sender_next : (i n : ℕ) → 1 ≤ n → moved_of ss (factor_of l ss) (place_of s (unit_of ss rs i n)) (run_of ss rs i n) ≡ place_of s (unit_of ss rs i (n + 1))
  unfolding send_layout run_of next_end
  sender_next i n h =
      moved_place ss (factor_of l ss) l (send_full ss rs) (stretches_some ss (factor_of l ss) a (send_some ss rs a b)) (unit_of ss rs i n) (run_of ss rs i n) (unit_in ss rs a b i n) (omega arith)
      ∙ ap (place_of s) (sym (unit_next ss rs a b i n h))

  receiver_next : (i n : ℕ) → 1 ≤ n → moved_of rs (factor_of l rs) (place_of r (unit_of ss rs i n)) (run_of ss rs i n) ≡ place_of r (unit_of ss rs i (n + 1))
  unfolding receive_layout run_of next_end
  receiver_next i n h =
      moved_place rs (factor_of l rs) l (receive_full ss rs) (stretches_some rs (factor_of l rs) b (receive_some ss rs a b)) (unit_of ss rs i n) (run_of ss rs i n) (unit_in ss rs a b i n) (omega arith)
      ∙ ap (place_of r) (sym (unit_next ss rs a b i n h))

  -- resend n + 1 from resend n
  pub next_position : (i n : ℕ) → 1 ≤ n → next_of ss rs (circle_of ss rs) (position_of ss rs i n) ≡ position_of ss rs i (n + 1)
  unfolding next_of circle_of position_of position_at
  next_position i n h =
      rw (run_at_lem i n)
      (ap₂ (λ (p q : Place). record { sender = p; receiver = q }) (sender_next i n h) (receiver_next i n h))

  -- ---- what the code knows
  module _ (c : Circle) (e : c ≡ circle_of ss rs) where
    pub send_fits : c.send ≤ 64_000_000
    unfolding circle_of
    send_fits = rw e (send_small ss rs a b)

    pub receive_fits : c.receive ≤ 64_000_000
    unfolding circle_of
    receive_fits = rw e (receive_small ss rs a b)

    pub units_some : 0 < c.units
    unfolding circle_of
    units_some = rw e (some_units ss rs a b)

    module _ (i x : ℕ) (g : x ≡ end_of (scaled c.send ss) i % c.units) where
      starts : x ≡ start_of ss rs i
      unfolding circle_of start_of send_layout
      starts = rw e at g

      pub start_sends : x < total_of (scaled c.send ss)
      unfolding circle_of send_layout
      start_sends = rw e (omega (arith, starts, start_in ss rs a b i, send_full ss rs))

      pub start_receives : x < total_of (scaled c.receive rs)
      unfolding circle_of receive_layout
      start_receives = rw e (omega (arith, starts, start_in ss rs a b i, receive_full ss rs))

      pub start_told : (p q : Place) → p ≡ place_of (scaled c.send ss) x → q ≡ place_of (scaled c.receive rs) x → record { sender = p; receiver = q } ≡ position_of ss rs i 1
      unfolding circle_of position_of position_at unit_of walk_of send_layout receive_layout
      start_told p q u v = rw (u, v, e, starts)

    pub on_circle : (at : Position) (i n : ℕ) → at ≡ position_of ss rs i n → OnCircle ss rs c at
    unfolding position_of position_at place_of sender_of receiver_of
    on_circle at i n u =
        record {
          few_senders = a.few_members;
          few_receivers = b.few_members;
          send_small = send_fits;
          receive_small = receive_fits;
          sender_in = rw u (sender_in ss rs a b i n);
          receiver_in = rw u (receiver_in ss rs a b i n);
        }

    pub next_told : (at next : Position) (i n : ℕ) → 1 ≤ n → at ≡ position_of ss rs i n → next ≡ next_of ss rs c at → next ≡ position_of ss rs i (n + 1)
    next_told at next i n h u v = v ∙ rw (e, u) (next_position i n h)

  resend_position : (i n : ℕ) → resend_from (position_of ss rs i n) ≡ resend_of ss rs i n
  unfolding resend_from resend_of sender_of receiver_of position_of position_at place_of
  resend_position i n = ap (λ (k : ℕ). record { sender = sender_of ss rs i n; receiver = receiver_of ss rs i n; run = k }) (run_at_lem i n)

  pub resend_told : (at : Position) (z : Resend) (i n : ℕ) → at ≡ position_of ss rs i n → z ≡ resend_from at → z ≡ resend_of ss rs i n
  resend_told at z i n u v = v ∙ ap resend_from u ∙ resend_position i n
