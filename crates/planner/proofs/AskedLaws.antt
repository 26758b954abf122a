-- What is asked for, refused or planned: the text from what the code knows where it answers. Assumes nothing.
use mathlib.Core.Path.{◌≡◌, refl, ap, sym, ◌∙◌}
use mathlib.Core.Bool.{true}
use mathlib.Core.List.{List, [], ◌∷◌, ◌++◌, append_assoc}
use Prim.Native.Nat.{ℕ, ◌+◌, ◌*◌, ◌-◌, ◌<◌, ◌≤◌}
use native.Mathlib.Omega.{arith}
use lib.Dec.{eqb, lit<}
use lib.ListN.{length, length-append}
use borrow.Author.Tests.{eq-eqb, ne_eqb, eqb-true, eqb-false}
use Rattle.basics.specs.Checks.{Check, ◌else◌}
use Rattle.basics.specs.Ranges.{is_message}
use Rattle.basics.proofs.BoolLaws.{either}
use Rattle.basics.proofs.CheckLaws.{Numbered, checks_first, checks_later, first_passed}
use Rattle.shares.specs.Cluster.{Accepted}
use Rattle.deal.specs.Pairs as deal
use Rattle.basics.specs.Sums.{join_below}
use Rattle.deal.specs.Pairs.{PairAnswer}
use Rattle.deal.proofs.JudgeLaws.{pair_numbered, pair_quantum, sending_accepted, receiving_accepted}
use Rattle.deal.proofs.DealIsWhole.{sender_is_a_member, receiver_is_a_member}
use Rattle.circle.specs.Positions.{Sized, resend_of}
use Rattle.circle.proofs.CircleLaws.{sized}
use Rattle.resend.specs.Promise.{Asked}
use Rattle.resend.specs.Resends.{sender_of, receiver_of, run_of}
use Rattle.resend.proofs.Demand3.{Allowed}
use Rattle.lines.specs.Text.{put}
use Rattle.lines.specs.Lines.{refused_text, header_line, copy_line, step_line, walk_lines, all_lines}
use Rattle.lines.proofs.TextLaws.{put_next}
use Rattle.lines.proofs.SizeLaws.{refused_few, head_few, walk_few}
use Rattle.planner.specs.Plan.{asked_refusal, first_copy, resend_line, resend_count, plan_lines, text_of, asked_text, text_room}

-- the checks before that of the message
abbrev cluster_checks : Asked → List Check
cluster_checks a = deal.pair_checks a.sending a.sending_u a.sending_r a.receiving a.receiving_u a.receiving_r a.quantum

clusters_numbered : (a : Asked) → Numbered (cluster_checks a)
clusters_numbered a = pair_numbered a.sending a.sending_u a.sending_r a.receiving a.receiving_u a.receiving_r a.quantum

-- ---- accepted
module _ (a : Asked) (z : asked_refusal a ≡ 0) where
  clusters_pass : deal.pair_refusal a.sending a.sending_u a.sending_r a.receiving a.receiving_u a.receiving_r a.quantum ≡ 0
  unfolding asked_refusal deal.first_pair_refusal deal.pair_refusal
  clusters_pass = checks_first (cluster_checks a) ((is_message a.message else 6) ∷ []) (clusters_numbered a) z

  message_passes : is_message a.message ≡ true
  unfolding asked_refusal deal.first_pair_refusal
  message_passes = first_passed (is_message a.message) 6 [] (lit< tt) (checks_later (cluster_checks a) ((is_message a.message else 6) ∷ []) (clusters_numbered a) z)

  -- what is planned is what demand 3 speaks of
  pub allowed : Allowed a
  allowed = record { clusters = clusters_pass; message = message_passes }

  sending_passes : Accepted a.sending a.sending_u a.sending_r
  sending_passes = sending_accepted a.sending a.sending_u a.sending_r a.receiving a.receiving_u a.receiving_r a.quantum clusters_pass

  receiving_passes : Accepted a.receiving a.receiving_u a.receiving_r
  receiving_passes = receiving_accepted a.sending a.sending_u a.sending_r a.receiving a.receiving_u a.receiving_r a.quantum clusters_pass

  sending_sized : Sized a.sending
  sending_sized = sized a.sending a.sending_u a.sending_r sending_passes

  receiving_sized : Sized a.receiving
  receiving_sized = sized a.receiving a.receiving_u a.receiving_r receiving_passes

  copy_is : first_copy a ≡ deal.pair_at a.sending a.receiving a.quantum a.message
  unfolding asked_refusal deal.first_pair_of
  copy_is = simp (eq-eqb _ 0 z)

  sender_in : (first_copy a).sender < length a.sending
  sender_in = rw copy_is (sender_is_a_member a.sending a.sending_u a.sending_r a.quantum sending_passes
      (pair_quantum a.sending a.sending_u a.sending_r a.receiving a.receiving_u a.receiving_r a.quantum clusters_pass) a.message)

  receiver_in : (first_copy a).receiver < length a.receiving
  receiver_in = rw copy_is (receiver_is_a_member a.receiving a.receiving_u a.receiving_r a.quantum receiving_passes
      (pair_quantum a.sending a.sending_u a.sending_r a.receiving a.receiving_u a.receiving_r a.quantum clusters_pass) a.message)

  -- the resends' lines, walked from the first copy's sender
  walked : join_below (resend_count a) (λ j. resend_line a (j + 1)) ≡ all_lines a.sending a.receiving (first_copy a).sender
  unfolding resend_count resend_line walk_lines step_line resend_of sender_of receiver_of run_of
  walked = rw copy_is refl

  pub planned : asked_text a ≡ (header_line ++ copy_line (first_copy a)) ++ all_lines a.sending a.receiving (first_copy a).sender
  unfolding asked_text text_of plan_lines
  planned = simp (z, walked) (sym (append_assoc header_line (copy_line (first_copy a)) (all_lines a.sending a.receiving (first_copy a).sender)))

  sender_short : (first_copy a).sender < 100
  sender_short = omega (arith, sender_in, sending_passes.few_members)

  receiver_short : (first_copy a).receiver < 100
  receiver_short = omega (arith, receiver_in, receiving_passes.few_members)

  head_short : length (header_line ++ copy_line (first_copy a)) ≤ 29
  head_short = head_few (first_copy a) sender_short receiver_short

  lines_short : 27 * (length a.sending + length a.receiving - 1) ≤ 3_429
  lines_short = omega (arith, sending_passes.few_members, receiving_passes.few_members)

  both_are : length (asked_text a) ≡ length (header_line ++ copy_line (first_copy a)) + length (all_lines a.sending a.receiving (first_copy a).sender)
  both_are = ap length planned ∙ length-append (header_line ++ copy_line (first_copy a)) (all_lines a.sending a.receiving (first_copy a).sender)

  -- the header, the first copy and the resends have room
  pub planned_fits : length (asked_text a) ≤ text_room
  planned_fits = omega (
    arith,
    both_are,
    head_short,
    lines_short,
    walk_few a.sending a.receiving sending_sized receiving_sized (first_copy a).sender (length a.sending + length a.receiving - 1) (omega (arith, sending_passes.few_members, receiving_passes.few_members)),
  )

refused : (a : Asked) (n : ℕ) → n ≡ asked_refusal a → (n ≡ 0 → ⊥) → refused_text n ≡ asked_text a
unfolding asked_text text_of
refused a n e h = rw (← e) (sym (simp (ne_eqb n 0 h)))

-- whatever is asked for, its text has room
pub asked_fits : (a : Asked) → length (asked_text a) ≤ text_room
asked_fits a = either _ (eqb (asked_refusal a) 0)
    (λ t. planned_fits a (eqb-true (asked_refusal a) 0 t))
    (λ t. rw (← refused a (asked_refusal a) refl (eqb-false (asked_refusal a) 0 t)) (omega (arith, refused_few (asked_refusal a))))

-- ---- as the code has it
module _ (a : Asked) (p : PairAnswer) (e : p ≡ first_copy a) where
  refusal_is : p.refusal ≡ asked_refusal a
  unfolding asked_refusal deal.first_pair_of
  refusal_is = rw e (either _ (eqb (asked_refusal a) 0) (λ t. simp t (sym (eqb-true (asked_refusal a) 0 t))) (λ t. simp t))

  module _ (h : p.refusal ≡ 0 → ⊥) where
    pub refused_end : (r : ℕ) → r ≡ length (refused_text p.refusal) → r ≡ length (asked_text a)
    refused_end r k = k ∙ ap length (refused a p.refusal refusal_is h)

    pub refused_put : (o q : List ℕ) → q ≡ put 0 (refused_text p.refusal) o → q ≡ put 0 (asked_text a) o
    refused_put o q k = k ∙ ap (λ (t : List ℕ). put 0 t o) (refused a p.refusal refusal_is h)

  module _ (h : p.refusal ≡ 0) where
    zero : asked_refusal a ≡ 0
    zero = sym refusal_is ∙ h

    module _ (at : ℕ) (f : at ≡ length (header_line ++ copy_line p)) where
      pub planned_end : (r : ℕ) → r ≡ at + length (all_lines a.sending a.receiving p.sender) → r ≡ length (asked_text a)
      planned_end r k = rw (planned a zero, length-append) (rw (f, e) at k)

      pub planned_put : (o q t : List ℕ) → text_room ≤ length o → q ≡ put 0 (header_line ++ copy_line p) o
          → t ≡ put at (all_lines a.sending a.receiving p.sender) q → t ≡ put 0 (asked_text a) o
      planned_put o q t l u v =
          put_next 0 at (header_line ++ copy_line p) (all_lines a.sending a.receiving p.sender) o q t (omega (arith, f)) u v (rw e (omega (arith, both_are a zero, planned_fits a zero)))
          ∙ ap (λ (w : List ℕ). put 0 w o) (rw e (sym (planned a zero)))

-- an accepted pair of clusters, as the code knows it before it writes
module _ (ss : List ℕ) (su sr : ℕ) (rs : List ℕ) (ru rr q k : ℕ) (p : PairAnswer) (e : p ≡ deal.first_pair_of ss su sr rs ru rr q k) (h : p.refusal ≡ 0) where
  abbrev a : Asked
  a = record { sending = ss; sending_u = su; sending_r = sr; receiving = rs; receiving_u = ru; receiving_r = rr; quantum = q; message = k }

  pub sends : Sized ss
  sends = sending_sized a (zero a p e h)

  pub receives : Sized rs
  receives = receiving_sized a (zero a p e h)

  pub sends_first : p.sender < length ss
  sends_first = rw e (sender_in a (zero a p e h))

  pub short_sender : p.sender < 100
  short_sender = rw e (sender_short a (zero a p e h))

  pub short_receiver : p.receiver < 100
  short_receiver = rw e (receiver_short a (zero a p e h))

  pub lines_room : (at : ℕ) (o q : List ℕ) → at ≡ length (header_line ++ copy_line p) → text_room ≤ length o → length q ≡ length o → at + 27 * (length ss + length rs - 1) ≤ length q
  lines_room at o q f l n = omega (arith, rw e at f, head_short a (zero a p e h), lines_short a (zero a p e h))
