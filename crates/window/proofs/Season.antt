-- Any sequence of calls: the state stays well formed, a refused call changes nothing, and the collecting point never falls.
-- Assumes nothing.
use mathlib.Core.Path.{◌≡◌, ◌∙◌}
use mathlib.Core.Bool.{true}
use mathlib.Core.List.{List, [], ◌∷◌}
use Prim.Native.Nat.{ℕ, ◌≤◌}
use native.Mathlib.Omega.{arith}
use native.Mathlib.Decide.{ℕ_discrete}
use lib.ListN.{length, length-set}
use borrow.Author.Tests.{eq-eqb, ne_eqb}
use Rattle.deal.specs.Pairs.{pair_refusal}
use Rattle.window.specs.declared.state.Window.{Window}
use Rattle.window.specs.Formed.{well_formed}
use Rattle.window.specs.Opening.{open_of}
use Rattle.window.specs.Sending.{send_refusal, send_of}
use Rattle.judging.specs.Complaints.{taken_of}
use Rattle.judging.specs.Verdicts.{judged_of}
use Rattle.window.specs.Reporting.{report_refusal}
use Rattle.window.specs.Answers.{step_of, with_downstream, report_of}
use Rattle.window.specs.Season.{Call, sends, reports, next_of, after_all}
use Rattle.window.proofs.FormedLaws.{formed_sending, formed_quantum}
use Rattle.judging.proofs.Accepted.{point_up}
use Rattle.judging.proofs.Kept.{judged_formed}
use Rattle.window.proofs.RefusalLaws.{accepts}
use Rattle.window.proofs.SendKept.{send_kept, refused_send}
use Rattle.window.proofs.OpenKept.{open_kept, open_places}

-- a state that calls may meet: well formed, with its 64 places for reports
pub record Sound (w : Window) : Type 0 where
  pub formed : well_formed w ≡ true
  pub places : length w.downstream.reports ≡ 64

pub opened_sound : (ss : List ℕ) (su sr : ℕ) (rs : List ℕ) (ru rr q : ℕ) → pair_refusal ss su sr rs ru rr q ≡ 0 → Sound (open_of ss su sr rs ru rr q).window
opened_sound ss su sr rs ru rr q e = record { formed = open_kept ss su sr rs ru rr q e; places = open_places ss su sr rs ru rr q e }

-- ---- one report
module _ (w : Window) (i c mask room : ℕ) where
  pub refused_report : (report_refusal w i c mask room ≡ 0 → ⊥) → (report_of w i c mask room).window ≡ w
  unfolding report_of
  refused_report n = simp (ne_eqb (report_refusal w i c mask room) 0 n)

  module _ (s : Sound w) (e : report_refusal w i c mask room ≡ 0) where
    taken_on : (report_of w i c mask room).window ≡ with_downstream w (judged_of (taken_of w.downstream w.sent i c mask) w.sent)
    unfolding report_of step_of
    taken_on = simp (eq-eqb (report_refusal w i c mask room) 0 e)

    -- an accepted report keeps the state well formed
    pub report_formed : well_formed (report_of w i c mask room).window ≡ true
    unfolding well_formed
    report_formed = rw taken_on (simp (formed_sending w s.formed, formed_quantum w s.formed, judged_formed w.downstream w.sent i c mask (accepts w i c mask room e).accepting s.places))

    pub report_places : length (report_of w i c mask room).window.downstream.reports ≡ 64
    unfolding judged_of taken_of
    report_places = rw taken_on (length-set w.downstream.reports i _ ∙ s.places)

    pub report_point : w.downstream.point ≤ (report_of w i c mask room).window.downstream.point
    unfolding judged_of taken_of
    report_point = rw taken_on (point_up w.downstream w.sent i c mask (accepts w i c mask room e).accepting s.places)

-- ---- any call
send_same_down : (w : Window) (k : ℕ) → (send_of w k).window.downstream ≡ w.downstream
unfolding send_of
send_same_down w k = elim (ℕ_discrete (send_refusal w k) 0) [ yes e ↦ simp (eq-eqb (send_refusal w k) 0 e) | no e ↦ simp (ne_eqb (send_refusal w k) 0 e) ]

pub next_sound : (w : Window) (call : Call) → Sound w → Sound (next_of w call)
unfolding next_of
next_sound w (sends k) s = record {
  formed = elim (ℕ_discrete (send_refusal w k) 0) [ yes e ↦ send_kept w k e | no e ↦ rw (refused_send w k e) s.formed ];
  places = rw (send_same_down w k) s.places;
}
next_sound w (reports i c mask room) s = elim (ℕ_discrete (report_refusal w i c mask room) 0) [
  | yes e ↦ record { formed = report_formed w i c mask room s e; places = report_places w i c mask room s e }
  | no e ↦ rw (refused_report w i c mask room e) s
]

pub next_point : (w : Window) (call : Call) → Sound w → w.downstream.point ≤ (next_of w call).downstream.point
unfolding next_of
next_point w (sends k) s = rw (send_same_down w k) (omega arith)
next_point w (reports i c mask room) s = elim (ℕ_discrete (report_refusal w i c mask room) 0) [
  | yes e ↦ report_point w i c mask room s e
  | no e ↦ rw (refused_report w i c mask room e) (omega arith)
]

-- ---- any sequence of calls
pub season_sound : (w : Window) (calls : List Call) → Sound w → Sound (after_all w calls)
unfolding after_all
season_sound w [] s = s
season_sound w (call ∷ calls) s = season_sound (next_of w call) calls (next_sound w call s)

-- the collecting point never falls
pub season_point : (w : Window) (calls : List Call) → Sound w → w.downstream.point ≤ (after_all w calls).downstream.point
unfolding after_all
season_point w [] s = omega arith
season_point w (call ∷ calls) s = omega (arith, next_point w call s, season_point (next_of w call) calls (next_sound w call s))
