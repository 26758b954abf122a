-- What is known where an accepted report is taken in the words. Assumes nothing.
use Rattle.std.specs.Prelude.{◌≡◌, true, List, ℕ, ◌-◌}
use Rattle.marks.specs.Held.{highest_of}
use Rattle.judging.specs.declared.complaints.Hearing.{Hearing}
use Rattle.downstream.specs.declared.state.Downstream.{Downstream}
use Rattle.downstream.specs.State.{shares_of, report_at}
use Rattle.judging.specs.Reports.{Accepting}
use Rattle.judging.specs.Complaints.{is_again, point_after, taken_of}
use Rattle.verdicts.specs.Written.{verdicts_to}
use Rattle.window.specs.declared.reporting.Step.{Step}
use Rattle.window.specs.Formed.{well_formed}
use Rattle.window.specs.Answers.{step_of}
use Rattle.words.specs.Places.{sending_at, receiving_at, quantum_at, sent_at}
use Rattle.words.specs.Taken.{word_at, fits, cluster_at, reports_in, window_in}

-- the words fit and hold a well-formed state, the report is accepted, it is heard as it was given, and p is the point that it gives
pub record Stepping (ws : List ℕ) (h : Hearing) (p : ℕ) : Type 0 where
  pub fit : fits ws ≡ true
  pub formed : well_formed (window_in ws) ≡ true
  pub accepting : Accepting (window_in ws).downstream (window_in ws).sent h.member h.number h.mask
  pub highest : h.highest ≡ highest_of h.number h.mask
  pub again : h.again ≡ is_again (report_at (reports_in ws) h.member) h.number
  pub point : p ≡ point_after (window_in ws).downstream h.member h.number h.mask

-- the report taken, before the verdicts; and the whole step
abbrev pub taken_in : List ℕ → Hearing → Downstream
taken_in ws h = taken_of (window_in ws).downstream (window_in ws).sent h.member h.number h.mask

abbrev pub step_in : List ℕ → Hearing → Step
step_in ws h = step_of (window_in ws).downstream (window_in ws).sent h.member h.number h.mask

-- the verdicts on those of the messages after p that are due, the resend counts being given by place
unfoldable pub verdicts_in : List ℕ → ℕ → List ℕ → ℕ → List ℕ
verdicts_in ws due counts p = verdicts_to (shares_of (cluster_at ws sending_at)) (shares_of (cluster_at ws receiving_at)) (word_at ws quantum_at) due counts p (word_at ws sent_at - p)
