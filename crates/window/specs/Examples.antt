-- Document 01's examples of the sending window, by computation. Assumes nothing.
use Prim.{Unit, tt}
use Rattle.std.specs.Prelude.{◌≡◌, refl, true, List, [], ◌∷◌, ◌++◌, ℕ, replicate}
use Rattle.basics.specs.Sums.{highest_below}
use Rattle.basics.specs.Largest.{largest}
use Rattle.basics.specs.Bytes.{le_bytes}
use Rattle.marks.specs.Masks.{is_marked, with_mark, without_mark, mark_of, unmark_of, reach_in, reach_of, set_below}
use Rattle.marks.specs.Held.{holds_of, highest_of, none_above}
use Rattle.shares.specs.Point.{reached_of, point_of}
use Rattle.shares.specs.Cluster.{cluster_refusal}
use Rattle.shares.specs.Examples.{E}
use Rattle.deal.specs.Pairs.{pair_refusal}
use Rattle.resend.specs.Examples.{whole_resend}
use Rattle.downstream.specs.declared.state.Report.{Report}
use Rattle.downstream.specs.declared.state.Entry.{Entry}
use Rattle.window.specs.declared.state.Window.{Window}
use Rattle.downstream.specs.State.{no_report, no_entry, numbers_of, masks_of, counts_of, point_from, is_quacked}
use Rattle.downstream.specs.Formed.{places_zero, cluster_kept, span_kept, reports_kept, complaints_kept, entries_kept, downstream_kept}
use Rattle.judging.specs.Reports.{keeps_all}
use Rattle.window.specs.Formed.{well_formed}
use Rattle.window.specs.Opening.{cluster_from, no_window, open_of}
use Rattle.window.specs.Sending.{send_refusal, send_of}
use Rattle.judging.specs.Complaints.{entries_after, complains, complaints_after, taken_of}
use Rattle.judging.specs.Verdicts.{is_due, due_of, judged_of}
use Rattle.verdicts.specs.Written.{verdict_bytes, verdict_of, verdicts_to, verdicts_of, verdict_count}
use Rattle.window.specs.Reporting.{report_refusal}
use Rattle.window.specs.Answers.{step_of, step_out, report_of, report_out}
use Rattle.window.specs.Season.{Call, sends, reports, Answer, answer_of, next_of, after_all, answers_of}

-- all that a window is computed with, named once: what unfolds this unfolds every name of its line
unfoldable pub whole_window : Unit {0}
unfolding whole_resend highest_below largest le_bytes is_marked with_mark without_mark mark_of unmark_of reach_in reach_of set_below holds_of highest_of none_above reached_of point_of cluster_refusal pair_refusal numbers_of masks_of counts_of point_from is_quacked places_zero cluster_kept span_kept reports_kept complaints_kept entries_kept downstream_kept well_formed open_of send_refusal send_of entries_after complains complaints_after taken_of is_due due_of judged_of verdict_bytes verdict_of verdicts_to verdicts_of verdict_count keeps_all report_refusal step_of step_out report_of report_out answer_of next_of after_all answers_of
whole_window = tt

-- ---- E
-- E is shares 1,1,1,1 with u = r = 1, on both sides, q 4
abbrev pub opened : Window
opened = (open_of E 1 1 E 1 1 4).window

-- S = 4 after these
abbrev pub four_sends : List Call
four_sends = sends 1 ∷ sends 2 ∷ sends 3 ∷ sends 4 ∷ []

-- member i reports c and no mark, with 1,024 bytes lent
abbrev pub says : ℕ → ℕ → Call
says i c = reports i c 0 1_024

-- an accepted call that writes no verdict, and a report that writes one: its message, sender, receiver and resend number
abbrev pub accepted : Answer
accepted = record { refusal = 0; verdicts = 0; written = [] }

abbrev pub verdict : ℕ → ℕ → ℕ → ℕ → List ℕ
verdict k sender receiver n = k ∷ 0 ∷ 0 ∷ 0 ∷ 0 ∷ 0 ∷ 0 ∷ 0 ∷ sender ∷ receiver ∷ n ∷ 0 ∷ 0 ∷ 0 ∷ 0 ∷ 0 ∷ []

abbrev pub one_verdict : ℕ → ℕ → ℕ → ℕ → Answer
one_verdict k sender receiver n = record { refusal = 0; verdicts = 1; written = verdict k sender receiver n }

-- E's window written out: S, p, the reports of the four members, the entries at the first four places
abbrev pub window_E : ℕ → ℕ → List Report → List Entry → Window
window_E s p heard kept =
    record {
      sending = cluster_from E 1 1;
      quantum = 4;
      sent = s;
      downstream = record { cluster = cluster_from E 1 1; point = p; reports = heard ++ replicate 60 no_report; entries = kept ++ replicate 60 no_entry };
    }

-- S messages sent and nothing reported
abbrev pub sent_E : ℕ → Window
sent_E s = window_E s 0 (replicate 4 no_report) (replicate 4 no_entry)

pub E_opens : open_of E 1 1 E 1 1 4 ≡ record { refusal = 0; window = sent_E 0 }
unfolding whole_window
E_opens = refl

-- S = 4
pub four_sent : after_all opened four_sends ≡ sent_E 4
unfolding whole_window
four_sent = refl

-- member 0 reports 1, p = 0
pub one_report : (after_all opened (four_sends ++ (says 0 1 ∷ []))).downstream.point ≡ 0
unfolding whole_window
one_report = refl

-- member 3 reports 4, p = 1
pub two_reports : (after_all opened (four_sends ++ (says 0 1 ∷ says 3 4 ∷ []))).downstream.point ≡ 1
unfolding whole_window
two_reports = refl

-- Then member 1 reports 1 twice and member 0 reports 1 again: one verdict, message 2, sender 2, receiver 2, resend 1; no call before wrote any
pub one_verdict_lem :
    answers_of opened (four_sends ++ (says 0 1 ∷ says 3 4 ∷ says 1 1 ∷ says 1 1 ∷ says 0 1 ∷ []))
    ≡ replicate 8 accepted ++ (one_verdict 2 2 2 1 ∷ [])
unfolding whole_window
one_verdict_lem = refl

-- that last report as the call answers it, 1,024 bytes of 7 being lent: the verdict stands first, and later bytes stay
abbrev pub before_last : Window
before_last = after_all opened (four_sends ++ (says 0 1 ∷ says 3 4 ∷ says 1 1 ∷ says 1 1 ∷ []))

pub last_report :
    ((report_of before_last 0 1 0 1_024).verdicts ≡ 1)
    × (report_out before_last 0 1 0 (replicate 1_024 7) ≡ verdict 2 2 2 1 ++ replicate 1_008 7)
unfolding whole_window
last_report = (refl, refl)

-- and the state that it hands back: message 2 has resend count 1 and no complaints
abbrev pub said : ℕ → Report
said c = record { number = c; mask = 0; heard = true }

pub counted_once :
    (report_of before_last 0 1 0 1_024).window
    ≡ window_E 4 1 (said 1 ∷ said 1 ∷ no_report ∷ said 4 ∷ []) (no_entry ∷ record { count = 1; complaints = 0 } ∷ no_entry ∷ no_entry ∷ [])
unfolding whole_window
counted_once = refl

-- ---- E, further
-- Sending 64 passes with p = 0, 65 is 9
pub sending_64 : send_of (sent_E 63) 64 ≡ record { refusal = 0; window = sent_E 64 }
unfolding whole_window
sending_64 = refl

pub sending_65 : send_of (sent_E 64) 65 ≡ record { refusal = 9; window = sent_E 64 }
unfolding whole_window
sending_65 = refl

-- A member's first report of 0 is no repeat, its second is: of two members' four reports only the last makes message 1 lost
pub first_report_of_0 :
    answers_of opened (sends 1 ∷ says 0 0 ∷ says 1 0 ∷ says 0 0 ∷ says 1 0 ∷ []) ≡ replicate 4 accepted ++ (one_verdict 1 1 1 1 ∷ [])
unfolding whole_window
first_report_of_0 = refl

-- (gap) Members 0 and 1 hold message 2 and not 1: message 2 is QUACKed, p stays 0, and message 1 is lost
abbrev pub gaps : List Call
gaps = sends 1 ∷ sends 2 ∷ reports 0 0 2 1_024 ∷ reports 1 0 2 1_024 ∷ []

pub two_gaps :
    (answers_of opened gaps ≡ replicate 3 accepted ++ (one_verdict 1 1 1 1 ∷ []))
    × ((after_all opened gaps).downstream.point ≡ 0)
unfolding whole_window
two_gaps = (refl, refl)

-- ---- other clusters
-- Lost is r + 1, QUACKed is u + 1, in shares: with shares 1,1,3 (u 1, r 0) one member's repeat is a verdict, member 2 alone collects
abbrev pub uneven : List ℕ
uneven = 1 ∷ 1 ∷ 3 ∷ []

abbrev pub opened_uneven : Window
opened_uneven = (open_of uneven 1 0 uneven 1 0 5).window

pub by_share :
    (answers_of opened_uneven (sends 1 ∷ says 0 0 ∷ says 0 0 ∷ []) ≡ accepted ∷ accepted ∷ one_verdict 1 1 1 1 ∷ [])
    × ((after_all opened_uneven (sends 1 ∷ says 0 1 ∷ [])).downstream.point ≡ 0)
    × ((after_all opened_uneven (sends 1 ∷ says 2 1 ∷ [])).downstream.point ≡ 1)
unfolding whole_window
by_share = (refl, refl, refl)

-- a refused opening hands back a state of zeros, which every later call refuses with 17
pub no_members : open_of [] 0 0 E 1 1 4 ≡ record { refusal = 1; window = no_window }
unfolding whole_window
no_members = refl

pub more_failing : open_of E 1 1 E 2 1 4 ≡ record { refusal = 3; window = no_window }
unfolding whole_window
more_failing = refl

pub zeros_refused : send_of no_window 1 ≡ record { refusal = 17; window = no_window }
unfolding whole_window
zeros_refused = refl
