-- A state put into words and taken out again is the state, and words that fit are those of the state that stands in them. Assumes nothing.
use mathlib.Core.Path.{◌≡◌, refl, ap, sym, ◌∙◌}
use mathlib.Core.Bool.{Bool, true, false, cond}
use mathlib.Core.List.{List, [], ◌∷◌, ◌++◌}
use Prim.Native.Nat.{ℕ, ◌+◌, ◌≤◌}
use native.Mathlib.Decide.{dec_lt}
use native.Mathlib.Omega.{arith}
use lib.ListN.{length, get_or, set}
use lib.Dec.{eqb}
use Rattle.basics.specs.Sums.{list_below}
use Rattle.basics.proofs.SumLaws.{list_is, list_at, length_list}
use Rattle.downstream.specs.declared.state.Cluster.{Cluster}
use Rattle.downstream.specs.declared.state.Report.{Report}
use Rattle.downstream.specs.declared.state.Entry.{Entry}
use Rattle.downstream.specs.State.{no_report, no_entry, report_at, numbers_of, masks_of, counts_of, complaints_of}
use Rattle.window.specs.declared.state.Window.{Window}
use Rattle.window.specs.Sending.{with_sent}
use Rattle.words.specs.Taken.{word_at, fits, column_at, cluster_at, report_in, reports_in, entries_in, window_in}
use Rattle.words.proofs.FitLaws.{flag_at}
use Rattle.words.specs.Put.{shares_words, cluster_words, heard_of, report_words, entry_words, words_of}

-- every array of a state has its 64 places
pub record Placed (w : Window) : Type 0 where
  pub sending : length w.sending.shares ≡ 64
  pub receiving : length w.downstream.cluster.shares ≡ 64
  pub reports : length w.downstream.reports ≡ 64
  pub entries : length w.downstream.entries ≡ 64

-- ---- out of the words that a state was put into
flag_back : (b : Bool) → eqb (cond b 1 0) 1 ≡ b
flag_back true = refl
flag_back false = refl

-- a report whose flag was 1 or 0 for a time
abbrev flagged : Report → Report
flagged rep = record { number = rep.number; mask = rep.mask; heard = eqb (cond rep.heard 1 0) 1 }

flagged_back : (rep : Report) → rep ≡ flagged rep
flagged_back rep = ap (λ (b : Bool). record { number = rep.number; mask = rep.mask; heard = b }) (sym (flag_back rep.heard))

-- the state with every array as its 64 places give it
abbrev places_of : Cluster → Cluster
places_of c = record { members = c.members; u = c.u; r = c.r; shares = list_below 64 (λ i. get_or c.shares i 0) }

abbrev replaced : Window → Window
replaced w =
    record {
      sending = places_of w.sending;
      quantum = w.quantum;
      sent = w.sent;
      downstream =
          record {
            cluster = places_of w.downstream.cluster;
            point = w.downstream.point;
            reports = list_below 64 (λ i. flagged (report_at w.downstream.reports i));
            entries = list_below 64 (λ i. get_or w.downstream.entries i no_entry);
          };
    }

taken_places : (w : Window) → window_in (words_of w) ≡ replaced w
unfolding words_of cluster_words shares_words report_words entry_words numbers_of masks_of heard_of counts_of complaints_of window_in cluster_at column_at reports_in entries_in list_below
taken_places w = refl

same_shares : (c : Cluster) → length c.shares ≡ 64 → places_of c ≡ c
same_shares c e = ap (λ (l : List ℕ). record { members = c.members; u = c.u; r = c.r; shares = l }) (sym (list_is (λ i. get_or c.shares i 0) 0 64 c.shares e (λ j l. refl)))

same_reports : (l : List Report) → length l ≡ 64 → list_below 64 (λ i. flagged (report_at l i)) ≡ l
same_reports l e = sym (list_is (λ i. flagged (report_at l i)) no_report 64 l e (λ j m. flagged_back (report_at l j)))

same_entries : (l : List Entry) → length l ≡ 64 → list_below 64 (λ i. get_or l i no_entry) ≡ l
same_entries l e = sym (list_is (λ i. get_or l i no_entry) no_entry 64 l e (λ j m. refl))

pub taken_back : (w : Window) → Placed w → window_in (words_of w) ≡ w
taken_back w p =
    taken_places w
    ∙ rw (same_shares w.sending p.sending, same_shares w.downstream.cluster p.receiving, same_reports w.downstream.reports p.reports, same_entries w.downstream.entries p.entries)

-- ---- into words what stood in them
flag_same : (x : ℕ) → x ≤ 1 → x ≡ cond (eqb x 1) 1 0
flag_same x h = elim (dec_lt x 1) [
  | yes l ↦ (let z : x ≡ 0 = omega arith in rw z refl)
  | no m ↦ (let o : x ≡ 1 = omega arith in rw o refl)
]

heard_same : (ws : List ℕ) → fits ws ≡ true → column_at ws 265 ≡ heard_of (reports_in ws)
unfolding column_at heard_of reports_in
heard_same ws f =
    list_is (λ i. cond (report_at (list_below 64 (report_in ws)) i).heard 1 0) 0 64 (list_below 64 (λ i. word_at ws (265 + i))) (length_list (λ i. word_at ws (265 + i)) 64)
    (λ j l.
    list_at (λ i. word_at ws (265 + i)) 0 64 j l
    ∙ flag_same (word_at ws (265 + j)) (flag_at ws f j l)
    ∙ ap (λ (rep : Report). cond rep.heard 1 0) (sym (list_at (report_in ws) no_report 64 j l)))

-- the words of a state with another column for the members that have reported
abbrev with_heard : Window → List ℕ → List ℕ
with_heard w column =
    cluster_words w.sending
    ++ cluster_words w.downstream.cluster
    ++ (w.quantum ∷ w.sent ∷ w.downstream.point ∷ [])
    ++ (numbers_of w.downstream.reports ++ masks_of w.downstream.reports ++ column)
    ++ entry_words w.downstream.entries

heard_in_place : (w : Window) → words_of w ≡ with_heard w (heard_of w.downstream.reports)
unfolding words_of report_words
heard_in_place w = refl

taken_words : (ws : List ℕ) → with_heard (window_in ws) (column_at ws 265) ≡ list_below 457 (word_at ws)
unfolding cluster_words shares_words entry_words numbers_of masks_of counts_of complaints_of window_in cluster_at column_at reports_in entries_in list_below
taken_words ws = refl

heard_of_taken : (ws : List ℕ) → fits ws ≡ true → heard_of (window_in ws).downstream.reports ≡ column_at ws 265
unfolding window_in
heard_of_taken ws f = sym (heard_same ws f)

pub put_back : (ws : List ℕ) → length ws ≡ 457 → fits ws ≡ true → words_of (window_in ws) ≡ ws
put_back ws n f =
    heard_in_place (window_in ws)
    ∙ ap (with_heard (window_in ws)) (heard_of_taken ws f)
    ∙ taken_words ws
    ∙ sym (list_is (word_at ws) 0 457 ws n (λ j l. refl))

-- ---- one field alone
sent_word : (w : Window) (k : ℕ) → set (words_of w) 135 k ≡ words_of (with_sent w k)
unfolding words_of cluster_words shares_words report_words entry_words numbers_of masks_of heard_of counts_of complaints_of list_below
sent_word w k = refl

pub sent_alone : (ws : List ℕ) (k : ℕ) → length ws ≡ 457 → fits ws ≡ true → set ws 135 k ≡ words_of (with_sent (window_in ws) k)
sent_alone ws k n f = ap (λ (l : List ℕ). set l 135 k) (sym (put_back ws n f)) ∙ sent_word (window_in ws) k
