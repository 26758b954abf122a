-- A report that is stored in the words, and the columns of the entries behind it. Assumes nothing.
use mathlib.Core.Path.{◌≡◌, refl, ap, sym, ◌∙◌}
use mathlib.Core.Bool.{true, cond}
use mathlib.Core.List.{List, [], ◌∷◌, ◌++◌, append-nil}
use Prim.Native.Nat.{ℕ, ◌+◌, ◌<◌}
use native.Mathlib.Nat.{zero-add, suc-add}
use native.Mathlib.Decide.{ℕ_discrete}
use native.Mathlib.Omega.{arith}
use lib.ListN.{length, drop, take, set, length-set, length-append, take-append-drop, drop_of_length-le}
use lib.Seq.{get_or-set_same, get_or-set_other, set-append_left, length-take-le}
use borrow.Rule.Slice.PartMut.{put_mid}
use Rattle.basics.specs.Sums.{list_below}
use Rattle.basics.proofs.SumLaws.{length_list, list_at, list_is}
use Rattle.basics.proofs.PartLaws.{put_next}
use Rattle.downstream.specs.declared.state.Report.{Report}
use Rattle.downstream.specs.State.{no_report, report_at, numbers_of, masks_of, counts_of, complaints_of}
use Rattle.judging.specs.Complaints.{reports_after}
use Rattle.window.specs.declared.state.Window.{Window}
use Rattle.words.specs.Taken.{fits, window_in, reports_in, report_in}
use Rattle.words.specs.Put.{shares_words, cluster_words, heard_of, report_words, entry_words, words_of}
use Rattle.words.proofs.RoundTrip.{put_back}
use Rattle.words.proofs.PutLaws.{length_cluster, length_numbers, length_masks, length_heard}
use Rattle.steps.specs.Stored.{with_report}

-- ---- a word stored behind others
set_right : (xs ys : List ℕ) (a i v : ℕ) → length xs ≡ a → set (xs ++ ys) (a + i) v ≡ xs ++ set ys i v
set_right xs ys a i v e = rw (← e) (behind xs)
  where
    behind : (zs : List ℕ) → set (zs ++ ys) (length zs + i) v ≡ zs ++ set ys i v
    behind [] = ap (λ (k : ℕ). set ys k v) (zero-add i)
    behind (z ∷ zs) = ap (λ (k : ℕ). set (z ∷ (zs ++ ys)) k v) (suc-add (length zs) i) ∙ ap (λ (r : List ℕ). z ∷ r) (behind zs)

-- a column of the reports, with another report in place i
module _ (f : Report → ℕ) (l : List Report) (i : ℕ) (rep : Report) (n : length l ≡ 64) (h : i < 64) where
  abbrev column : List ℕ
  column = list_below 64 (λ j. f (report_at l j))

  column_set : set column i (f rep) ≡ list_below 64 (λ j. f (report_at (set l i rep) j))
  column_set =
      list_is (λ j. f (report_at (set l i rep) j)) 0 64 (set column i (f rep)) (length-set column i (f rep) ∙ length_list (λ j. f (report_at l j)) 64)
      (λ j m. elim (ℕ_discrete j i) [
        | yes e ↦ rw e (get_or-set_same column i (f rep) 0 (omega (arith, length_list (λ x. f (report_at l x)) 64)) ∙ ap f (sym (get_or-set_same l i rep no_report (omega (arith, n)))))
        | no e ↦ get_or-set_other column i j (f rep) 0 e ∙ list_at (λ x. f (report_at l x)) 0 64 j m ∙ ap f (sym (get_or-set_other l i j rep no_report e))
      ])

-- what the reports with that of member i say
pub numbers_set : (l : List Report) (i c mask : ℕ) → length l ≡ 64 → i < 64 → set (numbers_of l) i c ≡ numbers_of (reports_after l i c mask)
unfolding numbers_of
numbers_set l i c mask n h = column_set (λ r. r.number) l i (record { number = c; mask = mask; heard = true }) n h

pub masks_set : (l : List Report) (i c mask : ℕ) → length l ≡ 64 → i < 64 → set (masks_of l) i mask ≡ masks_of (reports_after l i c mask)
unfolding masks_of
masks_set l i c mask n h = column_set (λ r. r.mask) l i (record { number = c; mask = mask; heard = true }) n h

heard_set : (l : List Report) (i c mask : ℕ) → length l ≡ 64 → i < 64 → set (heard_of l) i 1 ≡ heard_of (reports_after l i c mask)
unfolding heard_of
heard_set l i c mask n h = column_set (λ r. cond r.heard 1 0) l i (record { number = c; mask = mask; heard = true }) n h

-- ---- the three words of a report
module _ (p n m h e : List ℕ) (i x y z : ℕ) (lp : length p ≡ 137) (ln : length n ≡ 64) (lm : length m ≡ 64) (lh : length h ≡ 64) (l : i < 64) where
  abbrev whole : List ℕ → List ℕ → List ℕ → List ℕ
  whole a b c = (p ++ (a ++ b ++ c)) ++ e

  within : (a b c : List ℕ) → length a ≡ 64 → length b ≡ 64 → length c ≡ 64 → length (p ++ (a ++ b ++ c)) ≡ 329
  within a b c la lb lc = simp (length-append, lp, la, lb, lc)

  number_in : set (whole n m h) (137 + i) x ≡ whole (set n i x) m h
  number_in =
      set-append_left (p ++ (n ++ m ++ h)) e (137 + i) x (omega (arith, within n m h ln lm lh))
      ∙ ap (λ (r : List ℕ). r ++ e) (set_right p (n ++ m ++ h) 137 i x lp
      ∙ ap (λ (r : List ℕ). p ++ r) (set-append_left (n ++ m) h i x (omega (arith, length-append n m, ln, lm)) ∙ ap (λ (r : List ℕ). r ++ h) (set-append_left n m i x (omega (arith, ln)))))

  mask_in : (a : List ℕ) → length a ≡ 64 → set (whole a m h) (201 + i) y ≡ whole a (set m i y) h
  mask_in a la =
      let two : set (a ++ m ++ h) (64 + i) y ≡ (a ++ set m i y) ++ h =
      set-append_left (a ++ m) h (64 + i) y (omega (arith, length-append a m, la, lm)) ∙ ap (λ (r : List ℕ). r ++ h) (set_right a m 64 i y la) in
      let at : 201 + i ≡ 137 + (64 + i) = omega arith in
      set-append_left (p ++ (a ++ m ++ h)) e (201 + i) y (omega (arith, within a m h la lm lh))
      ∙ ap (λ (r : List ℕ). r ++ e) (ap (λ (k : ℕ). set (p ++ (a ++ m ++ h)) k y) at ∙ set_right p (a ++ m ++ h) 137 (64 + i) y lp ∙ ap (λ (r : List ℕ). p ++ r) two)

  heard_in : (a b : List ℕ) → length a ≡ 64 → length b ≡ 64 → set (whole a b h) (265 + i) z ≡ whole a b (set h i z)
  heard_in a b la lb =
      let two : set (a ++ b ++ h) (128 + i) z ≡ (a ++ b) ++ set h i z = set_right (a ++ b) h 128 i z (simp (length-append, la, lb)) in
      let at : 265 + i ≡ 137 + (128 + i) = omega arith in
      set-append_left (p ++ (a ++ b ++ h)) e (265 + i) z (omega (arith, within a b h la lb lh))
      ∙ ap (λ (r : List ℕ). r ++ e) (ap (λ (k : ℕ). set (p ++ (a ++ b ++ h)) k z) at ∙ set_right p (a ++ b ++ h) 137 (128 + i) z lp ∙ ap (λ (r : List ℕ). p ++ r) two)

  three_in : set (set (set (whole n m h) (137 + i) x) (201 + i) y) (265 + i) z ≡ whole (set n i x) (set m i y) (set h i z)
  three_in =
      let ln' : length (set n i x) ≡ 64 = length-set n i x ∙ ln in
      let lm' : length (set m i y) ≡ 64 = length-set m i y ∙ lm in
      ap (λ (r : List ℕ). set (set r (201 + i) y) (265 + i) z) number_in
      ∙ ap (λ (r : List ℕ). set r (265 + i) z) (mask_in (set n i x) ln')
      ∙ heard_in (set n i x) (set m i y) ln' lm'

-- ---- the report in the words of a state
abbrev pub front : Window → List ℕ
front w = cluster_words w.sending ++ cluster_words w.downstream.cluster ++ (w.quantum ∷ w.sent ∷ w.downstream.point ∷ [])

pub length_front : (w : Window) → length (front w) ≡ 137
length_front w = simp (length-append, length_cluster w.sending, length_cluster w.downstream.cluster)

abbrev with_reports : Window → List Report → Window
with_reports w l =
    record {
      sending = w.sending;
      quantum = w.quantum;
      sent = w.sent;
      downstream = record { cluster = w.downstream.cluster; point = w.downstream.point; reports = l; entries = w.downstream.entries };
    }

stored_words : (w : Window) (i c mask : ℕ) → length w.downstream.reports ≡ 64 → i < 64
    → set (set (set (words_of w) (137 + i) c) (201 + i) mask) (265 + i) 1 ≡ words_of (with_reports w (reports_after w.downstream.reports i c mask))
unfolding words_of report_words
stored_words w i c mask n l =
    let reports = w.downstream.reports in
    three_in (front w) (numbers_of reports) (masks_of reports) (heard_of reports) (entry_words w.downstream.entries) i c mask 1 (length_front w) (length_numbers reports) (length_masks reports) (length_heard reports) l
    ∙ rw (numbers_set reports i c mask n l, masks_set reports i c mask n l, heard_set reports i c mask n l) refl

abbrev with_point : Window → ℕ → Window
with_point w p =
    record {
      sending = w.sending;
      quantum = w.quantum;
      sent = w.sent;
      downstream = record { cluster = w.downstream.cluster; point = p; reports = w.downstream.reports; entries = w.downstream.entries };
    }

point_word : (w : Window) (p : ℕ) → set (words_of w) 136 p ≡ words_of (with_point w p)
unfolding words_of cluster_words shares_words report_words entry_words numbers_of masks_of heard_of counts_of complaints_of list_below
point_word w p = refl

pub places_in : (ws : List ℕ) → length (window_in ws).downstream.reports ≡ 64
unfolding window_in reports_in
places_in ws = length_list (report_in ws) 64

pub report_stored : (ws : List ℕ) (i c mask p : ℕ) → length ws ≡ 457 → fits ws ≡ true → i < 64
    → set (set (set (set ws 136 p) (137 + i) c) (201 + i) mask) (265 + i) 1 ≡ words_of (with_report (window_in ws) i c mask p)
report_stored ws i c mask p n f l =
    ap (λ (r : List ℕ). set (set (set (set r 136 p) (137 + i) c) (201 + i) mask) (265 + i) 1) (sym (put_back ws n f))
    ∙ ap (λ (r : List ℕ). set (set (set r (137 + i) c) (201 + i) mask) (265 + i) 1) (point_word (window_in ws) p)
    ∙ stored_words (with_point (window_in ws) p) i c mask (places_in ws) l

-- ---- the two columns of the entries
entries_put : (s a b x y : List ℕ) → length s ≡ 457 → length x ≡ 64 → length y ≡ 64 → a ≡ x → b ≡ y → put_mid 393 64 (put_mid 329 64 s a) b ≡ take 329 s ++ x ++ y
entries_put s a b x y n lx ly ea eb =
    let lt : length (take 329 s) ≡ 329 = length-take-le 329 s (omega (arith, n)) in
    let one : put_mid 329 64 s a ≡ (take 329 s ++ x) ++ drop 393 s =
    ap (λ (l : List ℕ). put_mid 329 64 l a) (sym (take-append-drop 329 s)) ∙ rw ea (put_next (take 329 s) x s 329 64 lt lx) in
    let lx' : length (take 329 s ++ x) ≡ 393 = length-append (take 329 s) x ∙ omega (arith, lt, lx) in
    rw (one, eb) (put_next (take 329 s ++ x) y s 393 64 lx' ly)
    ∙ ap (λ (t : List ℕ). (take 329 s ++ x ++ y) ++ t) (drop_of_length-le s {i = 457} (omega (arith, n)))
    ∙ append-nil (take 329 s ++ x ++ y)

-- behind a state's other words
pub entries_behind : (s w a b x y : List ℕ) → s ≡ w → length s ≡ 457 → length x ≡ 64 → length y ≡ 64 → a ≡ x → b ≡ y → put_mid 393 64 (put_mid 329 64 s a) b ≡ take 329 w ++ x ++ y
entries_behind s w a b x y e n lx ly ea eb = entries_put s a b x y n lx ly ea eb ∙ rw e refl
