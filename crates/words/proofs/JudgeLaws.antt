-- Judging words where they lie, from what the code knows where it answers. Assumes nothing.
use mathlib.Core.Path.{◌≡◌, refl, sym, ◌∙◌}
use mathlib.Core.Bool.{Bool, true, false, not, ◌&&◌}
use mathlib.Core.List.{List}
use mathlib.Core.Logic.{inl, inr}
use Prim.Native.Nat.{ℕ, ◌+◌, ◌≤◌, ◌<◌}
use native.Mathlib.Omega.{arith}
use mir.Val.{Fits}
use mir.Syntax.{w32}
use lib.Dec.{leb, ltb, eqb}
use lib.ListN.{take}
use borrow.Author.Rules.{rules}
use borrow.Author.Tests.{le-leb, lt-leb, leb-true, eqb-true, not-true, not-false}
use Rattle.basics.specs.Sums.{list_below}
use Rattle.basics.specs.Ranges.{is_quantum}
use Rattle.basics.proofs.BoolLaws.{bool_cases, and_both, and_left, and_right, and_not_left, and_not_right, either}
use Rattle.basics.proofs.SumLaws.{all_at, all_of, list_at}
use Rattle.marks.specs.Masks.{is_marked, reach_of}
use Rattle.marks.specs.Held.{highest_of}
use Rattle.marks.specs.Held as marks
use Rattle.shares.specs.Point.{point_of}
use Rattle.downstream.specs.State.{no_report, report_at, numbers_of, masks_of}
use Rattle.downstream.specs.Formed.{span_kept, cluster_kept, report_kept, reports_kept, entries_kept, downstream_kept}
use Rattle.downstream.proofs.FormedLaws.{span_limit, span_order, span_width, cluster_few, down_span, down_cluster, down_judged}
use Rattle.window.specs.Formed.{well_formed}
use Rattle.words.specs.Taken.{word_at, none_above, fits, column_at, cluster_at, report_in, reports_in, entries_in, window_in, formed_in}
use Rattle.words.proofs.PointLaws.{point_in_words}
use Rattle.words.proofs.FormedFits.{kept_fits, shares_small, u_small}

module _ (ws : List ℕ) where
  -- the columns of the reports
  pub numbers_column : column_at ws 137 ≡ numbers_of (reports_in ws)
  unfolding column_at numbers_of reports_in list_below
  numbers_column = refl

  pub masks_column : column_at ws 201 ≡ masks_of (reports_in ws)
  unfolding column_at masks_of reports_in list_below
  masks_column = refl

-- ---- all that belongs to the receiving cluster
module _ (ws : List ℕ) (a : Bool) (ea : a ≡ span_kept (word_at ws 136) (word_at ws 135)) where
  pub words_span : a ≡ false → false ≡ downstream_kept (window_in ws).downstream (window_in ws).sent
  unfolding window_in
  words_span h = down_span (window_in ws).downstream (word_at ws 135) a ea h

  pub words_cluster : (b : Bool) → b ≡ cluster_kept (cluster_at ws 67) → a ≡ true → b ≡ false → false ≡ downstream_kept (window_in ws).downstream (window_in ws).sent
  unfolding window_in
  words_cluster b eb ta h = down_cluster (window_in ws).downstream (word_at ws 135) a ea ta b eb h

  pub span_told : a ≡ true → span_kept (word_at ws 136) (word_at ws 135) ≡ true
  span_told h = sym ea ∙ h

pub cluster_told : (ws : List ℕ) (b : Bool) → b ≡ cluster_kept (cluster_at ws 67) → b ≡ true → cluster_kept (cluster_at ws 67) ≡ true
cluster_told ws b eb h = sym eb ∙ h

pub ruleset words_refused = (words_span, words_cluster, not-true, not-false)

-- what a kept span and a kept cluster say
module _ (ws : List ℕ) (h : span_kept (word_at ws 136) (word_at ws 135) ≡ true) where
  pub words_order : word_at ws 136 ≤ word_at ws 135
  words_order = span_order (word_at ws 136) (word_at ws 135) h

  pub words_width : word_at ws 135 ≤ word_at ws 136 + 64
  words_width = span_width (word_at ws 136) (word_at ws 135) h

  pub words_point : word_at ws 136 ≤ 1000000000000
  words_point = omega (arith, words_order, span_limit (word_at ws 136) (word_at ws 135) h)

module _ (ws : List ℕ) (h : cluster_kept (cluster_at ws 67) ≡ true) where
  pub words_few : word_at ws 67 ≤ 64
  unfolding cluster_at
  words_few = cluster_few (cluster_at ws 67) h

  pub words_members : Fits w32 (word_at ws 67)
  words_members = record { fits = omega (arith, words_few) }

  pub words_narrow : none_above ws 70 (word_at ws 67) 4294967295 ≡ true
  words_narrow = shares_small ws 67 h (word_at ws 67) words_few

  pub words_u : word_at ws 68 ≤ 4294967295
  words_u = u_small ws 67 h

  pub words_judged : span_kept (word_at ws 136) (word_at ws 135) ≡ true → (reports point entries : Bool) → reports ≡ reports_kept (word_at ws 67) (reports_in ws) (word_at ws 135)
      → point ≡ eqb (word_at ws 136) (point_of (take (word_at ws 67) (column_at ws 70)) (column_at ws 137) (word_at ws 68 + 1))
      → entries ≡ entries_kept (word_at ws 67) (column_at ws 137) (column_at ws 201) (entries_in ws) (word_at ws 136) (word_at ws 135)
      → (reports && point && entries) ≡ downstream_kept (window_in ws).downstream (window_in ws).sent
  unfolding window_in cluster_at
  words_judged k reports point entries er ep eo =
      down_judged (window_in ws).downstream (word_at ws 135) true (sym k) refl true (sym h) refl (column_at ws 137) (column_at ws 201) reports point entries (numbers_column ws) (masks_column ws) er
      (ep ∙ point_in_words ws (word_at ws 136)) eo

  pub words_untold : span_kept (word_at ws 136) (word_at ws 135) ≡ true → (reports : Bool) → reports ≡ reports_kept (word_at ws 67) (reports_in ws) (word_at ws 135) → reports ≡ false
      → false ≡ downstream_kept (window_in ws).downstream (window_in ws).sent
  words_untold k reports er f = sym (rw f refl) ∙ words_judged k reports _ _ er refl refl

  pub words_told : span_kept (word_at ws 136) (word_at ws 135) ≡ true → (reports point entries : Bool) → reports ≡ reports_kept (word_at ws 67) (reports_in ws) (word_at ws 135) → reports ≡ true
      → point ≡ eqb (word_at ws 136) (point_of (take (word_at ws 67) (column_at ws 70)) (column_at ws 137) (word_at ws 68 + 1))
      → entries ≡ entries_kept (word_at ws 67) (column_at ws 137) (column_at ws 201) (entries_in ws) (word_at ws 136) (word_at ws 135)
      → (point && entries) ≡ downstream_kept (window_in ws).downstream (window_in ws).sent
  words_told k reports point entries er t ep eo = sym (rw t refl) ∙ words_judged k reports point entries er ep eo

-- a report that is kept has a number up to S
module _ (ws : List ℕ) (n s : ℕ) (h : reports_kept n (reports_in ws) s ≡ true) where
  number_low : (i : ℕ) → i < 64 → word_at ws (137 + i) ≤ s
  unfolding reports_kept reports_in marks.none_above highest_of
  number_low i l =
      let kept : report_kept n s i (report_in ws i) ≡ true = rw (list_at (report_in ws) no_report 64 i l) at (all_at (λ j. report_kept n s j (report_at (list_below 64 (report_in ws)) j)) 64 h i l) in
      elim (bool_cases (report_in ws i).heard) [
        | inl t ↦ omega (arith, leb-true (word_at ws (137 + i) + reach_of (word_at ws (201 + i))) s (and_right (ltb i n && not (is_marked (word_at ws (201 + i)) 0)) (leb (word_at ws (137 + i) + reach_of (word_at ws (201 + i))) s) (simp t at kept)))
        | inr t ↦ omega (arith, eqb-true (word_at ws (137 + i)) 0 (and_left (eqb (word_at ws (137 + i)) 0) (eqb (word_at ws (201 + i)) 0) (simp t at kept)))
      ]

  pub numbers_low : (m : ℕ) → m ≤ 64 → s ≤ 1000000000000 → none_above ws 137 m 1000000000000 ≡ true
  unfolding none_above
  numbers_low m few l = all_of (λ i. leb (word_at ws (137 + i)) 1000000000000) m (λ i k. le-leb (word_at ws (137 + i)) 1000000000000 (omega (arith, number_low i (omega arith))))

pub words_low : (ws : List ℕ) → cluster_kept (cluster_at ws 67) ≡ true → span_kept (word_at ws 136) (word_at ws 135) ≡ true → (reports : Bool) → reports ≡ reports_kept (word_at ws 67) (reports_in ws) (word_at ws 135)
    → reports ≡ true → none_above ws 137 (word_at ws 67) 1000000000000 ≡ true
words_low ws c k reports er t = numbers_low ws (word_at ws 67) (word_at ws 135) (sym er ∙ t) (word_at ws 67) (words_few ws c) (span_limit (word_at ws 136) (word_at ws 135) k)

pub ruleset words_kept = (words_low, words_untold, words_told, not-true, not-false, words_order, words_width, words_point, words_few, words_members, words_narrow, words_u, rules)

-- ---- the state as a whole
module _ (ws : List ℕ) where
  pub formed_unfit : (f : Bool) → f ≡ none_above ws 265 64 1 → f ≡ false → false ≡ formed_in ws
  unfolding formed_in fits
  formed_unfit f ef h = sym (
      and_not_left (fits ws) (well_formed (window_in ws))
      (and_not_left (none_above ws 0 135 4294967295 && none_above ws 265 64 1) (none_above ws 329 64 4294967295)
      (and_not_right (none_above ws 0 135 4294967295) (none_above ws 265 64 1) (sym ef ∙ h))))

  formed_parts : (a b d : Bool) → a ≡ cluster_kept (cluster_at ws 0) → b ≡ is_quantum (word_at ws 134) → d ≡ downstream_kept (window_in ws).downstream (window_in ws).sent → (a && b && d) ≡ well_formed (window_in ws)
  unfolding well_formed window_in
  formed_parts a b d ea eb ed = rw (ea, eb, ed) refl

  pub formed_told : (f : Bool) → f ≡ none_above ws 265 64 1 → f ≡ true → (a b d : Bool) → a ≡ cluster_kept (cluster_at ws 0) → b ≡ is_quantum (word_at ws 134)
      → d ≡ downstream_kept (window_in ws).downstream (window_in ws).sent → (a && b && d) ≡ formed_in ws
  unfolding formed_in
  formed_told f ef h a b d ea eb ed = formed_parts a b d ea eb ed ∙ either (well_formed (window_in ws) ≡ (fits ws && well_formed (window_in ws))) (well_formed (window_in ws))
      (λ t. t ∙ sym (and_both (fits ws) (well_formed (window_in ws)) (kept_fits ws t (sym ef ∙ h)) t))
      (λ t. t ∙ sym (and_not_right (fits ws) (well_formed (window_in ws)) t))

  -- a quantum that is too large for its field is above 1,024
  pub formed_wide : 4294967295 < word_at ws 134 → false ≡ formed_in ws
  unfolding formed_in is_quantum
  formed_wide l = sym (and_not_right (fits ws) (well_formed (window_in ws)) (sym (formed_parts _ _ _ refl refl refl) ∙ none (cluster_kept (cluster_at ws 0)) (leb 1 (word_at ws 134)) (downstream_kept (window_in ws).downstream (window_in ws).sent)))
    where
      none : (x y z : Bool) → (x && (y && leb (word_at ws 134) 1024) && z) ≡ false
      none x y z = and_not_left (x && (y && leb (word_at ws 134) 1024)) z
          (and_not_right x (y && leb (word_at ws 134) 1024) (and_not_right y (leb (word_at ws 134) 1024) (lt-leb (word_at ws 134) 1024 (omega arith))))
