-- The reports judged in the words where they lie: those of the members one by one, and zero past their end. Assumes nothing.
use mathlib.Core.Path.{◌≡◌, refl, ap, sym, ◌∙◌}
use mathlib.Core.Bool.{Bool, true, false, ◌&&◌}
use mathlib.Core.List.{List}
use Prim.Native.Nat.{ℕ, ◌+◌, ◌-◌, ◌≤◌, ◌<◌}
use native.Mathlib.Decide.{dec_lt}
use native.Mathlib.Omega.{arith}
use lib.Dec.{leb, eqb}
use borrow.Author.Tests.{le-leb, le-ltb, eqb-true, eqb-false}
use Rattle.basics.specs.Sums.{all_below, list_below}
use Rattle.basics.proofs.BoolLaws.{and_both, and_left, and_right, either, no_both, same_test}
use Rattle.basics.proofs.SumLaws.{all_at, all_of, all_cong, list_at}
use Rattle.downstream.specs.State.{no_report, report_at}
use Rattle.downstream.specs.Formed.{report_kept, reports_kept}
use Rattle.words.specs.Taken.{word_at, none_above, report_in, reports_in}
use Rattle.words.proofs.FitLaws.{none_at}

module _ (ws : List ℕ) (members s : ℕ) where
  abbrev kept : ℕ → Bool
  kept i = report_kept members s i (report_in ws i)

  reports_all : all_below 64 kept ≡ reports_kept members (reports_in ws) s
  unfolding reports_kept reports_in
  reports_all = all_cong kept (λ j. report_kept members s j (report_at (list_below 64 (report_in ws)) j)) 64
      (λ j l. ap (report_kept members s j) (sym (list_at (report_in ws) no_report 64 j l)))

  -- past the members' end
  zero_kept : (i : ℕ) → word_at ws (137 + i) ≡ 0 → word_at ws (201 + i) ≡ 0 → word_at ws (265 + i) ≡ 0 → kept i ≡ true
  zero_kept i a b c = simp (a, b, c)

  silent_past : (i : ℕ) → members ≤ i → kept i ≡ true → eqb (word_at ws (265 + i)) 1 ≡ false
  silent_past i l h = either (eqb (word_at ws (265 + i)) 1 ≡ false) (eqb (word_at ws (265 + i)) 1) (λ t. no_both (simp (t, le-ltb i members l) at h) refl) (λ t. t)

  module _ (flags : none_above ws 265 64 1 ≡ true) where
    past_heard : (i : ℕ) → members ≤ i → i < 64 → kept i ≡ true → word_at ws (265 + i) ≡ 0
    past_heard i l m h = omega (arith, none_at ws 265 64 1 flags i m, eqb-false (word_at ws (265 + i)) 1 (silent_past i l h))

    past_both : (i : ℕ) → members ≤ i → kept i ≡ true → (eqb (word_at ws (137 + i)) 0 && eqb (word_at ws (201 + i)) 0) ≡ true
    past_both i l h = simp (silent_past i l h) at h

    past_number : (i : ℕ) → members ≤ i → i < 64 → kept i ≡ true → word_at ws (137 + i) ≡ 0
    past_number i l m h = eqb-true _ _ (and_left (eqb (word_at ws (137 + i)) 0) (eqb (word_at ws (201 + i)) 0) (past_both i l h))

    past_mask : (i : ℕ) → members ≤ i → i < 64 → kept i ≡ true → word_at ws (201 + i) ≡ 0
    past_mask i l m h = eqb-true _ _ (and_right (eqb (word_at ws (137 + i)) 0) (eqb (word_at ws (201 + i)) 0) (past_both i l h))

    module _ (few : members ≤ 64) where
      -- the words of a column past the members' end
      zero_at : (at : ℕ) → none_above ws (at + members) (64 - members) 0 ≡ true → (i : ℕ) → members ≤ i → i < 64 → word_at ws (at + i) ≡ 0
      zero_at at h i l m =
          let z : at + members + (i - members) ≡ at + i = omega arith in
          let w : word_at ws (at + i) ≤ 0 = rw z at (none_at ws (at + members) (64 - members) 0 h (i - members) (omega arith)) in
          omega arith

      zero_of : (at : ℕ) → ((i : ℕ) → members ≤ i → i < 64 → word_at ws (at + i) ≡ 0) → none_above ws (at + members) (64 - members) 0 ≡ true
      unfolding none_above
      zero_of at h = all_of (λ i. leb (word_at ws (at + members + i)) 0) (64 - members) (λ i l.
          let z : at + (members + i) ≡ at + members + i = omega arith in
          le-leb (word_at ws (at + members + i)) 0 (omega (arith, rw z at (h (members + i) (omega arith) (omega arith)))))

      abbrev numbers : Bool
      numbers = none_above ws (137 + members) (64 - members) 0

      abbrev masks : Bool
      masks = none_above ws (201 + members) (64 - members) 0

      abbrev heard : Bool
      heard = none_above ws (265 + members) (64 - members) 0

      parted : (all_below members kept && numbers && masks && heard) ≡ all_below 64 kept
      parted =
          same_test (all_below members kept && numbers && masks && heard) (all_below 64 kept)
          (λ t.
          let h = and_right (all_below members kept && numbers && masks) heard t in
          let t₁ = and_left (all_below members kept && numbers && masks) heard t in
          let m = and_right (all_below members kept && numbers) masks t₁ in
          let t₂ = and_left (all_below members kept && numbers) masks t₁ in
          all_of kept 64 (λ i l. elim (dec_lt i members) [
            | yes a ↦ all_at kept members (and_left (all_below members kept) numbers t₂) i a
            | no a ↦ zero_kept i (zero_at 137 (and_right (all_below members kept) numbers t₂) i (omega arith) l) (zero_at 201 m i (omega arith) l) (zero_at 265 h i (omega arith) l)
          ]))
          (λ t.
          let each : (i : ℕ) → i < 64 → kept i ≡ true = all_at kept 64 t in
          and_both (all_below members kept && numbers && masks) heard
          (and_both (all_below members kept && numbers) masks
          (and_both (all_below members kept) numbers
          (all_of kept members (λ i l. each i (omega arith)))
          (zero_of 137 (λ i a l. past_number i a l (each i l))))
          (zero_of 201 (λ i a l. past_mask i a l (each i l))))
          (zero_of 265 (λ i a l. past_heard i a l (each i l))))

      pub reports_told : (a b c d : Bool) → a ≡ all_below members (λ i. report_kept members s i (report_in ws i)) → b ≡ numbers → c ≡ masks → d ≡ heard → (a && b && c && d) ≡ reports_kept members (reports_in ws) s
      reports_told a b c d ea eb ec ed = rw (ea, eb, ec, ed) (parted ∙ reports_all)
