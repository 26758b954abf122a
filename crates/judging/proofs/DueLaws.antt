-- A verdict is due where enough complain of a message and too few hold it, from what the code knows where it answers. Assumes nothing.
use mathlib.Core.Path.{◌≡◌, refl, ap, ap₂, sym, ◌∙◌}
use mathlib.Core.Bool.{Bool, true, false, not, ◌&&◌}
use mathlib.Core.List.{List}
use Prim.Native.Nat.{ℕ, ◌+◌, ◌≤◌, ◌<◌}
use native.Mathlib.Decide.{dec_le}
use native.Mathlib.Omega.{arith}
use lib.Dec.{leb, ltb}
use lib.ListN.{length, get_or}
use borrow.Author.Tests.{le-leb, lt-leb, lt-ltb}
use Rattle.basics.proofs.BoolLaws.{and_not_left}
use Rattle.basics.proofs.SumLaws.{list_at}
use Rattle.marks.specs.Masks.{is_marked, set_below}
use Rattle.marks.specs.Held.{held_after}
use Rattle.marks.proofs.MaskLaws.{marked_none}
use Rattle.marks.proofs.SetLaws.{marked_set, set_cong, set_none}
use Rattle.marks.proofs.AfterLaws.{after_at}
use Rattle.shares.specs.Shares.{share_of}
use Rattle.shares.proofs.ShareLaws.{share_same}
use Rattle.downstream.specs.State.{place_after, held_by, is_quacked}
use Rattle.downstream.specs.Rows.{held_rows}
use Rattle.judging.specs.Verdicts.{is_due, enough_against, complainers_of, holding_share, is_lost}
use Rattle.judging.proofs.AgainstLaws.{few_against}

not_reached : (u s : ℕ) → not (leb (u + 1) s) ≡ leb s u
not_reached u s = elim (dec_le s u) [
  | yes l ↦ simp (lt-leb (u + 1) s (omega arith), le-leb s u l)
  | no l ↦ simp (le-leb (u + 1) s (omega arith), lt-leb s u (omega arith))
]

turned : (a b x : Bool) → (a && b && x) ≡ ((b && x) && a)
turned true true true = refl
turned true true false = refl
turned true false x = refl
turned false true true = refl
turned false true false = refl
turned false false x = refl

module _ (shares : List ℕ) (u r : ℕ) (numbers masks counts complaints : List ℕ) (p : ℕ) where
  abbrev due_one : ℕ → Bool
  due_one o = is_due shares u r numbers masks (p + 1 + o) (record { count = get_or counts (place_after p o) 0; complaints = get_or complaints (place_after p o) 0 })

  -- what the entry decides, and what the reports decide
  in_parts : (o : ℕ) → due_one o ≡ (enough_against shares r counts complaints p o && leb (share_of shares (held_by numbers masks (p + 1 + o))) u)
  unfolding is_due is_quacked enough_against
  in_parts o =
      turned (not (is_quacked shares u numbers masks (p + 1 + o))) (leb (r + 1) (share_of shares (is_marked (get_or complaints (place_after p o) 0)))) (ltb (get_or counts (place_after p o) 0) 255)
      ∙ ap (λ (b : Bool). enough_against shares r counts complaints p o && b) (not_reached u (share_of shares (held_by numbers masks (p + 1 + o))))

  not_due : (o : ℕ) → enough_against shares r counts complaints p o ≡ false → due_one o ≡ false
  not_due o h = in_parts o ∙ and_not_left (enough_against shares r counts complaints p o) (leb (share_of shares (held_by numbers masks (p + 1 + o))) u) h

  pub few_due : (n any against : ℕ) → any ≡ complainers_of complaints 64 → against ≡ share_of shares (is_marked any) → against ≤ r → 0 ≡ set_below n due_one
  few_due n any against ea es l = set_none due_one n (λ o h. not_due o (few_against shares r counts complaints p o any against ea es l))

  module _ (n enough : ℕ) (few : n ≤ 64) (e : enough ≡ set_below n (enough_against shares r counts complaints p)) where
    asked : (o : ℕ) → o < n → is_marked enough o ≡ enough_against shares r counts complaints p o
    asked o l = ap (λ (x : ℕ). is_marked x o) e ∙ marked_set (enough_against shares r counts complaints p) n o ∙ simp (lt-ltb o n l)

    pub none_due : enough ≡ 0 → 0 ≡ set_below n due_one
    none_due z = set_none due_one n (λ o l. not_due o (sym (asked o l) ∙ ap (λ (x : ℕ). is_marked x o) z ∙ marked_none o))

    module _ (rows : List ℕ) (q : rows ≡ held_rows numbers masks p (length shares)) where
      holders : (o : ℕ) → o < 64 → holding_share shares rows o ≡ share_of shares (held_by numbers masks (p + 1 + o))
      unfolding holding_share held_rows
      holders o l = share_same shares (λ i. is_marked (get_or rows i 0) o) (held_by numbers masks (p + 1 + o)) (λ i k.
          ap (λ (x : List ℕ). is_marked (get_or x i 0) o) q
          ∙ ap (λ (x : ℕ). is_marked x o) (list_at (λ j. held_after p (get_or numbers j 0) (get_or masks j 0)) 0 (length shares) i k)
          ∙ after_at p (get_or numbers i 0) (get_or masks i 0) o l)

      pub due_told : (lost : ℕ) → lost ≡ set_below n (is_lost shares u rows enough) → lost ≡ set_below n due_one
      unfolding is_lost
      due_told lost f = f ∙ set_cong (is_lost shares u rows enough) due_one n (λ o l.
          ap₂ (λ (b : Bool) (s : ℕ). b && leb s u) (asked o l) (holders o (omega arith)) ∙ sym (in_parts o))
