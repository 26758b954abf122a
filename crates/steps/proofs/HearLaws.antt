-- What a report says, and the point that it gives, from what the code knows. Assumes nothing.
use mathlib.Core.Path.{◌≡◌, refl, sym, ◌∙◌}
use mathlib.Core.Bool.{Bool, true, false, ◌&&◌, ◌||◌}
use mathlib.Core.List.{List}
use Prim.Native.Nat.{ℕ, ◌≤◌}
use lib.Dec.{eqb}
use lib.ListN.{set}
use borrow.Author.Tests.{eq-eqb, ne_eqb}
use Rattle.basics.proofs.BoolLaws.{and_left, and_right, and_not_left}
use Rattle.marks.specs.Held.{highest_of}
use Rattle.downstream.specs.declared.state.Cluster.{Cluster}
use Rattle.downstream.specs.declared.state.Report.{Report}
use Rattle.downstream.specs.State.{point_from}
use Rattle.judging.specs.declared.complaints.Hearing.{Hearing}
use Rattle.judging.specs.Complaints.{is_again}
use Rattle.words.specs.Taken.{word_at, column_at, cluster_at}

pub hearing_told : (i c mask high : ℕ) (former report : Report) → high ≡ highest_of c mask → former ≡ report
    → ◌≡◌ {A = Hearing} (record { member = i; number = c; mask = mask; highest = high; again = former.heard && eqb former.number c })
    (record { member = i; number = c; mask = mask; highest = highest_of c mask; again = is_again report c })
hearing_told i c mask high former report e f = rw (e, f) refl

module _ (ws : List ℕ) (i c : ℕ) (cluster : Cluster) (ec : cluster ≡ cluster_at ws 67) where
  pub receiving_few : word_at ws 67 ≤ 64 → cluster.members ≤ 64
  unfolding cluster_at
  receiving_few l = rw ec l

  pub point_moves : (numbers : List ℕ) (p : ℕ) → numbers ≡ column_at ws 137 → p ≡ point_from cluster (set numbers i c) → p ≡ point_from (cluster_at ws 67) (set (column_at ws 137) i c)
  point_moves numbers p en e = e ∙ rw (ec, en) refl

-- ---- whether a report changes no entry
pub kept_point : (p q : ℕ) (b : Bool) → p ≡ q → true ≡ (eqb p q || b)
kept_point p q b e = simp (eq-eqb p q e)

pub moved_point : (p q : ℕ) (b r : Bool) → (p ≡ q → ⊥) → r ≡ b → r ≡ (eqb p q || b)
moved_point p q b r n e = simp (ne_eqb p q n) e

pub not_content : (a b c d : Bool) → (b && c) ≡ false → false ≡ (a && b && c && d)
not_content true true c d e = sym (and_not_left c d e)
not_content true false c d e = refl
not_content false b c d e = refl

pub content : (a b c d x y : Bool) → (b && c) ≡ true → x ≡ a → y ≡ d → (x && y) ≡ (a && b && c && d)
content a b c d x y e f g = rw (f, g, and_left b c e, and_right b c e) (both a d)
  where
    both : (a d : Bool) → (a && d) ≡ (a && true && true && d)
    both true d = refl
    both false d = refl
