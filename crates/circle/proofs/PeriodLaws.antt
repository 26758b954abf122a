-- The walk goes round: from equal positions it goes on equally, so that once it is back, whole turns may be left out. Assumes nothing.
use mathlib.Core.Path.{◌≡◌, ap, ap₂, sym, ◌∙◌}
use mathlib.Core.Logic.{inl, inr}
use mathlib.Core.Bool.{Bool, true, cond}
use mathlib.Core.List.{List}
use Prim.Native.Nat.{ℕ, zero, suc, ◌+◌, ◌-◌, ◌*◌, ◌/◌, ◌%◌, ◌≤◌, ◌<◌}
use native.Mathlib.Nat.{div-add-mod', suc-mul}
use native.Mathlib.Omega.{arith}
use lib.Dec.{eqb}
use borrow.Author.Tests.{eqb-true}
use Rattle.basics.proofs.BoolLaws.{bool_cases, and_left, and_right}
use Rattle.circle.specs.Stretches.{same_place}
use Rattle.circle.specs.Positions.{Sized, circle_of, position_of, same_position, next_of}
use Rattle.circle.specs.declared.stretches.Place.{Place}
use Rattle.circle.specs.declared.walk.Position.{Position}
use Rattle.circle.specs.declared.walk.Circle.{Circle}
use Rattle.circle.proofs.PositionLaws.{next_position, next_told}

same_place_lem : (a b : Place) → same_place a b ≡ true → a ≡ b
unfolding same_place
same_place_lem a b t =
    ap₂ (λ (m n : ℕ). record { member = m; left = n })
    (eqb-true a.member b.member (and_left (eqb a.member b.member) (eqb a.left b.left) t))
    (eqb-true a.left b.left (and_right (eqb a.member b.member) (eqb a.left b.left) t))

pub same_position_lem : (a b : Position) → same_position a b ≡ true → a ≡ b
unfolding same_position
same_position_lem a b t =
    ap₂ (λ (p q : Place). record { sender = p; receiver = q })
    (same_place_lem a.sender b.sender (and_left (same_place a.sender b.sender) (same_place a.receiver b.receiver) t))
    (same_place_lem a.receiver b.receiver (and_right (same_place a.sender b.sender) (same_place a.receiver b.receiver) t))

module _ (ss rs : List ℕ) (a : Sized ss) (b : Sized rs) where
  -- from equal positions on
  pub shifted : (i j m n : ℕ) → position_of ss rs i (1 + m) ≡ position_of ss rs j (1 + n) → (d : ℕ) → position_of ss rs i (1 + m + d) ≡ position_of ss rs j (1 + n + d)
  shifted i j m n e zero = let f : 1 + m + 0 ≡ 1 + m = omega arith in let g : 1 + n + 0 ≡ 1 + n = omega arith in rw (f, g) e
  shifted i j m n e (suc d) =
      let f : 1 + m + suc d ≡ 1 + m + d + 1 = omega arith in
      let g : 1 + n + suc d ≡ 1 + n + d + 1 = omega arith in
      rw (f, g)
      (sym (next_position ss rs a b i (1 + m + d) (omega arith)) ∙ ap (next_of ss rs (circle_of ss rs)) (shifted i j m n e d) ∙ next_position ss rs a b j (1 + n + d) (omega arith))

  module _ (i k : ℕ) (back : position_of ss rs i (k + 1) ≡ position_of ss rs i 1) where
    turns : (t x : ℕ) → position_of ss rs i (1 + (t * k + x)) ≡ position_of ss rs i (1 + x)
    turns zero x = let f : 1 + (0 * k + x) ≡ 1 + x = omega arith in rw f
    turns (suc t) x =
        let f : 1 + (suc t * k + x) ≡ 1 + k + (t * k + x) = rw (suc-mul t k) (omega arith) in
        let g : k + 1 ≡ 1 + k = omega arith in
        ap (position_of ss rs i) f ∙ shifted i i k 0 (rw g at back) (t * k + x) ∙ turns t x

    -- whole turns left out
    pub turned : (n : ℕ) → position_of ss rs i (1 + n) ≡ position_of ss rs i (1 + n % k)
    turned n = ap (λ (m : ℕ). position_of ss rs i (1 + m)) (sym (div-add-mod' n k)) ∙ turns (n / k) (n % k)

-- ---- the walk to resend n, of which k steps are done
pub walk_next : (ss rs : List ℕ) → Sized ss → Sized rs → (c : Circle) → c ≡ circle_of ss rs → (at next : Position) (i k : ℕ) → at ≡ position_of ss rs i (k + 1)
    → next ≡ next_of ss rs c at → next ≡ position_of ss rs i (k + 1 + 1)
walk_next ss rs a b c ec at next i k ea en = next_told ss rs a b c ec at next i (k + 1) (omega arith) ea en

module _ (ss rs : List ℕ) (i n : ℕ) where
  pub walk_start : 1 ≤ n → position_of ss rs i (1 + (n - 1)) ≡ position_of ss rs i n
  walk_start h = let e : 1 + (n - 1) ≡ n = omega arith in rw e

  module _ (a : Sized ss) (b : Sized rs) (c : Circle) (ec : c ≡ circle_of ss rs) (k left : ℕ) (some : 0 < left) (rest : position_of ss rs i (k + 1 + left) ≡ position_of ss rs i n) where
    pub walk_turn : (first at next : Position) (back : Bool) (r : ℕ) → first ≡ position_of ss rs i 1 → at ≡ position_of ss rs i (k + 1) → next ≡ next_of ss rs c at
        → back ≡ same_position next first → r ≡ cond back ((left - 1) % (k + 1)) (left - 1) → position_of ss rs i (k + 1 + 1 + r) ≡ position_of ss rs i n
    walk_turn first at next back r ef ea en eb er =
        let stands : next ≡ position_of ss rs i (k + 1 + 1) = walk_next ss rs a b c ec at next i k ea en in
        let all : position_of ss rs i (k + 1 + 1 + (left - 1)) ≡ position_of ss rs i n = (let e : k + 1 + 1 + (left - 1) ≡ k + 1 + left = omega arith in rw e rest) in
        elim (bool_cases back) [
          | inl t ↦ (let back : position_of ss rs i (k + 1 + 1) ≡ position_of ss rs i 1 = sym stands ∙ same_position_lem next first (sym eb ∙ t) ∙ ef in
              let z : r ≡ (left - 1) % (k + 1) = er ∙ simp t in
              rw z (from_first back ((left - 1) % (k + 1)) ∙ sym (turned ss rs a b i (k + 1) back (left - 1)) ∙ sym (from_first back (left - 1)) ∙ all))
          | inr t ↦ (let z : r ≡ left - 1 = er ∙ simp t in rw z all)
        ]
      where
        from_first : position_of ss rs i (k + 1 + 1) ≡ position_of ss rs i 1 → (d : ℕ) → position_of ss rs i (k + 1 + 1 + d) ≡ position_of ss rs i (1 + d)
        from_first e d =
            let f : k + 1 + 1 ≡ 1 + (k + 1) = omega arith in
            rw f (shifted ss rs a b i i (k + 1) 0 (rw f at e) d)

  pub walk_done : (at : Position) (k left : ℕ) → at ≡ position_of ss rs i (k + 1) → position_of ss rs i (k + 1 + left) ≡ position_of ss rs i n → left ≤ 0 → at ≡ position_of ss rs i n
  walk_done at k left u v h = let e : k + 1 + left ≡ k + 1 = omega arith in u ∙ rw e at v
