-- The lines of the resends as the code writes them, one step on the circle a line. Assumes nothing.
use mathlib.Core.Path.{◌≡◌, refl, ap, sym, ◌∙◌}
use mathlib.Core.List.{List, [], ◌++◌, append-nil}
use Prim.Native.Nat.{ℕ, suc, ◌+◌, ◌*◌, ◌-◌, ◌<◌, ◌≤◌}
use native.Mathlib.Omega.{arith}
use lib.ListN.{length, take, drop, length-append, take-append-drop}
use Rattle.basics.specs.Sums.{join_below}
use Rattle.circle.specs.Positions.{Sized, position_of, resend_from, resend_of}
use Rattle.circle.specs.declared.walk.Position.{Position}
use Rattle.circle.proofs.PositionLaws.{resend_told}
use Rattle.lines.specs.Text.{put}
use Rattle.lines.specs.Lines.{step_line, walk_lines, Short}
use Rattle.lines.proofs.TextLaws.{put_next}
use Rattle.lines.proofs.SizeLaws.{resend_short, step_few, walk_few}

-- the lines are in the order of the resends: that of resend n comes behind those before it
pub walk_more : (ss rs : List ℕ) (i n : ℕ) → 1 ≤ n → walk_lines ss rs i (n + 1 - 1) ≡ walk_lines ss rs i (n - 1) ++ step_line (resend_of ss rs i n) n
unfolding walk_lines join_below
walk_more ss rs i n h =
    let e : n + 1 - 1 ≡ suc (n - 1) = omega arith in
    let k : n - 1 + 1 ≡ n = omega arith in
    rw e (ap (λ (m : ℕ). join_below (n - 1) (λ j. step_line (resend_of ss rs i (j + 1)) (j + 1)) ++ step_line (resend_of ss rs i m) m) k)

module _ (ss rs : List ℕ) (i at : ℕ) (o : List ℕ) where
  pub walk_start_end : at ≡ at + length (walk_lines ss rs i (1 - 1))
  unfolding walk_lines join_below
  walk_start_end = omega arith

  pub walk_start : o ≡ put at (walk_lines ss rs i (1 - 1)) o
  unfolding walk_lines join_below put
  walk_start =
      let e : at + 0 ≡ at = omega arith in
      sym (ap (λ (k : ℕ). take at o ++ [] ++ drop k o) e ∙ ap (λ (l : List ℕ). l ++ drop at o) (append-nil (take at o)) ∙ take-append-drop at o)

  module _ (a : Sized ss) (b : Sized rs) (n : ℕ) (pos : Position) (e : pos ≡ position_of ss rs i n) where
    resend_is : resend_from pos ≡ resend_of ss rs i n
    resend_is = resend_told ss rs a b pos (resend_from pos) i n e refl

    pub walk_short : Short (resend_from pos)
    walk_short = rw resend_is (resend_short ss rs a b i n)

  module _ (n to : ℕ) (t : to ≡ at + length (walk_lines ss rs i (n - 1))) (a : Sized ss) (b : Sized rs) (some : 1 ≤ n) where
    -- 27 bytes for each line that is to come
    pub walk_room : (last : ℕ) (p : List ℕ) → n < last + 1 → last < 1_000 → at + 27 * last ≤ length o → length p ≡ length o → to + 27 ≤ length p
    walk_room last p more few room same = omega (arith, walk_few ss rs a b i (n - 1) (omega arith))

    module _ (pos : Position) (e : pos ≡ position_of ss rs i n) where
      line_is : step_line (resend_from pos) n ≡ step_line (resend_of ss rs i n) n
      line_is = ap (λ (z : _). step_line z n) (resend_is a b n pos e)

      pub walk_turn_end : (r : ℕ) → r ≡ to + length (step_line (resend_from pos) n) → r ≡ at + length (walk_lines ss rs i (n + 1 - 1))
      walk_turn_end r f = rw (walk_more ss rs i n some, length-append) (omega (arith, ap length line_is))

      pub walk_turn : (last : ℕ) (p q : List ℕ) → q ≡ put to (step_line (resend_from pos) n) p → p ≡ put at (walk_lines ss rs i (n - 1)) o → last < 1_000 → n < last + 1 → at + 27 * last ≤ length o
          → q ≡ put at (walk_lines ss rs i (n + 1 - 1)) o
      walk_turn last p q v u few more room =
          put_next at to (walk_lines ss rs i (n - 1)) (step_line (resend_from pos) n) o p q t u v
          (omega (arith, ap length line_is, step_few ss rs a b i n (omega arith), walk_room last o more few room refl))
          ∙ ap (λ (l : List ℕ). put at l o) (ap (λ (l : List ℕ). walk_lines ss rs i (n - 1) ++ l) line_is ∙ sym (walk_more ss rs i n some))

  module _ (n to last : ℕ) (p : List ℕ) (l : 1 ≤ last + 1 → n ≤ last + 1) (m : last + 1 ≤ n) where
    pub walk_done_end : to ≡ at + length (walk_lines ss rs i (n - 1)) → to ≡ at + length (walk_lines ss rs i last)
    walk_done_end t = let e : n - 1 ≡ last = omega arith in rw e at t

    pub walk_done : p ≡ put at (walk_lines ss rs i (n - 1)) o → p ≡ put at (walk_lines ss rs i last) o
    walk_done u = let e : n - 1 ≡ last = omega arith in rw e at u
