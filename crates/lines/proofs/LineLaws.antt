-- Fields and lines as the code writes them: that there is room for each, where it ends, and what stands in the output. Assumes nothing.
use mathlib.Core.Path.{◌≡◌, refl, ap, sym, ◌∙◌}
use mathlib.Core.List.{List, [], ◌∷◌, ◌++◌, append_assoc}
use Prim.Native.Nat.{ℕ, ◌+◌, ◌^◌, ◌<◌, ◌≤◌}
use native.Mathlib.Omega.{arith}
use lib.ListN.{length, set, length-append}
use mir.Val.{Fits}
use mir.Syntax.{w64}
use Rattle.deal.specs.Pairs.{PairAnswer}
use Rattle.circle.specs.Positions.{resend_from}
use Rattle.circle.specs.declared.walk.Position.{Position}
use Rattle.circle.specs.declared.walk.Resend.{Resend}
use Rattle.lines.specs.Words.{bytes_of}
use Rattle.lines.specs.Text.{digits_of, field_of, line_of, put}
use Rattle.lines.specs.Lines.{refused_text, header_line, copy_line, step_line}
use Rattle.lines.proofs.TextLaws.{put_more, put_next}

-- ---- a number and the byte that ends it
pub length_field : (x e : ℕ) → length (field_of x e) ≡ length (digits_of x) + 1
unfolding field_of
length_field x e = length-append (digits_of x) (e ∷ [])

module _ (x e at : ℕ) (o : List ℕ) (r : at + length (field_of x e) ≤ length o) where
  pub number_fits_in : at + length (digits_of x) ≤ length o
  number_fits_in = omega (arith, length_field x e)

  module _ (n : ℕ) (p : List ℕ) (h : n ≡ at + length (digits_of x)) (w : p ≡ put at (digits_of x) o) where
    pub field_room : n < length o
    field_room = omega (arith, length_field x e)

    pub field_fits : length o < 2 ^ 64 → Fits w64 (n + 1)
    field_fits b = record { fits = omega (arith, field_room) }

    pub field_end : n + 1 ≡ at + length (field_of x e)
    field_end = omega (arith, length_field x e)

    pub field_put : set p n e ≡ put at (field_of x e) o
    unfolding field_of
    field_put = rw (w, h) (put_more at (digits_of x) o e (omega (arith, field_room)))

-- ---- four numbers
pub length_line : (a b c d : ℕ) → length (line_of a b c d) ≡ length (field_of a 32) + length (field_of b 32) + length (field_of c 32) + length (field_of d 10)
unfolding line_of
length_line a b c d = simp length-append (omega arith)

module _ (a b c d at : ℕ) (o : List ℕ) (room : at + length (line_of a b c d) ≤ length o) where
  pub line_room : at + length (field_of a 32) ≤ length o
  line_room = omega (arith, length_line a b c d)

  module _ (p : ℕ) (o₁ : List ℕ) (ep : p ≡ at + length (field_of a 32)) (n₁ : length o₁ ≡ length o) where
    pub line_room_2 : p + length (field_of b 32) ≤ length o₁
    line_room_2 = omega (arith, length_line a b c d)

    module _ (q : ℕ) (o₂ : List ℕ) (eq : q ≡ p + length (field_of b 32)) (n₂ : length o₂ ≡ length o₁) where
      pub line_room_3 : q + length (field_of c 32) ≤ length o₂
      line_room_3 = omega (arith, length_line a b c d)

      module _ (r : ℕ) (o₃ : List ℕ) (er : r ≡ q + length (field_of c 32)) (n₃ : length o₃ ≡ length o₂) where
        pub line_room_4 : r + length (field_of d 10) ≤ length o₃
        line_room_4 = omega (arith, length_line a b c d)

-- the whole line, from its four fields
module _ (a b c d at p q r s : ℕ) (o o₁ o₂ o₃ o₄ : List ℕ) (room : at + length (line_of a b c d) ≤ length o)
    (ep : p ≡ at + length (field_of a 32)) (eq : q ≡ p + length (field_of b 32)) (er : r ≡ q + length (field_of c 32)) (es : s ≡ r + length (field_of d 10)) where
  pub line_end : s ≡ at + length (line_of a b c d)
  line_end = omega (arith, length_line a b c d)

  pub line_put : o₁ ≡ put at (field_of a 32) o → o₂ ≡ put p (field_of b 32) o₁ → o₃ ≡ put q (field_of c 32) o₂ → o₄ ≡ put r (field_of d 10) o₃ → o₄ ≡ put at (line_of a b c d) o
  unfolding line_of
  line_put w₁ w₂ w₃ w₄ =
      let l = length_line a b c d in
      let A = field_of a 32 in
      let B = field_of b 32 in
      let C = field_of c 32 in
      let D = field_of d 10 in
      let u₂ : o₂ ≡ put at (A ++ B) o = put_next at p A B o o₁ o₂ ep w₁ w₂ (omega arith) in
      let f₂ : q ≡ at + length (A ++ B) = rw length-append (omega arith) in
      let u₃ : o₃ ≡ put at (A ++ B ++ C) o = put_next at q (A ++ B) C o o₂ o₃ f₂ u₂ w₃ (rw length-append (omega arith)) in
      let f₃ : r ≡ at + length (A ++ B ++ C) = simp length-append (omega arith) in
      put_next at r (A ++ B ++ C) D o o₃ o₄ f₃ u₃ w₄ (simp length-append (omega arith))
      ∙ ap (λ (l : List ℕ). put at l o) (append_assoc (A ++ B) C D ∙ append_assoc A B (C ++ D))

-- ---- a text of two parts, the second behind the first
module _ (t a b : List ℕ) (e : t ≡ a ++ b) (at : ℕ) (h : at ≡ 0 + length a) where
  lengths : length t ≡ length a + length b
  lengths = ap length e ∙ length-append a b

  both_end : (r : ℕ) → r ≡ at + length b → r ≡ length t
  both_end r k = omega (arith, lengths)

  pub both_put : (o p q : List ℕ) → length t ≤ length o → p ≡ put 0 a o → q ≡ put at b p → q ≡ put 0 t o
  both_put o p q room u v = put_next 0 at a b o p q h u v (omega (arith, lengths)) ∙ ap (λ (l : List ℕ). put 0 l o) (sym e)

pub refused_parts : (n : ℕ) → refused_text n ≡ bytes_of "refused " ++ field_of n 10
unfolding refused_text
refused_parts n = refl

pub refused_end : (n at r : ℕ) → at ≡ 0 + length (bytes_of "refused ") → r ≡ at + length (field_of n 10) → r ≡ length (refused_text n)
refused_end n at r h k = both_end (refused_text n) (bytes_of "refused ") (field_of n 10) (refused_parts n) at h r k

pub head_parts : (p : PairAnswer) → header_line ++ copy_line p ≡ bytes_of "resend from to run\n" ++ line_of 0 p.sender p.receiver 0
unfolding header_line copy_line
head_parts p = refl

pub head_end : (p : PairAnswer) (at r : ℕ) → at ≡ 0 + length (bytes_of "resend from to run\n") → r ≡ at + length (line_of 0 p.sender p.receiver 0) → r ≡ length (header_line ++ copy_line p)
head_end p at r h k = both_end (header_line ++ copy_line p) (bytes_of "resend from to run\n") (line_of 0 p.sender p.receiver 0) (head_parts p) at h r k

-- ---- the line of a resend that starts at a position
module _ (n : ℕ) (pos : Position) (z : Resend) (e : z ≡ resend_from pos) (from to : ℕ) (f : from ≡ z.sender) (g : to ≡ z.receiver) where
  step_is : line_of n from to z.run ≡ step_line (resend_from pos) n
  unfolding step_line
  step_is = rw (f, g, e) refl

  pub step_end : (at r : ℕ) → r ≡ at + length (line_of n from to z.run) → r ≡ at + length (step_line (resend_from pos) n)
  step_end at r h = rw step_is at h

  pub step_put : (at : ℕ) (o p : List ℕ) → p ≡ put at (line_of n from to z.run) o → p ≡ put at (step_line (resend_from pos) n) o
  step_put at o p h = rw step_is at h
