-- How long a line can be, three digits for the resend number, two for a member, sixteen for a run; and that there is room for it.
-- Assumes nothing.
use mathlib.Core.Path.{◌≡◌}
use mathlib.Core.List.{List, ◌++◌}
use Prim.Native.Nat.{ℕ, zero, suc, ◌+◌, ◌*◌, ◌^◌, ◌<◌, ◌≤◌}
use native.Mathlib.Omega.{arith}
use lib.Dec.{lit<}
use lib.ListN.{length, length-append}
use Rattle.basics.specs.Sums.{join_below}
use Rattle.deal.specs.Pairs.{PairAnswer}
use Rattle.basics.proofs.JoinLaws.{length_join_suc}
use Rattle.circle.specs.Positions.{Sized, resend_of, resend_from}
use Rattle.circle.specs.declared.walk.Position.{Position}
use Rattle.circle.specs.declared.walk.Resend.{Resend}
use Rattle.circle.proofs.CircleLaws.{few_units}
use borrow.Author.Rules.{rules}
use Rattle.circle.proofs.WalkLaws.{sender_in, receiver_in, run_in}
use Rattle.lines.specs.Words.{bytes_of}
use Rattle.lines.specs.Text.{digits_of, field_of, line_of}
use Rattle.lines.specs.Lines.{refused_text, header_line, copy_line, step_line, walk_lines, Short}
use Rattle.lines.proofs.TextLaws.{digits_few, digits_le}
use Rattle.lines.proofs.LineLaws.{length_field, length_line}

-- a number below 10 ^ (n + 1) and the byte that ends it
field_few : (n x e : ℕ) → x < 10 ^ suc n → length (field_of x e) ≤ n + 2
unfolding digits_of
field_few n x e h = omega (arith, length_field x e, digits_few n 20 x h)

pub line_few : (n from to run : ℕ) → n < 1_000 → from < 100 → to < 100 → run < 10_000_000_000_000_000 → length (line_of n from to run) ≤ 27
line_few n from to run a b c d =
    omega (arith, length_line n from to run, field_few 2 n 32 a, field_few 1 from 32 b, field_few 1 to 32 c, field_few 15 run 10 d)

-- ---- a refusal
pub refused_few : (n : ℕ) → length (refused_text n) ≤ 29
unfolding refused_text digits_of
refused_few n = rw length-append (omega (arith, length_field n 10, digits_le 20 n))

module _ (o : List ℕ) (room : 29 ≤ length o) where
  pub refused_room : (n : ℕ) → length (refused_text n) ≤ length o
  refused_room n = omega (arith, refused_few n)

  -- a number behind the words
  pub refused_number_room : (n at : ℕ) (p : List ℕ) → at ≡ 0 + length (bytes_of "refused ") → length p ≡ length o → at + length (field_of n 10) ≤ length p
  unfolding digits_of
  refused_number_room n at p h l = omega (arith, length_field n 10, digits_le 20 n)

-- ---- the header has 19 bytes, and the line of the first copy at most 10
module _ (n from to run : ℕ) (a : n < 10) (b : from < 100) (c : to < 100) (d : run < 10) where
  copy_few : length (line_of n from to run) ≤ 10
  copy_few = omega (arith, length_line n from to run, field_few 0 n 32 a, field_few 1 from 32 b, field_few 1 to 32 c, field_few 0 run 10 d)

  pub copy_room : (o p : List ℕ) (at : ℕ) → 29 ≤ length o → at ≡ 0 + length (bytes_of "resend from to run\n") → length p ≡ length o → at + length (line_of n from to run) ≤ length p
  copy_room o p at room h l = omega (arith, copy_few)

module _ (p : PairAnswer) (a : p.sender < 100) (b : p.receiver < 100) where
  pub head_few : length (header_line ++ copy_line p) ≤ 29
  unfolding header_line copy_line
  head_few = rw length-append (omega (arith, copy_few 0 p.sender p.receiver 0 (lit< tt) a b (lit< tt)))

  pub head_room : (o : List ℕ) → 29 ≤ length o → length (header_line ++ copy_line p) ≤ length o
  head_room o room = omega (arith, head_few)

-- ---- the line of a resend
pub line_room : (n from to run at : ℕ) (o : List ℕ) → n < 1_000 → from < 100 → to < 100 → run < 10_000_000_000_000_000 → at + 27 ≤ length o → at + length (line_of n from to run) ≤ length o
line_room n from to run at o a b c d room = omega (arith, line_few n from to run a b c d)

module _ (z : Resend) (pos : Position) (e : z ≡ resend_from pos) (h : Short (resend_from pos)) where
  pub sender_short : (x : ℕ) → x ≡ z.sender → x < 100
  sender_short x q = rw (q, e) h.short_sender

  pub receiver_short : (x : ℕ) → x ≡ z.receiver → x < 100
  receiver_short x q = rw (q, e) h.short_receiver

  pub run_short : z.run < 10_000_000_000_000_000
  run_short = rw e h.short_run

pub ruleset short_lines = (line_room, sender_short, receiver_short, run_short, rules)

-- ---- the lines of all resends
module _ (ss rs : List ℕ) (a : Sized ss) (b : Sized rs) (i : ℕ) where
  pub resend_short : (n : ℕ) → Short (resend_of ss rs i n)
  unfolding resend_of
  resend_short n =
      record {
        short_sender = omega (arith, sender_in ss rs a b i n, a.few_members);
        short_receiver = omega (arith, receiver_in ss rs a b i n, b.few_members);
        short_run = omega (arith, run_in ss rs a b i n, few_units ss rs a b);
      }

  pub step_few : (n : ℕ) → n < 1_000 → length (step_line (resend_of ss rs i n) n) ≤ 27
  unfolding step_line
  step_few n h =
      let s = resend_short n in
      line_few n (resend_of ss rs i n).sender (resend_of ss rs i n).receiver (resend_of ss rs i n).run h s.short_sender s.short_receiver s.short_run

  pub walk_few : (m : ℕ) → m < 1_000 → length (walk_lines ss rs i m) ≤ 27 * m
  unfolding walk_lines join_below
  walk_few zero h = omega arith
  walk_few (suc m) h = omega (
    arith,
    length_join_suc (λ j. step_line (resend_of ss rs i (j + 1)) (j + 1)) m,
    walk_few m (omega arith),
    step_few (m + 1) (omega arith),
  )
