-- The complaint sets by words over the messages after p, bit for bit. Assumes nothing.
use mathlib.Core.Path.{◌≡◌, refl, ap, sym, ◌∙◌}
use mathlib.Core.Bool.{Bool, true, false, cond, not, ◌&&◌, ◌||◌}
use mathlib.Core.List.{List}
use mathlib.Core.Logic.{inl, inr}
use Prim.Native.Nat.{ℕ, zero, suc, ◌+◌, ◌-◌, ◌^◌, ◌<◌}
use native.Mathlib.Omega.{arith}
use lib.Bits.{bit_or, bit_and}
use mir.Val.{bool_byte}
use lib.Dec.{leb, ltb, eqb}
use lib.ListN.{get_or}
use borrow.Author.Tests.{lt-ltb, le-ltb, le-leb, leb-true, ltb-true, ne_eqb, eqb-true}
use Rattle.basics.proofs.BoolLaws.{bool_cases, same_test, eqb_same}
use Rattle.basics.proofs.SumLaws.{list_at}
use Rattle.hamilton.proofs.CountLaws.{as_number}
use Rattle.marks.specs.Masks.{is_marked, mark_of, unmark_of, among_of}
use Rattle.marks.specs.Held.{holds_of, highest_of, held_after}
use Rattle.marks.proofs.MaskLaws.{marked_none, marked_low, marked_step}
use Rattle.marks.proofs.SetLaws.{marked_and, marked_or, marked_not, set_lt}
use Rattle.marks.proofs.FirstLaws.{among_at}
use Rattle.marks.proofs.AfterLaws.{after_at}
use Rattle.downstream.specs.State.{offset_at}
use Rattle.judging.specs.Complaints.{complains, complaints_after}
use Rattle.words.specs.Taken.{word_at}
use Rattle.steps.specs.Columns.{open_at, heard_after, changed_at, told_set}
use Rattle.steps.proofs.EntryLaws.{same_list}

-- a test that is made a number
pub missing_told : (p highest below less : ℕ) (t : Bool) → less ≡ highest - 1 → below ≡ held_after p less 0 → bit_or below (bool_byte t) ≡ bit_or (held_after p (highest - 1) 0) (cond t 1 0)
missing_told p highest below less t el eb = rw (eb, el, as_number t) refl

-- and has bit 0 alone
first_bit_lem : (t : Bool) (o : ℕ) → is_marked (cond t 1 0) o ≡ (t && eqb o 0)
first_bit_lem true zero = marked_low 1
first_bit_lem true (suc o) = marked_step 1 o ∙ marked_none o ∙ sym (ne_eqb (suc o) 0 (λ e. omega arith))
first_bit_lem false o = marked_none o

-- ---- message p + 1 + o
module _ (c mask : ℕ) (again : Bool) (p o : ℕ) (l : o < 64) where
  abbrev k : ℕ
  k = p + 1 + o

  abbrev missing : ℕ
  missing = bit_or (held_after p (highest_of c mask - 1) 0) (cond (again && eqb c p) 1 0)

  below_at : is_marked (held_after p (highest_of c mask - 1) 0) o ≡ ltb k (highest_of c mask)
  unfolding holds_of
  below_at = after_at p (highest_of c mask - 1) 0 o l ∙ ap (λ (t : Bool). leb k (highest_of c mask - 1) || t) (marked_none (k - (highest_of c mask - 1 + 1))) ∙ same_test (leb k (highest_of c mask - 1) || false) (ltb k (highest_of c mask))
      (λ t. lt-ltb k (highest_of c mask) (let m = leb-true k (highest_of c mask - 1) (or_false _ t) in omega arith))
      (λ t. ap (λ (b : Bool). b || false) (le-leb k (highest_of c mask - 1) (let m = ltb-true k (highest_of c mask) t in omega arith)))
    where
      or_false : (b : Bool) → (b || false) ≡ true → b ≡ true
      or_false true e = refl
      or_false false e = e

  repeat_at : (again && eqb c p && eqb o 0) ≡ (again && eqb k (c + 1) && eqb c p)
  repeat_at = elim (bool_cases (eqb c p)) [
    | inl t ↦ (let z : c ≡ p = eqb-true c p t in simp (t, eqb_same o 0 k (c + 1) (λ e. omega arith) (λ e. omega arith)) (both again (eqb k (c + 1))))
    | inr t ↦ simp t (none again (eqb k (c + 1)))
  ]
    where
      both : (a b : Bool) → (a && true && b) ≡ (a && b && true)
      both true true = refl
      both true false = refl
      both false b = refl

      none : (a b : Bool) → (a && false && eqb o 0) ≡ (a && b && false)
      none true true = refl
      none true false = refl
      none false b = refl

  missing_at : is_marked missing o ≡ (ltb k (highest_of c mask) || (again && eqb k (c + 1) && eqb c p))
  missing_at = marked_or (held_after p (highest_of c mask - 1) 0) (cond (again && eqb c p) 1 0) o ∙ rw (below_at, first_bit_lem (again && eqb c p) o, repeat_at) refl

  bits_told : (set i : ℕ) → cond (is_marked (held_after p c mask) o) (unmark_of set i) (cond (is_marked missing o) (mark_of set i) set) ≡ complaints_after i c mask again p k set
  unfolding complaints_after complains
  bits_told set i = rw (after_at p c mask o l, missing_at) (elim (bool_cases (holds_of c mask k)) [ inl t ↦ simp t | inr t ↦ simp t ])

-- ---- the whole column
module _ (ws : List ℕ) (i c mask : ℕ) (again : Bool) (p n : ℕ) where
  abbrev held : ℕ
  held = held_after p c mask

  abbrev lacked : ℕ
  lacked = bit_or (held_after p (highest_of c mask - 1) 0) (cond (again && eqb c p) 1 0)

  abbrev gains : ℕ
  gains = among_of held 0 n

  abbrev lacks : ℕ
  lacks = among_of (bit_and lacked (18446744073709551615 - held)) 0 n

  held_lt : held < 2 ^ 64
  unfolding held_after
  held_lt = set_lt (λ o. holds_of c mask (p + 1 + o)) 64

  gains_at : (o : ℕ) → o < 64 → is_marked gains o ≡ (is_marked held o && ltb o n && true)
  gains_at o l = among_at held 0 n o l ∙ simp (le-ltb o 0 (omega arith))

  lacks_at : (o : ℕ) → o < 64 → is_marked lacks o ≡ ((is_marked lacked o && not (is_marked held o)) && ltb o n && true)
  lacks_at o l = among_at (bit_and lacked (18446744073709551615 - held)) 0 n o l ∙ simp (le-ltb o 0 (omega arith), marked_and lacked (18446744073709551615 - held) o, marked_not 64 held o held_lt l)

  one_place : (h m o : Bool) (w : ℕ)
      → cond ((m && not h) && o && true) (mark_of (cond (h && o && true) (unmark_of (cond o w 0) i) (cond o w 0)) i) (cond (h && o && true) (unmark_of (cond o w 0) i) (cond o w 0))
      ≡ cond o (cond h (unmark_of w i) (cond m (mark_of w i) w)) 0
  one_place true true true w = refl
  one_place true true false w = refl
  one_place true false true w = refl
  one_place true false false w = refl
  one_place false true true w = refl
  one_place false true false w = refl
  one_place false false true w = refl
  one_place false false false w = refl

  open_place : (j : ℕ) → j < 64 → get_or (open_at ws 393 p n) j 0 ≡ cond (ltb (offset_at p j) n) (word_at ws (393 + j)) 0
  unfolding open_at
  open_place j m = list_at (λ x. cond (ltb (offset_at p x) n) (word_at ws (393 + x)) 0) 0 64 j m

  changed_place : (f : ℕ → ℕ) (messages : ℕ) (l : List ℕ) (j : ℕ) → j < 64 → get_or (changed_at f messages p l) j 0 ≡ cond (is_marked messages (offset_at p j)) (f (get_or l j 0)) (get_or l j 0)
  unfolding changed_at
  changed_place f messages l j m = list_at (λ x. cond (is_marked messages (offset_at p x)) (f (get_or l x 0)) (get_or l x 0)) 0 64 j m

  abbrev out : List ℕ
  out = changed_at (told_set false i) gains p (open_at ws 393 p n)

  out_place : (j : ℕ) → j < 64 → get_or out j 0 ≡ cond (is_marked held (offset_at p j) && ltb (offset_at p j) n && true) (unmark_of (cond (ltb (offset_at p j) n) (word_at ws (393 + j)) 0) i) (cond (ltb (offset_at p j) n) (word_at ws (393 + j)) 0)
  unfolding told_set
  out_place j m = changed_place (told_set false i) gains (open_at ws 393 p n) j m ∙ rw (gains_at (offset_at p j) (omega arith), open_place j m) refl

  both : changed_at (told_set true i) lacks p out ≡ heard_after ws i c mask again p n
  unfolding changed_at heard_after told_set
  both = same_list (λ j. cond (is_marked lacks (offset_at p j)) (mark_of (get_or out j 0) i) (get_or out j 0)) (λ j. cond (ltb (offset_at p j) n) (complaints_after i c mask again p (p + 1 + offset_at p j) (word_at ws (393 + j))) 0) 0
      (λ j m. rw (out_place j m, lacks_at (offset_at p j) (omega arith)) (one_place (is_marked held (offset_at p j)) (is_marked lacked (offset_at p j)) (ltb (offset_at p j) n) (word_at ws (393 + j)))
      ∙ ap (λ (x : ℕ). cond (ltb (offset_at p j) n) x 0) (bits_told c mask again p (offset_at p j) (omega arith) (word_at ws (393 + j)) i))

pub heard_told : (ws : List ℕ) (i c mask : ℕ) (again : Bool) (p n highest held missing gains lacks : ℕ) (sets one two : List ℕ) → highest ≡ highest_of c mask → held ≡ held_after p c mask
    → missing ≡ bit_or (held_after p (highest - 1) 0) (cond (again && eqb c p) 1 0) → gains ≡ among_of held 0 n → lacks ≡ among_of (bit_and missing (18446744073709551615 - held)) 0 n
    → sets ≡ open_at ws 393 p n → one ≡ changed_at (told_set false i) gains p sets → two ≡ changed_at (told_set true i) lacks p one → two ≡ heard_after ws i c mask again p n
heard_told ws i c mask again p n highest held missing gains lacks sets one two eh ed em eg el es e f = f ∙ rw (e, es, el, eg, em, ed, eh) (both ws i c mask again p n)
