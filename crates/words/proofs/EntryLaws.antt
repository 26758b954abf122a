-- The entries judged in the words where they lie. Assumes nothing.
use mathlib.Core.Path.{◌≡◌, refl, ap, sym, ◌∙◌}
use mathlib.Core.Bool.{Bool, true, false, not, cond, ◌&&◌, ◌||◌}
use mathlib.Core.List.{List}
use Prim.Native.Nat.{ℕ, zero, suc, ◌+◌, ◌-◌, ◌%◌, ◌≤◌, ◌<◌}
use native.Mathlib.Decide.{dec_lt}
use native.Mathlib.Omega.{arith}
use lib.Bits.{bit_or}
use lib.Dec.{leb, ltb, eqb}
use borrow.Author.Rules.{rules}
use borrow.Author.Tests.{le-leb, lt-leb, leb-true, lt-ltb, le-ltb, eq-eqb, eqb-true, not-true, not-false}
use lib.ListN.{get_or}
use Rattle.basics.specs.Sums.{all_below, list_below}
use Rattle.basics.proofs.BoolLaws.{and_both, and_left, and_right, or_left, or_right, not_of_false, either, no_both, same_test}
use Rattle.basics.proofs.BitLaws.{or_zero}
use Rattle.basics.proofs.SumLaws.{all_at, all_of, all_cong, list_at}
use Rattle.marks.specs.Masks.{is_marked}
use Rattle.marks.proofs.MaskLaws.{marked_none}
use Rattle.downstream.specs.State.{no_entry, place_after, offset_at, held_by}
use Rattle.downstream.specs.Rows.{all_complaints_kept}
use Rattle.downstream.specs.Formed.{complaints_kept, entry_kept, entries_kept}
use Rattle.words.specs.Taken.{word_at, none_above, column_at, entry_in, entries_in}
use Rattle.words.specs.Entries.{closed_zero, count_after, counts_kept, set_after, sets_told, sets_kept}
use Rattle.words.specs.Straight.{any_in}
use Rattle.words.proofs.FitLaws.{none_at}
use Rattle.words.proofs.StraightLaws.{any_zero, any_count}

-- two conjunctions, number by number
all_both : (f g : ℕ → Bool) (n : ℕ) → (all_below n f && all_below n g) ≡ all_below n (λ o. f o && g o)
unfolding all_below
all_both f g zero = refl
all_both f g (suc n) = turn (all_below n f) (f n) (all_below n g) (g n) ∙ ap (λ (b : Bool). b && (f n && g n)) (all_both f g n)
  where
    turn : (a b c d : Bool) → ((a && b) && (c && d)) ≡ ((a && c) && (b && d))
    turn true true true d = refl
    turn true true false d = refl
    turn true false true d = refl
    turn true false false d = refl
    turn false b c d = refl

-- words that are zero, one by one
zero_at : (ws : List ℕ) (from n : ℕ) → none_above ws from n 0 ≡ true → (at j : ℕ) → from ≤ at + j → at + j < from + n → word_at ws (at + j) ≡ 0
zero_at ws from n h at j a b =
    let z : from + (at + j - from) ≡ at + j = omega arith in
    let w : word_at ws (at + j) ≤ 0 = rw z at (none_at ws from n 0 h (at + j - from) (omega arith)) in
    omega arith

zero_of : (ws : List ℕ) (from n at j : ℕ) → from ≡ at + j → ((i : ℕ) → j ≤ i → i < j + n → word_at ws (at + i) ≡ 0) → none_above ws from n 0 ≡ true
unfolding none_above
zero_of ws from n at j e h = all_of (λ i. leb (word_at ws (from + i)) 0) n (λ i l.
    let z : at + (j + i) ≡ from + i = omega arith in
    le-leb (word_at ws (from + i)) 0 (omega (arith, rw z at (h (j + i) (omega arith) (omega arith)))))

-- ---- the places that are not open
module _ (ws : List ℕ) (at p n : ℕ) (few : n ≤ 64) where
  abbrev first : ℕ
  first = p % 64

  abbrev closed : ℕ → Bool
  closed o = ltb o n || eqb (word_at ws (at + place_after p o)) 0

  -- by the place of a closed message
  closed_place : all_below 64 closed ≡ true → (j : ℕ) → j < 64 → n ≤ offset_at p j → word_at ws (at + j) ≡ 0
  closed_place h j l m =
      let o : ℕ = offset_at p j in
      let z : place_after p o ≡ j = omega arith in
      let w : closed o ≡ true = all_at closed 64 h o (omega arith) in
      rw z at (eqb-true (word_at ws (at + place_after p o)) 0 (simp (le-ltb o n m) at w))

  place_closed : ((j : ℕ) → j < 64 → n ≤ offset_at p j → word_at ws (at + j) ≡ 0) → all_below 64 closed ≡ true
  place_closed h = all_of closed 64 (λ o l. elim (dec_lt o n) [
    | yes m ↦ or_left (ltb o n) (eqb (word_at ws (at + place_after p o)) 0) (lt-ltb o n m)
    | no m ↦ or_right (ltb o n) (eqb (word_at ws (at + place_after p o)) 0) (eq-eqb (word_at ws (at + place_after p o)) 0 (h (place_after p o) (omega arith) (omega arith)))
  ])

  abbrev before : Bool
  before = none_above ws at first 0

  abbrev behind : Bool
  behind = none_above ws (at + (first + n)) (64 - (first + n)) 0

  -- before and behind the open ones
  pub closed_around : (a b : Bool) → first + n ≤ 64 → a ≡ before → b ≡ behind → (a && b) ≡ closed_zero ws at p n
  unfolding closed_zero
  closed_around a b l ea eb = rw (ea, eb) (same_test (before && behind) (all_below 64 closed)
      (λ t. place_closed (λ j m c. elim (dec_lt j first) [
        | yes x ↦ zero_at ws at first (and_left before behind t) at j (omega arith) (omega arith)
        | no x ↦ zero_at ws (at + (first + n)) (64 - (first + n)) (and_right before behind t) at j (omega arith) (omega arith)
      ]))
      (λ t. and_both before behind
      (zero_of ws at first at 0 (omega arith) (λ i x y. closed_place t i (omega arith) (omega arith)))
      (zero_of ws (at + (first + n)) (64 - (first + n)) at (first + n) (omega arith) (λ i x y. closed_place t i (omega arith) (omega arith)))))

  -- between the two ends of the open ones
  pub closed_between : (a : Bool) → 64 < first + n → a ≡ none_above ws (at + (first + n) - 64) (64 - n) 0 → a ≡ closed_zero ws at p n
  unfolding closed_zero
  closed_between a l ea = rw ea (same_test (none_above ws (at + (first + n) - 64) (64 - n) 0) (all_below 64 closed)
      (λ t. place_closed (λ j m c. zero_at ws (at + (first + n) - 64) (64 - n) t at j (omega arith) (omega arith)))
      (λ t. zero_of ws (at + (first + n) - 64) (64 - n) at (first + n - 64) (omega arith) (λ i x y. closed_place t i (omega arith) (omega arith))))

-- ---- the resend counts
module _ (ws : List ℕ) (p n : ℕ) where
  abbrev count : ℕ → ℕ
  count o = word_at ws (329 + place_after p o)

  abbrev count_kept : ℕ → Bool
  count_kept o = cond (ltb o n) (leb (count o) 255) (eqb (count o) 0)

  abbrev count_closed : ℕ → Bool
  count_closed o = ltb o n || eqb (count o) 0

  abbrev small : Bool
  small = none_above ws 329 64 255

  kept_small : all_below 64 count_kept ≡ true → (o : ℕ) → o < 64 → count o ≤ 255
  kept_small t o l = elim (dec_lt o n) [
    | yes m ↦ leb-true (count o) 255 (simp (lt-ltb o n m) at (all_at count_kept 64 t o l))
    | no m ↦ (let z : count o ≡ 0 = eqb-true (count o) 0 (simp (le-ltb o n (omega arith)) at (all_at count_kept 64 t o l)) in omega arith)
  ]

  all_small : all_below 64 count_kept ≡ true → small ≡ true
  unfolding none_above
  all_small t = all_of (λ j. leb (word_at ws (329 + j)) 255) 64 (λ j l.
      let z : place_after p (offset_at p j) ≡ j = omega arith in
      le-leb (word_at ws (329 + j)) 255 (rw z at (kept_small t (offset_at p j) (omega arith))))

  all_closed : all_below 64 count_kept ≡ true → all_below 64 count_closed ≡ true
  all_closed t = all_of count_closed 64 (λ o l. elim (dec_lt o n) [
    | yes m ↦ or_left (ltb o n) (eqb (count o) 0) (lt-ltb o n m)
    | no m ↦ or_right (ltb o n) (eqb (count o) 0) (simp (le-ltb o n (omega arith)) at (all_at count_kept 64 t o l))
  ])

  all_kept : small ≡ true → all_below 64 count_closed ≡ true → all_below 64 count_kept ≡ true
  all_kept s c = all_of count_kept 64 (λ o l. elim (dec_lt o n) [
    | yes m ↦ simp (lt-ltb o n m) (le-leb (count o) 255 (none_at ws 329 64 255 s (place_after p o) (omega arith)))
    | no m ↦
        (let w : eqb (count o) 0 ≡ true = simp (le-ltb o n (omega arith)) at (all_at count_closed 64 c o l) in
        simp (le-ltb o n (omega arith)) w)
  ])

  pub counts_told : (x : ℕ) (b : Bool) → x ≡ any_in ws 329 64 → b ≡ closed_zero ws 329 p n → (leb x 255 && b) ≡ counts_kept ws p n
  unfolding closed_zero counts_kept
  counts_told x b e f = rw (any_count ws 329 64 x e, f) (same_test (small && all_below 64 count_closed) (all_below 64 count_kept)
      (λ t. all_kept (and_left small (all_below 64 count_closed) t) (and_right small (all_below 64 count_closed) t))
      (λ t. and_both small (all_below 64 count_closed) (all_small t) (all_closed t)))

-- ---- the complaint sets
-- an empty one names nobody
nobody_named : (members : ℕ) (numbers masks : List ℕ) (k : ℕ) → complaints_kept members numbers masks k 0 ≡ true
unfolding complaints_kept
nobody_named members numbers masks k = all_of (λ i. not (is_marked 0 i) || (ltb i members && not (held_by numbers masks k i))) 64
    (λ i l. or_left (not (is_marked 0 i)) (ltb i members && not (held_by numbers masks k i)) (not_of_false (marked_none i)))

module _ (ws : List ℕ) (members p : ℕ) where
  abbrev told : ℕ → Bool
  told o = complaints_kept members (column_at ws 137) (column_at ws 201) (p + 1 + o) (set_after ws p o)

  -- numbers, masks and sets being copied
  pub told_done : (numbers masks complaints : List ℕ) (n : ℕ) (kept : Bool) → numbers ≡ column_at ws 137 → masks ≡ column_at ws 201 → complaints ≡ column_at ws 393
      → kept ≡ all_complaints_kept members numbers masks complaints p n → kept ≡ sets_told ws members p n
  unfolding sets_told all_complaints_kept column_at
  told_done numbers masks complaints n kept en em ec e =
      e ∙ rw (en, em, ec) (all_cong _ told n (λ o l. ap (complaints_kept members (column_at ws 137) (column_at ws 201) (p + 1 + o)) (list_at (λ i. word_at ws (393 + i)) 0 64 (place_after p o) (omega arith))))

  module _ (n : ℕ) where
    abbrev set_kept : ℕ → Bool
    set_kept o = cond (ltb o n) (told o) (eqb (set_after ws p o) 0)

    abbrev set_closed : ℕ → Bool
    set_closed o = ltb o n || eqb (set_after ws p o) 0

    empty_kept : (o : ℕ) → set_after ws p o ≡ 0 → set_kept o ≡ true
    empty_kept o z = elim (dec_lt o n) [
      | yes m ↦ simp (lt-ltb o n m) (rw z (nobody_named members (column_at ws 137) (column_at ws 201) (p + 1 + o)))
      | no m ↦ simp (le-ltb o n (omega arith)) (eq-eqb (set_after ws p o) 0 z)
    ]

    pub sets_none : (x : ℕ) → x ≡ any_in ws 393 64 → x ≡ 0 → true ≡ sets_kept ws members p n
    unfolding sets_kept
    sets_none x e h = sym (all_of set_kept 64 (λ o l. empty_kept o (zero_at ws 393 64 (sym (any_zero ws 393 64 x e) ∙ eq-eqb x 0 h) 393 (place_after p o) (omega arith) (omega arith))))

    kept_closed : all_below 64 set_kept ≡ true → all_below 64 set_closed ≡ true
    kept_closed t = all_of set_closed 64 (λ o l. elim (dec_lt o n) [
      | yes m ↦ or_left (ltb o n) (eqb (set_after ws p o) 0) (lt-ltb o n m)
      | no m ↦ or_right (ltb o n) (eqb (set_after ws p o) 0) (simp (le-ltb o n (omega arith)) at (all_at set_kept 64 t o l))
    ])

    pub sets_closed : (c : Bool) → c ≡ closed_zero ws 393 p n → c ≡ false → false ≡ sets_kept ws members p n
    unfolding closed_zero sets_kept
    sets_closed c e h = either (false ≡ all_below 64 set_kept) (all_below 64 set_kept) (λ t. no_both (kept_closed t) (sym e ∙ h)) (λ t. sym t)

    pub sets_open : (c r : Bool) → n ≤ 64 → c ≡ closed_zero ws 393 p n → c ≡ true → r ≡ sets_told ws members p n → r ≡ sets_kept ws members p n
    unfolding closed_zero sets_told sets_kept
    sets_open c r few e h f = f ∙ same_test (all_below n told) (all_below 64 set_kept)
        (λ t. all_of set_kept 64 (λ o l. elim (dec_lt o n) [
          | yes m ↦ simp (lt-ltb o n m) (all_at told n t o m)
          | no m ↦
              (let w : eqb (set_after ws p o) 0 ≡ true = simp (le-ltb o n (omega arith)) at (all_at set_closed 64 (sym e ∙ h) o l) in
              empty_kept o (eqb-true (set_after ws p o) 0 w))
        ]))
        (λ t. all_of told n (λ o l. simp (lt-ltb o n l) at (all_at set_kept 64 t o (omega arith))))

pub ruleset sets = (sets_none, sets_closed, sets_open, not-true, not-false, rules)

-- ---- all entries
module _ (ws : List ℕ) (members p s : ℕ) where
  abbrev numbers : List ℕ
  numbers = column_at ws 137

  abbrev masks : List ℕ
  masks = column_at ws 201

  abbrev entry_at : ℕ → Bool
  entry_at o = entry_kept members numbers masks s (p + 1 + o) (entry_in ws (place_after p o))

  entries_all : all_below 64 entry_at ≡ entries_kept members numbers masks (entries_in ws) p s
  unfolding entries_kept entries_in
  entries_all = all_cong entry_at (λ j. entry_kept members numbers masks s (p + 1 + j) (get_or (list_below 64 (entry_in ws)) (place_after p j) no_entry)) 64
      (λ j l. ap (entry_kept members numbers masks s (p + 1 + j)) (sym (list_at (entry_in ws) no_entry 64 (place_after p j) (omega arith))))

  -- an empty entry, open or not
  empty_entry : (o : ℕ) (b : Bool) → count_after ws p o ≡ 0 → set_after ws p o ≡ 0
      → cond b (leb (count_after ws p o) 255 && complaints_kept members numbers masks (p + 1 + o) (set_after ws p o)) (eqb (count_after ws p o) 0 && eqb (set_after ws p o) 0) ≡ true
  empty_entry o true a b = rw (a, b) (nobody_named members numbers masks (p + 1 + o))
  empty_entry o false a b = rw (a, b) refl

  pub entries_none : (x y : ℕ) → x ≡ any_in ws 329 64 → y ≡ any_in ws 393 64 → bit_or x y ≡ 0 → true ≡ entries_kept members numbers masks (entries_in ws) p s
  entries_none x y ex ey h =
      let both : (eqb x 0 && eqb y 0) ≡ true = sym (or_zero x y) ∙ eq-eqb (bit_or x y) 0 h in
      sym (all_of entry_at 64 (λ o l. empty_entry o (leb (p + 1 + o) s)
      (zero_at ws 329 64 (sym (any_zero ws 329 64 x ex) ∙ and_left (eqb x 0) (eqb y 0) both) 329 (place_after p o) (omega arith) (omega arith))
      (zero_at ws 393 64 (sym (any_zero ws 393 64 y ey) ∙ and_right (eqb x 0) (eqb y 0) both) 393 (place_after p o) (omega arith) (omega arith)))) ∙ entries_all

  abbrev count_kept_at : ℕ → ℕ → Bool
  count_kept_at n o = cond (ltb o n) (leb (count_after ws p o) 255) (eqb (count_after ws p o) 0)

  abbrev set_kept_at : ℕ → ℕ → Bool
  set_kept_at n o = cond (ltb o n) (complaints_kept members numbers masks (p + 1 + o) (set_after ws p o)) (eqb (set_after ws p o) 0)

  joined : (n o : ℕ) → p ≤ s → n ≡ s - p → (count_kept_at n o && set_kept_at n o) ≡ entry_at o
  joined n o l e = elim (dec_lt o n) [
    | yes m ↦ simp (lt-ltb o n m, le-leb (p + 1 + o) s (omega arith))
    | no m ↦ simp (le-ltb o n (omega arith), lt-leb (p + 1 + o) s (omega arith))
  ]

  pub entries_told : (n : ℕ) (c t : Bool) → p ≤ s → n ≡ s - p → c ≡ counts_kept ws p n → t ≡ sets_kept ws members p n → (c && t) ≡ entries_kept members numbers masks (entries_in ws) p s
  unfolding counts_kept sets_kept
  entries_told n c t l e ec et =
      rw (ec, et)
      (all_both (count_kept_at n) (set_kept_at n) 64
      ∙ all_cong (λ o. count_kept_at n o && set_kept_at n o) entry_at 64 (λ o m. joined n o l e)
      ∙ entries_all)

pub ruleset entries = (entries_none, entries_told, rules)
