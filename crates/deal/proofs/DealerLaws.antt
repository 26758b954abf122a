-- Dealing slot after slot, from what the code knows at each place of the deal. Assumes nothing.
use mathlib.Core.Path.{◌≡◌, refl, ap, sym, ◌∙◌}
use mathlib.Core.Bool.{cond}
use mathlib.Core.List.{List}
use Prim.Native.Nat.{ℕ, zero, suc, ◌+◌, ◌-◌, ◌*◌, ◌/◌, ◌≤◌, ◌<◌, zero-le, min}
use native.Mathlib.Nat.{add-zero, add-suc, add-mul, mul_comm, mul-div-le, le-div_iff_mul-le}
use native.Mathlib.Decide.{dec_lt}
use native.Mathlib.Numerals.{add-one}
use native.Mathlib.Omega.{arith}
use mir.Syntax.{w32}
use mir.Val.{Fits}
use lib.Dec.{ltb}
use lib.ListN.{length, get_or}
use borrow.Author.Tests.{lt-ltb, le-ltb, ltb-true}
use Rattle.basics.proofs.SumLaws.{sum_mono, sum_part, sum_within}
use Rattle.basics.proofs.HowManyLaws.{one, many_none, many_suc, many_turn, many_done, many_mono}
use Rattle.basics.specs.Sums.{sum_below, how_many}
use Rattle.deal.specs.Rounds.{round_of, slots_before, owner_of}
use Rattle.deal.specs.Dealing.{takers_before, Dealing, Fallen}
use Rattle.deal.proofs.SlotLaws.{still, length_round, member_found, slots_none, slots_suc, owner_at}

-- ---- the takers of a round
module _ (c : List ℕ) (t : ℕ) where
  pub takers_none : 0 ≡ takers_before c t 0
  unfolding takers_before
  takers_none = many_none (still c t)

  pub takers_turn : (i seen m : ℕ) → seen ≡ takers_before c t i → m ≡ cond (ltb t (get_or c i 0)) 1 0 → seen + m ≡ takers_before c t (i + 1)
  unfolding takers_before
  takers_turn i seen m e f = many_turn (still c t) i e f

  -- who takes none is passed over
  pub takers_skip : (i from : ℕ) → takers_before c t i ≡ takers_before c t from → get_or c i 0 ≤ t → takers_before c t (i + 1) ≡ takers_before c t from
  takers_skip i from e l =
      let none : ◌≡◌ {A = ℕ} 0 (cond (ltb t (get_or c i 0)) 1 0) = simp (le-ltb t (get_or c i 0) l) in
      omega (arith, takers_turn i (takers_before c t i) 0 refl none)

  pub takers_done : {i n : ℕ} → n ≡ takers_before c t i → i ≤ length c → length c ≤ i → n ≡ takers_before c t (length c)
  unfolding takers_before
  takers_done e a b = many_done (still c t) e a b

  -- past the last member there are no more takers
  pub takers_end : (i seen place : ℕ) → i ≤ length c → length c ≤ i → seen ≡ takers_before c t i → seen ≤ place → place ≤ takers_before c t (length c) → takers_before c t (length c) ≡ place
  takers_end i seen place a b e l m = let z : i ≡ length c = omega arith in omega (arith, ap (takers_before c t) z)

  takers_one : (i : ℕ) → t < get_or c i 0 → takers_before c t (i + 1) ≡ takers_before c t i + 1
  takers_one i l = sym (takers_turn i (takers_before c t i) 1 refl (simp (lt-ltb t (get_or c i 0) l)))

  takers_all : takers_before c t (length c) ≡ length (round_of c t)
  unfolding takers_before
  takers_all = sym (length_round c t)

  takers_mono : (i d : ℕ) → takers_before c t i ≤ takers_before c t (i + d)
  unfolding takers_before
  takers_mono i zero = omega (arith, ap (takers_before c t) (add-zero i))
  takers_mono i (suc d) = omega (arith, takers_mono i d, many_suc (still c t) (i + d), ap (takers_before c t) (add-suc i d))

  takers_more : (i : ℕ) → i < length c → t < get_or c i 0 → takers_before c t i < takers_before c t (length c)
  takers_more i l h =
      let z : i + 1 + (length c - (i + 1)) ≡ length c = omega arith in
      omega (arith, takers_one i h, takers_mono (i + 1) (length c - (i + 1)), ap (takers_before c t) z)

  slots_next : slots_before c (t + 1) ≡ slots_before c t + takers_before c t (length c)
  slots_next = ap (slots_before c) (add-one t) ∙ slots_suc c t ∙ ap (λ (x : ℕ). slots_before c t + x) (sym takers_all)

  -- no later round has a slot if this one has none
  no_later : (q : ℕ) → takers_before c t (length c) ≡ 0 → slots_before c q ≤ slots_before c t
  unfolding takers_before how_many slots_before
  no_later q e = sum_mono (λ i. min (get_or c i 0) q) (λ i. min (get_or c i 0) t) (length c) (λ i l. elim (dec_lt t (get_or c i 0)) [
    | yes h ↦ absurd (omega (arith, e, sum_part (λ j. one (still c t j)) (length c) i l, ap one (lt-ltb t (get_or c i 0) h)))
    | no h ↦ omega arith
  ])

slots_mono : (c : List ℕ) (s t : ℕ) → s ≤ t → slots_before c s ≤ slots_before c t
unfolding slots_before
slots_mono c s t l = sum_mono (λ i. min (get_or c i 0) s) (λ i. min (get_or c i 0) t) (length c) (λ i k. omega arith)

-- a round's slots, member by member
pub slots_within : (c : List ℕ) (t i n r : ℕ) → n ≡ sum_below i (λ j. min (get_or c j 0) t) → r ≡ min (get_or c i 0) t → i < length c
    → sum_below (length c) (λ j. min (get_or c j 0) t) ≤ 4294967295 → Fits w32 (n + r)
slots_within c t i n r e f l m = record { fits = omega (arith, sum_within (λ j. min (get_or c j 0) t) {i = i} e f l m) }

-- ---- the search for a slot's round
-- no later round has more takers
takers_fewer : (c : List ℕ) (t d n : ℕ) → takers_before c (t + d) n ≤ takers_before c t n
unfolding takers_before
takers_fewer c t d n = many_mono (still c (t + d)) (still c t) n (λ i l h. lt-ltb t (get_or c i 0) (omega (arith, ltb-true (t + d) (get_or c i 0) h)))

slots_ahead : (c : List ℕ) (t d : ℕ) → slots_before c (t + d) ≤ slots_before c t + d * takers_before c t (length c)
slots_ahead c t zero = omega (arith, ap (slots_before c) (add-zero t))
slots_ahead c t (suc d) =
    omega (
      arith,
      slots_ahead c t d,
      slots_next c (t + d),
      takers_fewer c t d (length c),
      ap (slots_before c) (add-suc t d),
      ap (slots_before c) (add-one (t + d)),
      add-mul d 1 (takers_before c t (length c)),
      ap (λ (k : ℕ). k * takers_before c t (length c)) (add-one d),
    )

pub first_small : (c : List ℕ) → slots_before c 0 ≤ 4294967295
first_small c = omega (arith, slots_none c)

pub first_slots : (c : List ℕ) (slot : ℕ) → slots_before c 0 + slot ≡ slot
first_slots c slot = omega (arith, slots_none c)

module _ (c : List ℕ) (q slot : ℕ) (h : slot < slots_before c q) where
  -- whatever round a slot is not before is one of the q
  round_early : (t : ℕ) → slots_before c t ≤ slot → t < q
  round_early t l = elim (dec_lt t q) [
    | yes k ↦ k
    | no k ↦ absurd (omega (arith, slots_mono c q t (omega arith)))
  ]

  pub first_early : 0 < q
  first_early = round_early 0 (omega (arith, slots_none c))

  module _ (t left takers : ℕ) (e : slots_before c t + left ≡ slot) (f : takers ≡ takers_before c t (length c)) where
    pub some_takers : 0 < takers
    some_takers = elim (dec_lt 0 takers) [
      | yes k ↦ k
      | no k ↦ absurd (omega (arith, no_later c t q (omega arith)))
    ]

    pub past_reached : slots_before c (t + left / takers) ≤ slot
    past_reached = omega (arith, slots_ahead c t (left / takers), mul-div-le left takers, mul_comm takers (left / takers), ap (λ (x : ℕ). left / takers * x) f)

    pub past_early : t + left / takers < q
    past_early = round_early (t + left / takers) past_reached

    pub past_fits : Fits w32 q → Fits w32 (t + left / takers)
    past_fits w = record { fits = omega (arith, past_early, w.fits) }

    pub past_later : takers ≤ left → t < t + left / takers
    past_later l = omega (arith, (le-div_iff_mul-le {k = takers} {x = 1} {y = left} some_takers).1 (omega arith))

-- ---- the owner of a slot, and the next one
module _ (c : List ℕ) (q slot t i : ℕ) (f : Fallen c q slot t i) where
  found : i ≡ get_or (round_of c t) (takers_before c t i) 0
  unfolding takers_before
  found = member_found c t i (takers_before c t i) (takers_before c t i) 1 f.has refl (omega arith) (simp (lt-ltb t (get_or c i 0) f.takes)) (omega arith)

  pub fallen_owner : i ≡ owner_of c q slot
  fallen_owner =
      let d = f.dealing in
      owner_at c q t slot (slots_before c t) (takers_before c t i) i d.early (omega (arith, d.passed))
      (omega (arith, d.passed, slots_next c t, takers_more c t i f.has f.takes)) refl (omega (arith, d.passed)) found

  pub after_dealing : (slot + 1 ≡ q → ⊥) → Dealing c q (slot + 1) t (i + 1)
  after_dealing h = record {
    whole = f.dealing.whole;
    below = omega (arith, f.dealing.below);
    early = f.dealing.early;
    among = omega (arith, f.has);
    passed = omega (arith, f.dealing.passed, takers_one c t i f.takes);
  }

  pub again_dealing : Dealing c q 0 0 0
  again_dealing = record {
    whole = f.dealing.whole;
    below = omega (arith, f.dealing.below);
    early = omega (arith, f.dealing.below);
    among = zero-le;
    passed = omega (arith, slots_none c, takers_none c 0);
  }

-- ---- where a slot falls to
module _ (c : List ℕ) (q slot t m : ℕ) (d : Dealing c q slot t m) where
  pub falls_here : (i : ℕ) → i < length c → takers_before c t i ≡ takers_before c t m → (i < length c → t < get_or c i 0) → Fallen c q slot t i
  falls_here i l e h = record {
    dealing = record { whole = d.whole; below = d.below; early = d.early; among = omega arith; passed = ap (λ (x : ℕ). slots_before c t + x) e ∙ d.passed };
    has = l;
    takes = h l;
  }

  pub owner_here : (i : ℕ) → i < length c → takers_before c t i ≡ takers_before c t m → (i < length c → t < get_or c i 0) → i ≡ owner_of c q slot
  owner_here i l e h = fallen_owner c q slot t i (falls_here i l e h)

  module _ (r : ℕ) (a : r ≤ length c) (b : length c ≤ r) (e : takers_before c t r ≡ takers_before c t m) where
    round_over : slots_before c (t + 1) ≡ slot
    round_over = let z : r ≡ length c = omega arith in omega (arith, slots_next c t, d.passed, ap (takers_before c t) z)

    pub next_early : t + 1 < q
    next_early = elim (dec_lt (t + 1) q) [
      | yes l ↦ l
      | no l ↦ absurd (omega (arith, slots_mono c q (t + 1) (omega arith), round_over, d.whole, d.below))
    ]

    pub falls_there : (i : ℕ) → i ≤ length c → takers_before c (t + 1) i ≡ takers_before c (t + 1) 0 → (i < length c → t + 1 < get_or c i 0) → Fallen c q slot (t + 1) i
    falls_there i k f h = record {
      dealing = record { whole = d.whole; below = d.below; early = next_early; among = k; passed = omega (arith, round_over, takers_none c (t + 1)) };
      has = has;
      takes = h has;
    }
      where
        has : i < length c
        has = elim (dec_lt i (length c)) [
          | yes l ↦ l
          | no l ↦ (let z : i ≡ length c = omega arith in
              absurd (omega (arith, no_later c (t + 1) q (sym (ap (takers_before c (t + 1)) z) ∙ f ∙ sym (takers_none c (t + 1))), round_over, d.whole, d.below)))
        ]

    pub owner_there : (i : ℕ) → i ≤ length c → takers_before c (t + 1) i ≡ takers_before c (t + 1) 0 → (i < length c → t + 1 < get_or c i 0) → i ≡ owner_of c q slot
    owner_there i k f h = fallen_owner c q slot (t + 1) i (falls_there i k f h)
