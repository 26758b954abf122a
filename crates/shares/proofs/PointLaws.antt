-- The point: it is reached, nothing larger is, it grows with the values, and it is found among the values alone. Assumes nothing.
use mathlib.Core.Path.{◌≡◌, refl, ap, ap₂, sym, ◌∙◌}
use mathlib.Core.Bool.{Bool, true, cond, ◌&&◌, ◌||◌}
use mathlib.Core.List.{List}
use mathlib.Core.Logic.{◌⊎◌, inl, inr}
use Prim.Native.Nat.{ℕ, zero, suc, ◌+◌, ◌-◌, ◌≤◌, ◌<◌, max, min, zero-le}
use native.Mathlib.Decide.{dec_le, dec_lt}
use native.Mathlib.Numerals.{add-one}
use native.Mathlib.Omega.{arith}
use lib.Dec.{leb, ltb, eqb}
use native.Mathlib.Nat.{add-zero, add-suc}
use lib.ListN.{length, get_or, take, drop, length-drop, get_or-eq_default}
use borrow.Author.Tests.{le-leb, lt-leb, leb-true, lt-ltb, le-ltb, ltb-true, eq-eqb, ne_eqb, eqb-true}
use Rattle.std.proofs.lemmas.List.{take_all}
use Rattle.basics.specs.Sums.{highest_below}
use Rattle.basics.proofs.BoolLaws.{bool_cases, and_both, and_left, and_right, or_left, or_right, or_cases, same_test, leb_same}
use Rattle.basics.proofs.SumLaws.{sum_zero, highest_at, highest_le}
use Rattle.basics.proofs.LargestLaws.{largest_le, largest_passes, largest_above, largest_unique}
use Rattle.shares.specs.Shares.{total_of, share_of}
use Rattle.shares.specs.Point.{reached_of, point_of}
use Rattle.shares.proofs.ShareLaws.{share_mono, share_same, share_split, share_all, share_nobody}

-- ---- the best of the candidates: how the code goes through the values
unfoldable pub best_of : (ℕ → Bool) → (ℕ → ℕ) → ℕ → ℕ
best_of p v zero = 0
best_of p v (suc n) = cond (ltb (best_of p v n) (v n) && p (v n)) (v n) (best_of p v n)

pub best_start : (p : ℕ → Bool) (v : ℕ → ℕ) → 0 ≡ best_of p v 0
unfolding best_of
best_start p v = refl

pub best_turn : (p : ℕ → Bool) (v : ℕ → ℕ) (i : ℕ) {b x r : ℕ} → b ≡ best_of p v i → x ≡ v i → r ≡ cond (ltb b x && p x) x b → r ≡ best_of p v (i + 1)
unfolding best_of
best_turn p v i {b} {x} {r} e f q = rw (add-one, ← e, ← f) q

-- ---- the branches of the code
pub not_better : (b v : ℕ) (q : Bool) → v ≤ b → b ≡ cond (ltb b v && q) v b
not_better b v q l = simp (le-ltb b v l)

pub better_reached : (b v t r x : ℕ) → b < v → r ≡ x → t ≤ r → v ≡ cond (ltb b v && leb t x) v b
better_reached b v t r x l e h = simp (lt-ltb b v l, le-leb t x (omega arith))

pub better_not_reached : (b v t r x : ℕ) → b < v → r ≡ x → r < t → b ≡ cond (ltb b v && leb t x) v b
better_not_reached b v t r x l e h = simp (lt-ltb b v l, lt-leb t x (omega arith))

module _ (p : ℕ → Bool) (v : ℕ → ℕ) where
  abbrev takes : ℕ → Bool
  takes n = ltb (best_of p v n) (v n) && p (v n)

  best_le : (n : ℕ) → best_of p v n ≤ highest_below n v
  unfolding best_of highest_below
  best_le zero = zero-le
  best_le (suc n) = elim (bool_cases (takes n)) [ inl t ↦ simp t (omega arith) | inr t ↦ simp t (omega (arith, best_le n)) ]

  best_passes : (n : ℕ) → (best_of p v n ≡ 0) ⊎ (p (best_of p v n) ≡ true)
  unfolding best_of
  best_passes zero = inl refl
  best_passes (suc n) = elim (bool_cases (takes n)) [
    | inl t ↦ inr (simp t (and_right (ltb (best_of p v n) (v n)) (p (v n)) t))
    | inr t ↦ simp t (best_passes n)
  ]

  best_grows : (n : ℕ) → best_of p v n ≤ best_of p v (suc n)
  unfolding best_of
  best_grows n = elim (dec_lt (best_of p v n) (v n)) [
    | yes l ↦ elim (bool_cases (p (v n))) [ inl t ↦ simp (lt-ltb _ _ l, t) (omega arith) | inr t ↦ simp (lt-ltb _ _ l, t) (omega arith) ]
    | no l ↦ simp (le-ltb (best_of p v n) (v n) (omega arith)) (omega arith)
  ]

  best_last : (n : ℕ) → p (v n) ≡ true → v n ≤ best_of p v (suc n)
  unfolding best_of
  best_last n t = elim (dec_lt (best_of p v n) (v n)) [
    | yes l ↦ simp (lt-ltb _ _ l, t) (omega arith)
    | no l ↦ simp (le-ltb (best_of p v n) (v n) (omega arith)) (omega arith)
  ]

  best_above : (n j : ℕ) → j < n → p (v j) ≡ true → v j ≤ best_of p v n
  best_above zero j l y = absurd (omega arith)
  best_above (suc n) j l y = elim (dec_lt j n) [
    | yes m ↦ omega (arith, best_above n j m y, best_grows n)
    | no m ↦ (let e : j ≡ n = omega arith in rw e (best_last n (rw e at y)))
  ]

-- the highest is one of them, or 0
attained : (v : ℕ → ℕ) (n : ℕ) → (highest_below n v ≡ 0) ⊎ ((j : ℕ) × (j < n) × (v j ≡ highest_below n v))
unfolding highest_below
attained v zero = inl refl
attained v (suc n) = elim (dec_le (v n) (highest_below n v)) [
  | yes l ↦ (let e : max (highest_below n v) (v n) ≡ highest_below n v = omega arith in rw e (elim (attained v n) [
    | inl z ↦ inl z
    | inr w ↦ inr (w.0, omega arith, w.2)
  ]))
  | no l ↦ (let e : max (highest_below n v) (v n) ≡ v n = omega arith in rw e (inr (n, omega arith, refl)))
]

-- ---- those that have a value, and those that have none
pub reached_parts : (shares values : List ℕ) (g n a b : ℕ) → n ≡ min (length shares) (length values)
    → a ≡ share_of (take n shares) (λ i. leb g (get_or values i 0)) → b ≡ cond (eqb g 0) (total_of (take (length shares - n) (drop n shares))) 0
    → a + b ≡ reached_of shares values g
unfolding reached_of
reached_parts shares values g n a b f e h =
    ap₂ ◌+◌ e (h ∙ ap (λ (l : List ℕ). cond (eqb g 0) (total_of l) 0) (take_all (length shares - n) (drop n shares) (omega (arith, length-drop n shares))) ∙ sym rest) ∙ sym (share_split n shares (λ i. leb g (get_or values i 0)) (omega arith))
  where
    none : (j : ℕ) → j < length (drop n shares) → get_or values (n + j) 0 ≡ 0
    none j l = get_or-eq_default values 0 (omega (arith, length-drop n shares))

    rest : share_of (drop n shares) (λ j. leb g (get_or values (n + j) 0)) ≡ cond (eqb g 0) (total_of (drop n shares)) 0
    rest = elim (dec_le g 0) [
      | yes l ↦ simp (eq-eqb g 0 (omega arith)) (share_all (drop n shares) (λ j. leb g (get_or values (n + j) 0)) (λ j m. le-leb g (get_or values (n + j) 0) (omega arith)))
      | no l ↦ simp (ne_eqb g 0 (λ z. omega arith)) (share_nobody (drop n shares) (λ j. leb g (get_or values (n + j) 0)) (λ j m. lt-leb g (get_or values (n + j) 0) (omega (arith, none j m))))
    ]

-- ---- the members' values are all the candidates that matter
module _ (shares values : List ℕ) (t : ℕ) where
  abbrev value : ℕ → ℕ
  value i = get_or values i 0

  abbrev reaches : ℕ → Bool
  reaches g = leb t (reached_of shares values g)

  abbrev best : ℕ
  best = best_of reaches value (length shares)

  abbrev top : ℕ
  top = highest_below (length shares) value

  -- with nobody's value just g, as many reach g + 1
  step : (g : ℕ) → ((j : ℕ) → j < length shares → value j ≡ g → ⊥) → reached_of shares values g ≡ reached_of shares values (g + 1)
  unfolding reached_of
  step g h = share_same shares (λ i. leb g (value i)) (λ i. leb (g + 1) (value i))
      (λ i l. leb_same g (value i) (g + 1) (value i) (λ a. elim (dec_le (g + 1) (value i)) [ yes b ↦ b | no b ↦ absurd (h i l (omega arith)) ]) (λ a. omega arith))

  below_best : (d g : ℕ) → g + d ≡ top → reaches g ≡ true → g ≤ best
  below_best zero g e y = elim (attained value (length shares)) [
    | inl z ↦ omega arith
    | inr w ↦ (let q : value w.0 ≡ g = omega (arith, w.2) in
        omega (arith, best_above reaches value (length shares) w.0 w.1 (rw q y)))
  ]
  below_best (suc d) g e y = elim (dec_le g best) [
    | yes l ↦ l
    | no l ↦ (let q : reached_of shares values g ≡ reached_of shares values (g + 1) =
        step g (λ j m z. absurd (omega (arith, best_above reaches value (length shares) j m (rw z y)))) in
        let m : g + 1 ≤ best = below_best d (g + 1) (omega arith) (rw q at y) in omega arith)
  ]

  best_is_point : best ≡ point_of shares values t
  unfolding point_of
  best_is_point = largest_unique reaches top best (best_le reaches value (length shares)) (best_passes reaches value (length shares))
      (λ k l y. below_best (top - k) k (omega arith) y)

  -- who has no value is none of them
  best_rest : (n d : ℕ) → ((j : ℕ) → n ≤ j → value j ≡ 0) → best_of reaches value (n + d) ≡ best_of reaches value n
  unfolding best_of
  best_rest n zero h = ap (best_of reaches value) (add-zero n)
  best_rest n (suc d) h =
      ap (best_of reaches value) (add-suc n d)
      ∙ simp (le-ltb (best_of reaches value (n + d)) (value (n + d)) (omega (arith, h (n + d) (omega arith)))) (best_rest n d h)

  pub point_done : (i n b : ℕ) → b ≡ best_of reaches value i → n ≡ min (length shares) (length values) → i ≤ n → n ≤ i → b ≡ point_of shares values t
  point_done i n b e f l m =
      let z : length shares ≡ i + (length shares - i) = omega arith in
      e
      ∙ elim (dec_le (length shares) i) [
        | yes k ↦ (let y : i ≡ length shares = omega arith in ap (best_of reaches value) y)
        | no k ↦ sym (ap (best_of reaches value) z ∙ best_rest i (length shares - i) (λ j h. get_or-eq_default values 0 (omega arith)))
      ]
      ∙ best_is_point

  -- ---- the law: the point is reached, and nothing above it is
  pub point_reached : 1 ≤ point_of shares values t → t ≤ reached_of shares values (point_of shares values t)
  unfolding point_of
  point_reached l = elim (largest_passes reaches top) [ inl z ↦ absurd (omega arith) | inr y ↦ leb-true _ _ y ]

  -- above every value nobody is counted
  pub nobody_above : (g : ℕ) → top < g → reached_of shares values g ≡ 0
  unfolding reached_of share_of
  nobody_above g l = sum_zero (λ i. cond (leb g (value i)) (get_or shares i 0) 0) (length shares)
      (λ j m. simp (lt-leb g (value j) (omega (arith, highest_at value (length shares) j m))))

  pub point_largest : (g : ℕ) → 1 ≤ t → t ≤ reached_of shares values g → g ≤ point_of shares values t
  unfolding point_of
  point_largest g l h = elim (dec_le g top) [
    | yes m ↦ largest_above reaches top g m (le-leb _ _ h)
    | no m ↦ absurd (omega (arith, nobody_above g (omega arith)))
  ]

  pub point_le : (b : ℕ) → ((j : ℕ) → j < length shares → value j ≤ b) → point_of shares values t ≤ b
  unfolding point_of
  point_le b h = omega (arith, largest_le reaches top, highest_le value b (length shares) h)

-- fewer reach further
pub reached_falls : (shares values : List ℕ) (g h : ℕ) → g ≤ h → reached_of shares values h ≤ reached_of shares values g
unfolding reached_of
reached_falls shares values g h l = share_mono shares (λ i. leb h (get_or values i 0)) (λ i. leb g (get_or values i 0)) (λ i m e. le-leb g (get_or values i 0) (omega (arith, leb-true h (get_or values i 0) e)))

-- the point is known by itself and the next number
module _ (shares values : List ℕ) (t p here next : ℕ) (l : 1 ≤ t) (e : here ≡ reached_of shares values p) (f : next ≡ reached_of shares values (p + 1)) where
  abbrev told : Bool
  told = (eqb p 0 || leb t here) && ltb next t

  is_point : told ≡ true → eqb p (point_of shares values t) ≡ true
  is_point h =
      let missed : next < t = ltb-true next t (and_right (eqb p 0 || leb t here) (ltb next t) h) in
      let below : p ≤ point_of shares values t = elim (or_cases (eqb p 0) (leb t here) (and_left (eqb p 0 || leb t here) (ltb next t) h)) [
        | inl z ↦ omega (arith, eqb-true p 0 z)
        | inr y ↦ point_largest shares values t p l (omega (arith, e, leb-true t here y))
      ] in
      elim (dec_le (point_of shares values t) p) [
        | yes m ↦ eq-eqb p (point_of shares values t) (omega arith)
        | no m ↦ absurd (omega (arith, f, reached_falls shares values (p + 1) (point_of shares values t) (omega arith), point_reached shares values t (omega arith)))
      ]

  point_is : eqb p (point_of shares values t) ≡ true → told ≡ true
  point_is h =
      let z : p ≡ point_of shares values t = eqb-true p (point_of shares values t) h in
      and_both (eqb p 0 || leb t here) (ltb next t)
      (elim (dec_le 1 p) [
        | yes m ↦ or_right (eqb p 0) (leb t here) (le-leb t here (rw (e, z) (point_reached shares values t (omega arith))))
        | no m ↦ or_left (eqb p 0) (leb t here) (eq-eqb p 0 (omega arith))
      ])
      (elim (dec_le t next) [
        | yes m ↦ absurd (omega (arith, point_largest shares values t (p + 1) l (omega (arith, f))))
        | no m ↦ lt-ltb next t (omega arith)
      ])

  pub point_told : told ≡ eqb p (point_of shares values t)
  point_told = same_test told (eqb p (point_of shares values t)) is_point point_is

-- where no value falls, as many reach each number, and the point does not fall
module _ (shares before after : List ℕ) (up : (j : ℕ) → j < length shares → get_or before j 0 ≤ get_or after j 0) where
  pub reached_grows : (g : ℕ) → reached_of shares before g ≤ reached_of shares after g
  unfolding reached_of
  reached_grows g = share_mono shares (λ i. leb g (get_or before i 0)) (λ i. leb g (get_or after i 0)) (λ i l e. le-leb g (get_or after i 0) (omega (arith, leb-true g (get_or before i 0) e, up i l)))

  pub point_grows : (t : ℕ) → 1 ≤ t → point_of shares before t ≤ point_of shares after t
  point_grows t l = elim (dec_le 1 (point_of shares before t)) [
    | yes m ↦ point_largest shares after t (point_of shares before t) l (omega (arith, point_reached shares before t m, reached_grows (point_of shares before t)))
    | no m ↦ omega arith
  ]
