-- Shares of sets of members, proved once over the number of members: a larger set has no smaller share, disjoint sets add up, and a set
-- with more share than can fail has a member that does not. Assumes nothing.
use mathlib.Core.Path.{◌≡◌, refl, ap, ap₂, sym, ◌∙◌}
use mathlib.Core.Bool.{Bool, true, false, cond, not, ◌||◌}
use mathlib.Core.List.{List, [], ◌∷◌}
use mathlib.Core.Logic.{◌⊎◌, inl, inr}
use Prim.Native.Nat.{ℕ, zero, suc, ◌+◌, ◌-◌, ◌≤◌, ◌<◌, zero-le, min}
use native.Mathlib.Omega.{arith}
use mir.Syntax.{w64}
use mir.Val.{Fits}
use lib.ListN.{length, get_or, take, drop, length-drop}
use lib.Seq.{get_or-take, get_or-drop, length-take-le}
use Rattle.basics.specs.Sums.{sum_below}
use Rattle.basics.proofs.BoolLaws.{bool_cases}
use Rattle.basics.proofs.SumLaws.{sum_tail, sum_split, sum_zero, sum_cong, sum_mono, sum_add, sum_front, sum_part}
use Rattle.marks.specs.Masks.{is_marked, reach_of}
use Rattle.marks.proofs.RunLaws.{reach_above}
use Rattle.shares.specs.Shares.{total_of, share_of}

-- ---- how totals and shares go along the list
pub total_none : total_of [] ≡ 0
unfolding total_of sum_below
total_none = refl

pub total_cons : (x : ℕ) (xs : List ℕ) → total_of (x ∷ xs) ≡ x + total_of xs
unfolding total_of
total_cons x xs = sum_front (λ i. get_or (x ∷ xs) i 0) (length xs)

pub share_none : (p : ℕ → Bool) → share_of [] p ≡ 0
unfolding share_of sum_below
share_none p = refl

pub share_cons : (x : ℕ) (xs : List ℕ) (p : ℕ → Bool) → share_of (x ∷ xs) p ≡ cond (p 0) x 0 + share_of xs (λ i. p (suc i))
unfolding share_of
share_cons x xs p = sum_front (λ i. cond (p i) (get_or (x ∷ xs) i 0) 0) (length xs)

-- the first n places of a list that has them, added up
pub total_take : (n : ℕ) (xs : List ℕ) → n ≤ length xs → total_of (take n xs) ≡ sum_below n (λ i. get_or xs i 0)
unfolding total_of
total_take n xs l =
    rw (length-take-le n xs l) (sum_cong (λ i. get_or (take n xs) i 0) (λ i. get_or xs i 0) n (λ j h. get_or-take n xs j 0 h))

-- a set's members among the first n, and those behind them
pub share_split : (n : ℕ) (xs : List ℕ) (p : ℕ → Bool) → n ≤ length xs → share_of xs p ≡ share_of (take n xs) p + share_of (drop n xs) (λ j. p (n + j))
unfolding share_of
share_split n xs p l =
    let z : length xs ≡ n + (length xs - n) = omega arith in
    ap (λ (m : ℕ). sum_below m (λ i. cond (p i) (get_or xs i 0) 0)) z
    ∙ sum_split (λ i. cond (p i) (get_or xs i 0) 0) n (length xs - n)
    ∙ ap₂ ◌+◌
    (ap (λ (m : ℕ). sum_below m (λ i. cond (p i) (get_or xs i 0) 0)) (sym (length-take-le n xs l))
    ∙ sum_cong (λ i. cond (p i) (get_or xs i 0) 0) (λ i. cond (p i) (get_or (take n xs) i 0) 0) (length (take n xs)) (λ j h. ap (λ (x : ℕ). cond (p j) x 0) (sym (get_or-take n xs j 0 (omega (arith, length-take-le n xs l))))))
    (ap (λ (m : ℕ). sum_below m (λ j. cond (p (n + j)) (get_or xs (n + j) 0) 0)) (sym (length-drop n xs))
    ∙ sum_cong (λ j. cond (p (n + j)) (get_or xs (n + j) 0) 0) (λ j. cond (p (n + j)) (get_or (drop n xs) j 0) 0) (length (drop n xs)) (λ j h. ap (λ (x : ℕ). cond (p (n + j)) x 0) (sym (get_or-drop n xs j 0))))

-- the set of all, and the set of nobody
pub share_all : (xs : List ℕ) (p : ℕ → Bool) → ((i : ℕ) → i < length xs → p i ≡ true) → share_of xs p ≡ total_of xs
unfolding share_of total_of
share_all xs p h = sum_cong (λ i. cond (p i) (get_or xs i 0) 0) (λ i. get_or xs i 0) (length xs) (λ i l. simp (h i l))

pub share_nobody : (xs : List ℕ) (p : ℕ → Bool) → ((i : ℕ) → i < length xs → p i ≡ false) → share_of xs p ≡ 0
unfolding share_of
share_nobody xs p h = sum_zero (λ i. cond (p i) (get_or xs i 0) 0) (length xs) (λ i l. simp (h i l))

module _ (shares : List ℕ) where
  abbrev part : (ℕ → Bool) → ℕ → ℕ
  part p i = cond (p i) (get_or shares i 0) 0

  part_le : (p : ℕ → Bool) (i : ℕ) → part p i ≤ get_or shares i 0
  part_le p i = elim (bool_cases (p i)) [ inl t ↦ simp t (omega arith) | inr t ↦ simp t zero-le ]

  -- no set has more than all
  pub share_le_total : (p : ℕ → Bool) → share_of shares p ≤ total_of shares
  unfolding share_of total_of
  share_le_total p = sum_mono (part p) (λ i. get_or shares i 0) (length shares) (λ i l. part_le p i)

  -- a member's own share is at most that of a set that it is in
  pub share_member : (p : ℕ → Bool) (i : ℕ) → i < length shares → p i ≡ true → get_or shares i 0 ≤ share_of shares p
  unfolding share_of
  share_member p i l t = simp t at (sum_part (part p) (length shares) i l)

  -- sets with the same members have the same share
  pub share_same : (p q : ℕ → Bool) → ((i : ℕ) → i < length shares → p i ≡ q i) → share_of shares p ≡ share_of shares q
  unfolding share_of
  share_same p q h = sum_cong (part p) (part q) (length shares) (λ i l. ap (λ (b : Bool). cond b (get_or shares i 0) 0) (h i l))

  -- share is monotone in the set
  pub share_mono : (p q : ℕ → Bool) → ((i : ℕ) → i < length shares → p i ≡ true → q i ≡ true) → share_of shares p ≤ share_of shares q
  unfolding share_of
  share_mono p q h = sum_mono (part p) (part q) (length shares) (λ i l. elim (bool_cases (p i)) [
    | inl t ↦ simp (t, h i l t) (omega arith)
    | inr t ↦ simp t zero-le
  ])

  -- two sets' shares add up when disjoint
  pub share_disjoint : (p q : ℕ → Bool) → ((i : ℕ) → i < length shares → p i ≡ true → q i ≡ false)
      → share_of shares (λ i. p i || q i) ≡ share_of shares p + share_of shares q
  unfolding share_of
  share_disjoint p q h =
      sum_cong (part (λ i. p i || q i)) (λ i. part p i + part q i) (length shares) (λ i l. elim (bool_cases (p i)) [
        | inl t ↦ simp (t, h i l t) (omega arith)
        | inr t ↦ simp t (omega arith)
      ])
      ∙ sum_add (part p) (part q) (length shares)

  -- the set and what it leaves out are all
  pub share_rest : (p : ℕ → Bool) → share_of shares p + share_of shares (λ i. not (p i)) ≡ total_of shares
  unfolding share_of total_of
  share_rest p =
      sym (sum_add (part p) (part (λ i. not (p i))) (length shares))
      ∙ sum_cong (λ i. part p i + part (λ j. not (p j)) i) (λ i. get_or shares i 0) (length shares) (λ i l. elim (bool_cases (p i)) [
        | inl t ↦ simp t (omega arith)
        | inr t ↦ simp t (omega arith)
      ])

  -- a member of p that is not in q, among the first n, or p's share there is at most q's
  found : (p q : ℕ → Bool) (n : ℕ) → ((i : ℕ) × (i < n) × (p i ≡ true) × (q i ≡ false)) ⊎ (sum_below n (part p) ≤ sum_below n (part q))
  unfolding sum_below
  found p q zero = inr zero-le
  found p q (suc n) = elim (found p q n) [
    | inl w ↦ inl (w.0, omega arith, w.2, w.3)
    | inr l ↦ elim (bool_cases (p n)) [
      | inl t ↦ elim (bool_cases (q n)) [
        | inl s ↦ inr (simp (t, s) (omega arith))
        | inr s ↦ inl (n, omega arith, t, s)
      ]
      | inr t ↦ inr (simp t (omega arith))
    ]
  ]

  -- a set with share above u has a member outside any failed set of share at most u
  pub quorum : (u : ℕ) (p failed : ℕ → Bool) → u < share_of shares p → share_of shares failed ≤ u
      → (i : ℕ) × (i < length shares) × (p i ≡ true) × (failed i ≡ false)
  unfolding share_of
  quorum u p failed h k = elim (found p failed (length shares)) [ inl w ↦ w | inr l ↦ absurd (omega arith) ]

-- past the last that a set names nobody adds to its share
module _ (shares : List ℕ) (members : ℕ) (fits : Fits w64 members) where
  abbrev named : ℕ → ℕ
  named i = cond (is_marked members i) (get_or shares i 0) 0

  unnamed : (j : ℕ) → reach_of members ≤ j → named j ≡ 0
  unnamed j l = elim (bool_cases (is_marked members j)) [
    | inl t ↦ absurd (omega (arith, reach_above members j fits.fits t))
    | inr t ↦ simp t
  ]

  pub share_named : (n r sum : ℕ) → r ≡ reach_of members → n ≡ min (length shares) r → sum ≡ share_of (take n shares) (is_marked members) → sum ≡ share_of shares (is_marked members)
  unfolding share_of
  share_named n r sum f g e =
      let d : ℕ = length shares - n in
      let z : n + d ≡ length shares = omega arith in
      let here : share_of (take n shares) (is_marked members) ≡ sum_below n named =
      rw (length-take-le n shares (omega arith)) (sum_cong (λ i. cond (is_marked members i) (get_or (take n shares) i 0) 0) named n (λ j h. ap (λ (x : ℕ). cond (is_marked members j) x 0) (get_or-take n shares j 0 h))) in
      e ∙ here ∙ sym (sum_tail named n d (λ j l m. unnamed j (omega arith))) ∙ ap (λ (m : ℕ). sum_below m named) z
