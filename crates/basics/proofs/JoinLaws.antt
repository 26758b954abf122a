-- Lists one after another: how long they are together, and what stands at a place. Assumes nothing.
use mathlib.Core.Path.{◌≡◌, refl, ap, sym, ◌∙◌}
use mathlib.Core.List.{List, ◌++◌}
use Prim.Native.Nat.{ℕ, zero, suc, ◌+◌, ◌-◌, ◌≤◌, ◌<◌}
use native.Mathlib.Decide.{dec_lt, dec_le}
use native.Mathlib.Omega.{arith}
use lib.ListN.{length, get_or, length-append, get_or-append, get_or-eq_default}
use lib.Seq.{get_or-append-add}
use Rattle.basics.specs.Sums.{sum_below, join_below}

module _ (f : ℕ → List ℕ) where
  pub length_join_suc : (n : ℕ) → length (join_below (suc n) f) ≡ length (join_below n f) + length (f n)
  unfolding join_below
  length_join_suc n = length-append (join_below n f) (f n)

  pub length_join : (n : ℕ) → length (join_below n f) ≡ sum_below n (λ i. length (f i))
  unfolding join_below sum_below
  length_join zero = refl
  length_join (suc n) = length-append (join_below n f) (f n) ∙ ap (λ (x : ℕ). x + length (f n)) (length_join n)

  join_grows : (m n : ℕ) → m ≤ n → length (join_below m f) ≤ length (join_below n f)
  join_grows m zero l = (let z : m ≡ 0 = omega arith in rw z (omega arith))
  join_grows m (suc n) l = elim (dec_le m n) [
    | yes k ↦ omega (arith, join_grows m n k, length_join_suc n)
    | no k ↦ (let z : m ≡ suc n = omega arith in rw z (omega arith))
  ]

  -- a place of the last list
  at_last : (n s : ℕ) → length (join_below n f) ≤ s → get_or (join_below (suc n) f) s 0 ≡ get_or (f n) (s - length (join_below n f)) 0
  unfolding join_below
  at_last n s a =
      let z : length (join_below n f) + (s - length (join_below n f)) ≡ s = omega arith in
      ap (λ (x : ℕ). get_or (join_below n f ++ f n) x 0) (sym z) ∙ get_or-append-add (join_below n f) (f n) (s - length (join_below n f)) 0

  -- a place of an earlier one
  at_earlier : (n s : ℕ) → s < length (join_below n f) → get_or (join_below (suc n) f) s 0 ≡ get_or (join_below n f) s 0
  unfolding join_below
  at_earlier n s a = get_or-append (join_below n f) (f n) 0 s a

  -- a place that the first i lists do not reach, and the first i + 1 do, is one of list i
  pub join_at : (n i s : ℕ) → i < n → length (join_below i f) ≤ s → s < length (join_below (suc i) f)
      → get_or (join_below n f) s 0 ≡ get_or (f i) (s - length (join_below i f)) 0
  join_at zero i s l a b = absurd (omega arith)
  join_at (suc n) i s l a b = elim (dec_lt i n) [
    | yes m ↦ at_earlier n s (omega (arith, join_grows (suc i) n (omega arith))) ∙ join_at n i s m a b
    | no m ↦ (let z : n ≡ i = omega arith in
        at_last n s (rw z a) ∙ ap (λ (k : ℕ). get_or (f k) (s - length (join_below k f)) 0) z)
  ]

  pub join_past : (n s : ℕ) → length (join_below n f) ≤ s → 0 ≡ get_or (join_below n f) s 0
  join_past n s a = sym (get_or-eq_default (join_below n f) 0 {n = s} a)

  -- where every list has only numbers below b, so has the whole
  pub join_below_lem : (b : ℕ) → 0 < b → (n : ℕ) → ((i s : ℕ) → i < n → get_or (f i) s 0 < b) → (s : ℕ) → get_or (join_below n f) s 0 < b
  unfolding join_below
  join_below_lem b p zero h s = p
  join_below_lem b p (suc n) h s = elim (dec_lt s (length (join_below n f))) [
    | yes l ↦ rw (at_earlier n s l) (join_below_lem b p n (λ i t k. h i t (omega arith)) s)
    | no l ↦ rw (at_last n s (omega arith)) (h n (s - length (join_below n f)) (omega arith))
  ]
