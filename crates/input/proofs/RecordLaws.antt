-- The input's records as the code reads them: kinds, numbers, and runs of shares. Assumes nothing.
use mathlib.Core.Path.{◌≡◌, refl, ap, ap₂, sym, ◌∙◌}
use mathlib.Core.Bool.{Bool, true, false, cond, ◌&&◌}
use mathlib.Core.List.{List, ◌++◌}
use Prim.Native.Nat.{ℕ, zero, suc, ◌+◌, ◌*◌, ◌-◌, ◌/◌, ◌<◌, ◌≤◌}
use native.Mathlib.Omega.{arith}
use lib.Dec.{eqb, ltb}
use lib.ListN.{length, get_or, take, drop, set, length-take}
use lib.Seq.{length-take-le}
use Rattle.std.proofs.lemmas.List.{append-nil, drop_all}
use mir.Val.{Fits}
use mir.Syntax.{w32}
use borrow.Author.Rules.{rules}
use borrow.Author.Tests.{lt-ltb, le-ltb, ltb-true}
use Rattle.basics.specs.Bytes.{le_of, all_zero, part}
use Rattle.basics.proofs.BoolLaws.{and_left, either}
use Rattle.basics.proofs.ByteLaws.{Bytes, bytes_part, le_lt}
use Rattle.basics.proofs.SumLaws.{list_start, list_turn}
use Rattle.input.specs.Input.{is_kind, number_at, first_of, second_of, is_share, shares_from, shares_at}

-- ---- one record
module _ (s : List ℕ) (i : ℕ) where
  pub kind_here : (k : ℕ) (z : Bool) → i < length s / 12 → z ≡ all_zero (part (12 * i + 1) (12 * i + 4) s) → (eqb (get_or s (12 * i) 0) k && z) ≡ is_kind k s i
  unfolding is_kind
  kind_here k z h e = simp (lt-ltb i (length s / 12) h, e)

  pub kind_past : (k : ℕ) → length s / 12 ≤ i → false ≡ is_kind k s i
  unfolding is_kind
  kind_past k h = simp (le-ltb i (length s / 12) h)

  -- four bytes stand for a number of 32 bits
  module _ (from x : ℕ) (e : x ≡ le_of (part (12 * i + from) (12 * i + from + 4) s)) where
    pub number_fits : Bytes s → Fits w32 x
    number_fits b =
        let n : 12 * i + from + 4 - (12 * i + from) ≡ 4 = omega arith in
        record { fits = rw e (le_lt 4 (part (12 * i + from) (12 * i + from + 4) s) (simp (length-take, n) (omega arith)) (bytes_part s (12 * i + from + 4 - (12 * i + from)) (12 * i + from) b)) }

    pub number_told : x ≡ number_at s i from
    unfolding number_at
    number_told = e

  module _ (k : ℕ) (t : Bool) (e : t ≡ is_kind k s i) where
    pub kind_in_lem : t ≡ true → i < length s / 12
    unfolding is_kind
    kind_in_lem y = ltb-true i (length s / 12) (and_left (ltb i (length s / 12)) (eqb (get_or s (12 * i) 0) k && all_zero (part (12 * i + 1) (12 * i + 4) s)) (sym e ∙ y))

    pub share_of_kind : (x : ℕ) → t ≡ true → x ≡ second_of s i → eqb x 0 ≡ is_share k s i
    unfolding is_share
    share_of_kind x y w = simp (sym e ∙ y, w)

    pub share_of_other : t ≡ false → false ≡ is_share k s i
    unfolding is_share
    share_of_other y = simp (sym e ∙ y)

pub ruleset reading = (kind_here, kind_past, number_fits, number_told, kind_in_lem, share_of_kind, share_of_other, rules)

-- ---- the shares of a kind from record i on: what is counted, and what the records left would add
pub shares_le : (k : ℕ) (s : List ℕ) (i n : ℕ) → shares_from k s i n ≤ n
unfolding shares_from
shares_le k s i zero = omega arith
shares_le k s i (suc n) = either _ (is_share k s i)
    (λ t. simp t (omega (arith, shares_le k s (i + 1) n)))
    (λ t. simp t (omega arith))

pub count_start : (s : List ℕ) (k i n : ℕ) → 0 + shares_from k s (i + 0) (n - 0) ≡ shares_from k s i n
count_start s k i n =
    let a : i + 0 ≡ i = omega arith in
    let b : n - 0 ≡ n = omega arith in
    omega (arith, ap₂ (λ (x y : ℕ). shares_from k s x y) a b)

module _ (s : List ℕ) (k i n r : ℕ) (e : r + shares_from k s (i + r) (n - r) ≡ shares_from k s i n) where
  module _ (h : r < n) (t : Bool) (w : t ≡ is_share k s (i + r)) where
    step : shares_from k s (i + r) (n - r) ≡ cond (is_share k s (i + r)) (shares_from k s (i + r + 1) (n - (r + 1)) + 1) 0
    unfolding shares_from
    step = let z : n - r ≡ suc (n - (r + 1)) = omega arith in rw z refl

    pub count_turn : t ≡ true → r + 1 + shares_from k s (i + (r + 1)) (n - (r + 1)) ≡ shares_from k s i n
    count_turn y =
        let z : i + (r + 1) ≡ i + r + 1 = omega arith in
        let v : shares_from k s (i + r) (n - r) ≡ shares_from k s (i + r + 1) (n - (r + 1)) + 1 = step ∙ simp (sym w ∙ y) in
        omega (arith, ap (λ (j : ℕ). shares_from k s j (n - (r + 1))) z)

    pub count_stop : t ≡ false → r ≡ shares_from k s i n
    count_stop y =
        let v : shares_from k s (i + r) (n - r) ≡ 0 = step ∙ simp (sym w ∙ y) in
        omega arith

  pub count_done : n ≤ r → r ≡ shares_from k s i n
  unfolding shares_from
  count_done h =
      let z : n - r ≡ 0 = omega arith in
      let v : shares_from k s (i + r) (n - r) ≡ 0 = rw z refl in
      omega arith

pub ruleset counting = (count_start, count_turn, count_stop, count_done, rules)

-- ---- the copy of the shares, into the first n places of o
module _ (s : List ℕ) (i n : ℕ) (o : List ℕ) where
  pub copy_start : take n o ≡ shares_at s i 0 ++ drop 0 (take n o)
  unfolding shares_at
  copy_start = list_start (λ j. first_of s (i + j)) (take n o)

  module _ (j : ℕ) (l : List ℕ) (e : l ≡ shares_at s i j ++ drop j (take n o)) where
    pub copy_turn : (v : ℕ) → j < length (take n o) → length l ≡ length (take n o) → v ≡ first_of s (i + j) → set l j v ≡ shares_at s i (j + 1) ++ drop (j + 1) (take n o)
    unfolding shares_at
    copy_turn v h k q = list_turn (λ m. first_of s (i + m)) (take n o) e (omega arith) k q

    pub copy_done : n ≤ length o → j ≤ length (take n o) → length (take n o) ≤ j → l ++ drop n o ≡ shares_at s i n ++ drop n o
    copy_done h a b =
        let z : j ≡ n = omega (arith, length-take-le n o h) in
        ap (λ (m : List ℕ). m ++ drop n o) (e ∙ rw (drop_all j (take n o) b, append-nil, z))

pub ruleset copying = (copy_start, copy_turn, copy_done, rules)
