-- Shares weighed one by one behind the first m, of which nothing is asked again. Assumes nothing.
use mathlib.Core.Path.{◌≡◌, ap, ◌∙◌}
use mathlib.Core.Bool.{Bool}
use mathlib.Core.List.{List}
use Prim.Native.Nat.{ℕ, ◌+◌, ◌-◌, ◌%◌, ◌≤◌, ◌<◌}
use native.Mathlib.Omega.{arith}
use lib.Bits.{bit_or}
use lib.Dec.{ltb}
use lib.ListN.{length, get_or, take, drop, length-drop}
use lib.Seq.{get_or-take, get_or-drop, length-take-le}
use Rattle.basics.specs.Sums.{sum_below, all_below}
use Rattle.shares.specs.Shares.{total_of}
use Rattle.shares.specs.Cluster.{is_share, shares_fit}
use Rattle.shares.proofs.WeighLaws.{bits_turn, total_turn}

module _ (xs : List ℕ) (m j : ℕ) where
  abbrev behind : List ℕ
  behind = take (length xs - m) (drop m xs)

  abbrev fits_at : ℕ → Bool
  fits_at i = is_share (get_or xs i 0)

  abbrev at : ℕ → ℕ
  at i = get_or xs i 0

  many : length behind ≡ length xs - m
  many = length-take-le (length xs - m) (drop m xs) (omega (arith, length-drop m xs))

  here : j < length behind → get_or behind j 0 ≡ at (m + j)
  here l = get_or-take (length xs - m) (drop m xs) j 0 (omega (arith, many)) ∙ get_or-drop m xs j 0

  next : m + j + 1 ≡ m + (j + 1)
  next = omega arith

  pub bits_behind : (a b : ℕ) → j < length behind → ltb a 2147483648 ≡ all_below (m + j) fits_at → ltb b 2147483648 ≡ is_share (get_or behind j 0) → ltb (bit_or a b) 2147483648 ≡ all_below (m + (j + 1)) fits_at
  bits_behind a b l e f = bits_turn fits_at (m + j) a b e (f ∙ ap is_share (here l)) ∙ ap (λ (n : ℕ). all_below n fits_at) next

  pub total_behind : (t r : ℕ) → j < length behind → t ≡ sum_below (m + j) at % 4294967296 → r ≡ (t + get_or behind j 0) % 4294967296 → r ≡ sum_below (m + (j + 1)) at % 4294967296
  total_behind t r l e f = total_turn at (m + j) t r e (f ∙ ap (λ (x : ℕ). (t + x) % 4294967296) (here l)) ∙ ap (λ (n : ℕ). sum_below n at % 4294967296) next

  all_taken : m ≤ length xs → length behind ≤ j → j ≤ length behind → m + j ≡ length xs
  all_taken l a b = omega (arith, many)

  pub bits_all : (a : ℕ) → m ≤ length xs → length behind ≤ j → j ≤ length behind → ltb a 2147483648 ≡ all_below (m + j) fits_at → ltb a 2147483648 ≡ shares_fit xs
  unfolding shares_fit
  bits_all a l h k e = e ∙ ap (λ (n : ℕ). all_below n fits_at) (all_taken l h k)

  pub total_all : (t : ℕ) → m ≤ length xs → length behind ≤ j → j ≤ length behind → t ≡ sum_below (m + j) at % 4294967296 → t ≡ total_of xs % 4294967296
  unfolding total_of
  total_all t l h k e = e ∙ ap (λ (n : ℕ). sum_below n at % 4294967296) (all_taken l h k)
