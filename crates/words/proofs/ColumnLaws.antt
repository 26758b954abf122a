-- A column of 64 places that is filled from the front. Assumes nothing.
use mathlib.Core.Path.{◌≡◌, ap, sym, ◌∙◌}
use mathlib.Core.List.{List, ◌++◌, append-nil}
use Prim.Native.Nat.{ℕ, ◌+◌, ◌≤◌, ◌<◌}
use native.Mathlib.Omega.{arith}
use lib.ListN.{length, drop, set, drop_of_length-le}
use Rattle.basics.specs.Sums.{list_below}
use Rattle.basics.proofs.SumLaws.{list_turn}

module _ {A : Type 0} (f : ℕ → A) where
  pub fill_turn : (i : ℕ) {v : A} {l : List A} (o : List A) → l ≡ list_below i f ++ drop i o → i < 64 → length l ≡ 64 → length o ≡ 64 → v ≡ f i → set l i v ≡ list_below (i + 1) f ++ drop (i + 1) o
  fill_turn i {v} {l} o e h n m q = list_turn f {i = i} {v = v} {l = l} o e (omega arith) (n ∙ sym m) q

  pub fill_done : (i : ℕ) (l o : List A) → l ≡ list_below i f ++ drop i o → length o ≡ 64 → i ≤ 64 → 64 ≤ i → l ≡ list_below 64 f
  fill_done i l o e n a b =
      let z : i ≡ 64 = omega arith in
      e ∙ ap (λ (t : List A). list_below i f ++ t) (drop_of_length-le o {i = i} (omega arith)) ∙ append-nil (list_below i f) ∙ ap (λ (j : ℕ). list_below j f) z

-- one more of n places at most
pub fill_next : (f : ℕ → ℕ) (i n : ℕ) {v : ℕ} {l : List ℕ} (o : List ℕ) → l ≡ list_below i f ++ drop i o → i < n → n ≤ 64 → length l ≡ 64 → length o ≡ 64 → v ≡ f i
    → set l i v ≡ list_below (i + 1) f ++ drop (i + 1) o
fill_next f i n o e h k a b q = fill_turn f i o e (omega arith) a b q
