-- The bits of many words, gathered in one: of two lists behind each other, by index, and what the one word says of each. Assumes nothing.
use Rattle.std.proofs.Common.{◌≡◌, refl, ap, sym, ◌∙◌, Bool, true, ◌&&◌, ◌||◌, ℕ, zero, suc, ◌+◌, ◌^◌, ◌<◌, ◌≤◌, List, [], ◌∷◌, ◌++◌, length, get_or, take, arith}
use Rattle.std.specs.Int.Bits.{bit_or, or_zero_r}
use Rattle.std.specs.List.{list_any, list_all}
use Rattle.std.proofs.lemmas.List.Folds.{list_any_at}
use Rattle.std.proofs.lemmas.Nat.Bits.{bit_at_or, same_from_bits}
use Rattle.std.proofs.lemmas.List.{take_all}
use Rattle.std.proofs.Math.Seq.{take-suc}
use native.Mathlib.Numerals.{add-one}
use lib.Dec.{eqb, ltb}
use borrow.Author.Tests.{lt-ltb}
use lib.Pow.{pow_pos}
use Rattle.basics.proofs.BitLaws.{or_zero, or_below}
use Rattle.basics.specs.Bytes.{all_zero}
use Rattle.marks.specs.Masks.{is_marked}
use Rattle.marks.specs.Gathered.{any_of}
use Rattle.marks.proofs.MaskLaws.{marked_none}
use Rattle.marks.proofs.SetLaws.{marked_or}

pub or_assoc : (a b c : ℕ) → bit_or (bit_or a b) c ≡ bit_or a (bit_or b c)
or_assoc a b c = same_from_bits _ _ (λ i. simp bit_at_or (omega arith))

-- ---- of two lists, one behind the other
pub any_append : (xs ys : List ℕ) → any_of (xs ++ ys) ≡ bit_or (any_of xs) (any_of ys)
unfolding any_of
any_append [] ys = refl
any_append (x ∷ xs) ys = ap (bit_or x) (any_append xs ys) ∙ sym (or_assoc x (any_of xs) (any_of ys))

-- ---- the loop: its start, a turn, its end
pub any_start : 0 ≡ any_of []
unfolding any_of
any_start = refl

pub any_turn : (xs : List ℕ) (i t : ℕ) → i < length xs → t ≡ any_of (take i xs) → bit_or t (get_or xs i 0) ≡ any_of (take (i + 1) xs)
unfolding any_of
any_turn xs i t l e = rw (add-one, take-suc xs i 0 l, any_append (take i xs) (get_or xs i 0 ∷ []), or_zero_r, e)

pub any_done : (xs : List ℕ) (i t : ℕ) → length xs ≤ i → t ≡ any_of (take i xs) → t ≡ any_of xs
any_done xs i t l e = e ∙ ap any_of (take_all i xs l)

-- ---- by index: a word that is gathered from the first n words, one after another, is what these have together
pub any_by_index : (f : ℕ → ℕ) (xs : List ℕ) (n : ℕ) → f 0 ≡ 0 → ((k : ℕ) → f (k + 1) ≡ bit_or (f k) (get_or xs k 0)) → n ≤ length xs → any_of (take n xs) ≡ f n
any_by_index f xs zero z h l = sym any_start ∙ sym z
any_by_index f xs (suc n) z h l =
    let more : n + 1 ≡ suc n = add-one n in
    ap (λ (k : ℕ). any_of (take k xs)) (sym more)
    ∙ sym (any_turn xs n (f n) (omega arith) (sym (any_by_index f xs n z h (omega arith))))
    ∙ sym (h n)
    ∙ ap f more

pub any_all_by_index : (f : ℕ → ℕ) (xs : List ℕ) (n : ℕ) → f 0 ≡ 0 → ((k : ℕ) → f (k + 1) ≡ bit_or (f k) (get_or xs k 0)) → length xs ≡ n → any_of xs ≡ f n
any_all_by_index f xs n z h l = ap any_of (sym (take_all n xs (omega arith))) ∙ any_by_index f xs n z h (omega arith)

-- ---- what the one word says of each
pub marked_any : (xs : List ℕ) (b : ℕ) → is_marked (any_of xs) b ≡ list_any (λ x. is_marked x b) xs
unfolding any_of
marked_any [] b = marked_none b
marked_any (x ∷ xs) b = marked_or x (any_of xs) b ∙ ap (λ (t : Bool). is_marked x b || t) (marked_any xs b)

-- it is 0 exactly where all of them are
pub any_zero : (xs : List ℕ) → eqb (any_of xs) 0 ≡ all_zero xs
unfolding any_of all_zero
any_zero [] = refl
any_zero (x ∷ xs) = or_zero x (any_of xs) ∙ ap (λ (t : Bool). eqb x 0 && t) (any_zero xs)

-- and below a power of two exactly where all of them are
pub any_below : (k : ℕ) (xs : List ℕ) → ltb (any_of xs) (2 ^ k) ≡ list_all (λ x. ltb x (2 ^ k)) xs
unfolding any_of
any_below k [] = lt-ltb 0 (2 ^ k) (pow_pos k)
any_below k (x ∷ xs) = or_below k x (any_of xs) ∙ ap (λ (t : Bool). ltb x (2 ^ k) && t) (any_below k xs)
