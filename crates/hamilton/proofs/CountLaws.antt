-- The turns of the loops that count, and what quotas and keys say of the counts. Assumes nothing.
use mathlib.Core.Path.{◌≡◌, refl, ap, sym, ◌∙◌}
use mathlib.Core.Bool.{Bool, true, false, cond}
use mathlib.Core.List.{List, ◌++◌}
use Prim.Native.Nat.{ℕ, suc, ◌+◌, ◌*◌, ◌-◌, ◌/◌, ◌%◌, ◌≤◌, ◌<◌}
use native.Mathlib.Nat.{mul-le-mul_left}
use native.Mathlib.Omega.{arith}
use lib.Dec.{ltb}
use lib.ListN.{length, get_or, drop, set, get_or-append}
use lib.Seq.{drop-cons, drop_at, get_or_at}
use mir.Val.{Fits, bool_byte}
use mir.Syntax.{w32}
use Rattle.basics.specs.Sums.{sum_below, how_many, list_below}
use Rattle.basics.proofs.SumLaws.{sum_more, sum_grows, sum_part, length_list, list_turn, list_at, list_is}
use Rattle.shares.specs.Shares.{total_of}
use Rattle.hamilton.specs.Hamilton.{quota_of, remainder_of, undealt_of, count_of, counts_of, Dealable}
use Rattle.basics.proofs.HowManyLaws.{one, many_cong}
use Rattle.hamilton.proofs.RankLaws.{under, under_all}
use Rattle.hamilton.proofs.QuotaLaws.{quotas_le, few_undealt, key, key_lt, keys_apart, count_by_key}

pub product : (a b : ℕ) → a ≤ 1000000 → b ≤ 1024 → Fits w32 (a * b)
product a b l m =
    let h : a * b ≤ a * 1024 = mul-le-mul_left a m in
    record { fits = omega arith }

pub share_small : (s : List ℕ) (q i : ℕ) → Dealable s q → i < length s → get_or s i 0 ≤ 1000000
share_small s q i h l = h.small_share i l

-- ---- sums and lists by index
list_front : (f : ℕ → ℕ) (n i : ℕ) (z : List ℕ) → i < n → get_or (list_below n f ++ z) i 0 ≡ f i
list_front f n i z l = get_or-append (list_below n f) z 0 i (omega (arith, length_list f n)) ∙ list_at f 0 n i l

pub list_done : (f : ℕ → ℕ) (i n : ℕ) (l o : List ℕ) → l ≡ list_below i f ++ drop i o → i ≤ n → n ≤ i → l ≡ list_below n f ++ drop n o
list_done f i n l o e a b = let z : i ≡ n = omega arith in rw z at e

-- a loop over n places that stores one more value, in a list with at least as many
pub list_next : (f : ℕ → ℕ) (i n v : ℕ) (l o : List ℕ) → i < n → n ≤ length o → length l ≡ length o → l ≡ list_below i f ++ drop i o → v ≡ f i
    → set l i v ≡ list_below (i + 1) f ++ drop (i + 1) o
list_next f i n v l o a b c e g = list_turn f o e (omega arith) c g

-- ---- a member's lower quota and key, and what the lower quotas leave
quota_le : (s : List ℕ) (q : ℕ) → Dealable s q → (i : ℕ) → i < length s → quota_of s q i ≤ 1024
quota_le s q h i l = omega (arith, sum_part (quota_of s q) (length s) i l, quotas_le s q h, h.small_quantum)

module _ (s : List ℕ) (q d i : ℕ) (h : Dealable s q) (e : d ≡ total_of s) where
  module _ (x : ℕ) (f : x ≡ get_or s i 0 * q) where
    pub quota_told : x / d ≡ quota_of s q i
    unfolding quota_of
    quota_told = rw (f, e) refl

    remainder_told : x % d ≡ remainder_of s q i
    unfolding remainder_of
    remainder_told = rw (f, e) refl

    pub key_told : (v : ℕ) → v ≡ (d - x % d) * 64 + i → v ≡ key s q i
    key_told v k = k ∙ rw (remainder_told, e) refl

    module _ (rest : ℕ) (l : i < length s) (u : rest + sum_below i (quota_of s q) ≡ q) where
      pub undealt_fits : x / d ≤ rest
      undealt_fits = omega (arith, quotas_le s q h, sum_grows (quota_of s q) (i + 1) (length s) (omega arith), sum_more (quota_of s q) i, quota_told)

      pub undealt_turn : rest - x / d + sum_below (i + 1) (quota_of s q) ≡ q
      undealt_turn = omega (arith, undealt_fits, sum_more (quota_of s q) i, quota_told)

pub undealt_start : (s : List ℕ) (q : ℕ) → q + sum_below 0 (quota_of s q) ≡ q
unfolding sum_below
undealt_start s q = omega arith

pub undealt_done : (s : List ℕ) (q i rest : ℕ) → i ≤ length s → length s ≤ i → rest + sum_below i (quota_of s q) ≡ q → rest ≡ undealt_of s q
unfolding undealt_of
undealt_done s q i rest a b e =
    let z : i ≡ length s = omega arith in
    omega (arith, ap (λ (k : ℕ). sum_below k (quota_of s q)) z)

-- ---- the counts, by the quotas and keys of all members
-- a test that is made a number
pub as_number : (t : Bool) → bool_byte t ≡ one t
as_number true = refl
as_number false = refl

-- a loop that reads what is stored at place i and stores what comes of it
module _ (f : ℕ → ℕ) (i n : ℕ) (l o : List ℕ) (a : i < n) (b : n ≤ length o) (e : l ≡ list_below i f ++ drop i o) where
  list_unread : get_or l i 0 ≡ get_or o i 0
  list_unread = rw (e, drop-cons o i 0 (omega arith)) (get_or_at (list_below i f) (get_or o i 0) (drop (suc i) o) 0 i (length_list f i))

  pub unread_small : ((j : ℕ) → j < n → get_or o j 0 ≤ 1024) → get_or l i 0 ≤ 1024
  unread_small h = omega (arith, list_unread, h i a)

-- and one that adds one to those whose key is below the end
pub leftover_turn : (keys : List ℕ) (end i n v : ℕ) (l o : List ℕ) → i < n → n ≤ length o → length l ≡ length o
    → l ≡ list_below i (λ j. get_or o j 0 + cond (ltb (get_or keys j 0) end) 1 0) ++ drop i o
    → v ≡ get_or l i 0 + cond (ltb (get_or keys i 0) end) 1 0
    → set l i v ≡ list_below (i + 1) (λ j. get_or o j 0 + cond (ltb (get_or keys j 0) end) 1 0) ++ drop (i + 1) o
leftover_turn keys end i n v l o a b c e g =
    let f : ℕ → ℕ = λ j. get_or o j 0 + one (ltb (get_or keys j 0) end) in
    list_next f i n v l o a b c e (omega (arith, list_unread f i n l o a b e))

pub rest_few : (s : List ℕ) (q : ℕ) → Dealable s q → (rest : ℕ) → rest ≡ undealt_of s q → rest < length s
rest_few s q h rest u = omega (arith, few_undealt s q h)

module _ (s : List ℕ) (q : ℕ) (h : Dealable s q) (keys z : List ℕ) (e : keys ≡ list_below (length s) (key s q) ++ drop (length s) z) where
  key_at : (i : ℕ) → i < length s → get_or keys i 0 ≡ key s q i
  key_at i l = rw e (list_front (key s q) (length s) i (drop (length s) z) l)

  pub keys_differ : (i j : ℕ) → i < j → j < length s → get_or keys i 0 ≡ get_or keys j 0 → ⊥
  keys_differ i j l m f = keys_apart s q h i j l m (sym (key_at i (omega arith)) ∙ f ∙ key_at j m)

  module _ (rest : ℕ) (u : rest ≡ undealt_of s q) where
    pub all_below_lem : (d : ℕ) → d ≡ total_of s → rest < how_many (length s) (λ j. ltb (get_or keys j 0) ((d + 1) * 64))
    all_below_lem d t = omega (
      arith,
      rest_few s q h rest u,
      under_all (λ j. get_or keys j 0) (length s) ((d + 1) * 64) (λ j l. omega (arith, key_at j l, key_lt s q h j l)),
    )

    module _ (low o : List ℕ) (f : low ≡ list_below (length s) (quota_of s q) ++ drop (length s) o) where
      quota_at : (i : ℕ) → i < length s → get_or low i 0 ≡ quota_of s q i
      quota_at i l = rw f (list_front (quota_of s q) (length s) i (drop (length s) o) l)

      pub quotas_small : (i : ℕ) → i < length s → get_or low i 0 ≤ 1024
      quotas_small i l = omega (arith, quota_at i l, quota_le s q h i l)

      count_at : (end i : ℕ) → rest ≡ under (λ j. get_or keys j 0) (length s) end → i < length s
          → get_or low i 0 + one (ltb (get_or keys i 0) end) ≡ count_of s q i
      count_at end i g l =
          rw (quota_at i l, key_at i l)
          (sym (count_by_key s q h end i
          (sym u ∙ g ∙ many_cong (λ j. ltb (get_or keys j 0) end) (λ j. ltb (key s q j) end) (length s) (λ j m. rw (key_at j m) refl)) l))

      pub counts_told : (end : ℕ) (l : List ℕ) → rest ≡ how_many (length s) (λ j. ltb (get_or keys j 0) end)
          → l ≡ list_below (length s) (λ i. get_or low i 0 + cond (ltb (get_or keys i 0) end) 1 0) ++ drop (length s) low
          → l ≡ counts_of s q ++ drop (length s) o
      unfolding counts_of
      counts_told end l g k =
          let n = length s in
          let each : ℕ → ℕ = λ i. get_or low i 0 + one (ltb (get_or keys i 0) end) in
          let front : list_below n each ≡ list_below n (count_of s q) =
          list_is (count_of s q) 0 n (list_below n each) (length_list each n) (λ i m. list_at each 0 n i m ∙ count_at end i g m) in
          let back : drop n low ≡ drop n o = rw f (drop_at (list_below n (quota_of s q)) (drop n o) n (length_list (quota_of s q) n)) in
          k ∙ rw (front, back) refl
