-- The deal's rounds: how many slots they have, and who owns a slot. Assumes nothing.
use mathlib.Core.Path.{◌≡◌, refl, ap, sym, ◌∙◌}
use mathlib.Core.Bool.{Bool, true, false, cond}
use mathlib.Core.List.{List, [], ◌∷◌}
use Prim.Native.Nat.{ℕ, zero, suc, ◌+◌, ◌-◌, ◌≤◌, ◌<◌, min}
use native.Mathlib.Decide.{dec_lt}
use native.Mathlib.Numerals.{add-one}
use native.Mathlib.Omega.{arith}
use lib.Dec.{ltb}
use lib.ListN.{length, get_or}
use borrow.Author.Tests.{lt-ltb, le-ltb}
use Rattle.basics.specs.Sums.{sum_below, how_many, join_below}
use Rattle.basics.proofs.SumLaws.{sum_start, sum_cong, sum_zero, sum_add}
use Rattle.deal.specs.Rounds.{round_of, deal_of, slots_before, owner_of}
use Rattle.basics.proofs.HowManyLaws.{one}
use Rattle.basics.proofs.JoinLaws.{length_join, length_join_suc, join_at, join_past, join_below_lem}

module _ (c : List ℕ) (t : ℕ) where
  -- member i still has count in round t
  abbrev pub still : ℕ → Bool
  still i = ltb t (get_or c i 0)

  abbrev taken : ℕ → List ℕ
  taken i = cond (still i) (i ∷ []) []

  taken_one : (i : ℕ) (b : Bool) → length (cond b (i ∷ []) []) ≡ one b
  taken_one i true = refl
  taken_one i false = refl

  first_members : (n : ℕ) → length (join_below n taken) ≡ how_many n still
  unfolding how_many
  first_members n = length_join taken n ∙ sum_cong (λ i. length (taken i)) (λ i. one (still i)) n (λ i l. taken_one i (still i))

  pub length_round : length (round_of c t) ≡ how_many (length c) still
  unfolding round_of
  length_round = first_members (length c)

  -- ---- the pass over the members of one round
  pub member_found : (i place n m : ℕ) → i < length c → n ≡ how_many i still → n ≤ place → m ≡ cond (ltb t (get_or c i 0)) 1 0 → place < n + m
      → i ≡ get_or (round_of c t) place 0
  unfolding round_of
  member_found i place n m l e a f b = elim (dec_lt t (get_or c i 0)) [
    | yes k ↦ (let yes-still : still i ≡ true = lt-ltb t (get_or c i 0) k in
        let z : place - length (join_below i taken) ≡ 0 = omega (arith, first_members i, simp yes-still at f) in
        sym (join_at taken (length c) i place l (omega (arith, first_members i)) (omega (arith, first_members i, length_join_suc taken i, taken_one i (still i)))
        ∙ rw (z, yes-still) refl))
    | no k ↦ absurd (omega (arith, simp (le-ltb t (get_or c i 0) (omega arith)) at f))
  ]

-- ---- the slots of the first rounds
pub slots_none : (c : List ℕ) → slots_before c 0 ≡ 0
unfolding slots_before
slots_none c = sum_zero (λ i. min (get_or c i 0) 0) (length c) (λ j l. omega arith)

pub slots_suc : (c : List ℕ) (t : ℕ) → slots_before c (suc t) ≡ slots_before c t + length (round_of c t)
unfolding slots_before how_many
slots_suc c t =
    sum_cong (λ i. min (get_or c i 0) (suc t)) (λ i. min (get_or c i 0) t + one (still c t i)) (length c) (λ i l. step (get_or c i 0))
    ∙ sum_add (λ i. min (get_or c i 0) t) (λ i. one (still c t i)) (length c)
    ∙ ap (λ (x : ℕ). sum_below (length c) (λ i. min (get_or c i 0) t) + x) (sym (length_round c t))
  where
    step : (x : ℕ) → min x (suc t) ≡ min x t + one (ltb t x)
    step x = elim (dec_lt t x) [
      | yes l ↦ simp (lt-ltb t x l) (omega arith)
      | no l ↦ simp (le-ltb t x (omega arith)) (omega arith)
    ]

pub length_deal : (c : List ℕ) (q : ℕ) → length (deal_of c q) ≡ slots_before c q
unfolding deal_of
length_deal c zero = length_join (round_of c) zero ∙ sym (sum_start (λ i. length (round_of c i))) ∙ sym (slots_none c)
length_deal c (suc q) = length_join_suc (round_of c) q ∙ omega (arith, length_deal c q, slots_suc c q)

-- ---- the owner of a slot, by its round
pub owner_past : (c : List ℕ) (q slot n : ℕ) → n ≡ slots_before c q → n ≤ slot → 0 ≡ owner_of c q slot
unfolding owner_of deal_of
owner_past c q slot n e l = join_past (round_of c) q slot (omega (arith, length_deal c q))

pub owner_at : (c : List ℕ) (q t slot n place r : ℕ) → t < q → slots_before c t ≤ slot → slot < slots_before c (t + 1) → n ≡ slots_before c t
    → place ≡ slot - n → r ≡ get_or (round_of c t) place 0 → r ≡ owner_of c q slot
unfolding owner_of deal_of
owner_at c q t slot n place r l a b m e f =
    let z : slots_before c (t + 1) ≡ slots_before c (suc t) = ap (slots_before c) (add-one t) in
    let p : place ≡ slot - length (join_below t (round_of c)) = omega (arith, length_deal c t) in
    f ∙ ap (λ (x : ℕ). get_or (round_of c t) x 0) p
    ∙ sym (join_at (round_of c) q t slot l (omega (arith, length_deal c t)) (omega (arith, length_deal c (suc t))))

-- an owner is a member
pub round_below : (c : List ℕ) (t s : ℕ) → 0 < length c → get_or (round_of c t) s 0 < length c
unfolding round_of
round_below c t s p = join_below_lem (taken c t) (length c) p (length c) (λ i n l. one_below i n l (still c t i)) s
  where
    one_below : (i n : ℕ) → i < length c → (b : Bool) → get_or (cond b (i ∷ []) []) n 0 < length c
    one_below i zero l true = l
    one_below i (suc n) l true = p
    one_below i n l false = p

pub owner_below : (c : List ℕ) (q slot : ℕ) → 0 < length c → owner_of c q slot < length c
unfolding owner_of deal_of
owner_below c q slot p = join_below_lem (round_of c) (length c) p q (λ i s l. round_below c i s p) slot
