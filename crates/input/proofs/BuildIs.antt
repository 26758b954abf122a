-- An input is well built just where it has the build that document 01 names, and it has that build in one way only. Assumes nothing.
use mathlib.Core.Path.{◌≡◌, sym, ◌∙◌}
use mathlib.Core.Bool.{true, false, ◌&&◌}
use mathlib.Core.List.{List}
use Prim.Native.Nat.{ℕ, zero, suc, ◌+◌, ◌*◌, ◌/◌, ◌<◌, ◌≤◌}
use native.Mathlib.Omega.{arith}
use lib.Dec.{eqb, ltb, leb}
use lib.ListN.{length, get_or}
use borrow.Author.Tests.{eqb-true, eq-eqb, ne_eqb, leb-true, le-leb}
use Rattle.basics.specs.Bytes.{all_zero, part}
use Rattle.basics.proofs.BoolLaws.{either, and_left, and_right, and_not_left, and_not_right}
use Rattle.input.specs.Input.{is_kind, is_share, second_of, shares_from, senders, receivers, in_order, is_built, build_of, Build}
use Rattle.input.specs.Build.{BuiltOf}

-- a record of one kind is no share of another
other_kind : (k m : ℕ) (s : List ℕ) (i : ℕ) → (k ≡ m → ⊥) → is_kind k s i ≡ true → is_share m s i ≡ false
unfolding is_kind is_share
other_kind k m s i d e =
    let here = ltb i (length s / 12) in
    let zeros = all_zero (part (12 * i + 1) (12 * i + 4) s) in
    let byte = get_or s (12 * i) 0 in
    let is : byte ≡ k = eqb-true byte k (and_left (eqb byte k) zeros (and_right here (eqb byte k && zeros) e)) in
    let isnt : eqb byte m ≡ false = ne_eqb byte m (λ q. d (sym is ∙ q)) in
    and_not_left (here && (eqb byte m && zeros)) (eqb (second_of s i) 0) (and_not_right here (eqb byte m && zeros) (and_not_left (eqb byte m) zeros isnt))

-- ---- the count of shares
module _ (k : ℕ) (s : List ℕ) where
  -- so many shares, and then none: that many are counted
  counted : (i n a : ℕ) → a ≤ n → ((j : ℕ) → j < a → is_share k s (i + j) ≡ true) → is_share k s (i + a) ≡ false → shares_from k s i n ≡ a
  unfolding shares_from
  counted i zero a l h e = omega arith
  counted i (suc n) zero l h e = let z : i + 0 ≡ i = omega arith in simp (rw z at e)
  counted i (suc n) (suc a) l h e =
      let z : i + 0 ≡ i = omega arith in
      let first : is_share k s i ≡ true = rw z at (h 0 (omega arith)) in
      let next : (j : ℕ) → i + suc j ≡ i + 1 + j = λ j. omega arith in
      let rest : shares_from k s (i + 1) n ≡ a = counted (i + 1) n a (omega arith) (λ j m. rw (← next j) (h (suc j) (omega arith))) (rw (← next a) e) in
      simp (first, rest) (omega arith)

  -- what is counted are shares
  shares : (i n j : ℕ) → j < shares_from k s i n → is_share k s (i + j) ≡ true
  unfolding shares_from
  shares i zero j l = absurd (omega arith)
  shares i (suc n) zero l =
      let z : i + 0 ≡ i = omega arith in
      either _ (is_share k s i) (λ t. rw z t) (λ t. absurd (omega (arith, simp t at l)))
  shares i (suc n) (suc j) l =
      let z : i + suc j ≡ i + 1 + j = omega arith in
      either _ (is_share k s i) (λ t. rw z (shares (i + 1) n j (omega (arith, simp t at l)))) (λ t. absurd (omega (arith, simp t at l)))

-- ---- well built, and so built
module _ (s : List ℕ) where
  pub built_is_built : is_built s ≡ true → BuiltOf s (senders s) (receivers s)
  unfolding is_built in_order senders receivers
  built_is_built e =
      let a = senders s in
      let b = receivers s in
      let order = and_right (leb (length s) 4_096) (in_order s a b) e in
      let kinds = and_right (eqb (length s) (12 * (a + b + 3))) (is_kind 1 s 0 && (is_kind 3 s (a + 1) && is_kind 5 s (a + b + 2))) order in
      let later = and_right (is_kind 1 s 0) (is_kind 3 s (a + 1) && is_kind 5 s (a + b + 2)) kinds in
      record {
        few_bytes = leb-true (length s) 4_096 (and_left (leb (length s) 4_096) (in_order s a b) e);
        all_records = eqb-true (length s) (12 * (a + b + 3)) (and_left (eqb (length s) (12 * (a + b + 3))) (is_kind 1 s 0 && (is_kind 3 s (a + 1) && is_kind 5 s (a + b + 2))) order);
        kind_1 = and_left (is_kind 1 s 0) (is_kind 3 s (a + 1) && is_kind 5 s (a + b + 2)) kinds;
        kinds_2 = shares 2 s 1 (length s / 12);
        kind_3 = and_left (is_kind 3 s (a + 1)) (is_kind 5 s (a + b + 2)) later;
        kinds_4 = shares 4 s (a + 2) (length s / 12);
        kind_5 = and_right (is_kind 3 s (a + 1)) (is_kind 5 s (a + b + 2)) later;
      }

  module _ (a b : ℕ) (h : BuiltOf s a b) where
    pub so_many_senders : senders s ≡ a
    unfolding senders
    so_many_senders =
        let z : a + 1 ≡ 1 + a = omega arith in
        counted 2 s 1 (length s / 12) a (omega (arith, h.all_records)) h.kinds_2 (rw (← z) (other_kind 3 2 s (a + 1) (λ e. omega arith) h.kind_3))

    pub so_many_receivers : receivers s ≡ b
    unfolding receivers
    so_many_receivers =
        let z : a + b + 2 ≡ a + 2 + b = omega arith in
        rw so_many_senders
        (counted 4 s (a + 2) (length s / 12) b (omega (arith, h.all_records)) h.kinds_4 (rw (← z) (other_kind 5 4 s (a + b + 2) (λ e. omega arith) h.kind_5)))

    pub so_built : is_built s ≡ true
    unfolding is_built in_order
    so_built = rw (so_many_senders, so_many_receivers) (simp (le-leb (length s) 4_096 h.few_bytes, eq-eqb (length s) (12 * (a + b + 3)) h.all_records, h.kind_1, h.kind_3, h.kind_5))

-- ---- as a caller of `build_of` knows it
module _ (s : List ℕ) (x : Build) (e : x ≡ build_of s) where
  pub built_as_told : x.built ≡ is_built s
  unfolding build_of
  built_as_told = rw e (either _ (is_built s) (λ t. simp t) (λ t. simp t))

  module _ (h : x.built ≡ true) where
    well : is_built s ≡ true
    well = sym built_as_told ∙ h

    pub senders_as_told : x.senders ≡ senders s
    unfolding build_of
    senders_as_told = rw e (simp well)

    pub receivers_as_told : x.receivers ≡ receivers s
    unfolding build_of
    receivers_as_told = rw e (simp well)

    pub so_told : BuiltOf s x.senders x.receivers
    so_told = rw (senders_as_told, receivers_as_told) (built_is_built s well)
