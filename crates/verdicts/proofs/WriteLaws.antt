-- Verdicts in the lent output, one after another. Assumes nothing.
use mathlib.Core.Path.{◌≡◌, refl, ap, ap₂, sym, ◌∙◌}
use mathlib.Core.Bool.{Bool, true, false, cond}
use mathlib.Core.Logic.{inl, inr}
use mathlib.Core.List.{List, [], ◌∷◌, ◌++◌, append_assoc, append-nil}
use Prim.Native.Nat.{ℕ, zero, suc, ◌+◌, ◌-◌, ◌*◌, ◌/◌, ◌%◌, ◌≤◌}
use native.Mathlib.Nat.{mul-one}
use native.Mathlib.Numerals.{add-one}
use native.Mathlib.Decide.{dec_lt}
use native.Mathlib.Omega.{arith}
use lib.ListN.{length, get_or, take, drop, length-append, length-take, length-drop, drop_of_length-le, get_or-eq_default}
use lib.Seq.{take_all, drop-drop, take_at, drop_at, length-take-le}
use mir.Val.{Fits}
use mir.Syntax.{w32}
use borrow.Rule.Slice.PartMut.{mid_of, put_mid}
use Rattle.basics.specs.Sums.{sum_below}
use Rattle.basics.specs.Bytes.{le_bytes}
use Rattle.basics.proofs.BoolLaws.{bool_cases}
use Rattle.basics.proofs.SumLaws.{sum_zero, sum_bound}
use Rattle.basics.proofs.ByteLaws.{length_le}
use Rattle.basics.proofs.PartLaws.{fill_next}
use Rattle.marks.specs.Masks.{is_marked}
use Rattle.marks.proofs.MaskLaws.{marked_none}
use Rattle.hamilton.specs.Hamilton.{Dealable}
use Rattle.hamilton.specs.Hamilton as hamilton
use Rattle.hamilton.proofs.JudgeLaws.{length_counts}
use Rattle.circle.specs.Positions.{Sized}
use Rattle.circle.specs.declared.table.Ends.{Ends}
use Rattle.circle.specs.TurnTable.{ends_of}
use Rattle.resend.specs.Resends.{sender_of, receiver_of}
use Rattle.deal.specs.Pairs as deal
use Rattle.downstream.specs.declared.state.Cluster.{Cluster}
use Rattle.downstream.specs.declared.state.Downstream.{Downstream}
use Rattle.downstream.specs.State.{shares_of, counts_of}
use Rattle.downstream.proofs.ColumnLaws.{length_resent, count_at}
use Rattle.judging.specs.Verdicts.{due_of, Judging}
use Rattle.verdicts.specs.Written.{verdict_bytes, verdict_from, verdict_of, verdicts_to, verdicts_of, verdict_count, Ready, Writing}

-- the five parts of a verdict
module _ (s : List ℕ) (room : 16 ≤ length s) (k x y n : ℕ) (a b c d e : List ℕ) where
  abbrev s₁ : List ℕ
  s₁ = put_mid 0 8 s a

  abbrev s₂ : List ℕ
  s₂ = put_mid 8 1 s₁ b

  abbrev s₃ : List ℕ
  s₃ = put_mid 9 1 s₂ c

  abbrev s₄ : List ℕ
  s₄ = put_mid 10 1 s₃ d

  pub put_verdict : a ≡ le_bytes (length (mid_of 0 8 s)) k → b ≡ le_bytes (length (mid_of 8 1 s₁)) x → c ≡ le_bytes (length (mid_of 9 1 s₂)) y
      → d ≡ le_bytes (length (mid_of 10 1 s₃)) n → e ≡ le_bytes (length (mid_of 11 5 s₄)) 0 → put_mid 11 5 s₄ e ≡ verdict_bytes k x y n ++ drop 16 s
  unfolding verdict_bytes
  put_verdict ea eb ec ed ee =
      let A = le_bytes 8 k in
      let B = A ++ le_bytes 1 x in
      let C = B ++ le_bytes 1 y in
      let D = C ++ le_bytes 1 n in
      let lA : length A ≡ 8 = length_le 8 k in
      let lB : length B ≡ 9 = length-append A (le_bytes 1 x) ∙ ap₂ ◌+◌ lA (length_le 1 x) in
      let lC : length C ≡ 10 = length-append B (le_bytes 1 y) ∙ ap₂ ◌+◌ lB (length_le 1 y) in
      let lD : length D ≡ 11 = length-append C (le_bytes 1 n) ∙ ap₂ ◌+◌ lC (length_le 1 n) in
      let q₁ : s₁ ≡ A ++ drop 8 s = fill_next [] s a 0 8 k refl (omega arith) ea in
      let q₂ : s₂ ≡ B ++ drop 9 s = rw q₁ (fill_next A s b 8 1 x lA (omega arith) (rw q₁ at eb)) in
      let q₃ : s₃ ≡ C ++ drop 10 s = rw q₂ (fill_next B s c 9 1 y lB (omega arith) (rw q₂ at ec)) in
      let q₄ : s₄ ≡ D ++ drop 11 s = rw q₃ (fill_next C s d 10 1 n lC (omega arith) (rw q₃ at ed)) in
      rw q₄ (fill_next D s e 11 5 0 lD (omega arith) (rw q₄ at ee))

pub length_verdict : (k x y n : ℕ) → length (verdict_bytes k x y n) ≡ 16
unfolding verdict_bytes
length_verdict k x y n = simp (length-append, length_le)

-- what is written into the part from place a on
suffix : (a : ℕ) (xs v ys : List ℕ) → a ≤ length xs → length v ≡ 16 → ys ≡ v ++ drop 16 (mid_of a (length xs - a) xs) → put_mid a (length xs - a) xs ys ≡ take a xs ++ (v ++ drop (a + 16) xs)
suffix a xs v ys l n e =
    let rest : mid_of a (length xs - a) xs ≡ drop a xs = take_all (length xs - a) (drop a xs) (simp length-drop (omega arith)) in
    let none : drop (length xs - a) (drop a xs) ≡ [] = drop_of_length-le (drop a xs) {i = length xs - a} (simp length-drop (omega arith)) in
    let y : ys ≡ v ++ drop (a + 16) xs = e ∙ ap (λ (t : List ℕ). v ++ drop 16 t) rest ∙ ap (λ (t : List ℕ). v ++ t) (drop-drop 16 a xs) in
    ap (λ (t : List ℕ). take a xs ++ (ys ++ t)) none ∙ ap (λ (t : List ℕ). take a xs ++ t) (append-nil ys ∙ y)

module _ (ss rs : List ℕ) (i k n : ℕ) (a : ℕ) (xs : List ℕ) (due : Bool) where
  pub due_put : (r : Ends) (ys : List ℕ) → due ≡ true → a + 16 ≤ length xs → r ≡ ends_of ss rs i n
      → ys ≡ verdict_bytes k r.sender r.receiver n ++ drop 16 (mid_of a (length xs - a) xs)
      → put_mid a (length xs - a) xs ys ≡ cond due (take a xs ++ (verdict_from ss rs i k n ++ drop (a + 16) xs)) xs
  unfolding verdict_from ends_of
  due_put r ys t l e f =
      simp t (suffix a xs (verdict_bytes k r.sender r.receiver n) ys (omega arith) (length_verdict k r.sender r.receiver n) f
      ∙ rw e refl)

  pub due_at_lem : due ≡ true → a + 16 ≡ cond due (a + 16) a
  due_at_lem t = simp t

  pub not_due_put : due ≡ false → (ys : List ℕ) → xs ≡ cond due ys xs
  not_due_put t ys = simp t

  pub not_due_at : due ≡ false → a ≡ cond due (a + 16) a
  not_due_at t = simp t

-- a resend count is small
module _ (counts : List ℕ) (j : ℕ) (h : (i : ℕ) → get_or counts i 0 ≤ 255) where
  pub small_count : get_or counts j 0 ≤ 255
  small_count = h j

  pub small_fits : Fits w32 (get_or counts j 0)
  small_fits = record { fits = omega (arith, small_count) }

-- ---- one verdict after another
module _ (ss rs : List ℕ) (q due : ℕ) (counts : List ℕ) (p : ℕ) where
  abbrev sofar : ℕ → List ℕ
  sofar o = verdicts_to ss rs q due counts p o

  abbrev verdict : ℕ → List ℕ
  verdict o = verdict_of ss rs q (p + 1 + o) (get_or counts ((p + o) % 64) 0 + 1)

  length_one : (o : ℕ) → length (verdict o) ≡ 16
  unfolding verdict_of
  length_one o = length_verdict (p + 1 + o) _ _ _

  sofar_more : (o : ℕ) → sofar (o + 1) ≡ sofar o ++ cond (is_marked due o) (verdict o) []
  unfolding verdicts_to
  sofar_more o = rw (add-one o) refl

  pub written_start : (xs : List ℕ) → xs ≡ sofar 0 ++ drop 0 xs
  unfolding verdicts_to
  written_start [] = refl
  written_start (x ∷ xs) = refl

  pub written_none : 0 ≡ length (sofar 0)
  unfolding verdicts_to
  written_none = refl

  -- the verdict by the member that sent the first copy
  pub put_from : (i o at : ℕ) (marked : Bool) (xs ys : List ℕ) → i ≡ deal.sender_of ss q (p + 1 + o)
      → ys ≡ cond marked (take at xs ++ (verdict_from ss rs i (p + 1 + o) (get_or counts ((p + o) % 64) 0 + 1) ++ drop (at + 16) xs)) xs
      → ys ≡ cond marked (take at xs ++ (verdict o ++ drop (at + 16) xs)) xs
  unfolding verdict_from verdict_of sender_of receiver_of
  put_from i o at marked xs ys e f = rw e at f

  -- a turn of the loop
  module _ (o at : ℕ) (marked : Bool) (em : marked ≡ is_marked due o) (ea : at ≡ length (sofar o)) where
    pub written_at : (r : ℕ) → r ≡ cond marked (at + 16) at → r ≡ length (sofar (o + 1))
    written_at r e = elim (bool_cases marked) [
      | inl t ↦ e ∙ simp t (sym (ap length (sofar_more o) ∙ simp (sym em ∙ t) (length-append (sofar o) (verdict o) ∙ omega (arith, length_one o))))
      | inr t ↦ e ∙ simp t (sym (ap length (sofar_more o) ∙ simp (sym em ∙ t) (ap length (append-nil (sofar o)) ∙ sym ea)))
    ]

    module _ (xs ys zs : List ℕ) (e : xs ≡ sofar o ++ drop at zs) (f : ys ≡ cond marked (take at xs ++ (verdict o ++ drop (at + 16) xs)) xs) (r : ℕ) (er : r ≡ cond marked (at + 16) at) where
      put_one : marked ≡ true → ys ≡ sofar (o + 1) ++ drop r zs
      put_one t =
          let rr : r ≡ at + 16 = er ∙ simp t in
          let front : take at xs ≡ sofar o = ap (take at) e ∙ take_at (sofar o) (drop at zs) at (sym ea) in
          let back : drop (at + 16) xs ≡ drop (at + 16) zs = sym (drop-drop 16 at xs) ∙ ap (drop 16) (ap (drop at) e ∙ drop_at (sofar o) (drop at zs) at (sym ea)) ∙ drop-drop 16 at zs in
          let more : sofar (o + 1) ≡ sofar o ++ verdict o = sofar_more o ∙ simp (sym em ∙ t) in
          f ∙ simp t (ap₂ (λ (x y : List ℕ). x ++ (verdict o ++ y)) front back ∙ sym (append_assoc (sofar o) (verdict o) (drop (at + 16) zs)) ∙ ap₂ (λ (x : List ℕ) (y : ℕ). x ++ drop y zs) (sym more) (sym rr))

      put_none : marked ≡ false → ys ≡ sofar (o + 1) ++ drop r zs
      put_none t =
          let rr : r ≡ at = er ∙ simp t in
          let more : sofar (o + 1) ≡ sofar o = sofar_more o ∙ simp (sym em ∙ t) (append-nil (sofar o)) in
          f ∙ simp t (e ∙ ap₂ (λ (x : List ℕ) (y : ℕ). x ++ drop y zs) (sym more) (sym rr))

      pub written_turn : ys ≡ sofar (o + 1) ++ drop r zs
      written_turn = elim (bool_cases marked) [ inl t ↦ put_one t | inr t ↦ put_none t ]

  pub written_bound : (o at : ℕ) (marked : Bool) (r : ℕ) → at ≤ 16 * o → r ≡ cond marked (at + 16) at → r ≤ 16 * (o + 1)
  written_bound o at marked r l e = elim (bool_cases marked) [ inl t ↦ (let z : r ≡ at + 16 = e ∙ simp t in omega arith) | inr t ↦ (let z : r ≡ at = e ∙ simp t in omega arith) ]

  pub written_kept : (at : ℕ) (marked : Bool) (o : ℕ) (xs ys zs : List ℕ) → length xs ≡ length zs → at + 16 ≤ length xs → ys ≡ cond marked (take at xs ++ (verdict o ++ drop (at + 16) xs)) xs → length ys ≡ length zs
  written_kept at marked o xs ys zs n l f = elim (bool_cases marked) [
    | inl t ↦ (let g : ys ≡ take at xs ++ (verdict o ++ drop (at + 16) xs) = f ∙ simp t in
        ap length g ∙ simp (length-append, length-take, length-drop) (omega (arith, length_one o)))
    | inr t ↦ (let g : ys ≡ xs = f ∙ simp t in ap length g ∙ n)
  ]

  pub written_done : (o n at : ℕ) (xs zs : List ℕ) → xs ≡ sofar o ++ drop at zs → o ≤ n → n ≤ o → xs ≡ sofar n ++ drop at zs
  written_done o n at xs zs e a b = let z : o ≡ n = omega arith in rw z at e

  pub written_length : (o n at : ℕ) → at ≡ length (sofar o) → o ≤ n → n ≤ o → at ≡ length (sofar n)
  written_length o n at e a b = let z : o ≡ n = omega arith in rw z at e

  -- how many there are
  pub written_count : (n : ℕ) → length (sofar n) ≡ 16 * sum_below n (λ o. cond (is_marked due o) 1 0)
  unfolding verdicts_to sum_below
  written_count zero = refl
  written_count (suc n) = elim (bool_cases (is_marked due n)) [
    | inl t ↦ simp t (length-append (sofar n) (verdict n) ∙ omega (arith, length_one n, written_count n))
    | inr t ↦ simp t (ap length (append-nil (sofar n)) ∙ omega (arith, written_count n))
  ]

-- ---- the counts in a local array, cut to the members
module _ (ss rs : List ℕ) (q : ℕ) (places z : List ℕ) (e : places ≡ hamilton.counts_of ss q ++ drop (length ss) z) where
  pub counts_cut : length places ≡ 64 → Dealable ss q → length ss ≡ length (take (length ss) places)
  counts_cut n d = sym (length-take-le (length ss) places (omega (arith, d.few_members)))

  pub counts_ready : Sized ss → Sized rs → Dealable ss q → Ready ss rs (take (length ss) places) q
  counts_ready a b d = record { sending = a; receiving = b; deals = d; counted = rw e (take_at (hamilton.counts_of ss q) (drop (length ss) z) (length ss) (length_counts ss q)) }

-- ---- all of them
pub few_counted : (n : ℕ) (f : ℕ → Bool) → sum_below n (λ o. cond (f o) 1 0) ≤ n
few_counted n f = omega (arith, sum_bound (λ o. cond (f o) 1 0) 1 n (λ j l. elim (bool_cases (f j)) [ inl t ↦ simp t (omega arith) | inr t ↦ simp t (omega arith) ]), mul-one n)

module _ (sending : Cluster) (q : ℕ) (d : Downstream) (s due : ℕ) (w : Writing sending q d s due) where
  abbrev count : ℕ
  count = sum_below (s - d.point) (λ o. cond (is_marked (due_of d s) o) 1 0)

  pub none_count : due ≡ 0 → 0 ≡ verdict_count d s
  unfolding verdict_count
  none_count z = sym (sum_zero (λ o. cond (is_marked (due_of d s) o) 1 0) (s - d.point) (λ o l. rw (sym w.due_is ∙ z, marked_none o) refl))

  none_written : due ≡ 0 → verdicts_of sending q d s ≡ []
  unfolding verdicts_of verdict_count
  none_written z = none_long (verdicts_to (shares_of sending) (shares_of d.cluster) q (due_of d s) (counts_of d.entries) d.point (s - d.point))
      (written_count (shares_of sending) (shares_of d.cluster) q (due_of d s) (counts_of d.entries) d.point (s - d.point) ∙ omega (arith, none_count z))
    where
      none_long : (l : List ℕ) → length l ≡ 0 → l ≡ []
      none_long [] h = refl
      none_long (x ∷ l) h = absurd (omega arith)

  pub none_put : (xs : List ℕ) → due ≡ 0 → xs ≡ verdicts_of sending q d s ++ drop (length (verdicts_of sending q d s)) xs
  none_put xs z = sym (ap (λ (l : List ℕ). l ++ drop (length l) xs) (none_written z))

  -- the resend counts, by place
  pub counts_low : (counts : List ℕ) → counts ≡ counts_of d.entries → (j : ℕ) → get_or counts j 0 ≤ 255
  counts_low counts e j = elim (dec_lt j 64) [
    | yes l ↦ omega (arith, ap (λ (x : List ℕ). get_or x j 0) e, count_at d.entries j l, w.judging.counts j)
    | no l ↦ omega (arith, get_or-eq_default counts 0 {n = j} (rw e (rw (length_resent d.entries) (omega arith))))
  ]

  module _ (counts : List ℕ) (ec : counts ≡ counts_of d.entries) (bytes : ℕ) (eb : bytes ≡ length (verdicts_to (shares_of sending) (shares_of d.cluster) q due counts d.point (s - d.point))) where
    same : verdicts_to (shares_of sending) (shares_of d.cluster) q due counts d.point (s - d.point) ≡ verdicts_of sending q d s
    unfolding verdicts_of
    same = rw (w.due_is, ec) refl

    bytes_are : bytes ≡ 16 * count
    unfolding verdicts_of
    bytes_are = eb ∙ ap length same ∙ written_count (shares_of sending) (shares_of d.cluster) q (due_of d s) (counts_of d.entries) d.point (s - d.point)

    pub count_fits : Fits w32 (bytes / 16)
    count_fits = record { fits = omega (arith, bytes_are, few_counted (s - d.point) (is_marked (due_of d s)), w.judging.near) }

    pub count_told : bytes / 16 ≡ verdict_count d s
    unfolding verdict_count
    count_told = omega (arith, bytes_are)

    pub all_put : (xs ys : List ℕ) → ys ≡ verdicts_to (shares_of sending) (shares_of d.cluster) q due counts d.point (s - d.point) ++ drop bytes xs
        → ys ≡ verdicts_of sending q d s ++ drop (length (verdicts_of sending q d s)) xs
    all_put xs ys e = e ∙ ap₂ (λ (l : List ℕ) (n : ℕ). l ++ drop n xs) same (eb ∙ ap length same)

-- sixteen bytes a verdict, and no more verdicts than open messages: at most 64, so that 1,024 bytes hold them all
module _ (d : Downstream) (s : ℕ) where
  pub verdicts_long : (sending : Cluster) (q : ℕ) → length (verdicts_of sending q d s) ≡ 16 * verdict_count d s
  unfolding verdicts_of verdict_count
  verdicts_long sending q = written_count (shares_of sending) (shares_of d.cluster) q (due_of d s) (counts_of d.entries) d.point (s - d.point)

  pub few_verdicts : Judging d s → verdict_count d s ≤ 64
  unfolding verdict_count
  few_verdicts j = omega (arith, few_counted (s - d.point) (is_marked (due_of d s)), j.near)

  pub verdicts_fit : (sending : Cluster) (q : ℕ) → Judging d s → length (verdicts_of sending q d s) ≤ 1024
  verdicts_fit sending q j = omega (arith, verdicts_long sending q, few_verdicts j)
