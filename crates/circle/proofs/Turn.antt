-- One turn of the circle: layouts s and r of l units each, a walk that starts at a stretch end x0 of s. While every resend has a failed end,
-- the failed units passed are at least as many as the units walked, and each resend passes a stretch end. Assumes nothing.
use mathlib.Core.Path.{◌≡◌}
use mathlib.Core.Logic.{◌⊎◌, inl, inr, ⊎_elim}
use mathlib.Core.Bool.{Bool, true}
use mathlib.Core.List.{List}
use Prim.Native.Nat.{ℕ, suc, ◌+◌, ◌-◌, ◌%◌, ◌≤◌, ◌<◌}
use native.Mathlib.Decide.{dec_lt}
use native.Mathlib.Nat.{mod-eq_of_lt, mod_self}
use native.Mathlib.Omega.{arith}
use lib.Dec.{eqb}
use lib.ListN.{length}
use borrow.Author.Tests.{eqb-true, eqb-false}
use Rattle.basics.proofs.BoolLaws.{bool_cases}
use Rattle.shares.specs.Shares.{total_of, share_of}
use Rattle.circle.specs.Stretches.{owner_of, end_after}
use Rattle.circle.specs.Circle.{next_end}
use Rattle.circle.proofs.StretchLaws.{owner_lt, end_gt}
use Rattle.circle.proofs.FailedUnits.{failed_before, failed_mono, failed_le, failed_grows, owner_mono, owner_end}
use Rattle.circle.proofs.WalkLaws.{next_after, next_upto}

-- an end of the resend that starts at x has failed
abbrev pub Hit : (p q : ℕ → Bool) (s r : List ℕ) → ℕ → Type 0
Hit p q s r x = (p (owner_of s x) ≡ true) ⊎ (q (owner_of r x) ≡ true)

-- After j resends, all of them hit, of w units in all, the walk stands at x. It has not passed unit 0 again ..
pub record Before (p q : ℕ → Bool) (l : ℕ) (s r : List ℕ) (x0 j w x : ℕ) : Type 0 where
  pub inside : x < l
  pub way : w + x0 ≡ x
  pub heavy : w + failed_before p s x0 + failed_before q r x0 ≤ failed_before p s x + failed_before q r x
  pub count : j + owner_of s x0 + owner_of r x0 ≤ owner_of s x + owner_of r x

-- .. or it has
pub record Past (p q : ℕ → Bool) (l : ℕ) (s r : List ℕ) (x0 j w x : ℕ) : Type 0 where
  pub upto : x ≤ x0
  pub way : w + x0 ≡ l + x
  pub heavy : w + failed_before p s x0 + failed_before q r x0 ≤ share_of s p + share_of r q + (failed_before p s x + failed_before q r x)
  pub count : suc j + owner_of s x0 + owner_of r x0 ≤ length s + length r + (owner_of s x + owner_of r x)

abbrev pub Walked : (p q : ℕ → Bool) (l : ℕ) (s r : List ℕ) (x0 j w x : ℕ) → Type 0
Walked p q l s r x0 j w x = Before p q l s r x0 j w x ⊎ Past p q l s r x0 j w x

module _ (p q : ℕ → Bool) (l : ℕ) (s r : List ℕ) (ts : total_of s ≡ l) (tr : total_of r ≡ l) where
  -- a run ends at a stretch end of one of the two layouts
  one_end : (x : ℕ) → (next_end s r x ≡ end_after s x) ⊎ (next_end s r x ≡ end_after r x)
  unfolding next_end
  one_end x = elim (bool_cases (eqb (next_end s r x) (end_after s x))) [
    | inl t ↦ inl (eqb-true (next_end s r x) (end_after s x) t)
    | inr t ↦ inr (omega (arith, eqb-false (next_end s r x) (end_after s x) t))
  ]

  -- a resend passes a stretch end
  later : (x : ℕ) → x < l → owner_of s x + owner_of r x < owner_of s (next_end s r x) + owner_of r (next_end s r x)
  later x h = elim (one_end x) [
    | inl e ↦ rw e (omega (arith, owner_end s x (omega arith), owner_mono r x (end_after s x) (omega (arith, end_gt s x (omega arith)))))
    | inr e ↦ rw e (omega (arith, owner_end r x (omega arith), owner_mono s x (end_after r x) (omega (arith, end_gt r x (omega arith)))))
  ]

  -- a resend that is hit passes as many failed units as its run has
  heavier : (x : ℕ) → x < l → Hit p q s r x
      → failed_before p s x + failed_before q r x + next_end s r x ≤ failed_before p s (next_end s r x) + failed_before q r (next_end s r x) + x
  unfolding next_end
  heavier x h =
      let long : x ≤ next_end s r x = omega (arith, next_after l s r ts tr x h) in
      ⊎_elim
      (λ f. omega (arith, failed_grows p s x (next_end s r x) (omega arith) long (omega arith) f, failed_mono q r x (next_end s r x) long))
      (λ f. omega (arith, failed_grows q r x (next_end s r x) (omega arith) long (omega arith) f, failed_mono p s x (next_end s r x) long))

  module _ (x0 : ℕ) (x0-in : x0 < l) (x0-end : (x : ℕ) → x < x0 → end_after s x ≤ x0) where
    -- the walk begins
    pub begun : Walked p q l s r x0 0 0 x0
    begun = inl (record { inside = x0-in; way = omega arith; heavy = omega arith; count = omega arith })

    before_step : (j w x : ℕ) → Hit p q s r x → Before p q l s r x0 j w x → Walked p q l s r x0 (suc j) (w + (next_end s r x - x)) (next_end s r x % l)
    before_step j w x f b =
        let long = next_after l s r ts tr x b.inside in
        let upto = next_upto l s r ts tr x b.inside in
        let on = later x b.inside in
        let more = heavier x b.inside f in
        elim (dec_lt (next_end s r x) l) [
          | yes i ↦ rw (mod-eq_of_lt i) (inl (record {
            inside = i;
            way = omega arith;
            heavy = omega arith;
            count = omega arith;
          }))
          | no o ↦ (let e : next_end s r x ≡ l = omega arith in rw (e, mod_self l) (inr (record {
            upto = omega arith;
            way = omega arith;
            heavy = omega (arith, failed_le p s (next_end s r x), failed_le q r (next_end s r x));
            count = omega (arith, owner_lt s x (omega arith), owner_lt r x (omega arith));
          })))
        ]

    past_step : (j w x : ℕ) → x < x0 → Hit p q s r x → Past p q l s r x0 j w x → Walked p q l s r x0 (suc j) (w + (next_end s r x - x)) (next_end s r x % l)
    unfolding next_end
    past_step j w x h f b =
        let inside : x < l = omega arith in
        let long = next_after l s r ts tr x inside in
        let on = later x inside in
        let more = heavier x inside f in
        let i : next_end s r x < l = omega (arith, x0-end x h) in
        rw (mod-eq_of_lt i) (inr (record {
          upto = omega (arith, x0-end x h);
          way = omega arith;
          heavy = omega arith;
          count = omega arith;
        }))

    -- one resend more, as long as the turn is not complete
    pub step : (j w x : ℕ) → w < l → Hit p q s r x → Walked p q l s r x0 j w x → Walked p q l s r x0 (suc j) (w + (next_end s r x - x)) (next_end s r x % l)
    step j w x h f = ⊎_elim (before_step j w x f) (λ b. past_step j w x (omega (arith, b.way)) f b)

    -- the units walked are failed ones
    pub light : (j w x : ℕ) → Walked p q l s r x0 j w x → w ≤ share_of s p + share_of r q
    light j w x =
        ⊎_elim
        (λ b. omega (arith, failed_le p s x, failed_le q r x, b.heavy))
        (λ b. omega (arith, failed_mono p s x x0 b.upto, failed_mono q r x x0 b.upto, b.heavy))

    -- a turn that is not complete has had fewer resends than there are stretch ends
    pub few : (j w x : ℕ) → w < l → Walked p q l s r x0 j w x → suc j < length s + length r
    few j w x h =
        ⊎_elim
        (λ b. omega (arith, owner_lt s x (omega (arith, b.inside)), owner_lt r x (omega (arith, b.inside)), b.count))
        (λ b. let k : x < x0 = omega (arith, b.way) in
        omega (arith, owner_mono r x x0 (omega arith), owner_end s x (omega arith), owner_mono s (end_after s x) x0 (x0-end x k), b.count))

    -- no more is walked than one turn, and where it is complete the walk stands where it began
    pub whole : (j w x : ℕ) → Walked p q l s r x0 j w x → w ≤ l
    whole j w x = ⊎_elim (λ b. omega (arith, b.inside, b.way)) (λ b. omega (arith, b.way, b.upto))

    pub complete : (j x : ℕ) → Walked p q l s r x0 j l x → (x ≡ x0) × (suc j ≤ length s + length r)
    complete j x =
        ⊎_elim
        (λ b. absurd (omega (arith, b.inside, b.way)))
        (λ b. let e : x ≡ x0 = omega (arith, b.way) in (e, omega (arith, rw e at b.count)))
