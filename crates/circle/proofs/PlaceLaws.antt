-- Places as the code finds and moves them: the search along the stretches, the end of a stretch, and the step. Assumes nothing.
use mathlib.Core.Path.{◌≡◌, ap, sym, ◌∙◌}
use mathlib.Core.List.{List}
use Prim.Native.Nat.{ℕ, ◌+◌, ◌-◌, ◌*◌, ◌%◌, ◌≤◌, ◌<◌}
use native.Mathlib.Nat.{mul-le-mul}
use native.Mathlib.Omega.{arith}
use lib.ListN.{length, get_or, take}
use mir.Val.{Fits}
use mir.Syntax.{w64}
use borrow.Author.Tests.{le-leb, lt-leb}
use Rattle.shares.specs.Shares.{total_of}
use Rattle.shares.proofs.ShareLaws.{total_take}
use Rattle.circle.specs.Stretches.{scaled, units_before, end_of, place_of, following, moved_of}
use Rattle.circle.specs.declared.stretches.Place.{Place}
use Rattle.circle.proofs.StretchLaws.{before_none, before_more, before_all, before_scaled, place_in, length_scaled, scaled_at}

-- a scale factor times the shares of up to 64 members, 32 bits each
pub product_fits : (f d : ℕ) → f ≤ 64_000_000 → d < 64 * 4294967296 → Fits w64 (f * d)
product_fits f d h k =
    let m : f * d ≤ 64_000_000 * (64 * 4294967296) = mul-le-mul {n₂ = 64_000_000} {m₂ = 64 * 4294967296} h (omega arith) in
    record { fits = omega arith }

pub stretch_fits : (f d : ℕ) → f ≤ 64_000_000 → d < 4294967296 → Fits w64 (f * d)
stretch_fits f d h k = product_fits f d h (omega arith)

-- ---- the search for unit x: before member i's stretch there are x - rest units
module _ (shares : List ℕ) (f x : ℕ) where
  pub locate_start : units_before (scaled f shares) 0 + x ≡ x
  locate_start = omega (arith, before_none (scaled f shares))

  module _ (i rest : ℕ) (e : units_before (scaled f shares) i + rest ≡ x) where
    module _ (share : ℕ) (w : share ≡ get_or shares i 0) where
      width : f * share ≡ f * get_or shares i 0
      width = ap (λ (k : ℕ). f * k) w

      pub locate_turn : f * share ≤ rest → units_before (scaled f shares) (i + 1) + (rest - f * share) ≡ x
      locate_turn h = omega (arith, width, before_more (scaled f shares) i, scaled_at f shares i)

      pub locate_done : i < length shares → rest < f * share → record { member = i; left = f * share - rest } ≡ place_of (scaled f shares) x
      locate_done l h =
          let p = place_in (scaled f shares) x i (omega (arith, length_scaled f shares)) (omega arith) (omega (arith, width, scaled_at f shares i)) in
          let g : units_before (scaled f shares) i + get_or (scaled f shares) i 0 - x ≡ f * share - rest = omega (arith, width, scaled_at f shares i) in
          sym (p ∙ ap (λ (k : ℕ). record { member = i; left = k }) g)

    -- past the last stretch there are no units
    pub locate_end : i ≤ length shares → length shares ≤ i → x < total_of (scaled f shares) → ⊥
    locate_end l h inside =
        let z : i ≡ length (scaled f shares) = omega (arith, length_scaled f shares) in
        omega (arith, ap (units_before (scaled f shares)) z, before_all (scaled f shares))

-- ---- where a stretch ends
before_part : (shares : List ℕ) (n : ℕ) → n ≤ length shares → total_of (take n shares) ≡ units_before shares n
unfolding units_before
before_part shares n l = total_take n shares l

pub end_told : (shares : List ℕ) (f i d u : ℕ) → i < length shares → d ≡ total_of (take (i + 1) shares) → f * d % u ≡ end_of (scaled f shares) i % u
unfolding end_of
end_told shares f i d u l e = rw (e, before_part shares (i + 1) (omega arith), before_scaled)

-- ---- the step
pub moved_within : (shares : List ℕ) (f : ℕ) (at : Place) (run : ℕ) → run < at.left → record { member = at.member; left = at.left - run } ≡ moved_of shares f at run
unfolding moved_of
moved_within shares f at run h = simp (lt-leb at.left run h)

pub moved_past : (shares : List ℕ) (f : ℕ) (at : Place) (run m w : ℕ) → at.left ≤ run → m ≡ following (length shares) at.member → w ≡ f * get_or shares m 0
    → record { member = m; left = w } ≡ moved_of shares f at run
unfolding moved_of
moved_past shares f at run m w h e g = simp (le-leb at.left run h, ← e, g)
