-- A place moved on by a run is the place of the unit that stands so much further on the circle. Assumes nothing.
use mathlib.Core.Path.{◌≡◌, refl, ap, sym, ◌∙◌}
use mathlib.Core.List.{List}
use Prim.Native.Nat.{ℕ, ◌+◌, ◌-◌, ◌*◌, ◌%◌, ◌≤◌, ◌<◌}
use native.Mathlib.Decide.{dec_lt}
use native.Mathlib.Nat.{mod-eq_of_lt, mod_self}
use native.Mathlib.Omega.{arith}
use lib.ListN.{length, get_or}
use borrow.Author.Tests.{lt-ltb, le-ltb}
use Rattle.shares.specs.Shares.{total_of}
use Rattle.circle.specs.Stretches.{scaled, units_before, owner_of, end_after, place_of, following, moved_of}
use Rattle.circle.specs.declared.stretches.Place.{Place}
use Rattle.circle.proofs.PlaceLaws.{moved_within, moved_past}
use Rattle.circle.proofs.StretchLaws.{before_none, before_more, before_all, before_le, owner_lt, owner_from, end_owner, end_gt, place_in, length_scaled, scaled_at}

module _ (shares : List ℕ) (f l : ℕ) (full : total_of (scaled f shares) ≡ l) (some : (i : ℕ) → i < length (scaled f shares) → 0 < get_or (scaled f shares) i 0)
    (x run : ℕ) (inside : x < l) (within : run ≤ end_after (scaled f shares) x - x) where
  abbrev ws : List ℕ
  ws = scaled f shares

  abbrev m : ℕ
  m = owner_of ws x

  abbrev here : Place
  here = place_of ws x

  member_in : m < length ws
  member_in = owner_lt ws x (omega arith)

  stretch_from : units_before ws m ≤ x
  stretch_from = owner_from ws x (omega arith)

  stretch_upto : end_after ws x ≡ units_before ws m + get_or ws m 0
  stretch_upto = end_owner ws x (omega arith) ∙ before_more ws m

  -- a unit at the beginning of member k's stretch
  at_beginning : (k : ℕ) → k < length ws → place_of ws (units_before ws k) ≡ record { member = k; left = get_or ws k 0 }
  at_beginning k h =
      let e : units_before ws k + get_or ws k 0 - units_before ws k ≡ get_or ws k 0 = omega arith in
      place_in ws (units_before ws k) k h (omega arith) (omega (arith, some k h)) ∙ ap (λ (n : ℕ). record { member = k; left = n }) e

  within_stretch : run < end_after ws x - x → moved_of shares f here run ≡ place_of ws ((x + run) % l)
  unfolding place_of
  within_stretch h =
      let small : x + run < l = omega (arith, stretch_upto, before_more ws m, before_le ws (m + 1) (omega (arith, member_in))) in
      let p : place_of ws (x + run) ≡ record { member = m; left = units_before ws m + get_or ws m 0 - (x + run) } =
      place_in ws (x + run) m member_in (omega (arith, stretch_from)) (omega (arith, stretch_upto)) in
      let e : end_after ws x - x - run ≡ units_before ws m + get_or ws m 0 - (x + run) = omega (arith, stretch_upto) in
      rw (mod-eq_of_lt small, p, ← e) (sym (moved_within shares f here run h))

  -- the place where member k's stretch begins, as the code writes it
  next_stretch : (k : ℕ) → k < length ws → record { member = k; left = f * get_or shares k 0 } ≡ place_of ws (units_before ws k)
  next_stretch k h = ap (λ (n : ℕ). record { member = k; left = n }) (sym (scaled_at f shares k)) ∙ sym (at_beginning k h)

  -- the run's end, where it is the stretch's end
  past_stretch : (k : ℕ) → k ≡ following (length shares) m → run ≡ end_after ws x - x → (k < length ws) × (units_before ws k ≡ (x + run) % l)
  unfolding following
  past_stretch k g e =
      let stands : x + run ≡ units_before ws (m + 1) = omega (arith, stretch_upto, before_more ws m, end_gt ws x (omega arith)) in
      elim (dec_lt (m + 1) (length shares)) [
        | yes h ↦ (let j : k ≡ m + 1 = g ∙ simp (lt-ltb (m + 1) (length shares) h) in
            let small : x + run < l = omega (arith, some (m + 1) (omega (arith, length_scaled f shares)), before_more ws (m + 1), before_le ws (m + 1 + 1) (omega (arith, length_scaled f shares))) in
            (omega (arith, length_scaled f shares), rw (mod-eq_of_lt small, stands, j)))
        | no h ↦ (let j : k ≡ 0 = g ∙ simp (le-ltb (m + 1) (length shares) (omega arith)) in
            let last : m + 1 ≡ length ws = omega (arith, length_scaled f shares, member_in) in
            let whole : x + run ≡ l = stands ∙ ap (units_before ws) last ∙ before_all ws ∙ full in
            (omega (arith, member_in), rw (whole, mod_self l, j, before_none ws)))
      ]

  to_next : run ≡ end_after ws x - x → moved_of shares f here run ≡ place_of ws ((x + run) % l)
  unfolding place_of
  to_next e =
      let b = past_stretch (following (length shares) m) refl e in
      sym (moved_past shares f here run (following (length shares) m) (f * get_or shares (following (length shares) m) 0) (omega arith) refl refl)
      ∙ next_stretch (following (length shares) m) b.0
      ∙ ap (place_of ws) b.1

  pub moved_place : moved_of shares f (place_of ws x) run ≡ place_of ws ((x + run) % l)
  moved_place = elim (dec_lt run (end_after ws x - x)) [ yes h ↦ within_stretch h | no h ↦ to_next (omega arith) ]
