-- The walk of the resends: each starts on the circle, has members for its ends and a run of at least one unit, and the runs add up to the way.
-- Assumes nothing.
use mathlib.Core.Path.{◌≡◌, refl, ap, sym, ◌∙◌}
use mathlib.Core.List.{List}
use Prim.Native.Nat.{ℕ, zero, suc, ◌+◌, ◌-◌, ◌%◌, ◌≤◌, ◌<◌}
use native.Mathlib.Nat.{mod-lt, mod-eq_of_lt, mod-add-mod}
use native.Mathlib.Omega.{arith}
use lib.ListN.{length}
use Rattle.basics.specs.Sums.{sum_below}
use Rattle.basics.proofs.SumLaws.{sum_more}
use Rattle.shares.specs.Shares.{total_of}
use Rattle.circle.specs.Stretches.{end_of}
use Rattle.circle.specs.Circle.{circle_units, send_layout, receive_layout, next_end, walk_of, start_of, unit_of, sender_of, receiver_of, run_of, runs_before}
use Rattle.circle.specs.Positions.{Sized}
use Rattle.circle.proofs.StretchLaws.{owner_lt, end_gt, end_le}
use Rattle.circle.proofs.CircleLaws.{some_units, send_full, receive_full, send_length, receive_length}

-- ---- one step on a circle of l units
module _ (l : ℕ) (s r : List ℕ) (ts : total_of s ≡ l) (tr : total_of r ≡ l) where
  pub next_after : (x : ℕ) → x < l → x < next_end s r x
  unfolding next_end
  next_after x h = omega (arith, end_gt s x (omega arith), end_gt r x (omega arith))

  pub next_upto : (x : ℕ) → x < l → next_end s r x ≤ l
  unfolding next_end
  next_upto x h = omega (arith, end_le s x (omega arith), end_le r x (omega arith))

  pub walk_in : (x : ℕ) → x < l → (j : ℕ) → walk_of l s r x j < l
  unfolding walk_of
  walk_in x h zero = h
  walk_in x h (suc j) = mod-lt (next_end s r (walk_of l s r x j)) (omega arith)

-- ---- from one resend to the next
module _ (ss rs : List ℕ) (i : ℕ) where
  pub unit_first : unit_of ss rs i 1 ≡ start_of ss rs i
  unfolding unit_of walk_of
  unit_first = refl

  pub unit_step : (n : ℕ) → 1 ≤ n → unit_of ss rs i (n + 1) ≡ next_end (send_layout ss rs) (receive_layout ss rs) (unit_of ss rs i n) % circle_units ss rs
  unfolding unit_of walk_of
  unit_step n h = let e : n + 1 - 1 ≡ suc (n - 1) = omega arith in rw e

  pub runs_none : runs_before ss rs i 1 ≡ 0
  unfolding runs_before sum_below
  runs_none = refl

  pub runs_more : (n : ℕ) → 1 ≤ n → runs_before ss rs i (n + 1) ≡ runs_before ss rs i n + run_of ss rs i n
  unfolding runs_before
  runs_more n h =
      let e : n + 1 - 1 ≡ n - 1 + 1 = omega arith in
      let k : n - 1 + 1 ≡ n = omega arith in
      rw (e, sum_more) (ap (λ (m : ℕ). sum_below (n - 1) (λ j. run_of ss rs i (j + 1)) + run_of ss rs i m) k)

module _ (ss rs : List ℕ) (a : Sized ss) (b : Sized rs) where
  abbrev l : ℕ
  l = circle_units ss rs

  abbrev s : List ℕ
  s = send_layout ss rs

  abbrev r : List ℕ
  r = receive_layout ss rs

  pub start_in : (i : ℕ) → start_of ss rs i < circle_units ss rs
  unfolding start_of
  start_in i = mod-lt (end_of s i) (some_units ss rs a b)

  -- every resend starts on the circle
  pub unit_in : (i n : ℕ) → unit_of ss rs i n < circle_units ss rs
  unfolding unit_of
  unit_in i n = walk_in l s r (send_full ss rs) (receive_full ss rs) (start_of ss rs i) (start_in i) (n - 1)

  -- its ends are members
  pub sender_in : (i n : ℕ) → sender_of ss rs i n < length ss
  unfolding sender_of
  sender_in i n = omega (arith, owner_lt s (unit_of ss rs i n) (omega (arith, send_full ss rs, unit_in i n)), send_length ss rs)

  pub receiver_in : (i n : ℕ) → receiver_of ss rs i n < length rs
  unfolding receiver_of
  receiver_in i n = omega (arith, owner_lt r (unit_of ss rs i n) (omega (arith, receive_full ss rs, unit_in i n)), receive_length ss rs)

  -- its run is at least one unit, and stays within the circle
  pub run_some : (i n : ℕ) → 1 ≤ run_of ss rs i n
  unfolding run_of
  run_some i n = omega (arith, next_after l s r (send_full ss rs) (receive_full ss rs) (unit_of ss rs i n) (unit_in i n))

  pub run_in : (i n : ℕ) → unit_of ss rs i n + run_of ss rs i n ≤ circle_units ss rs
  unfolding run_of
  run_in i n = omega (
    arith,
    next_after l s r (send_full ss rs) (receive_full ss rs) (unit_of ss rs i n) (unit_in i n),
    next_upto l s r (send_full ss rs) (receive_full ss rs) (unit_of ss rs i n) (unit_in i n),
  )

  -- the next resend starts where the run ends
  pub unit_next : (i n : ℕ) → 1 ≤ n → unit_of ss rs i (n + 1) ≡ (unit_of ss rs i n + run_of ss rs i n) % circle_units ss rs
  unfolding run_of
  unit_next i n h =
      let k : unit_of ss rs i n + run_of ss rs i n ≡ next_end s r (unit_of ss rs i n) =
      omega (arith, next_after l s r (send_full ss rs) (receive_full ss rs) (unit_of ss rs i n) (unit_in i n)) in
      unit_step ss rs i n h ∙ ap (λ (m : ℕ). m % circle_units ss rs) (sym k)

  -- the runs add up to the way from the start
  pub runs_way : (i j : ℕ) → unit_of ss rs i (suc j) ≡ (start_of ss rs i + runs_before ss rs i (suc j)) % circle_units ss rs
  runs_way i zero =
      let e : start_of ss rs i + runs_before ss rs i 1 ≡ start_of ss rs i = omega (arith, runs_none ss rs i) in
      rw (unit_first, e) (sym (mod-eq_of_lt (start_in i)))
  runs_way i (suc j) =
      let e : suc (suc j) ≡ suc j + 1 = omega arith in
      rw (e, unit_next i (suc j) (omega arith), runs_way i j, runs_more ss rs i (suc j) (omega arith))
      (mod-add-mod (start_of ss rs i + runs_before ss rs i (suc j)) (circle_units ss rs) (run_of ss rs i (suc j)) ∙ ap (λ (m : ℕ). m % circle_units ss rs) (regroup (start_of ss rs i) (runs_before ss rs i (suc j)) (run_of ss rs i (suc j))))
    where
      regroup : (x y z : ℕ) → x + y + z ≡ x + (y + z)
      regroup x y z = omega arith
