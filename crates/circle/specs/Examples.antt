-- Document 01's examples of resends, by computation. Assumes nothing.
use Rattle.std.specs.Prelude.{◌≡◌, refl, Bool, true, false, ◌||◌, List, [], ◌∷◌, ℕ, zero, suc, ◌+◌, ◌*◌, eqb, ltb}
use Rattle.basics.specs.Sums.{sum_below}
use Rattle.shares.specs.Shares.{total_of, share_of}
use Rattle.shares.specs.Examples.{E}
use Rattle.circle.specs.Divisor.{euclid, divisor_of, multiple_of}
use Rattle.circle.specs.Stretches.{scaled, units_before, end_of, owner_of, end_after}
use Rattle.circle.specs.Circle.{circle_units, factor_of, send_layout, receive_layout, next_end, walk_of, start_of, unit_of, sender_of, receiver_of, run_of, runs_before}
use Rattle.circle.specs.Positions.{resend_of}
use Rattle.circle.specs.declared.walk.Resend.{Resend}

-- a resend from a sender to a receiver
abbrev pub resend : ℕ → ℕ → ℕ → Resend
resend from to run = record { sender = from; receiver = to; run = run }

-- k resends from resend n on, where the original sender is member i
unfoldable pub resends : List ℕ → List ℕ → ℕ → ℕ → ℕ → List Resend
resends ss rs i n zero = []
resends ss rs i n (suc k) = resend_of ss rs i n ∷ resends ss rs i (suc n) k

abbrev pub three : List ℕ
three = 1 ∷ 1 ∷ 1 ∷ []

abbrev pub five : List ℕ
five = 1 ∷ 1 ∷ 1 ∷ 1 ∷ 1 ∷ []

abbrev pub millions : List ℕ
millions = 1_000_000 ∷ 1_000_000 ∷ 1_000_000 ∷ 1_000_000 ∷ []

-- the seven resends of the plan
pub seven_resends : resends three five 2 1 7
    ≡ resend 0 0 3 ∷ resend 0 1 2 ∷ resend 1 1 1 ∷ resend 1 2 3 ∷ resend 1 3 1 ∷ resend 2 3 2 ∷ resend 2 4 3 ∷ []
unfolding resends resend_of sender_of receiver_of run_of unit_of start_of walk_of next_end send_layout receive_layout factor_of circle_units scaled units_before end_of owner_of end_after multiple_of divisor_of euclid total_of sum_below
seven_resends = refl

-- E: message 6 goes 1 to 2; its resends 1 to 4 are 2–2, 3–3, 0–0, 1–1, each of run 1
pub E_resends : resends E E 1 1 4 ≡ resend 2 2 1 ∷ resend 3 3 1 ∷ resend 0 0 1 ∷ resend 1 1 1 ∷ []
unfolding resends resend_of sender_of receiver_of run_of unit_of start_of walk_of next_end send_layout receive_layout factor_of circle_units scaled units_before end_of owner_of end_after multiple_of divisor_of euclid total_of sum_below
E_resends = refl

-- E sending to four shares of 1,000,000, from unit 0: 0–0, 1–1, 2–2, each of run 1,000,000
pub E_to_millions : resends E millions 3 1 3 ≡ resend 0 0 1_000_000 ∷ resend 1 1 1_000_000 ∷ resend 2 2 1_000_000 ∷ []
unfolding resends resend_of sender_of receiver_of run_of unit_of start_of walk_of next_end send_layout receive_layout factor_of circle_units scaled units_before end_of owner_of end_after multiple_of divisor_of euclid total_of sum_below
E_to_millions = refl

-- ---- the first good resend
-- resend n has a failed end
unfoldable pub hit : List ℕ → List ℕ → ℕ → (ℕ → Bool) → (ℕ → Bool) → ℕ → Bool
hit ss rs i p q n = p (sender_of ss rs i n) || q (receiver_of ss rs i n)

-- With sender 1 and receivers 0, 1 failed, the first good one is resend 6, after 10 units; the bound is 5 + 6
abbrev pub hit_of_seven : ℕ → Bool
hit_of_seven = hit three five 2 (λ j. eqb j 1) (λ j. ltb j 2)

pub first_good_of_seven :
    (hit_of_seven 1 ≡ true) × (hit_of_seven 2 ≡ true) × (hit_of_seven 3 ≡ true) × (hit_of_seven 4 ≡ true) × (hit_of_seven 5 ≡ true)
    × (hit_of_seven 6 ≡ false) × (runs_before three five 2 6 ≡ 10)
    × (1 * factor_of (circle_units three five) three ≡ 5) × (2 * factor_of (circle_units three five) five ≡ 6)
unfolding hit runs_before sender_of receiver_of run_of unit_of start_of walk_of next_end send_layout receive_layout factor_of circle_units scaled units_before end_of owner_of end_after multiple_of divisor_of euclid total_of sum_below
first_good_of_seven = (refl, refl, refl, refl, refl, refl, refl, refl, refl)

-- The bound is sharp. Shares 2,1 send to 1,2,1 with u = 1 each, from sender 0; sender 1 and receiver 0 fail: the first good one is resend 4,
-- the last of 2 + 3 − 1, after 7 units, and the bound is 4 + 3
abbrev pub hit_of_sharp : ℕ → Bool
hit_of_sharp = hit (2 ∷ 1 ∷ []) (1 ∷ 2 ∷ 1 ∷ []) 0 (λ j. eqb j 1) (λ j. eqb j 0)

pub bound_is_sharp :
    (hit_of_sharp 1 ≡ true) × (hit_of_sharp 2 ≡ true) × (hit_of_sharp 3 ≡ true) × (hit_of_sharp 4 ≡ false)
    × (runs_before (2 ∷ 1 ∷ []) (1 ∷ 2 ∷ 1 ∷ []) 0 4
    ≡ 1 * factor_of (circle_units (2 ∷ 1 ∷ []) (1 ∷ 2 ∷ 1 ∷ [])) (2 ∷ 1 ∷ []) + 1 * factor_of (circle_units (2 ∷ 1 ∷ []) (1 ∷ 2 ∷ 1 ∷ [])) (1 ∷ 2 ∷ 1 ∷ []))
    × (share_of (2 ∷ 1 ∷ []) (λ j. eqb j 1) ≡ 1) × (share_of (1 ∷ 2 ∷ 1 ∷ []) (λ j. eqb j 0) ≡ 1)
unfolding hit runs_before sender_of receiver_of run_of unit_of start_of walk_of next_end send_layout receive_layout factor_of circle_units scaled units_before end_of owner_of end_after multiple_of divisor_of euclid total_of share_of sum_below
bound_is_sharp = (refl, refl, refl, refl, refl, refl, refl)
