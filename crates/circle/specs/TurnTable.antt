-- One turn of the walk as a table: for the steps from unit 0, where resend 1 of the last member starts, the two ends of each; and for each
-- member the step with which its stretch begins. Assumes nothing.
use Rattle.std.specs.Prelude.{◌≡◌, List, ℕ, ◌+◌, ◌-◌, ◌≤◌, ◌<◌, length, get_or}
use Rattle.circle.specs.Stretches.{units_before}
use Rattle.circle.specs.Circle.{send_layout, unit_of, sender_of, receiver_of}
use Rattle.circle.specs.Positions.{position_of}
use Rattle.circle.specs.declared.table.Ends.{Ends}

-- the first n steps; a member whose stretch none of them begins has a number from 128 on
pub record FirstSteps (ss rs senders receivers begins : List ℕ) (n : ℕ) : Type 0 where
  pub senders_room : 128 ≤ length senders
  pub receivers_room : 128 ≤ length receivers
  pub begins_room : length ss ≤ length begins
  pub sends : (j : ℕ) → j < n → get_or senders j 0 ≡ sender_of ss rs (length ss - 1) (j + 1)
  pub receives : (j : ℕ) → j < n → get_or receivers j 0 ≡ receiver_of ss rs (length ss - 1) (j + 1)
  pub starts : (m : ℕ) → m < length ss → get_or begins m 0 < 128 → unit_of ss rs (length ss - 1) (get_or begins m 0 + 1) ≡ units_before (send_layout ss rs) m

-- the steps of a whole turn, after which the walk is back; or no steps
pub record TurnTable (ss rs senders receivers begins : List ℕ) (steps : ℕ) : Type 0 where
  pub walked : FirstSteps ss rs senders receivers begins steps
  pub few : steps ≤ 128
  pub back : position_of ss rs (length ss - 1) (steps + 1) ≡ position_of ss rs (length ss - 1) 1

-- the two ends of resend n, from 1, where the original sender is member i
unfoldable pub ends_of : List ℕ → List ℕ → ℕ → ℕ → Ends
ends_of ss rs i n = record { sender = sender_of ss rs i n; receiver = receiver_of ss rs i n }
