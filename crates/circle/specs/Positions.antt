-- Resends as the code keeps them: the circle's numbers, a position on it, and the step from one resend to the next. Assumes nothing.
use Rattle.std.specs.Prelude.{Bool, ◌&&◌, List, ℕ, ◌≤◌, ◌<◌, min, length, get_or}
use Rattle.shares.specs.Shares.{total_of}
use Rattle.circle.specs.Stretches.{place_of, same_place, moved_of}
use Rattle.circle.specs.Circle.{circle_units, factor_of, send_layout, receive_layout, unit_of, sender_of, receiver_of, run_of}
use Rattle.circle.specs.declared.walk.Circle.{Circle}
use Rattle.circle.specs.declared.walk.Position.{Position}
use Rattle.circle.specs.declared.walk.Resend.{Resend}

-- what a cluster's shares need on the circle; an accepted cluster has it
pub record Sized (shares : List ℕ) : Type 0 where
  pub some_member : 1 ≤ length shares
  pub few_members : length shares ≤ 64
  pub some_share : (i : ℕ) → i < length shares → 1 ≤ get_or shares i 0
  pub some_total : 1 ≤ total_of shares
  pub small_total : total_of shares ≤ 64_000_000

-- L and the two scale factors
unfoldable pub circle_of : List ℕ → List ℕ → Circle
circle_of ss rs =
    record {
      units = circle_units ss rs;
      send = factor_of (circle_units ss rs) ss;
      receive = factor_of (circle_units ss rs) rs;
    }

-- where unit x lies in the two layouts
unfoldable pub position_at : List ℕ → List ℕ → ℕ → Position
position_at ss rs x = record { sender = place_of (send_layout ss rs) x; receiver = place_of (receive_layout ss rs) x }

-- where resend n starts
unfoldable pub position_of : List ℕ → List ℕ → ℕ → ℕ → Position
position_of ss rs i n = position_at ss rs (unit_of ss rs i n)

-- two positions are the same: they are so in both layouts
unfoldable pub same_position : Position → Position → Bool
same_position a b = same_place a.sender b.sender && same_place a.receiver b.receiver

-- the run of a position: the units up to the next stretch end in either layout
unfoldable pub run_at : Position → ℕ
run_at at = min at.sender.left at.receiver.left

-- the next resend starts there: both places moved on by the run
unfoldable pub next_of : List ℕ → List ℕ → Circle → Position → Position
next_of ss rs c at =
    record {
      sender = moved_of ss c.send at.sender (run_at at);
      receiver = moved_of rs c.receive at.receiver (run_at at);
    }

-- what `next` needs of the numbers that it is given, so that no index and no product is out of range
pub record OnCircle (ss rs : List ℕ) (c : Circle) (at : Position) : Type 0 where
  pub few_senders : length ss ≤ 64
  pub few_receivers : length rs ≤ 64
  pub send_small : c.send ≤ 64_000_000
  pub receive_small : c.receive ≤ 64_000_000
  pub sender_in : at.sender.member < length ss
  pub receiver_in : at.receiver.member < length rs

-- a resend, from the position where it starts
unfoldable pub resend_from : Position → Resend
resend_from at = record { sender = at.sender.member; receiver = at.receiver.member; run = run_at at }

-- resend n, from 1, where the original sender is member i
unfoldable pub resend_of : List ℕ → List ℕ → ℕ → ℕ → Resend
resend_of ss rs i n = record { sender = sender_of ss rs i n; receiver = receiver_of ss rs i n; run = run_of ss rs i n }
