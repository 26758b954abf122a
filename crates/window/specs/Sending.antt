-- Sending k. Assumes nothing.
use Rattle.std.specs.Prelude.{cond, [], ◌∷◌, ℕ, ◌+◌, leb, eqb}
use Rattle.basics.specs.Checks.{◌else◌, first_failing}
use Rattle.basics.specs.Ranges.{is_message}
use Rattle.window.specs.declared.state.Window.{Window}
use Rattle.basics.specs.Refusals.{outcome_number}
use Rattle.window.specs.declared.sending.SendAnswer as code
use Rattle.window.specs.Formed.{well_formed}

-- Send: 17, 6, 10, 9. k must be S + 1, and k at most p + 64
unfoldable pub send_refusal : Window → ℕ → ℕ
send_refusal w k =
    first_failing (
    (well_formed w else 17)
    ∷ (is_message k else 6)
    ∷ (eqb k (w.sent + 1) else 10)
    ∷ (leb k (w.downstream.point + 64) else 9)
    ∷ [])

-- what is left of that in a well-formed state, by its S and p
unfoldable pub next_refusal : ℕ → ℕ → ℕ → ℕ
next_refusal sent point k = first_failing ((is_message k else 6) ∷ (eqb k (sent + 1) else 10) ∷ (leb k (point + 64) else 9) ∷ [])

-- k is sent. Its entry starts with resend count 0 and no complaints: it lay outside p + 1 to S, and so is empty already
abbrev pub with_sent : Window → ℕ → Window
with_sent w k = record { sending = w.sending; quantum = w.quantum; sent = k; downstream = w.downstream }

-- a refusal's number, 0 for none, and a state
pub record SendAnswer : Type 0 where
  pub refusal : ℕ
  pub window : Window

-- the number, and the next state: the given one where the call is refused
unfoldable pub send_of : Window → ℕ → SendAnswer
send_of w k = record { refusal = send_refusal w k; window = cond (eqb (send_refusal w k) 0) (with_sent w k) w }

-- the same of what the call hands back
abbrev pub told : code.SendAnswer → SendAnswer
told a = record { refusal = outcome_number a.outcome; window = a.window }
