-- A report stored in the state that stands in words. Assumes nothing.
use Rattle.std.specs.Prelude.{ℕ}
use Rattle.judging.specs.Complaints.{reports_after}
use Rattle.window.specs.declared.state.Window.{Window}

-- the state with the report of member i and the point p
abbrev pub with_report : Window → ℕ → ℕ → ℕ → ℕ → Window
with_report w i c mask p =
    record {
      sending = w.sending;
      quantum = w.quantum;
      sent = w.sent;
      downstream = record { cluster = w.downstream.cluster; point = p; reports = reports_after w.downstream.reports i c mask; entries = w.downstream.entries };
    }
