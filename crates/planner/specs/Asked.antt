-- What an input asks for, as the calls for pairs take it. Assumes nothing.
use Rattle.std.specs.Prelude.{List, ℕ, ◌+◌}
use Rattle.resend.specs.Promise.{Asked}
use Rattle.input.specs.Input.{senders, receivers, shares_at, numbers_of}
use Rattle.input.specs.declared.input.Numbers.{Numbers}

-- two clusters' shares with these numbers
abbrev pub asking : List ℕ → List ℕ → Numbers → Asked
asking ss rs x =
    record {
      sending = ss;
      sending_u = x.su;
      sending_r = x.sr;
      receiving = rs;
      receiving_u = x.ru;
      receiving_r = x.rr;
      quantum = x.quantum;
      message = x.message;
    }

-- what an input with a kinds 2 and b kinds 4 asks for
unfoldable pub asked_with : List ℕ → ℕ → ℕ → Asked
asked_with s a b = asking (shares_at s 1 a) (shares_at s (a + 2) b) (numbers_of s a b)

unfoldable pub asked_of : List ℕ → Asked
asked_of s = asked_with s (senders s) (receivers s)
