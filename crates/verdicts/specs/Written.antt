-- The verdicts that a report writes. Assumes nothing.
use Rattle.std.specs.Prelude.{cond, List, [], ◌++◌, ◌≡◌, ℕ, zero, suc, ◌+◌, ◌-◌, ◌≤◌, get_or}
use Rattle.basics.specs.Sums.{sum_below}
use Rattle.basics.specs.Bytes.{le_bytes}
use Rattle.marks.specs.Masks.{is_marked}
use Rattle.hamilton.specs.Hamilton.{counts_of, Dealable}
use Rattle.circle.specs.Circle as circle
use Rattle.circle.specs.Positions.{Sized}
use Rattle.resend.specs.Resends.{sender_of, receiver_of}
use Rattle.downstream.specs.declared.state.Cluster.{Cluster}
use Rattle.downstream.specs.declared.state.Downstream.{Downstream}
use Rattle.downstream.specs.State.{shares_of, place_after}
use Rattle.downstream.specs.State as state
use Rattle.judging.specs.Verdicts.{due_of, Judging}

-- Verdict, 16 bytes: message number (8, little-endian), sender, receiver, resend number, five zeros
unfoldable pub verdict_bytes : ℕ → ℕ → ℕ → ℕ → List ℕ
verdict_bytes k sender receiver n = le_bytes 8 k ++ le_bytes 1 sender ++ le_bytes 1 receiver ++ le_bytes 1 n ++ le_bytes 5 0

-- two clusters that are accepted, a quantum that is allowed, and the counts of the sending cluster
pub record Ready (ss rs slots : List ℕ) (q : ℕ) : Type 0 where
  pub sending : Sized ss
  pub receiving : Sized rs
  pub deals : Dealable ss q
  pub counted : slots ≡ counts_of ss q

-- the verdict on message k, whose first copy member i sent, that is sent again for the n-th time
unfoldable pub verdict_from : List ℕ → List ℕ → ℕ → ℕ → ℕ → List ℕ
verdict_from ss rs i k n = verdict_bytes k (circle.sender_of ss rs i n) (circle.receiver_of ss rs i n) n

-- the verdict on message k, between clusters with these shares, that is sent again for the n-th time
unfoldable pub verdict_of : List ℕ → List ℕ → ℕ → ℕ → ℕ → List ℕ
verdict_of ss rs q k n = verdict_bytes k (sender_of ss rs q k n) (receiver_of ss rs q k n) n

-- Verdicts fill the lent output one after another: those on the n messages after p that are due, in their order
unfoldable pub verdicts_to : List ℕ → List ℕ → ℕ → ℕ → List ℕ → ℕ → ℕ → List ℕ
verdicts_to ss rs q due counts p zero = []
verdicts_to ss rs q due counts p (suc o) =
    verdicts_to ss rs q due counts p o
    ++ cond (is_marked due o) (verdict_of ss rs q (p + 1 + o) (get_or counts (place_after p o) 0 + 1)) []

-- the verdicts on the messages from p + 1 up to S
unfoldable pub verdicts_of : Cluster → ℕ → Downstream → ℕ → List ℕ
verdicts_of sending q d s = verdicts_to (shares_of sending) (shares_of d.cluster) q (due_of d s) (state.counts_of d.entries) d.point (s - d.point)

-- how many verdicts were written
unfoldable pub verdict_count : Downstream → ℕ → ℕ
verdict_count d s = sum_below (s - d.point) (λ o. cond (is_marked (due_of d s) o) 1 0)

-- what is known where the verdicts are written: two accepted clusters, an allowed quantum, and the messages that are due
pub record Writing (sending : Cluster) (q : ℕ) (d : Downstream) (s due : ℕ) : Type 0 where
  pub judging : Judging d s
  pub few : sending.members ≤ 64
  pub sends : Sized (shares_of sending)
  pub receives : Sized (shares_of d.cluster)
  pub deals : Dealable (shares_of sending) q
  pub due_is : due ≡ due_of d s
