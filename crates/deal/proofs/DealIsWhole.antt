-- The deal of an accepted cluster has just q slots, and whoever sends or receives a message is a member. Assumes nothing.
use mathlib.Core.Path.{◌≡◌, ◌∙◌}
use mathlib.Core.Bool.{true}
use mathlib.Core.List.{List}
use Prim.Native.Nat.{ℕ, ◌+◌, ◌%◌, ◌<◌, min}
use native.Mathlib.Omega.{arith}
use lib.ListN.{length, get_or}
use Rattle.basics.specs.Ranges.{is_quantum}
use Rattle.basics.proofs.SumLaws.{sum_cong, list_at}
use Rattle.shares.specs.Cluster.{Accepted}
use Rattle.hamilton.specs.Hamilton.{count_of, counts_of, Dealable}
use Rattle.deal.specs.Rounds.{deal_of, slots_before}
use Rattle.deal.specs.Pairs.{sender_of, receiver_of, slot_of, quantum_of}
use Rattle.hamilton.proofs.QuotaLaws.{counts_sum, count_le}
use Rattle.deal.proofs.SlotLaws.{length_deal, owner_below}
use Rattle.hamilton.proofs.JudgeLaws.{dealable, length_counts}

-- no count is above q, so q rounds deal every count
pub all_dealt : (s : List ℕ) (q : ℕ) → Dealable s q → slots_before (counts_of s q) q ≡ q
unfolding slots_before counts_of
all_dealt s q d =
    rw (length_counts s q)
    (sum_cong (λ i. min (get_or (counts_of s q) i 0) q) (count_of s q) (length s)
    (λ i l. omega (arith, list_at (count_of s q) 0 (length s) i l, count_le s q d i l)) ∙ counts_sum s q d)

module _ (s : List ℕ) (u r q : ℕ) (a : Accepted s u r) (b : is_quantum q ≡ true) where
  -- the deal has exactly q slots
  pub deal_has_q_slots : length (deal_of (counts_of s q) q) ≡ q
  deal_has_q_slots = length_deal (counts_of s q) q ∙ all_dealt s q (dealable s u r q a b)

  pub sender_is_a_member : (k : ℕ) → sender_of s q k < length s
  unfolding sender_of
  sender_is_a_member k = rw (length_counts s q) at (owner_below (counts_of s q) q (slot_of q k) (omega (arith, a.some_member, length_counts s q)))

  pub receiver_is_a_member : (k : ℕ) → receiver_of s q k < length s
  unfolding receiver_of
  receiver_is_a_member k = rw (length_counts s q) at (owner_below (counts_of s q) q ((slot_of q k + quantum_of q k) % q) (omega (arith, a.some_member, length_counts s q)))
