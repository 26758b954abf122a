-- The messages' slots, dealt one after another: who sent each message first. Assumes nothing.
use mathlib.Core.Path.{◌≡◌, ap, ◌∙◌}
use mathlib.Core.List.{List}
use Prim.Native.Nat.{ℕ, ◌+◌, ◌-◌, ◌%◌, ◌<◌}
use native.Mathlib.Nat.{mod-add-mod}
use native.Mathlib.Omega.{arith}
use lib.ListN.{length}
use Rattle.hamilton.specs.Hamilton.{counts_of}
use Rattle.hamilton.proofs.JudgeLaws.{length_counts}
use Rattle.deal.specs.Rounds.{owner_of}
use Rattle.deal.specs.Pairs.{sender_of}
use Rattle.deal.proofs.PairLaws.{sender_told}
use Rattle.verdicts.specs.Written.{Ready}

module _ (ss rs slots : List ℕ) (q : ℕ) (y : Ready ss rs slots q) where
  pub ready_long : length slots ≡ length ss
  ready_long = ap length y.counted ∙ length_counts ss q

  -- the member that a slot falls to is one of the sending cluster
  pub dealt_member : (counts : List ℕ) (i : ℕ) → counts ≡ slots → i < length counts → i < length ss
  dealt_member counts i e l = omega (arith, ap length e, ready_long)

  pub dealt_sender : (p o slot i : ℕ) → slot ≡ (p + o) % q → i ≡ owner_of slots q slot → i ≡ sender_of ss q (p + 1 + o)
  dealt_sender p o slot i e f =
      let z : p + o ≡ p + 1 + o - 1 = omega arith in
      sender_told ss q (p + 1 + o) (p + o) i z (f ∙ ap (λ (c : List ℕ). owner_of c q slot) y.counted ∙ ap (owner_of (counts_of ss q) q) e)

pub slot_start : (p q slot : ℕ) → slot ≡ p % q → slot ≡ (p + 0) % q
slot_start p q slot e = let z : p ≡ p + 0 = omega arith in e ∙ ap (λ (x : ℕ). x % q) z

pub slot_next : (p o q a b : ℕ) → a ≡ (p + o) % q → b ≡ (a + 1) % q → b ≡ (p + (o + 1)) % q
slot_next p o q a b e f =
    let z : p + o + 1 ≡ p + (o + 1) = omega arith in
    f ∙ ap (λ (x : ℕ). (x + 1) % q) e ∙ mod-add-mod (p + o) q 1 ∙ ap (λ (x : ℕ). x % q) z
