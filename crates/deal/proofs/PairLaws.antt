-- First pairs: their judgement, the slots of a message, and the answer. Assumes nothing.
use mathlib.Core.Path.{◌≡◌, ap, sym, ◌∙◌}
use mathlib.Core.List.{List, [], ◌∷◌, ◌++◌}
use Prim.Native.Nat.{ℕ, ◌+◌, ◌*◌, ◌-◌, ◌/◌, ◌%◌, ◌≤◌, ◌<◌}
use native.Mathlib.Nat.{mod-lt, div-add-mod', mul-le-mul_left, mul-one}
use native.Mathlib.Omega.{arith}
use lib.ListN.{length, drop, take}
use lib.Seq.{take_at, length-take-le}
use mir.Val.{Fits}
use mir.Syntax.{w32, w64}
use borrow.Author.Tests.{eq-eqb, ne_eqb}
use Rattle.basics.specs.Checks.{◌else◌, first_failing}
use Rattle.basics.specs.Ranges.{is_message}
use Rattle.basics.proofs.CheckLaws.{checks_passed, checks_failed, checks_first}
use Rattle.hamilton.specs.Hamilton.{counts_of, Dealable}
use Rattle.hamilton.proofs.JudgeLaws.{length_counts}
use Rattle.deal.specs.Rounds.{slots_before, owner_of}
use Rattle.deal.specs.Pairs.{slot_of, quantum_of, sender_of, receiver_of, pair_checks, pair_refusal, first_pair_refusal, PairAnswer, first_pair_of, no_pair}
use Rattle.deal.proofs.JudgeLaws.{pair_numbered, sending_dealable, receiving_dealable}
use Rattle.deal.proofs.DealIsWhole.{all_dealt}

-- ---- the judgement
module _ (ss : List ℕ) (su sr : ℕ) (rs : List ℕ) (ru rr q k n : ℕ) where
  pub first_pair_clusters : n ≡ pair_refusal ss su sr rs ru rr q → (n ≡ 0 → ⊥) → n ≡ first_pair_refusal ss su sr rs ru rr q k
  unfolding first_pair_refusal pair_refusal
  first_pair_clusters e z = checks_failed (pair_checks ss su sr rs ru rr q) ((is_message k else 6) ∷ []) e z

  pub first_pair_judged : (m : ℕ) → n ≡ pair_refusal ss su sr rs ru rr q → n ≡ 0 → m ≡ first_failing ((is_message k else 6) ∷ [])
      → m ≡ first_pair_refusal ss su sr rs ru rr q k
  unfolding first_pair_refusal pair_refusal
  first_pair_judged m e z f = checks_passed (pair_checks ss su sr rs ru rr q) ((is_message k else 6) ∷ []) (sym e ∙ z) f (pair_numbered ss su sr rs ru rr q)

  module _ (e : n ≡ first_pair_refusal ss su sr rs ru rr q k) where
    clusters_pass : n ≡ 0 → pair_refusal ss su sr rs ru rr q ≡ 0
    unfolding first_pair_refusal pair_refusal
    clusters_pass z = checks_first (pair_checks ss su sr rs ru rr q) ((is_message k else 6) ∷ []) (pair_numbered ss su sr rs ru rr q) (sym e ∙ z)

    pub deals_sending : n ≡ 0 → Dealable ss q
    deals_sending z = sending_dealable ss su sr rs ru rr q (clusters_pass z)

    pub deals_receiving : n ≡ 0 → Dealable rs q
    deals_receiving z = receiving_dealable ss su sr rs ru rr q (clusters_pass z)

    pub pair_refused : (n ≡ 0 → ⊥) → no_pair n ≡ first_pair_of ss su sr rs ru rr q k
    unfolding first_pair_of
    pair_refused z = simp (← e, ne_eqb n 0 z)

    pub pair_answered : (x y : ℕ) → n ≡ 0 → x ≡ sender_of ss q k → y ≡ receiver_of rs q k
        → ◌≡◌ {A = PairAnswer} (record { refusal = 0; sender = x; receiver = y }) (first_pair_of ss su sr rs ru rr q k)
    unfolding first_pair_of
    pair_answered x y z f g = simp (← e, eq-eqb n 0 z, f, g)

-- ---- the slots of a message
module _ (s : List ℕ) (q : ℕ) (h : Dealable s q) where
  pub slot_fits : (x : ℕ) → Fits w32 (x % q)
  slot_fits x = record { fits = omega (arith, mod-lt x {m = q} (omega (arith, h.some_quantum)), h.small_quantum) }

  pub slot_below : (x : ℕ) → x % q < q
  slot_below x = mod-lt x {m = q} (omega (arith, h.some_quantum))

  -- slot and quantum number together are no more than what they are made of
  pub turn_fits : (x : ℕ) → Fits w64 x → Fits w64 (x % q + x / q)
  turn_fits x f =
      let up : x / q * 1 ≤ x / q * q = mul-le-mul_left (x / q) h.some_quantum in
      record { fits = omega (arith, f.fits, div-add-mod' x q, mul-one (x / q)) }

pub sender_told : (s : List ℕ) (q k x r : ℕ) → x ≡ k - 1 → r ≡ owner_of (counts_of s q) q (x % q) → r ≡ sender_of s q k
unfolding sender_of slot_of
sender_told s q k x r e f = rw e at f

pub receiver_told : (s : List ℕ) (q k x r : ℕ) → x ≡ k - 1 → r ≡ owner_of (counts_of s q) q ((x % q + x / q) % q) → r ≡ receiver_of s q k
unfolding receiver_of slot_of quantum_of
receiver_told s q k x r e f = rw e at f

-- ---- the counts in a local array, cut to the members
module _ (s : List ℕ) (q : ℕ) (places z : List ℕ) (e : places ≡ counts_of s q ++ drop (length s) z) (l : length places ≡ 64) (h : Dealable s q) where
  pub places_cut : length s ≡ length (take (length s) places)
  places_cut = sym (length-take-le (length s) places (omega (arith, h.few_members)))

  pub places_few : length (take (length s) places) ≤ 64
  places_few = omega (arith, places_cut, h.few_members)

  places_are : take (length s) places ≡ counts_of s q
  places_are = rw e (take_at (counts_of s q) (drop (length s) z) (length s) (length_counts s q))

  pub places_whole : slots_before (take (length s) places) q ≡ q
  places_whole = ap (λ (c : List ℕ). slots_before c q) places_are ∙ all_dealt s q h
