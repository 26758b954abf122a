-- The cases of an arrival, each from what the code knows where it answers. Assumes nothing.
use mathlib.Core.Path.{◌≡◌, refl, sym, ◌∙◌}
use mathlib.Core.Bool.{Bool, true, false, not, true≢false}
use mathlib.Core.List.{List, [], ◌∷◌}
use Prim.Native.Nat.{ℕ, ◌+◌, ◌-◌, ◌*◌, ◌/◌, ◌%◌, ◌^◌, ◌≤◌, ◌<◌}
use native.Mathlib.Omega.{arith}
use lib.Dec.{leb}
use lib.Bits.{bit_or}
use mir.Val.{Fits}
use mir.Syntax.{w64}
use borrow.Author.Rules.{rules}
use borrow.Author.Tests.{eq-eqb, ne_eqb, le-leb, lt-leb, leb-true}
use Rattle.basics.specs.Checks.{Check, ◌else◌, first_failing}
use Rattle.basics.specs.Ranges.{is_message, message_limit}
use Rattle.basics.proofs.BoolLaws.{and_true, and_right}
use Rattle.basics.proofs.CheckLaws.{first_passed, later_passed}
use Rattle.marks.specs.Masks.{is_marked, mark_of, run_of, reach_of}
use Rattle.marks.specs.Held.{none_above, highest_of}
use Rattle.marks.proofs.MaskLaws.{mark_in}
use Rattle.marks.proofs.RunLaws.{reach_told}
use Rattle.holdings.specs.State.{well_formed}
use Rattle.holdings.specs.Arrival.{arrival_refusal, risen_of, marked_of, taken_of, ArrivalAnswer, arrival_of}
use Rattle.holdings.specs.declared.state.Holdings.{Holdings}

-- ---- the number of well-formed holdings is at most the limit, and leaves room for a small one beside it
formed_low : (h : Holdings) → well_formed h ≡ true → h.number ≤ message_limit
unfolding well_formed none_above highest_of
formed_low h w =
    let top : ℕ = h.number + reach_of h.mask in
    omega (arith, leb-true top message_limit (and_right (not (is_marked h.mask 0)) (leb top message_limit) w))

-- 64 or more below the limit, whether bit 0 is clear is all there is to ask
pub formed_far : (h : Holdings) (z : Bool) → Fits w64 h.mask → h.number ≤ 999999999936 → z ≡ is_marked h.mask 0 → not z ≡ well_formed h
unfolding well_formed none_above highest_of
formed_far h z f l e = simp (← e, le-leb (h.number + reach_of h.mask) message_limit (omega (arith, reach_told h.mask f))) (sym (and_true (not z)))

-- as the code has it, where it adds a number d
pub formed_room : (h : Holdings) (d : ℕ) (g : Bool) → g ≡ well_formed h → not g ≡ false → d ≤ 1000 → h.number + d < 18446744073709551616
formed_room h d true w t l = omega (arith, formed_low h (sym w))
formed_room h d false w t l = absurd (true≢false t)

-- what the checks of an arrival say where all pass
pub record Accepted (h : Holdings) (k : ℕ) : Type 0 where
  pub formed : well_formed h ≡ true
  pub limit : k ≤ message_limit
  pub near : k ≤ h.number + 64

pub accepts : (h : Holdings) (k : ℕ) → arrival_refusal h k ≡ 0 → Accepted h k
unfolding arrival_refusal is_message
accepts h k e =
    let reach : List Check = (leb k (h.number + 64) else 18) ∷ [] in
    let later : first_failing ((is_message k else 6) ∷ reach) ≡ 0 = later_passed (well_formed h) 17 ((is_message k else 6) ∷ reach) (omega arith) e in
    let last : first_failing reach ≡ 0 = later_passed (is_message k) 6 reach (omega arith) later in
    record {
      formed = first_passed (well_formed h) 17 ((is_message k else 6) ∷ reach) (omega arith) e;
      limit = leb-true k message_limit (and_right (leb 1 k) (leb k message_limit) (first_passed (is_message k) 6 reach (omega arith) later));
      near = leb-true k (h.number + 64) (first_passed (leb k (h.number + 64)) 18 [] (omega arith) last);
    }

pub accepted_low : (h : Holdings) (k n : ℕ) → n ≡ arrival_refusal h k → n ≡ 0 → h.number ≤ 1000000000000
accepted_low h k n e z = formed_low h (accepts h k (sym e ∙ z)).formed

pub accepted_near : (h : Holdings) (k n : ℕ) → n ≡ arrival_refusal h k → n ≡ 0 → k ≤ h.number + 64
accepted_near h k n e z = (accepts h k (sym e ∙ z)).near

-- ---- c rises over the run of marks
pub rises : (c m d x y : ℕ) → d ≡ run_of m → x ≡ d → y ≡ m / 2 ^ x → ◌≡◌ {A = Holdings} (record { number = c + x; mask = y }) (risen_of c m)
unfolding risen_of
rises c m d x y e f g = rw (g, f, e) refl

-- ---- a message is taken in
pub taken_held : (h : Holdings) (k : ℕ) → k ≤ h.number → h ≡ taken_of h k
unfolding taken_of
taken_held h k l = simp (le-leb k h.number l)

pub taken_next : (h r : Holdings) (k x : ℕ) → k ≡ h.number + 1 → x ≡ mark_of h.mask 0 → r ≡ risen_of h.number x → r ≡ taken_of h k
unfolding taken_of marked_of
taken_next h r k x n e t =
    let first : k - (h.number + 1) ≡ 0 = omega arith in
    simp (lt-leb k h.number (omega arith), eq-eqb k (h.number + 1) n, first, ← e) t

pub taken_later : (h : Holdings) (k : ℕ) → h.number < k → k ≤ h.number + 64 → (k ≡ h.number + 1 → ⊥) →
    ◌≡◌ {A = Holdings} (record { number = h.number; mask = bit_or h.mask ((1 * 2 ^ (k - h.number - 1)) % 18446744073709551616) }) (taken_of h k)
unfolding taken_of marked_of
taken_later h k above near n =
    let b : k - (h.number + 1) ≡ k - h.number - 1 = omega arith in
    rw (mark_in h.mask (k - h.number - 1) (omega arith)) (simp (lt-leb k h.number above, ne_eqb k (h.number + 1) n, b))

-- ---- the whole answer
module _ (h : Holdings) (k n : ℕ) (e : n ≡ arrival_refusal h k) where
  pub arrival_refused : (n ≡ 0 → ⊥) → ◌≡◌ {A = ArrivalAnswer} (record { refusal = n; holdings = h }) (arrival_of h k)
  unfolding arrival_of
  arrival_refused z = simp (← e, ne_eqb n 0 z)

  pub arrival_taken : (t : Holdings) → n ≡ 0 → t ≡ taken_of h k → ◌≡◌ {A = ArrivalAnswer} (record { refusal = 0; holdings = t }) (arrival_of h k)
  unfolding arrival_of
  arrival_taken t z f = simp (← e, z, ← f)

pub ruleset taking = (taken_held, taken_next, taken_later, rules)
