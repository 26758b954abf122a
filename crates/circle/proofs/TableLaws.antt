-- One turn as a table: a step put into it, the table of a turn that is whole, and the resends that are read from it. Assumes nothing.
use mathlib.Core.Path.{◌≡◌, refl, ap, ap₂, sym, ◌∙◌}
use mathlib.Core.Logic.{inl, inr}
use mathlib.Core.Bool.{Bool, true, cond}
use mathlib.Core.List.{List}
use Prim.Native.Nat.{ℕ, ◌+◌, ◌-◌, ◌*◌, ◌%◌, ◌≤◌, ◌<◌}
use native.Mathlib.Decide.{dec_lt, ℕ_discrete}
use native.Mathlib.Nat.{mod-lt, mod_self, mod-eq_of_lt}
use native.Mathlib.Omega.{arith}
use lib.Dec.{eqb}
use lib.ListN.{length, get_or, set, replicate, length-set, length-replicate, get_or-replicate}
use lib.Seq.{get_or-set_same, get_or-set_other}
use borrow.Author.Tests.{eqb-true, eq-eqb, ne_eqb, lt-ltb, le-ltb}
use Rattle.basics.proofs.BoolLaws.{bool_cases}
use Rattle.circle.specs.Stretches.{units_before, end_of, owner_of, end_after, place_of, following}
use Rattle.circle.specs.Circle.{circle_units, factor_of, send_layout, start_of, unit_of, sender_of, receiver_of}
use Rattle.circle.specs.Positions.{Sized, circle_of, position_at, position_of, same_position, resend_of}
use Rattle.circle.specs.TurnTable.{FirstSteps, TurnTable, ends_of}
use Rattle.circle.specs.declared.walk.Circle.{Circle}
use Rattle.circle.specs.declared.walk.Position.{Position}
use Rattle.circle.specs.declared.walk.Resend.{Resend}
use Rattle.circle.specs.declared.table.Ends.{Ends}
use Rattle.circle.proofs.StretchLaws.{before_none, before_more, before_all, before_le, end_owner, end_gt, scaled_at}
use Rattle.circle.proofs.CircleLaws.{send_full, send_some, send_length, stretches_some}
use Rattle.circle.proofs.WalkLaws.{unit_in, unit_first, sender_in}
use Rattle.circle.proofs.PeriodLaws.{same_position_lem, shifted, turned}

-- ---- the step with which a stretch begins, and that of a resend
module _ (left w whole j before : ℕ) (e : whole ≡ w) where
  pub begin_here : left ≡ whole → j ≡ cond (eqb left w) j before
  begin_here h = simp (eq-eqb left w (h ∙ e))

  pub begin_before : (left ≡ whole → ⊥) → before ≡ cond (eqb left w) j before
  begin_before h = simp (ne_eqb left w (λ z. h (z ∙ sym e)))

pub step_below : (begin steps x : ℕ) → begin < steps → x % steps < steps
step_below begin steps x h = mod-lt x (omega arith)

pub step_within : (steps x : ℕ) → x < steps → x ≡ x % steps
step_within steps x h = sym (mod-eq_of_lt h)

module _ (ss rs : List ℕ) (a : Sized ss) (b : Sized rs) where
  abbrev l : ℕ
  l = circle_units ss rs

  abbrev s : List ℕ
  s = send_layout ss rs

  abbrev last : ℕ
  last = length ss - 1

  stretch_at : (m : ℕ) → get_or s m 0 ≡ factor_of l ss * get_or ss m 0
  unfolding send_layout
  stretch_at m = scaled_at (factor_of l ss) ss m

  -- ---- a step put into the table
  module _ (c : Circle) (ec : c ≡ circle_of ss rs) (at : Position) (j : ℕ) (ea : at ≡ position_of ss rs last (j + 1)) where
    sends_it : at.sender.member ≡ sender_of ss rs last (j + 1)
    unfolding position_of position_at place_of sender_of
    sends_it = rw ea

    receives_it : at.receiver.member ≡ receiver_of ss rs last (j + 1)
    unfolding position_of position_at place_of receiver_of
    receives_it = rw ea

    pub step_member : at.sender.member < length ss
    step_member = rw sends_it (sender_in ss rs a b last (j + 1))

    pub step_few : at.sender.member < 64
    step_few = omega (arith, step_member, a.few_members)

    -- with the whole of a stretch left, the stretch begins
    begins_here : at.sender.left ≡ c.send * get_or ss at.sender.member 0 → unit_of ss rs last (j + 1) ≡ units_before s at.sender.member
    unfolding position_of position_at place_of circle_of
    begins_here e =
        let x = unit_of ss rs last (j + 1) in
        let inside : x < l = unit_in ss rs a b last (j + 1) in
        let m : at.sender.member ≡ owner_of s x = rw ea in
        let left : end_after s x - x ≡ get_or s (owner_of s x) 0 = rw (ea, ec) at e ∙ sym (stretch_at (owner_of s x)) in
        rw m (omega (arith, left, end_owner s x (omega (arith, send_full ss rs)), before_more s (owner_of s x), end_gt s x (omega (arith, send_full ss rs))))

    module _ (xs ys zs : List ℕ) (w : FirstSteps ss rs xs ys zs j) (few : j < 128) where
      pub step_begin : at.sender.member < length zs
      step_begin = omega (arith, step_member, w.begins_room)

      pub step_put : (r : ℕ) → r ≡ cond (eqb at.sender.left (c.send * get_or ss at.sender.member 0)) j (get_or zs at.sender.member 0)
          → FirstSteps ss rs (set xs j at.sender.member) (set ys j at.receiver.member) (set zs at.sender.member r) (j + 1)
      step_put r e =
          record {
            senders_room = omega (arith, length-set xs j at.sender.member, w.senders_room);
            receivers_room = omega (arith, length-set ys j at.receiver.member, w.receivers_room);
            begins_room = omega (arith, length-set zs at.sender.member r, w.begins_room);
            sends = λ k h. elim (dec_lt k j) [
              | yes u ↦ get_or-set_other xs j k at.sender.member 0 (λ z. omega arith) ∙ w.sends k u
              | no u ↦ (let z : k ≡ j = omega arith in rw z (get_or-set_same xs j at.sender.member 0 (omega (arith, w.senders_room)) ∙ sends_it))
            ];
            receives = λ k h. elim (dec_lt k j) [
              | yes u ↦ get_or-set_other ys j k at.receiver.member 0 (λ z. omega arith) ∙ w.receives k u
              | no u ↦ (let z : k ≡ j = omega arith in rw z (get_or-set_same ys j at.receiver.member 0 (omega (arith, w.receivers_room)) ∙ receives_it))
            ];
            starts = λ m h t. elim (ℕ_discrete m at.sender.member) [
              | yes z ↦ (let g : get_or (set zs at.sender.member r) m 0 ≡ r = rw z (get_or-set_same zs at.sender.member r 0 step_begin) in
                  rw (g, z) (begun r e (rw g at t)))
              | no z ↦ (let g : get_or (set zs at.sender.member r) m 0 ≡ get_or zs m 0 = get_or-set_other zs at.sender.member m r 0 z in
                  rw g (w.starts m h (rw g at t)))
            ];
          }
        where
          begun : (r : ℕ) → r ≡ cond (eqb at.sender.left (c.send * get_or ss at.sender.member 0)) j (get_or zs at.sender.member 0) → r < 128
              → unit_of ss rs last (r + 1) ≡ units_before s at.sender.member
          begun r e h = elim (bool_cases (eqb at.sender.left (c.send * get_or ss at.sender.member 0))) [
            | inl t ↦ (let z : r ≡ j = e ∙ simp t in rw z (begins_here (eqb-true at.sender.left (c.send * get_or ss at.sender.member 0) t)))
            | inr t ↦ (let z : r ≡ get_or zs at.sender.member 0 = e ∙ simp t in rw z (w.starts at.sender.member step_member (rw z at h)))
          ]

  -- ---- the resends of member i in the table
  before_end : (m : ℕ) → m < length ss → units_before s m < l
  unfolding send_layout
  before_end m u = omega (
    arith,
    stretches_some ss (factor_of l ss) a (send_some ss rs a b) m (omega (arith, send_length ss rs)),
    before_more s m,
    before_le s (m + 1) (omega (arith, send_length ss rs)),
    send_full ss rs,
  )

  -- resend 1 starts where the stretch of the following member begins
  start_begins : (i : ℕ) → i < length ss → start_of ss rs i ≡ units_before s (following (length ss) i)
  unfolding start_of end_of following
  start_begins i h = elim (dec_lt (i + 1) (length ss)) [
    | yes u ↦ simp (lt-ltb (i + 1) (length ss) u) (mod-eq_of_lt (before_end (i + 1) u))
    | no u ↦ (let e : i + 1 ≡ length s = omega (arith, send_length ss rs) in
        let z : units_before s (i + 1) ≡ l = ap (units_before s) e ∙ before_all s ∙ send_full ss rs in
        simp (le-ltb (i + 1) (length ss) (omega arith)) (rw (z, mod_self l, before_none s)))
  ]

  module _ (xs ys zs : List ℕ) (steps : ℕ) (w : TurnTable ss rs xs ys zs steps) (i n m : ℕ) (inside : i < length ss) (some : 1 ≤ n)
      (em : m ≡ following (length ss) i) (ml : m < length ss) (early : get_or zs m 0 < steps) (j : ℕ) (ej : j ≡ (get_or zs m 0 + n - 1) % steps) (jl : j < steps) where
    abbrev begin : ℕ
    begin = get_or zs m 0

    begins_there : position_of ss rs last (1 + begin) ≡ position_of ss rs i 1
    unfolding position_of
    begins_there =
        let f : begin + 1 ≡ 1 + begin = omega arith in
        ap (position_at ss rs) (rw f at (w.walked.starts m ml (omega (arith, w.few))) ∙ rw em (sym (start_begins i inside)) ∙ sym (unit_first ss rs i))

    in_table : position_of ss rs last (j + 1) ≡ position_of ss rs i n
    in_table =
        let f : j + 1 ≡ 1 + (begin + n - 1) % steps = omega arith in
        let g : 1 + (begin + n - 1) ≡ 1 + begin + (n - 1) = omega arith in
        let k : 1 + (n - 1) ≡ n = omega arith in
        ap (position_of ss rs last) f
        ∙ sym (turned ss rs a b last steps w.back (begin + n - 1))
        ∙ ap (position_of ss rs last) g
        ∙ shifted ss rs a b last i begin 0 begins_there (n - 1)
        ∙ ap (position_of ss rs i) k

    same_sender : sender_of ss rs last (j + 1) ≡ sender_of ss rs i n
    unfolding sender_of position_of position_at place_of
    same_sender = ap (λ (p : Position). p.sender.member) in_table

    same_receiver : receiver_of ss rs last (j + 1) ≡ receiver_of ss rs i n
    unfolding receiver_of position_of position_at place_of
    same_receiver = ap (λ (p : Position). p.receiver.member) in_table

    pub table_told : ◌≡◌ {A = Ends} (record { sender = get_or xs j 0; receiver = get_or ys j 0 }) (ends_of ss rs i n)
    unfolding ends_of
    table_told = ap₂ (λ (p q : ℕ). record { sender = p; receiver = q }) (w.walked.sends j jl ∙ same_sender) (w.walked.receives j jl ∙ same_receiver)

-- ---- no step yet, in a table as it is made
pub no_steps : (ss rs : List ℕ) → Sized ss → FirstSteps ss rs (replicate 128 0) (replicate 128 0) (replicate 64 128) 0
no_steps ss rs a =
    record {
      senders_room = omega (arith, length-replicate {A = ℕ} 128 0);
      receivers_room = omega (arith, length-replicate {A = ℕ} 128 0);
      begins_room = omega (arith, a.few_members, length-replicate {A = ℕ} 64 128);
      sends = λ k h. absurd (omega arith);
      receives = λ k h. absurd (omega arith);
      starts = λ m h t. absurd (omega (arith, t, get_or-replicate {A = ℕ} 64 m 128 0 (omega (arith, a.few_members))));
    }

-- ---- the whole turn
pub turn_back : (ss rs xs ys zs : List ℕ) (j : ℕ) (first at : Position) (same : Bool) → FirstSteps ss rs xs ys zs (j + 1) → j < 128
    → first ≡ position_of ss rs (length ss - 1) 1 → at ≡ position_of ss rs (length ss - 1) (j + 1 + 1) → same ≡ same_position at first → same ≡ true → TurnTable ss rs xs ys zs (j + 1)
turn_back ss rs xs ys zs j first at same w few ef ea es t = record { walked = w; few = omega arith; back = sym ea ∙ same_position_lem at first (sym es ∙ t) ∙ ef }

module _ (ss rs xs ys zs : List ℕ) (j : ℕ) (w : FirstSteps ss rs xs ys zs j) where
  -- no turn
  pub turn_none : TurnTable ss rs xs ys zs 0
  turn_none =
      record {
        walked = record {
          senders_room = w.senders_room;
          receivers_room = w.receivers_room;
          begins_room = w.begins_room;
          sends = λ k h. absurd (omega arith);
          receives = λ k h. absurd (omega arith);
          starts = w.starts;
        };
        few = omega arith;
        back = refl;
      }

-- ---- a resend that the table does not have
pub ends_told : (ss rs : List ℕ) (i n : ℕ) (r : Resend) → r ≡ resend_of ss rs i n → ◌≡◌ {A = Ends} (record { sender = r.sender; receiver = r.receiver }) (ends_of ss rs i n)
unfolding ends_of resend_of
ends_told ss rs i n r e = rw e refl
