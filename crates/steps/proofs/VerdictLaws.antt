-- What the verdicts need, of a well-formed state that stands in the words. Assumes nothing.
use mathlib.Core.Path.{◌≡◌, refl, ◌∙◌}
use mathlib.Core.Bool.{true}
use mathlib.Core.List.{List, ◌++◌}
use Prim.Native.Nat.{ℕ, ◌-◌, ◌/◌, ◌≤◌}
use native.Mathlib.Omega.{arith}
use mir.Syntax.{w32}
use mir.Val.{Fits}
use lib.ListN.{length, take, drop}
use Rattle.marks.specs.Masks.{is_marked}
use Rattle.hamilton.specs.Hamilton.{Dealable}
use Rattle.hamilton.proofs.JudgeLaws.{dealable}
use Rattle.circle.specs.Positions.{Sized}
use Rattle.circle.proofs.CircleLaws.{sized}
use Rattle.downstream.specs.declared.state.Cluster.{Cluster}
use Rattle.downstream.specs.Formed.{cluster_kept}
use Rattle.downstream.specs.State.{shares_of}
use Rattle.downstream.proofs.FormedLaws.{kept_span, kept_cluster, cluster_few, span_limit}
use Rattle.verdicts.specs.Written.{verdicts_to}
use Rattle.verdicts.proofs.WriteLaws.{written_count, few_counted}
use Rattle.window.specs.Formed.{well_formed}
use Rattle.window.proofs.FormedLaws.{formed_down, formed_sending, formed_quantum}
use Rattle.window.proofs.ReportLaws.{kept_accepted}
use Rattle.words.specs.Taken.{word_at, cluster_at, window_in}
use Rattle.steps.specs.Stepping.{verdicts_in}

kept_sized : (c : Cluster) → cluster_kept c ≡ true → Sized (shares_of c)
kept_sized c h = sized (shares_of c) c.u c.r (kept_accepted c h)

module _ (ws : List ℕ) (f : well_formed (window_in ws) ≡ true) where
  sending_kept : cluster_kept (cluster_at ws 0) ≡ true
  unfolding window_in
  sending_kept = formed_sending (window_in ws) f

  receiving_kept : cluster_kept (cluster_at ws 67) ≡ true
  unfolding window_in
  receiving_kept = kept_cluster (window_in ws).downstream (window_in ws).sent (formed_down (window_in ws) f)

  pub formed_low : (p : ℕ) → p ≤ word_at ws 135 → p ≤ 1000000000000
  unfolding window_in
  formed_low p l = omega (arith, span_limit (word_at ws 136) (word_at ws 135) (kept_span (window_in ws).downstream (window_in ws).sent (formed_down (window_in ws) f)))

  module _ (c : Cluster) (e : c ≡ cluster_at ws 0) where
    pub sends_few : c.members ≤ 64
    sends_few = rw e (cluster_few (cluster_at ws 0) sending_kept)

    pub sends_sized : Sized (take c.members c.shares)
    sends_sized = rw e (kept_sized (cluster_at ws 0) sending_kept)

    pub sends_deals : (q : ℕ) → q ≡ word_at ws 134 → Dealable (take c.members c.shares) q
    unfolding window_in
    sends_deals q eq = rw (e, eq) (dealable (shares_of (cluster_at ws 0)) (cluster_at ws 0).u (cluster_at ws 0).r (word_at ws 134) (kept_accepted (cluster_at ws 0) sending_kept) (formed_quantum (window_in ws) f))

  module _ (c : Cluster) (e : c ≡ cluster_at ws 67) where
    pub receives_few : c.members ≤ 64
    receives_few = rw e (cluster_few (cluster_at ws 67) receiving_kept)

    pub receives_sized : Sized (take c.members c.shares)
    receives_sized = rw e (kept_sized (cluster_at ws 67) receiving_kept)

-- ---- what was written
module _ (ws : List ℕ) (due : ℕ) (counts : List ℕ) (p : ℕ) (sending receiving : Cluster) (q : ℕ) (es : sending ≡ cluster_at ws 0) (er : receiving ≡ cluster_at ws 67) (eq : q ≡ word_at ws 134) where
  abbrev written : List ℕ
  written = verdicts_to (take sending.members sending.shares) (take receiving.members receiving.shares) q due counts p (word_at ws 135 - p)

  same : written ≡ verdicts_in ws due counts p
  unfolding verdicts_in
  same = rw (es, er, eq) refl

  module _ (bytes : ℕ) (e : bytes ≡ length written) where
    pub verdicts_told : bytes / 16 ≡ length (verdicts_in ws due counts p) / 16
    verdicts_told = rw (e, same) refl

    pub verdicts_put : (xs ys : List ℕ) → ys ≡ written ++ drop bytes xs → ys ≡ verdicts_in ws due counts p ++ drop (length (verdicts_in ws due counts p)) xs
    verdicts_put xs ys ey = ey ∙ rw (e, same) refl

    pub verdicts_few : word_at ws 135 - p ≤ 64 → Fits w32 (bytes / 16)
    verdicts_few l = record { fits = omega (arith, e, written_count (take sending.members sending.shares) (take receiving.members receiving.shares) q due counts p (word_at ws 135 - p), few_counted (word_at ws 135 - p) (is_marked due)) }
