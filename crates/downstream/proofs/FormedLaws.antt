-- Whether all that belongs to a receiving cluster is kept, from what the code knows where it answers. Assumes nothing.
use mathlib.Core.Path.{◌≡◌, refl, sym, ◌∙◌}
use mathlib.Core.Bool.{Bool, true, false, ◌&&◌}
use mathlib.Core.List.{List}
use Prim.Native.Nat.{ℕ, ◌+◌, ◌≤◌, ◌<◌}
use native.Mathlib.Omega.{arith}
use lib.Dec.{leb, eqb}
use lib.ListN.{length, take, length-take}
use borrow.Author.Tests.{le-leb, lt-leb, leb-true, eqb-true, not-true, not-false}
use borrow.Author.Rules.{rules}
use Rattle.basics.specs.Ranges.{message_limit}
use Rattle.basics.proofs.BoolLaws.{and_left, and_right}
use Rattle.shares.specs.Cluster.{cluster_refusal}
use Rattle.downstream.specs.declared.state.Cluster.{Cluster}
use Rattle.downstream.specs.declared.state.Entry.{Entry}
use Rattle.downstream.specs.declared.state.Downstream.{Downstream}
use Rattle.downstream.specs.State.{shares_of, numbers_of, masks_of, point_from}
use Rattle.downstream.specs.Formed.{span_kept, cluster_kept, places_zero, entry_kept, entries_kept, reports_kept, downstream_kept}

pub span_high : (p s : ℕ) → message_limit < s → false ≡ span_kept p s
unfolding span_kept
span_high p s l = simp (lt-leb s message_limit l)

pub span_low : (p s : ℕ) → s ≤ message_limit → s < p → false ≡ span_kept p s
unfolding span_kept
span_low p s h l = simp (le-leb s message_limit h, lt-leb p s l)

pub span_near : (p s : ℕ) → s ≤ message_limit → p ≤ s → leb s (p + 64) ≡ span_kept p s
unfolding span_kept
span_near p s h l = simp (le-leb s message_limit h, le-leb p s l)

-- ---- the first n places of a cluster's shares
pub prefix_fits : (n : ℕ) (l : List ℕ) → n ≤ 64 → length l ≡ 64 → n ≤ length l
prefix_fits n l a b = omega arith

pub prefix_length : (n : ℕ) (l : List ℕ) → n ≤ 64 → length l ≡ 64 → n ≡ length (take n l)
prefix_length n l a b = simp length-take (omega arith)

pub prefix_few : (n : ℕ) (l : List ℕ) → n ≤ 64 → length (take n l) ≤ 64
prefix_few n l a = simp length-take (omega arith)

pub ruleset prefixes = (prefix_fits, prefix_length, prefix_few, rules)

-- ---- a cluster
module _ (c : Cluster) where
  pub cluster_many : 64 < c.members → false ≡ cluster_kept c
  unfolding cluster_kept
  cluster_many l = simp (lt-leb c.members 64 l)

  pub cluster_judged : (refusal : ℕ) (zero : Bool) → c.members ≤ 64 → refusal ≡ cluster_refusal (shares_of c) c.u c.r → zero ≡ places_zero c
      → (eqb refusal 0 && zero) ≡ cluster_kept c
  unfolding cluster_kept
  cluster_judged refusal zero l a b = simp (le-leb c.members 64 l, a, b)

-- ---- an entry above S
pub entry_closed : (n : ℕ) (numbers masks : List ℕ) (s k : ℕ) (e : Entry) → s < k → (eqb e.count 0 && eqb e.complaints 0) ≡ entry_kept n numbers masks s k e
entry_closed n numbers masks s k e l = simp (lt-leb k s l)

-- ---- what a kept span and a kept cluster say
pub span_limit : (p s : ℕ) → span_kept p s ≡ true → s ≤ message_limit
unfolding span_kept
span_limit p s h = leb-true _ _ (and_left (leb s message_limit) (leb p s) (and_left (leb s message_limit && leb p s) (leb s (p + 64)) h))

pub span_order : (p s : ℕ) → span_kept p s ≡ true → p ≤ s
unfolding span_kept
span_order p s h = leb-true _ _ (and_right (leb s message_limit) (leb p s) (and_left (leb s message_limit && leb p s) (leb s (p + 64)) h))

pub span_width : (p s : ℕ) → span_kept p s ≡ true → s ≤ p + 64
unfolding span_kept
span_width p s h = leb-true _ _ (and_right (leb s message_limit && leb p s) (leb s (p + 64)) h)

pub span_of : (p s : ℕ) → s ≤ message_limit → p ≤ s → s ≤ p + 64 → span_kept p s ≡ true
unfolding span_kept
span_of p s a b c = simp (le-leb s message_limit a, le-leb p s b, le-leb s (p + 64) c)

pub cluster_few : (c : Cluster) → cluster_kept c ≡ true → c.members ≤ 64
unfolding cluster_kept
cluster_few c h =
    let x = leb c.members 64 in
    let y = eqb (cluster_refusal (shares_of c) c.u c.r) 0 in
    leb-true _ _ (and_left x y (and_left (x && y) (places_zero c) h))

pub cluster_accepted : (c : Cluster) → cluster_kept c ≡ true → cluster_refusal (shares_of c) c.u c.r ≡ 0
unfolding cluster_kept
cluster_accepted c h =
    let x = leb c.members 64 in
    let y = eqb (cluster_refusal (shares_of c) c.u c.r) 0 in
    eqb-true _ _ (and_right x y (and_left (x && y) (places_zero c) h))

-- ---- all that belongs to the receiving cluster, from what the code knows where it answers
module _ (d : Downstream) (s : ℕ) (a : Bool) (ea : a ≡ span_kept d.point s) where
  pub down_span : a ≡ false → false ≡ downstream_kept d s
  unfolding downstream_kept
  down_span h = simp (sym ea ∙ h)

  pub down_point : a ≡ true → d.point ≤ 1000000000000
  down_point h = let k : span_kept d.point s ≡ true = sym ea ∙ h in omega (arith, span_limit d.point s k, span_order d.point s k)

  module _ (ta : a ≡ true) (b : Bool) (eb : b ≡ cluster_kept d.cluster) where
    pub down_cluster : b ≡ false → false ≡ downstream_kept d s
    unfolding downstream_kept
    down_cluster h = simp (sym ea ∙ ta, sym eb ∙ h)

    pub down_few : b ≡ true → d.cluster.members ≤ 64
    down_few h = cluster_few d.cluster (sym eb ∙ h)

    pub down_judged : b ≡ true → (numbers masks : List ℕ) (reports point closed : Bool) → numbers ≡ numbers_of d.reports → masks ≡ masks_of d.reports
        → reports ≡ reports_kept d.cluster.members d.reports s → point ≡ eqb d.point (point_from d.cluster numbers)
        → closed ≡ entries_kept d.cluster.members numbers masks d.entries d.point s → (reports && point && closed) ≡ downstream_kept d s
    unfolding downstream_kept
    down_judged h numbers masks reports point closed en em er ep eo = simp (sym ea ∙ ta, sym eb ∙ h) (rw (er, ep, eo, en, em) refl)

pub ruleset downs = (down_span, down_point, down_cluster, down_few, not-true, not-false)

-- ---- what is known of all that is kept
module _ (d : Downstream) (s : ℕ) (h : downstream_kept d s ≡ true) where
  abbrev span : Bool
  span = span_kept d.point s

  abbrev cluster : Bool
  cluster = cluster_kept d.cluster

  abbrev reports : Bool
  reports = reports_kept d.cluster.members d.reports s

  abbrev point : Bool
  point = eqb d.point (point_from d.cluster (numbers_of d.reports))

  abbrev entries : Bool
  entries = entries_kept d.cluster.members (numbers_of d.reports) (masks_of d.reports) d.entries d.point s

  pub kept_entries : entries ≡ true
  unfolding downstream_kept
  kept_entries = and_right (span && cluster && reports && point) entries h

  rest : (span && cluster && reports && point) ≡ true
  unfolding downstream_kept
  rest = and_left (span && cluster && reports && point) entries h

  pub kept_point : d.point ≡ point_from d.cluster (numbers_of d.reports)
  kept_point = eqb-true _ _ (and_right (span && cluster && reports) point rest)

  pub kept_reports : reports ≡ true
  kept_reports = and_right (span && cluster) reports (and_left (span && cluster && reports) point rest)

  pub kept_cluster : cluster ≡ true
  kept_cluster = and_right span cluster (and_left (span && cluster) reports (and_left (span && cluster && reports) point rest))

  pub kept_span : span ≡ true
  kept_span = and_left span cluster (and_left (span && cluster) reports (and_left (span && cluster && reports) point rest))
