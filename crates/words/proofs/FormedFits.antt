-- No word is too large for its field in which a well-formed state stands; so the words of one fit, and give it back after a power cut.
-- Assumes nothing.
use mathlib.Core.Path.{◌≡◌, refl, ap, sym, ◌∙◌}
use mathlib.Core.Bool.{Bool, true, false, cond, ◌&&◌, ◌||◌}
use mathlib.Core.List.{List}
use Prim.Native.Nat.{ℕ, ◌+◌, ◌-◌, ◌≤◌, ◌<◌}
use native.Mathlib.Nat.{zero-add}
use native.Mathlib.Decide.{dec_lt}
use native.Mathlib.Omega.{arith}
use lib.Dec.{leb, ltb, eqb}
use lib.ListN.{length, get_or, length-take}
use lib.Seq.{get_or-take}
use borrow.Author.Tests.{le-leb, lt-leb, le-ltb, leb-true, eqb-true}
use Rattle.basics.specs.Sums.{list_below}
use Rattle.basics.specs.Ranges.{is_quantum}
use Rattle.basics.proofs.SumLaws.{all_at, all_of, list_at, length_list}
use Rattle.basics.proofs.BoolLaws.{and_both, and_left, and_right}
use Rattle.shares.specs.Cluster.{Accepted, cluster_refusal}
use Rattle.shares.proofs.ClusterLaws.{accepts, total_small}
use Rattle.downstream.specs.declared.state.Cluster.{Cluster}
use Rattle.downstream.specs.declared.state.Entry.{Entry}
use Rattle.downstream.specs.declared.state.Downstream.{Downstream}
use Rattle.downstream.specs.State.{no_entry, shares_of, place_after, offset_at, report_at, numbers_of, masks_of, counts_of, complaints_of}
use Rattle.downstream.specs.Formed.{places_zero, cluster_kept, complaints_kept, entry_kept, entries_kept, downstream_kept}
use Rattle.downstream.proofs.FormedLaws.{cluster_few, cluster_accepted, kept_cluster, kept_entries}
use Rattle.window.specs.declared.state.Window.{Window}
use Rattle.window.specs.Formed.{well_formed}
use Rattle.window.proofs.FormedLaws.{formed_down, formed_sending, formed_quantum}
use Rattle.words.specs.Taken.{word_at, none_above, fits, column_at, cluster_at, entry_in, entries_in, window_in}
use Rattle.words.specs.Put.{shares_words, cluster_words, heard_of, report_words, entry_words, words_of}
use Rattle.words.proofs.RoundTrip.{Placed, taken_back}

stretch : (ws : List ℕ) (from n most : ℕ) → ((i : ℕ) → i < n → word_at ws (from + i) ≤ most) → none_above ws from n most ≡ true
unfolding none_above
stretch ws from n most f = all_of (λ i. leb (word_at ws (from + i)) most) n (λ i l. le-leb (word_at ws (from + i)) most (f i l))

-- ---- the numbers of a cluster that is kept are small
module _ (c : Cluster) (places : length c.shares ≡ 64) (h : cluster_kept c ≡ true) where
  accepted : Accepted (shares_of c) c.u c.r
  accepted = accepts (shares_of c) c.u c.r (cluster_accepted c h)

  rest_zero : places_zero c ≡ true
  unfolding cluster_kept
  rest_zero = and_right (leb c.members 64 && eqb (cluster_refusal (shares_of c) c.u c.r) 0) (places_zero c) h

  small_members : c.members ≤ 4294967295
  small_members = omega (arith, cluster_few c h)

  small_u : c.u ≤ 4294967295
  small_u = omega (arith, accepted.enough, total_small (shares_of c) c.u c.r accepted)

  small_r : c.r ≤ 4294967295
  small_r = omega (arith, accepted.liars, small_u)

  small_share : (i : ℕ) → i < 64 → get_or c.shares i 0 ≤ 4294967295
  unfolding places_zero
  small_share i l = elim (dec_lt i c.members) [
    | yes m ↦
        (let inside : i < length (shares_of c) = rw length-take (omega (arith, places)) in
        let at : get_or (shares_of c) i 0 ≡ get_or c.shares i 0 = get_or-take c.members c.shares i 0 m in
        omega (arith, at, accepted.small_share i inside))
    | no m ↦
        (let z : (ltb i c.members || eqb (get_or c.shares i 0) 0) ≡ true = all_at (λ j. ltb j c.members || eqb (get_or c.shares j 0) 0) 64 rest_zero i l in
        let e : get_or c.shares i 0 ≡ 0 = eqb-true _ _ (simp (le-ltb i c.members (omega arith)) at z) in
        omega (arith, e))
  ]

-- ---- so are the resend counts
module _ (d : Downstream) (s : ℕ) (h : downstream_kept d s ≡ true) where
  abbrev n : ℕ
  n = d.cluster.members

  abbrev numbers : List ℕ
  numbers = numbers_of d.reports

  abbrev masks : List ℕ
  masks = masks_of d.reports

  entry_small : (k : ℕ) (e : Entry) → entry_kept n numbers masks s k e ≡ true → e.count ≤ 4294967295
  entry_small k e kept = elim (dec_lt s k) [
    | yes l ↦
        (let closed : (eqb e.count 0 && eqb e.complaints 0) ≡ true = simp (lt-leb k s l) at kept in
        let z : e.count ≡ 0 = eqb-true _ _ (and_left (eqb e.count 0) (eqb e.complaints 0) closed) in
        omega (arith, z))
    | no l ↦
        (let opened : (leb e.count 255 && complaints_kept n numbers masks k e.complaints) ≡ true = simp (le-leb k s (omega arith)) at kept in
        omega (arith, leb-true e.count 255 (and_left (leb e.count 255) (complaints_kept n numbers masks k e.complaints) opened)))
  ]

  small_count : (j : ℕ) → j < 64 → (get_or d.entries j no_entry).count ≤ 4294967295
  unfolding entries_kept
  small_count j l =
      let o : ℕ = offset_at d.point j in
      let at : place_after d.point o ≡ j = omega arith in
      rw at at (entry_small (d.point + 1 + o) (get_or d.entries (place_after d.point o) no_entry)
      (all_at (λ y. entry_kept n numbers masks s (d.point + 1 + y) (get_or d.entries (place_after d.point y) no_entry)) 64 (kept_entries d s h) o (omega arith)))

-- ---- so no word is too large in which a well-formed state stands
module _ (ws : List ℕ) where
  module _ (at : ℕ) (h : cluster_kept (cluster_at ws at) ≡ true) where
    placed : length (cluster_at ws at).shares ≡ 64
    unfolding cluster_at column_at
    placed = length_list (λ i. word_at ws (at + 3 + i)) 64

    pub members_small : word_at ws at ≤ 4294967295
    unfolding cluster_at
    members_small = small_members (cluster_at ws at) placed h

    pub u_small : word_at ws (at + 1) ≤ 4294967295
    unfolding cluster_at
    u_small = small_u (cluster_at ws at) placed h

    r_small : word_at ws (at + 2) ≤ 4294967295
    unfolding cluster_at
    r_small = small_r (cluster_at ws at) placed h

    share_small : (i : ℕ) → i < 64 → word_at ws (at + 3 + i) ≤ 4294967295
    unfolding cluster_at column_at
    share_small i l = rw (list_at (λ j. word_at ws (at + 3 + j)) 0 64 i l) at (small_share (cluster_at ws at) placed h i l)

    pub shares_small : (n : ℕ) → n ≤ 64 → none_above ws (at + 3) n 4294967295 ≡ true
    shares_small n few = stretch ws (at + 3) n 4294967295 (λ i l. share_small i (omega arith))

    cluster_small : (i : ℕ) → i < 67 → word_at ws (at + i) ≤ 4294967295
    cluster_small i l = elim (dec_lt i 1) [
      | yes a ↦ (let z : at + i ≡ at = omega arith in rw z members_small)
      | no a ↦ elim (dec_lt i 2) [
        | yes b ↦ (let z : at + i ≡ at + 1 = omega arith in rw z u_small)
        | no b ↦ elim (dec_lt i 3) [
          | yes c ↦ (let z : at + i ≡ at + 2 = omega arith in rw z r_small)
          | no c ↦ (let z : at + i ≡ at + 3 + (i - 3) = omega arith in rw z (share_small (i - 3) (omega arith)))
        ]
      ]
    ]

  module _ (h : well_formed (window_in ws) ≡ true) where
    sending_kept : cluster_kept (cluster_at ws 0) ≡ true
    unfolding window_in
    sending_kept = formed_sending (window_in ws) h

    receiving_kept : cluster_kept (cluster_at ws 67) ≡ true
    unfolding window_in
    receiving_kept = kept_cluster (window_in ws).downstream (window_in ws).sent (formed_down (window_in ws) h)

    quantum_small : word_at ws 134 ≤ 4294967295
    unfolding window_in is_quantum
    quantum_small = omega (arith, leb-true (word_at ws 134) 1024 (and_right (leb 1 (word_at ws 134)) (leb (word_at ws 134) 1024) (formed_quantum (window_in ws) h)))

    -- the words up to q, a cluster at a time
    narrow : (j : ℕ) → j < 135 → word_at ws j ≤ 4294967295
    narrow j l = elim (dec_lt j 67) [
      | yes a ↦ rw zero-add at (cluster_small 0 sending_kept j a)
      | no a ↦ elim (dec_lt j 134) [
        | yes b ↦ (let z : 67 + (j - 67) ≡ j = omega arith in rw z at (cluster_small 67 receiving_kept (j - 67) (omega arith)))
        | no b ↦ (let z : j ≡ 134 = omega arith in rw z quantum_small)
      ]
    ]

    counts : (i : ℕ) → i < 64 → word_at ws (329 + i) ≤ 4294967295
    unfolding window_in entries_in
    counts i l = rw (list_at (entry_in ws) no_entry 64 i l) at (small_count (window_in ws).downstream (window_in ws).sent (formed_down (window_in ws) h) i l)

    pub kept_fits : none_above ws 265 64 1 ≡ true → fits ws ≡ true
    unfolding fits
    kept_fits flags =
        and_both (none_above ws 0 135 4294967295 && none_above ws 265 64 1) (none_above ws 329 64 4294967295)
        (and_both (none_above ws 0 135 4294967295) (none_above ws 265 64 1)
        (stretch ws 0 135 4294967295 (λ i l. rw zero-add (narrow i l)))
        flags)
        (stretch ws 329 64 4294967295 counts)

-- ---- and those of a well-formed state fit
flag_small : (b : Bool) → cond b 1 0 ≤ 1
flag_small true = omega arith
flag_small false = omega arith

module _ (w : Window) where
  heard_column : column_at (words_of w) 265 ≡ heard_of w.downstream.reports
  unfolding words_of cluster_words shares_words report_words entry_words numbers_of masks_of heard_of counts_of complaints_of column_at list_below
  heard_column = refl

  flags : (i : ℕ) → i < 64 → word_at (words_of w) (265 + i) ≤ 1
  unfolding column_at heard_of
  flags i l =
      let f : ℕ → ℕ = λ j. cond (report_at w.downstream.reports j).heard 1 0 in
      let e : word_at (words_of w) (265 + i) ≡ f i =
      sym (list_at (λ j. word_at (words_of w) (265 + j)) 0 64 i l) ∙ ap (λ (c : List ℕ). get_or c i 0) heard_column ∙ list_at f 0 64 i l in
      rw e (flag_small (report_at w.downstream.reports i).heard)

  pub formed_fits : Placed w → well_formed w ≡ true → fits (words_of w) ≡ true
  formed_fits p h = kept_fits (words_of w) (rw (taken_back w p) h) (stretch (words_of w) 265 64 1 flags)
