-- The columns of the entries are those of the state after each step. Assumes nothing.
use mathlib.Core.Path.{◌≡◌, refl, ap, sym, ◌∙◌}
use mathlib.Core.Bool.{Bool, true, false, cond}
use mathlib.Core.List.{List}
use Prim.Native.Nat.{ℕ, ◌+◌, ◌≤◌, ◌<◌}
use native.Mathlib.Decide.{dec_lt}
use native.Mathlib.Omega.{arith}
use lib.Dec.{ltb}
use lib.ListN.{length, get_or}
use borrow.Author.Tests.{lt-ltb, le-ltb}
use Rattle.basics.specs.Sums.{list_below}
use Rattle.basics.proofs.SumLaws.{length_list, list_at, list_is}
use Rattle.marks.specs.Masks.{is_marked}
use Rattle.downstream.specs.declared.state.Entry.{Entry}
use Rattle.downstream.specs.State.{no_entry, offset_at, counts_of, complaints_of}
use Rattle.judging.specs.Complaints.{entries_after, complained_entry, complaints_after}
use Rattle.judging.specs.Verdicts.{raised_entry}
use Rattle.judging.proofs.PlaceLaws.{entries_place}
use Rattle.words.specs.Taken.{word_at, entry_in, entries_in}
use Rattle.steps.specs.Columns.{open_at, counts_after, heard_after, changed_at, raised_counts, emptied_sets}

-- ---- two columns with the same words
pub same_list : {A : Type 0} (f g : ℕ → A) (d : A) → ((j : ℕ) → j < 64 → f j ≡ g j) → list_below 64 f ≡ list_below 64 g
same_list f g d h = list_is g d 64 (list_below 64 f) (length_list f 64) (λ j l. list_at f d 64 j l ∙ h j l)

count_of : (b : Bool) (x y : Entry) → (cond b x y).count ≡ cond b x.count y.count
count_of true x y = refl
count_of false x y = refl

complaints_of_lem : (b : Bool) (x y : Entry) → (cond b x y).complaints ≡ cond b x.complaints y.complaints
complaints_of_lem true x y = refl
complaints_of_lem false x y = refl

count_in : (l : List Entry) (j : ℕ) → j < 64 → get_or (counts_of l) j 0 ≡ (get_or l j no_entry).count
unfolding counts_of
count_in l j h = list_at (λ x. (get_or l x no_entry).count) 0 64 j h

complaints_in : (l : List Entry) (j : ℕ) → j < 64 → get_or (complaints_of l) j 0 ≡ (get_or l j no_entry).complaints
unfolding complaints_of
complaints_in l j h = list_at (λ x. (get_or l x no_entry).complaints) 0 64 j h

-- ---- the report heard
module _ (ws : List ℕ) (i c mask : ℕ) (again : Bool) (p n : ℕ) where
  abbrev heard : List Entry
  heard = entries_after (complained_entry i c mask again p) p n (entries_in ws)

  heard_place : (j : ℕ) → j < 64 → get_or heard j no_entry ≡ cond (ltb (offset_at p j) n) (complained_entry i c mask again p (offset_at p j) (entry_in ws j)) no_entry
  unfolding entries_in
  heard_place j l =
      entries_place (complained_entry i c mask again p) p (entries_in ws) n j l
      ∙ ap (λ (e : Entry). cond (ltb (offset_at p j) n) (complained_entry i c mask again p (offset_at p j) e) no_entry) (list_at (entry_in ws) no_entry 64 j l)

  pub heard_counts : counts_after ws p n ≡ counts_of heard
  unfolding open_at counts_of
  heard_counts = same_list (λ j. cond (ltb (offset_at p j) n) (word_at ws (329 + j)) 0) (λ j. (get_or heard j no_entry).count) 0
      (λ j l. sym (ap (λ (e : Entry). e.count) (heard_place j l) ∙ count_of (ltb (offset_at p j) n) (complained_entry i c mask again p (offset_at p j) (entry_in ws j)) no_entry))

  pub heard_sets : heard_after ws i c mask again p n ≡ complaints_of heard
  unfolding heard_after complaints_of
  heard_sets = same_list (λ j. cond (ltb (offset_at p j) n) (complaints_after i c mask again p (p + 1 + offset_at p j) (word_at ws (393 + j))) 0) (λ j. (get_or heard j no_entry).complaints) 0
      (λ j l. sym (ap (λ (e : Entry). e.complaints) (heard_place j l) ∙ complaints_of_lem (ltb (offset_at p j) n) (complained_entry i c mask again p (offset_at p j) (entry_in ws j)) no_entry))

-- ---- the verdicts: of entries outside the n messages after p none is due, and they are empty
module _ (due p n : ℕ) (l : List Entry) (past : (o : ℕ) → n ≤ o → is_marked due o ≡ false) (closed : (j : ℕ) → j < 64 → n ≤ offset_at p j → get_or l j no_entry ≡ no_entry) where
  abbrev judged : List Entry
  judged = entries_after (λ o e. cond (is_marked due o) (raised_entry e) e) p n l

  judged_place : (j : ℕ) → j < 64 → get_or judged j no_entry ≡ cond (is_marked due (offset_at p j)) (raised_entry (get_or l j no_entry)) (get_or l j no_entry)
  judged_place j m =
      entries_place (λ o e. cond (is_marked due o) (raised_entry e) e) p l n j m
      ∙ elim (dec_lt (offset_at p j) n) [
        | yes h ↦ simp (lt-ltb (offset_at p j) n h)
        | no h ↦ simp (le-ltb (offset_at p j) n (omega arith), past (offset_at p j) (omega arith)) (sym (closed j m (omega arith)))
      ]

  pub judged_counts : raised_counts due p (counts_of l) ≡ counts_of judged
  unfolding changed_at counts_of
  judged_counts = same_list (λ j. cond (is_marked due (offset_at p j)) (get_or (counts_of l) j 0 + 1) (get_or (counts_of l) j 0)) (λ j. (get_or judged j no_entry).count) 0
      (λ j m. rw (count_in l j m) (sym (ap (λ (e : Entry). e.count) (judged_place j m) ∙ count_of (is_marked due (offset_at p j)) (raised_entry (get_or l j no_entry)) (get_or l j no_entry))))

  pub judged_sets : emptied_sets due p (complaints_of l) ≡ complaints_of judged
  unfolding changed_at complaints_of
  judged_sets = same_list (λ j. cond (is_marked due (offset_at p j)) 0 (get_or (complaints_of l) j 0)) (λ j. (get_or judged j no_entry).complaints) 0
      (λ j m. rw (complaints_in l j m) (sym (ap (λ (e : Entry). e.complaints) (judged_place j m) ∙ complaints_of_lem (is_marked due (offset_at p j)) (raised_entry (get_or l j no_entry)) (get_or l j no_entry))))

  -- where nothing is due the entries stay
  pub judged_same : ((o : ℕ) → is_marked due o ≡ false) → length l ≡ 64 → judged ≡ l
  unfolding entries_after
  judged_same none m = same_list entry (λ j. get_or l j no_entry) no_entry
      (λ j h. sym (list_at entry no_entry 64 j h) ∙ judged_place j h ∙ simp (none (offset_at p j)))
      ∙ sym (list_is (λ j. get_or l j no_entry) no_entry 64 l m (λ j h. refl))
    where
      entry : ℕ → Entry
      entry j = cond (ltb (offset_at p j) n) (cond (is_marked due (offset_at p j)) (raised_entry (get_or l j no_entry)) (get_or l j no_entry)) no_entry
