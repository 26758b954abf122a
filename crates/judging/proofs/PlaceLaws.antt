-- Entries by their messages: the 64 messages from p + 1 on have each a place of its own, and a step at some of them, one after another, is
-- the step at each of their places. Assumes nothing.
use mathlib.Core.Path.{◌≡◌, ap, sym, ◌∙◌}
use mathlib.Core.Bool.{cond}
use mathlib.Core.List.{List}
use Prim.Native.Nat.{ℕ, ◌+◌, ◌%◌, ◌≤◌, ◌<◌}
use native.Mathlib.Decide.{dec_lt}
use native.Mathlib.Omega.{arith}
use lib.Dec.{ltb}
use lib.ListN.{length, get_or, set, replicate, length-set, length-replicate, get_or-replicate}
use lib.Seq.{get_or-set_same, get_or-set_other}
use borrow.Author.Tests.{lt-ltb, le-ltb}
use Rattle.basics.proofs.SumLaws.{length_list, list_at, list_is}
use Rattle.downstream.specs.declared.state.Entry.{Entry}
use Rattle.downstream.specs.State.{no_entry, place_after, offset_at}
use Rattle.judging.specs.Complaints.{entries_after}

pub offset_place : (p o : ℕ) → o < 64 → offset_at p (place_after p o) ≡ o
offset_place p o l = omega arith

pub place_offset : (p j : ℕ) → j < 64 → place_after p (offset_at p j) ≡ j
place_offset p j l = omega arith

module _ (step : ℕ → Entry → Entry) (p : ℕ) (entries : List Entry) where
  abbrev entry_at : ℕ → ℕ → Entry
  entry_at n j = cond (ltb (offset_at p j) n) (step (offset_at p j) (get_or entries j no_entry)) no_entry

  pub entries_length : (n : ℕ) → length (entries_after step p n entries) ≡ 64
  unfolding entries_after
  entries_length n = length_list (entry_at n) 64

  pub entries_place : (n j : ℕ) → j < 64 → get_or (entries_after step p n entries) j no_entry ≡ entry_at n j
  unfolding entries_after
  entries_place n j l = list_at (entry_at n) no_entry 64 j l

  -- the entry of the message at offset o
  pub entries_at : (n o : ℕ) → o < 64 → get_or (entries_after step p n entries) (place_after p o) no_entry ≡ cond (ltb o n) (step o (get_or entries (place_after p o) no_entry)) no_entry
  entries_at n o l =
      entries_place n (place_after p o) (omega arith)
      ∙ ap (λ (x : ℕ). cond (ltb x n) (step x (get_or entries (place_after p o) no_entry)) no_entry) (offset_place p o l)

  -- ---- the loop over the messages: its start and a turn
  pub entries_start : replicate 64 no_entry ≡ entries_after step p 0 entries
  unfolding entries_after
  entries_start = list_is (entry_at 0) no_entry 64 (replicate 64 no_entry) (length-replicate 64 no_entry)
      (λ j l. get_or-replicate 64 j no_entry no_entry l ∙ sym (simp (le-ltb (offset_at p j) 0 (omega arith))))

  pub entries_turn : (o n : ℕ) {l : List Entry} {v : Entry} → o < n → n ≤ 64 → l ≡ entries_after step p o entries → v ≡ step o (get_or entries ((p + o) % 64) no_entry)
      → set l ((p + o) % 64) v ≡ entries_after step p (o + 1) entries
  unfolding entries_after
  entries_turn o n {l} {v} h few e q =
      rw e (list_is (entry_at (o + 1)) no_entry 64 (set (entries_after step p o entries) (place_after p o) v)
      (length-set (entries_after step p o entries) (place_after p o) v ∙ entries_length o)
      (λ j m. elim (dec_lt (offset_at p j) o) [
        | yes a ↦ other j m (λ z. omega arith) ∙ simp (lt-ltb (offset_at p j) o a, lt-ltb (offset_at p j) (o + 1) (omega arith))
        | no a ↦ elim (dec_lt o (offset_at p j)) [
          | yes b ↦ other j m (λ z. omega arith) ∙ simp (le-ltb (offset_at p j) o (omega arith), le-ltb (offset_at p j) (o + 1) (omega arith))
          | no b ↦ (let w : offset_at p j ≡ o = omega arith in
              let z : j ≡ place_after p o = omega (arith, place_offset p j m) in
              same j z ∙ q ∙ rw (w, z) (simp (lt-ltb o (o + 1) (omega arith))))
        ]
      ]))
    where
      other : (j : ℕ) → j < 64 → (j ≡ place_after p o → ⊥) → get_or (set (entries_after step p o entries) (place_after p o) v) j no_entry ≡ entry_at o j
      other j m z = get_or-set_other (entries_after step p o entries) (place_after p o) j v no_entry z ∙ entries_place o j m

      same : (j : ℕ) → j ≡ place_after p o → get_or (set (entries_after step p o entries) (place_after p o) v) j no_entry ≡ v
      same j z = rw z (get_or-set_same (entries_after step p o entries) (place_after p o) v no_entry (omega (arith, entries_length o)))
