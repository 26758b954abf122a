-- Records read and written, from what the answers' cases tell. Assumes nothing.
use mathlib.Core.Path.{◌≡◌, refl, ap, ◌∙◌}
use mathlib.Core.List.{List, [], ◌∷◌}
use Prim.Native.Nat.{ℕ}
use Rattle.records.specs.declared.Record.{Record}
use Rattle.records.specs.declared.Record.TheVariants.{Unused, Report, Arrival, Private}
use Rattle.std.specs.Prelude.{Ok}
use Rattle.records.specs.Answers.{Told, told}
use Rattle.link.specs.Numbers.{told_numbers}

-- a record that was read is no refusal
accepted_0 : (x : Record) → 0 ≡ (told (Ok x)).refusal
unfolding told
accepted_0 Unused = refl
accepted_0 (Report m n w) = refl
accepted_0 (Arrival m n) = refl
accepted_0 (Private k) = refl

-- a record's numbers, kind by kind
module _ (x : Record) where
  pub of_unused : x ≡ Unused → 0 ∷ 0 ∷ 0 ∷ 0 ∷ [] ≡ told_numbers (told (Ok x))
  unfolding told
  of_unused e = rw e refl

  pub of_report : (m n w : ℕ) → x ≡ Report m n w → 1 ∷ m ∷ n ∷ w ∷ [] ≡ told_numbers (told (Ok x))
  unfolding told
  of_report m n w e = rw e refl

  pub of_arrival : (m n : ℕ) → x ≡ Arrival m n → 2 ∷ m ∷ n ∷ 0 ∷ [] ≡ told_numbers (told (Ok x))
  unfolding told
  of_arrival m n e = rw e refl

  pub of_private : (k : ℕ) → x ≡ Private k → k ∷ 0 ∷ 0 ∷ 0 ∷ [] ≡ told_numbers (told (Ok x))
  unfolding told
  of_private k e = rw e refl

-- a record that was read: 0, and its numbers
module _ (x : Record) (t : Told) (e : told (Ok x) ≡ t) where
  pub record_number : 0 ≡ t.refusal
  record_number = accepted_0 x ∙ ap (λ (u : Told). u.refusal) e

  pub record_numbers : (l : List ℕ) → l ≡ told_numbers (told (Ok x)) → l ≡ told_numbers t
  record_numbers l g = g ∙ ap told_numbers e
