-- Opening into words, from what the code knows where it answers. Assumes nothing.
use mathlib.Core.Path.{◌≡◌, refl, ap, ◌∙◌}
use mathlib.Core.List.{List}
use Prim.Native.Nat.{ℕ}
use Rattle.deal.specs.Pairs.{pair_refusal}
use Rattle.window.specs.declared.state.Window.{Window}
use Rattle.window.specs.Opening.{cluster_from, window_from, no_window, open_of, OpenAnswer}
use Rattle.window.proofs.OpenLaws.{open_refused, open_told}
use Rattle.words.specs.Put.{words_of}

module _ (ss : List ℕ) (su sr : ℕ) (rs : List ℕ) (ru rr q n : ℕ) (e : n ≡ pair_refusal ss su sr rs ru rr q) where
  pub refused_number : (n ≡ 0 → ⊥) → n ≡ (open_of ss su sr rs ru rr q).refusal
  refused_number z = ap (λ (a : OpenAnswer). a.refusal) (open_refused ss su sr rs ru rr q n e no_window refl z)

  pub refused_words : (n ≡ 0 → ⊥) → (o : List ℕ) → o ≡ words_of no_window → o ≡ words_of (open_of ss su sr rs ru rr q).window
  refused_words z o g = g ∙ ap (λ (a : OpenAnswer). words_of a.window) (open_refused ss su sr rs ru rr q n e no_window refl z)

  module _ (z : n ≡ 0) where
    abbrev opened : Window
    opened = window_from (cluster_from ss su sr) (cluster_from rs ru rr) q

    told : record { refusal = 0; window = opened } ≡ open_of ss su sr rs ru rr q
    told = open_told ss su sr rs ru rr q n e z (cluster_from ss su sr) (cluster_from rs ru rr) opened refl refl refl

    pub opened_number : 0 ≡ (open_of ss su sr rs ru rr q).refusal
    opened_number = ap (λ (x : OpenAnswer). x.refusal) told

    pub opened_words : (o : List ℕ) → o ≡ words_of (window_from (cluster_from ss su sr) (cluster_from rs ru rr) q) → o ≡ words_of (open_of ss su sr rs ru rr q).window
    opened_words o g = g ∙ ap (λ (x : OpenAnswer). words_of x.window) told
