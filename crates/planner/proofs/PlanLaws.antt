-- The plan's text for an input of any bytes: badly built, or as what it asks for. Assumes nothing.
use mathlib.Core.Path.{◌≡◌, ap, sym, ◌∙◌}
use mathlib.Core.Bool.{true, false}
use mathlib.Core.List.{List, ◌++◌}
use Prim.Native.Nat.{ℕ, ◌+◌, ◌≤◌}
use native.Mathlib.Omega.{arith}
use lib.ListN.{length, take, drop, length-append}
use lib.Seq.{length-take-le}
use Rattle.basics.proofs.BoolLaws.{either}
use Rattle.input.specs.Input.{is_built, build_of, shares_at, numbers_of, Build}
use Rattle.input.specs.declared.input.Numbers.{Numbers}
use Rattle.input.proofs.BuildLaws.{cut}
use Rattle.input.proofs.BuildIs.{built_as_told, senders_as_told, receivers_as_told}
use Rattle.lines.specs.Text.{put}
use Rattle.lines.specs.Lines.{refused_text}
use Rattle.lines.proofs.SizeLaws.{refused_few}
use Rattle.planner.specs.Asked.{asking, asked_with, asked_of}
use Rattle.planner.specs.Plan.{plan_refusal, text_of, asked_text, plan_text, text_room}
use Rattle.planner.proofs.AskedLaws.{asked_fits}

-- ---- a well-built input's shares and numbers, as the code copies them
module _ (s : List ℕ) (a b : ℕ) (x : Numbers) (l m y z : List ℕ) (e : l ≡ shares_at s 1 a ++ drop a y) (f : m ≡ shares_at s (a + 2) b ++ drop b z) (g : x ≡ numbers_of s a b) where
  asks : asking (take a l) (take b m) x ≡ asked_with s a b
  unfolding asked_with
  asks = rw (cut s 1 a l y e, cut s (a + 2) b m z f, g)

  pub built_end : (r : ℕ) → r ≡ length (asked_text (asking (take a l) (take b m) x)) → r ≡ length (asked_text (asked_with s a b))
  built_end r h = rw asks at h

  pub built_put : (o q : List ℕ) → q ≡ put 0 (asked_text (asking (take a l) (take b m) x)) o → q ≡ put 0 (asked_text (asked_with s a b)) o
  built_put o q h = rw asks at h

-- ---- any input
badly_built_lem : (s : List ℕ) → is_built s ≡ false → refused_text 19 ≡ plan_text s
unfolding plan_text plan_refusal text_of
badly_built_lem s e = sym (simp e)

well_built : (s : List ℕ) → is_built s ≡ true → asked_text (asked_of s) ≡ plan_text s
unfolding plan_text plan_refusal asked_text
well_built s e = sym (simp e)

-- any input's text has room
pub plan_fits : (s : List ℕ) → length (plan_text s) ≤ text_room
plan_fits s = either _ (is_built s)
    (λ t. rw (← well_built s t) (asked_fits (asked_of s)))
    (λ t. rw (← badly_built_lem s t) (omega (arith, refused_few 19)))

-- a caller may cut its output to the text
module _ (s o z : List ℕ) (r : ℕ) (e : r ≡ length (plan_text s)) (w : o ≡ plan_text s ++ drop (length (plan_text s)) z) where
  pub text_room_lem : r ≤ length o
  text_room_lem = omega (arith, ap length w, length-append (plan_text s) (drop (length (plan_text s)) z))

  pub text_cut : r ≡ length (take r o)
  text_cut = sym (length-take-le r o text_room_lem)

-- a text from the output's first byte on
front : (t o : List ℕ) → put 0 t o ≡ t ++ drop (length t) o
unfolding put
front t o = let e : 0 + length t ≡ length t = omega arith in ap (λ (k : ℕ). t ++ drop k o) e

-- ---- the two ways through `plan`
module _ (s : List ℕ) (x : Build) (e : x ≡ build_of s) where
  module _ (h : x.built ≡ false) where
    bad : refused_text 19 ≡ plan_text s
    bad = badly_built_lem s (sym (built_as_told s x e) ∙ h)

    pub bad_end : (r : ℕ) → r ≡ length (refused_text 19) → r ≡ length (plan_text s)
    bad_end r k = k ∙ ap length bad

    pub bad_put : (o q : List ℕ) → q ≡ put 0 (refused_text 19) o → q ≡ plan_text s ++ drop (length (plan_text s)) o
    bad_put o q k = k ∙ ap (λ (t : List ℕ). put 0 t o) bad ∙ front (plan_text s) o

  module _ (h : x.built ≡ true) where
    good : asked_text (asked_with s x.senders x.receivers) ≡ plan_text s
    unfolding asked_of
    good = rw (senders_as_told s x e h, receivers_as_told s x e h) (well_built s (sym (built_as_told s x e) ∙ h))

    pub plan_end : (r : ℕ) → r ≡ length (asked_text (asked_with s x.senders x.receivers)) → r ≡ length (plan_text s)
    plan_end r k = k ∙ ap length good

    pub plan_put : (o q : List ℕ) → q ≡ put 0 (asked_text (asked_with s x.senders x.receivers)) o → q ≡ plan_text s ++ drop (length (plan_text s)) o
    plan_put o q k = k ∙ ap (λ (t : List ℕ). put 0 t o) good ∙ front (plan_text s) o
