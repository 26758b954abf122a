-- The window's calls on words, from what the code knows where it answers. Assumes nothing.
use mathlib.Core.Path.{◌≡◌, refl, ap, sym, ◌∙◌}
use mathlib.Core.Bool.{Bool, true, false, cond, ◌&&◌}
use mathlib.Core.List.{List, [], ◌∷◌}
use Prim.Native.Nat.{ℕ, ◌≤◌}
use lib.ListN.{length}
use borrow.Author.Tests.{eq-eqb, ne_eqb}
use Rattle.basics.proofs.BoolLaws.{either, and_left, and_right}
use Rattle.window.specs.declared.reporting.Step.{Step}
use Rattle.window.specs.Formed.{well_formed}
use Rattle.window.specs.Sending.{next_refusal, send_refusal, send_of, with_sent}
use Rattle.window.specs.Reporting.{report_refusal}
use Rattle.window.specs.Answers.{step_of, step_out, with_downstream, report_of, report_out}
use Rattle.window.proofs.SendLaws.{sent_small, point_small, send_next, send_17}
use Rattle.window.proofs.RefusalLaws.{report_17}
use Rattle.window.proofs.ReportLaws as answers
use Rattle.words.specs.Taken.{word_at, fits, window_in, formed_in}
use Rattle.words.specs.Put.{words_of}
use Rattle.link.specs.Windows.{judge_number, send_number, send_words, report_number, report_verdicts, report_words, report_bytes}

-- ---- judging
module _ (ws : List ℕ) (b : Bool) (e : b ≡ formed_in ws) where
  pub judge_formed : b ≡ true → 0 ≡ judge_number ws
  unfolding judge_number
  judge_formed t = simp (sym e ∙ t)

  pub judge_not : b ≡ false → 17 ≡ judge_number ws
  unfolding judge_number
  judge_not t = simp (sym e ∙ t)

-- ---- words in which no well-formed state stands
module _ (ws : List ℕ) (b : Bool) (e : b ≡ formed_in ws) (t : b ≡ false) where
  ill : (fits ws && well_formed (window_in ws)) ≡ false
  unfolding formed_in
  ill = sym e ∙ t

  ill_formed : fits ws ≡ true → well_formed (window_in ws) ≡ false
  ill_formed f = simp f at ill

  pub send_ill : (k : ℕ) → 17 ≡ send_number ws k
  unfolding send_number send_of
  send_ill k =
      either (17 ≡ cond (fits ws) (send_refusal (window_in ws) k) 17) (fits ws)
      (λ f. simp f (send_17 (window_in ws) false (sym (ill_formed f)) refl k))
      (λ f. simp f)

  pub send_ill_words : (k : ℕ) → ws ≡ send_words ws k
  unfolding send_words
  send_ill_words k = simp (← send_ill k)

  refused : (i c mask room : ℕ) → fits ws ≡ true → 17 ≡ report_refusal (window_in ws) i c mask room
  refused i c mask room f = report_17 (window_in ws) i c mask room false (sym (ill_formed f)) refl

  pub report_ill : (i c mask room : ℕ) → 17 ≡ report_number ws i c mask room
  unfolding report_number report_of
  report_ill i c mask room = either (17 ≡ report_number ws i c mask room) (fits ws) (λ f. simp (f, ← refused i c mask room f)) (λ f. simp f)

  pub report_ill_words : (i c mask room : ℕ) → ws ≡ report_words ws i c mask room
  unfolding report_words
  report_ill_words i c mask room = simp (← report_ill i c mask room)

  pub report_ill_bytes : (i c mask : ℕ) (out : List ℕ) → out ≡ report_bytes ws i c mask out
  unfolding report_bytes report_out
  report_ill_bytes i c mask out = either (out ≡ report_bytes ws i c mask out) (fits ws) (λ f. simp (f, ← refused i c mask (length out) f)) (λ f. simp f)

  ill_none : (i c mask room : ℕ) → 0 ≡ report_verdicts ws i c mask room
  unfolding report_verdicts report_of
  ill_none i c mask room = either (0 ≡ report_verdicts ws i c mask room) (fits ws) (λ f. simp (f, ← refused i c mask room f)) (λ f. simp f)

  pub report_ill_answer : (i c mask room : ℕ) → 0 ∷ [] ≡ report_verdicts ws i c mask room ∷ []
  report_ill_answer i c mask room = ap (λ (v : ℕ). v ∷ []) (ill_none i c mask room)

-- ---- words in which one stands
module _ (ws : List ℕ) (b : Bool) (e : b ≡ formed_in ws) (t : b ≡ true) where
  both : (fits ws && well_formed (window_in ws)) ≡ true
  unfolding formed_in
  both = sym e ∙ t

  pub fit_known : fits ws ≡ true
  fit_known = and_left (fits ws) (well_formed (window_in ws)) both

  well : well_formed (window_in ws) ≡ true
  well = and_right (fits ws) (well_formed (window_in ws)) both

  pub sent_in_range : word_at ws 135 ≤ 1000000000000
  unfolding window_in
  sent_in_range = sent_small (window_in ws) true (sym well) refl

  pub point_in_range : word_at ws 136 ≤ 1000000000000
  unfolding window_in
  point_in_range = point_small (window_in ws) true (sym well) refl

  module _ (k r : ℕ) (d : r ≡ next_refusal (word_at ws 135) (word_at ws 136) k) where
    refusal_is : r ≡ send_refusal (window_in ws) k
    unfolding window_in
    refusal_is = send_next (window_in ws) true (sym well) refl k r d

    pub send_is : r ≡ send_number ws k
    unfolding send_number send_of
    send_is = refusal_is ∙ simp fit_known

    pub send_refused_words : (r ≡ 0 → ⊥) → ws ≡ send_words ws k
    unfolding send_words
    send_refused_words n = simp (← send_is, ne_eqb r 0 n)

    pub send_done : r ≡ 0 → 0 ≡ send_number ws k
    send_done n = sym n ∙ send_is

    pub send_done_words : (o : List ℕ) → o ≡ words_of (with_sent (window_in ws) k) → r ≡ 0 → o ≡ send_words ws k
    unfolding send_words send_of
    send_done_words o p n = p ∙ simp (← send_is, eq-eqb r 0 n, ← refusal_is)

  pub well_told : true ≡ well_formed (window_in ws)
  well_told = sym well

  -- a report, its refusal being known
  module _ (i c mask room r : ℕ) (d : r ≡ report_refusal (window_in ws) i c mask room) where
    pub report_refused : (r ≡ 0 → ⊥) → r ≡ report_number ws i c mask room
    unfolding report_number
    report_refused n = sym (simp (fit_known, ← answers.report_refused (window_in ws) i c mask room r d n))

    pub report_refused_words : (r ≡ 0 → ⊥) → ws ≡ report_words ws i c mask room
    unfolding report_words
    report_refused_words n = simp (← report_refused n, ne_eqb r 0 n)

    pub report_refused_answer : (r ≡ 0 → ⊥) → 0 ∷ [] ≡ report_verdicts ws i c mask room ∷ []
    unfolding report_verdicts
    report_refused_answer n = simp (fit_known, ← answers.report_refused (window_in ws) i c mask room r d n)

    abbrev step : Step
    step = step_of (window_in ws).downstream (window_in ws).sent i c mask

    pub report_done : r ≡ 0 → 0 ≡ report_number ws i c mask room
    unfolding report_number
    report_done n = simp (fit_known, ← answers.report_told (window_in ws) i c mask room r d n step refl)

    pub report_done_words : (o : List ℕ) → r ≡ 0 → o ≡ words_of (with_downstream (window_in ws) step.downstream) → o ≡ report_words ws i c mask room
    unfolding report_words
    report_done_words o n e = e ∙ simp (← report_done n, ← answers.report_told (window_in ws) i c mask room r d n step refl)

    pub report_done_answer : (v : ℕ) → r ≡ 0 → v ≡ step.verdicts → v ∷ [] ≡ report_verdicts ws i c mask room ∷ []
    unfolding report_verdicts
    report_done_answer v n e = ap (λ (x : ℕ). x ∷ []) (e ∙ simp (fit_known, ← answers.report_told (window_in ws) i c mask room r d n step refl))

  -- and the bytes that were lent to it
  module _ (i c mask r : ℕ) (out : List ℕ) (d : r ≡ report_refusal (window_in ws) i c mask (length out)) where
    pub report_refused_bytes : (r ≡ 0 → ⊥) → out ≡ report_bytes ws i c mask out
    unfolding report_bytes
    report_refused_bytes n = simp fit_known (answers.report_kept_lem (window_in ws) i c mask r out d n)

    pub report_done_bytes : (o : List ℕ) → r ≡ 0 → o ≡ step_out (window_in ws).sending (window_in ws).quantum (window_in ws).downstream (window_in ws).sent i c mask out → o ≡ report_bytes ws i c mask out
    unfolding report_bytes
    report_done_bytes o n e = simp fit_known (answers.report_out_lem (window_in ws) i c mask r out d n o e)
