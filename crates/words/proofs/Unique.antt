-- The contracts leave no choice: two results that meet one are equal. Assumes nothing.
use mathlib.Core.Path.{◌≡◌}
use mathlib.Core.Bool.{Bool}
use mathlib.Core.List.{List}
use Prim.Native.Nat.{ℕ}
use Rattle.basics.proofs.Unique.{one_answer}
use Rattle.window.specs.Opening.{no_window}
use Rattle.window.specs.Sending.{with_sent}
use Rattle.downstream.specs.declared.state.Report.{Report}
use Rattle.words.specs.Taken.{report_in, window_in, formed_in}
use Rattle.words.specs.Put.{words_of}

pub one_formed : (ws : List ℕ) (a b : Bool) → a ≡ formed_in ws → b ≡ formed_in ws → a ≡ b
one_formed ws a b e f = one_answer e f

pub one_none_put : (o o' : List ℕ) → o ≡ words_of no_window → o' ≡ words_of no_window → o ≡ o'
one_none_put o o' e f = one_answer e f

pub one_sent_put : (ws : List ℕ) (k : ℕ) (o o' : List ℕ) → o ≡ words_of (with_sent (window_in ws) k) → o' ≡ words_of (with_sent (window_in ws) k) → o ≡ o'
one_sent_put ws k o o' e f = one_answer e f

pub one_report : (ws : List ℕ) (i : ℕ) (r z : Report) → r ≡ report_in ws i → z ≡ report_in ws i → r ≡ z
one_report ws i r z e f = one_answer e f
