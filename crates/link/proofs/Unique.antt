-- The contracts leave no choice: two results that meet one are equal, every word and byte of the lent arrays with them. Assumes nothing.
use mathlib.Core.Path.{◌≡◌}
use mathlib.Core.List.{List, [], ◌∷◌, ◌++◌}
use Prim.Native.Nat.{ℕ}
use lib.ListN.{length, drop}
use Rattle.basics.proofs.Unique.{one_answer, one_answer_and_exit}
use Rattle.hamilton.specs.Counts.{counts_refusal, counts_out}
use Rattle.deal.specs.Pairs.{first_pair_of}
use Rattle.resend.specs.Resends.{resend_pair_of}
use Rattle.records.specs.Reading.{read_of}
use Rattle.records.specs.Writing.{write_refusal, written_of}
use Rattle.holdings.specs.State.{fresh_holdings, report_of}
use Rattle.holdings.specs.Arrival.{arrival_of}
use Rattle.window.specs.Opening.{open_of}
use Rattle.words.specs.Put.{words_of}
use Rattle.planner.specs.Plan.{plan_text}
use Rattle.link.specs.Numbers.{pair_numbers, resend_numbers, told_numbers}
use Rattle.link.specs.Windows.{judge_number, send_number, send_words, report_number, report_verdicts, report_words, report_bytes}
use Rattle.link.specs.Holdings.{holdings_in, holdings_words, report_numbers}

-- what a call ensures that hands back a number and alters one lent array
abbrev pub Meets : ℕ → List ℕ → ℕ → List ℕ → Type 0
Meets number array n o = (n ≡ number) × (o ≡ array)

one_call : (number : ℕ) (array : List ℕ) (n m : ℕ) (o o' : List ℕ) → Meets number array n o → Meets number array m o' → (n ≡ m) × (o ≡ o')
one_call number array n m o o' e f = one_answer_and_exit e f

pub one_counts : (shares : List ℕ) (u r q : ℕ) (out : List ℕ) (n m : ℕ) (o o' : List ℕ)
    → Meets (counts_refusal shares u r q (length out)) (counts_out shares u r q out) n o → Meets (counts_refusal shares u r q (length out)) (counts_out shares u r q out) m o' → (n ≡ m) × (o ≡ o')
one_counts shares u r q out n m o o' e f = one_call _ _ n m o o' e f

pub one_first_pair : (ss : List ℕ) (su sr : ℕ) (rs : List ℕ) (ru rr q k n m : ℕ) (o o' : List ℕ)
    → Meets (first_pair_of ss su sr rs ru rr q k).refusal (pair_numbers (first_pair_of ss su sr rs ru rr q k)) n o
    → Meets (first_pair_of ss su sr rs ru rr q k).refusal (pair_numbers (first_pair_of ss su sr rs ru rr q k)) m o' → (n ≡ m) × (o ≡ o')
one_first_pair ss su sr rs ru rr q k n m o o' e f = one_call _ _ n m o o' e f

pub one_resend_pair : (ss : List ℕ) (su sr : ℕ) (rs : List ℕ) (ru rr q k x n m : ℕ) (o o' : List ℕ)
    → Meets (resend_pair_of ss su sr rs ru rr q k x).refusal (resend_numbers (resend_pair_of ss su sr rs ru rr q k x)) n o
    → Meets (resend_pair_of ss su sr rs ru rr q k x).refusal (resend_numbers (resend_pair_of ss su sr rs ru rr q k x)) m o' → (n ≡ m) × (o ≡ o')
one_resend_pair ss su sr rs ru rr q k x n m o o' e f = one_call _ _ n m o o' e f

pub one_open : (ss : List ℕ) (su sr : ℕ) (rs : List ℕ) (ru rr q n m : ℕ) (o o' : List ℕ)
    → Meets (open_of ss su sr rs ru rr q).refusal (words_of (open_of ss su sr rs ru rr q).window) n o
    → Meets (open_of ss su sr rs ru rr q).refusal (words_of (open_of ss su sr rs ru rr q).window) m o' → (n ≡ m) × (o ≡ o')
one_open ss su sr rs ru rr q n m o o' e f = one_call _ _ n m o o' e f

pub one_judge : (ws : List ℕ) (n m : ℕ) → n ≡ judge_number ws → m ≡ judge_number ws → n ≡ m
one_judge ws n m e f = one_answer e f

pub one_send : (ws : List ℕ) (k n m : ℕ) (o o' : List ℕ) → Meets (send_number ws k) (send_words ws k) n o → Meets (send_number ws k) (send_words ws k) m o' → (n ≡ m) × (o ≡ o')
one_send ws k n m o o' e f = one_call _ _ n m o o' e f

-- what `havdorlek_report` ensures of its number, of the words, of the output and of the answer
abbrev pub ReportMeets : List ℕ → ℕ → ℕ → ℕ → List ℕ → ℕ → List ℕ → List ℕ → List ℕ → Type 0
ReportMeets ws i c mask out n words o a =
    (n ≡ report_number ws i c mask (length out))
    × (words ≡ report_words ws i c mask (length out))
    × (o ≡ report_bytes ws i c mask out)
    × (a ≡ report_verdicts ws i c mask (length out) ∷ [])

pub one_report : (ws : List ℕ) (i c mask : ℕ) (out : List ℕ) (n m : ℕ) (words words' o o' a a' : List ℕ)
    → ReportMeets ws i c mask out n words o a → ReportMeets ws i c mask out m words' o' a' → (n ≡ m) × (words ≡ words') × (o ≡ o') × (a ≡ a')
one_report ws i c mask out n m words words' o o' a a' e f = (one_answer e.0 f.0, one_answer e.1 f.1, one_answer e.2 f.2, one_answer e.3 f.3)

pub one_fresh : (o o' : List ℕ) → o ≡ holdings_words fresh_holdings → o' ≡ holdings_words fresh_holdings → o ≡ o'
one_fresh o o' e f = one_answer e f

pub one_arrive : (hs : List ℕ) (k n m : ℕ) (o o' : List ℕ) → Meets (arrival_of (holdings_in hs) k).refusal (holdings_words (arrival_of (holdings_in hs) k).holdings) n o
    → Meets (arrival_of (holdings_in hs) k).refusal (holdings_words (arrival_of (holdings_in hs) k).holdings) m o' → (n ≡ m) × (o ≡ o')
one_arrive hs k n m o o' e f = one_call _ _ n m o o' e f

pub one_receiver_report : (hs : List ℕ) (n m : ℕ) (o o' : List ℕ) → Meets (report_of (holdings_in hs)).refusal (report_numbers (report_of (holdings_in hs))) n o
    → Meets (report_of (holdings_in hs)).refusal (report_numbers (report_of (holdings_in hs))) m o' → (n ≡ m) × (o ≡ o')
one_receiver_report hs n m o o' e f = one_call _ _ n m o o' e f

pub one_read : (s : List ℕ) (n m : ℕ) (o o' : List ℕ) → Meets (read_of s).refusal (told_numbers (read_of s)) n o → Meets (read_of s).refusal (told_numbers (read_of s)) m o' → (n ≡ m) × (o ≡ o')
one_read s n m o o' e f = one_call _ _ n m o o' e f

pub one_write : (k x y z : ℕ) (out : List ℕ) (n m : ℕ) (o o' : List ℕ) → Meets (write_refusal k x y z (length out)) (written_of k x y z out) n o
    → Meets (write_refusal k x y z (length out)) (written_of k x y z out) m o' → (n ≡ m) × (o ≡ o')
one_write k x y z out n m o o' e f = one_call _ _ n m o o' e f

pub one_plan : (input out : List ℕ) (n m : ℕ) (o o' : List ℕ) → Meets (length (plan_text input)) (plan_text input ++ drop (length (plan_text input)) out) n o
    → Meets (length (plan_text input)) (plan_text input ++ drop (length (plan_text input)) out) m o' → (n ≡ m) × (o ≡ o')
one_plan input out n m o o' e f = one_call _ _ n m o o' e f
