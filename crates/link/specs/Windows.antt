-- The window's calls on a state that is kept in words: taken apart, judged, worked on, put back only when the call is accepted. A word too
-- large for its field is 17. Assumes nothing.
use Rattle.std.specs.Prelude.{cond, List, ℕ, eqb}
use Rattle.window.specs.Sending.{send_of}
use Rattle.window.specs.Answers.{report_of, report_out}
use Rattle.words.specs.Taken.{fits, window_in, formed_in}
use Rattle.words.specs.Put.{words_of}

unfoldable pub judge_number : List ℕ → ℕ
judge_number ws = cond (formed_in ws) 0 17

-- Send: 17, 6, 10, 9
unfoldable pub send_number : List ℕ → ℕ → ℕ
send_number ws k = cond (fits ws) (send_of (window_in ws) k).refusal 17

unfoldable pub send_words : List ℕ → ℕ → List ℕ
send_words ws k = cond (eqb (send_number ws k) 0) (words_of (send_of (window_in ws) k).window) ws

-- Report: 17, 5, 8, 12, 11, 13
unfoldable pub report_number : List ℕ → ℕ → ℕ → ℕ → ℕ → ℕ
report_number ws i c mask room = cond (fits ws) (report_of (window_in ws) i c mask room).refusal 17

unfoldable pub report_verdicts : List ℕ → ℕ → ℕ → ℕ → ℕ → ℕ
report_verdicts ws i c mask room = cond (fits ws) (report_of (window_in ws) i c mask room).verdicts 0

unfoldable pub report_words : List ℕ → ℕ → ℕ → ℕ → ℕ → List ℕ
report_words ws i c mask room = cond (eqb (report_number ws i c mask room) 0) (words_of (report_of (window_in ws) i c mask room).window) ws

unfoldable pub report_bytes : List ℕ → ℕ → ℕ → ℕ → List ℕ → List ℕ
report_bytes ws i c mask out = cond (fits ws) (report_out (window_in ws) i c mask out) out
