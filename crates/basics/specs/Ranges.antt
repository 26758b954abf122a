-- The ranges that document 01 names under "Clusters". Assumes nothing.
use Rattle.std.specs.Prelude.{Bool, ◌&&◌, ℕ, leb}

-- Message numbers: 1 to 1,000,000,000,000
abbrev pub message_limit : ℕ
message_limit = 1_000_000_000_000

unfoldable pub is_message : ℕ → Bool
is_message k = leb 1 k && leb k message_limit

-- Quantum q: 1 to 1,024
unfoldable pub is_quantum : ℕ → Bool
is_quantum q = leb 1 q && leb q 1_024

-- Resend numbers: 1 to 255
unfoldable pub is_resend : ℕ → Bool
is_resend n = leb 1 n && leb n 255
