-- Where each field of the window's state stands in its 457 words. Assumes nothing.
use Rattle.std.specs.Prelude.{ℕ}

-- a cluster takes 67 words: members, u, r and 64 shares
abbrev pub sending_at : ℕ
sending_at = 0

abbrev pub receiving_at : ℕ
receiving_at = 67

-- q, S and p
abbrev pub quantum_at : ℕ
quantum_at = 134

abbrev pub sent_at : ℕ
sent_at = 135

abbrev pub point_at : ℕ
point_at = 136

-- the reports of 64 members, a column for each field
abbrev pub numbers_at : ℕ
numbers_at = 137

abbrev pub masks_at : ℕ
masks_at = 201

abbrev pub heard_at : ℕ
heard_at = 265

-- the 64 window entries, a column for each field
abbrev pub counts_at : ℕ
counts_at = 329

abbrev pub complaints_at : ℕ
complaints_at = 393

-- what a field of 32 bits can hold at most
abbrev pub most32 : ℕ
most32 = 4294967295
