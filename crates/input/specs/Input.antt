-- The plan program's input: which is well built, and the numbers in it. Assumes nothing.
use Rattle.std.specs.Prelude.{Bool, true, false, cond, ◌&&◌, Option, None, Some, List, ℕ, zero, suc, ◌+◌, ◌*◌, ◌/◌, leb, ltb, eqb, length, get_or}
use Rattle.basics.specs.Bytes.{le_of, all_zero, part}
use Rattle.basics.specs.Sums.{list_below}
use Rattle.input.specs.declared.input.Build as code
use Rattle.input.specs.declared.input.Numbers.{Numbers}

-- 12-byte records: kind, three zeros ..
unfoldable pub is_kind : ℕ → List ℕ → ℕ → Bool
is_kind k s i = ltb i (length s / 12) && (eqb (get_or s (12 * i) 0) k && all_zero (part (12 * i + 1) (12 * i + 4) s))

-- .. two 32-bit little-endian numbers, the first from byte 4 on, the second from byte 8 on
unfoldable pub number_at : List ℕ → ℕ → ℕ → ℕ
number_at s i from = le_of (part (12 * i + from) (12 * i + from + 4) s)

abbrev pub first_of : List ℕ → ℕ → ℕ
first_of s i = number_at s i 4

abbrev pub second_of : List ℕ → ℕ → ℕ
second_of s i = number_at s i 8

-- kinds 2 and 4 (share, zero)
unfoldable pub is_share : ℕ → List ℕ → ℕ → Bool
is_share k s i = is_kind k s i && eqb (second_of s i) 0

-- how many of the n records from record i on are shares of kind k, up to the first that is not
unfoldable pub shares_from : ℕ → List ℕ → ℕ → ℕ → ℕ
shares_from k s i zero = 0
shares_from k s i (suc n) = cond (is_share k s i) (shares_from k s (i + 1) n + 1) 0

-- after one kind 1: kinds 2; after one kind 3: kinds 4
unfoldable pub senders : List ℕ → ℕ
senders s = shares_from 2 s 1 (length s / 12)

unfoldable pub receivers : List ℕ → ℕ
receivers s = shares_from 4 s (senders s + 2) (length s / 12)

-- In this order: one kind 1, a kinds 2, one kind 3, b kinds 4, one kind 5, and nothing else
unfoldable pub in_order : List ℕ → ℕ → ℕ → Bool
in_order s a b =
    eqb (length s) (12 * (a + b + 3))
    && (is_kind 1 s 0 && (is_kind 3 s (a + 1) && is_kind 5 s (a + b + 2)))

-- Any other build, a nonzero byte where zero is named, or more than 4,096 bytes is 19
unfoldable pub is_built : List ℕ → Bool
is_built s = leb (length s) 4_096 && in_order s (senders s) (receivers s)

-- whether an input is well built, and how many shares it has of both kinds
pub record Build : Type 0 where
  pub built : Bool
  pub senders : ℕ
  pub receivers : ℕ

-- how an input is built: badly, with zeros, or with so many kinds 2 and so many kinds 4
abbrev pub badly_built : Build
badly_built = record { built = false; senders = 0; receivers = 0 }

unfoldable pub build_of : List ℕ → Build
build_of s = cond (is_built s) (record { built = true; senders = senders s; receivers = receivers s }) badly_built

-- the same of what the call hands back
abbrev pub told : Option code.Build → Build
told None = badly_built
told (Some b) = record { built = true; senders = b.senders; receivers = b.receivers }

-- n shares from record i on
unfoldable pub shares_at : List ℕ → ℕ → ℕ → List ℕ
shares_at s i n = list_below n (λ j. first_of s (i + j))

-- kind 1 (sending u, r), kind 3 (receiving u, r), kind 5 (quantum, message), with a kinds 2 and b kinds 4
unfoldable pub numbers_of : List ℕ → ℕ → ℕ → Numbers
numbers_of s a b =
    record {
      su = first_of s 0;
      sr = second_of s 0;
      ru = first_of s (a + 1);
      rr = second_of s (a + 1);
      quantum = first_of s (a + b + 2);
      message = second_of s (a + b + 2);
    }
