-- The build that document 01 names, as it stands there. Assumes nothing.
use Rattle.std.specs.Prelude.{◌≡◌, true, List, ℕ, ◌+◌, ◌*◌, ◌<◌, ◌≤◌, length}
use Rattle.input.specs.Input.{is_kind, is_share}

-- At most 4,096 bytes, 12-byte records. In this order: one kind 1, a kinds 2, one kind 3, b kinds 4, one kind 5
pub record BuiltOf (s : List ℕ) (a b : ℕ) : Type 0 where
  pub few_bytes : length s ≤ 4_096
  pub all_records : length s ≡ 12 * (a + b + 3)
  pub kind_1 : is_kind 1 s 0 ≡ true
  pub kinds_2 : (j : ℕ) → j < a → is_share 2 s (1 + j) ≡ true
  pub kind_3 : is_kind 3 s (a + 1) ≡ true
  pub kinds_4 : (j : ℕ) → j < b → is_share 4 s (a + 2 + j) ≡ true
  pub kind_5 : is_kind 5 s (a + b + 2) ≡ true
