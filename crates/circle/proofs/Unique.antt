-- Two results that meet a contract are equal. Assumes nothing.
use mathlib.Core.Path.{◌≡◌}
use mathlib.Core.List.{List}
use Prim.Native.Nat.{ℕ}
use Rattle.basics.proofs.Unique.{one_answer}
use Rattle.circle.specs.Divisor.{divisor_of, multiple_of}
use Rattle.circle.specs.Positions.{circle_of, position_of, next_of, resend_from, resend_of}
use Rattle.circle.specs.declared.walk.Circle.{Circle}
use Rattle.circle.specs.declared.walk.Position.{Position}
use Rattle.circle.specs.declared.walk.Resend.{Resend}

pub divisor_unique : (a b r z : ℕ) → r ≡ divisor_of a b → z ≡ divisor_of a b → r ≡ z
divisor_unique a b r z p q = one_answer p q

pub multiple_unique : (a b r z : ℕ) → r ≡ multiple_of a b → z ≡ multiple_of a b → r ≡ z
multiple_unique a b r z p q = one_answer p q

pub circle_of_unique : (ss rs : List ℕ) (r z : Circle) → r ≡ circle_of ss rs → z ≡ circle_of ss rs → r ≡ z
circle_of_unique ss rs r z p q = one_answer p q

pub start_unique : (ss rs : List ℕ) (i : ℕ) (r z : Position) → r ≡ position_of ss rs i 1 → z ≡ position_of ss rs i 1 → r ≡ z
start_unique ss rs i r z p q = one_answer p q

pub next_unique : (ss rs : List ℕ) (c : Circle) (at r z : Position) → r ≡ next_of ss rs c at → z ≡ next_of ss rs c at → r ≡ z
next_unique ss rs c at r z p q = one_answer p q

pub resend_from_unique : (at : Position) (r z : Resend) → r ≡ resend_from at → z ≡ resend_from at → r ≡ z
resend_from_unique at r z p q = one_answer p q

pub resend_at_unique : (ss rs : List ℕ) (i n : ℕ) (r z : Resend) → r ≡ resend_of ss rs i n → z ≡ resend_of ss rs i n → r ≡ z
resend_at_unique ss rs i n r z p q = one_answer p q
