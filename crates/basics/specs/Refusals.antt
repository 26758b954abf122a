-- The document's table of refusal numbers, and what a call's outcome tells of it. Assumes nothing.
use Rattle.std.specs.Prelude.{ℕ, Result, Ok, Err}
use Rattle.basics.specs.declared.refusal.Refusal.{Refusal}
use Rattle.basics.specs.declared.refusal.Refusal.TheVariants.{Members, Share, Bounds, Quantum, ShortOutput, Message, Resend, NoMember, TooFar, NotNext, NotSent, FirstBit, HeldBefore, WrongKind, NotZero, WrongLength, IllFormed, TooEarly, BadlyBuilt}

abbrev pub number_of : Refusal → ℕ
number_of Members = 1
number_of Share = 2
number_of Bounds = 3
number_of Quantum = 4
number_of ShortOutput = 5
number_of Message = 6
number_of Resend = 7
number_of NoMember = 8
number_of TooFar = 9
number_of NotNext = 10
number_of NotSent = 11
number_of FirstBit = 12
number_of HeldBefore = 13
number_of WrongKind = 14
number_of NotZero = 15
number_of WrongLength = 16
number_of IllFormed = 17
number_of TooEarly = 18
number_of BadlyBuilt = 19

-- the number of a refused call, 0 of one that is not refused
abbrev pub outcome_number : {T : Type 0} → Result T Refusal → ℕ
outcome_number (Ok x) = 0
outcome_number (Err x) = number_of x
