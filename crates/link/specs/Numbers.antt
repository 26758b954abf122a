-- Answers of several numbers as the places of a lent array. Assumes nothing.
use Rattle.std.specs.Prelude.{List, [], ◌∷◌, ℕ}
use Rattle.deal.specs.Pairs.{PairAnswer}
use Rattle.resend.specs.Resends.{ResendAnswer}
use Rattle.records.specs.Answers.{Told}

abbrev pub pair_numbers : PairAnswer → List ℕ
pair_numbers a = a.sender ∷ a.receiver ∷ []

abbrev pub resend_numbers : ResendAnswer → List ℕ
resend_numbers a = a.sender ∷ a.receiver ∷ a.run ∷ []

abbrev pub told_numbers : Told → List ℕ
told_numbers t = t.kind ∷ t.member ∷ t.number ∷ t.mask ∷ []
