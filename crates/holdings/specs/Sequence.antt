-- A list of arrivals, one after another. Assumes nothing.
use Rattle.std.specs.Prelude.{Bool, false, cond, ◌||◌, List, [], ◌∷◌, ℕ, eqb}
use Rattle.holdings.specs.Arrival.{arrival_of}
use Rattle.holdings.specs.declared.state.Holdings.{Holdings}

-- the holdings after all of them
unfoldable pub after_all : Holdings → List ℕ → Holdings
after_all h [] = h
after_all h (k ∷ ks) = after_all (arrival_of h k).holdings ks

-- the messages whose arrivals were accepted
unfoldable pub accepted_of : Holdings → List ℕ → List ℕ
accepted_of h [] = []
accepted_of h (k ∷ ks) =
    let later : List ℕ = accepted_of (arrival_of h k).holdings ks in
    cond (eqb (arrival_of h k).refusal 0) (k ∷ later) later

-- message j is one of them
unfoldable pub is_in : ℕ → List ℕ → Bool
is_in j [] = false
is_in j (k ∷ ks) = eqb j k || is_in j ks
