-- One cluster's layout: the lengths of its members' stretches, laid one after another from unit 0. Assumes nothing.
use Rattle.std.specs.Prelude.{Bool, cond, ◌&&◌, List, [], ◌∷◌, ℕ, suc, ◌+◌, ◌-◌, ◌*◌, eqb, leb, ltb, length, get_or}
use Rattle.basics.specs.Sums.{sum_below}
use Rattle.circle.specs.declared.stretches.Place.{Place}

-- Lay each cluster's scaled shares, member 0 first: the shares, each times the scale factor
unfoldable pub scaled : ℕ → List ℕ → List ℕ
scaled factor [] = []
scaled factor (x ∷ xs) = factor * x ∷ scaled factor xs

-- the units before member i's stretch
unfoldable pub units_before : List ℕ → ℕ → ℕ
units_before layout i = sum_below i (λ j. get_or layout j 0)

-- where member i's stretch ends
unfoldable pub end_of : List ℕ → ℕ → ℕ
end_of layout i = units_before layout (i + 1)

-- the owner of unit x: the member in whose stretch it lies
unfoldable pub owner_of : List ℕ → ℕ → ℕ
owner_of [] x = 0
owner_of (w ∷ ws) x = cond (ltb x w) 0 (suc (owner_of ws (x - w)))

-- the next stretch end after unit x: where the stretch in which it lies ends
unfoldable pub end_after : List ℕ → ℕ → ℕ
end_after [] x = 0
end_after (w ∷ ws) x = cond (ltb x w) w (w + end_after ws (x - w))

-- where unit x lies: its owner, and the units left of that stretch, unit x among them
unfoldable pub place_of : List ℕ → ℕ → Place
place_of layout x = record { member = owner_of layout x; left = end_after layout x - x }

-- two places are the same: of the same member, with as many units left
unfoldable pub same_place : Place → Place → Bool
same_place a b = eqb a.member b.member && eqb a.left b.left

-- the member after member i, member 0 coming after the last of n
unfoldable pub following : ℕ → ℕ → ℕ
following n i = cond (ltb (i + 1) n) (i + 1) 0

-- a place of the layout of these shares, moved on by a run of at most what is left: within the stretch, or from its end to the whole of the next
unfoldable pub moved_of : List ℕ → ℕ → Place → ℕ → Place
moved_of shares factor at run =
    cond (leb at.left run)
    (record {
      member = following (length shares) at.member;
      left = factor * get_or shares (following (length shares) at.member) 0;
    })
    (record { member = at.member; left = at.left - run })
