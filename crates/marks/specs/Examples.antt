-- Small worked examples of masks, by computation. Assumes nothing.
use Rattle.std.specs.Prelude.{◌≡◌, refl, true, false, [], ◌∷◌}
use Rattle.marks.specs.Masks.{is_marked, with_mark, without_mark, run_in, run_of, reach_in, reach_of}
use Rattle.marks.specs.Gathered.{any_of}
use Rattle.marks.specs.Held.{holds_of, highest_of}

-- Bit b speaks of message c + 1 + b: with c = 3 and bits 1 and 2 marked, messages 5 and 6 are held and 4 is not
five_is_held : holds_of 3 6 5 ≡ true
unfolding holds_of is_marked
five_is_held = refl

four_is_not : holds_of 3 6 4 ≡ false
unfolding holds_of is_marked
four_is_not = refl

highest_is_six : highest_of 3 6 ≡ 6
unfolding highest_of reach_of reach_in
highest_is_six = refl

-- all 64 marked: the run is 64
all_marked : run_of 0xffff_ffff_ffff_ffff ≡ 64
unfolding run_of run_in
all_marked = refl

marked_once : with_mark (with_mark 0 63) 63 ≡ 0x8000_0000_0000_0000
unfolding with_mark is_marked
marked_once = refl

unmarked : without_mark 6 1 ≡ 4
unfolding without_mark is_marked
unmarked = refl

gathered_once : any_of (6 ∷ 0 ∷ 12 ∷ []) ≡ 14
unfolding any_of
gathered_once = refl
