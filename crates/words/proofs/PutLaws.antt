-- Parts that are put one behind the other fill what was lent. Assumes nothing.
use mathlib.Core.Path.{◌≡◌, refl, ap, ap₂, sym, ◌∙◌}
use mathlib.Core.List.{List, [], ◌∷◌, ◌++◌, append-nil, append_assoc}
use Prim.Native.Nat.{ℕ, zero, suc, ◌+◌, ◌-◌, ◌≤◌}
use native.Mathlib.Nat.{zero-add, add-zero, add-suc}
use native.Mathlib.Omega.{arith}
use lib.ListN.{length, take, drop, take-append-drop, get_or, replicate, drop_of_length-le, length-append, get_or-eq_default}
use lib.Seq.{drop_at, length-take-le}
use borrow.Rule.Slice.PartMut.{mid_of, put_mid}
use Rattle.basics.proofs.PartLaws.{put_next}
use Rattle.basics.specs.Sums.{list_below}
use Rattle.basics.proofs.SumLaws.{length_list, list_at, list_is}
use Rattle.downstream.specs.declared.state.Cluster.{Cluster}
use Rattle.downstream.specs.declared.state.Report.{Report}
use Rattle.downstream.specs.State.{no_report, no_entry, report_at, numbers_of, masks_of, counts_of, complaints_of}
use Rattle.window.specs.Opening.{cluster_from, window_from, no_window}
use Rattle.words.specs.Put.{zeros, shares_words, cluster_words, heard_of, report_words, entry_words, words_of}

-- places past a list's end are zero, whether they are there or not
padded : (l : List ℕ) (n i : ℕ) → get_or (l ++ replicate n 0) i 0 ≡ get_or l i 0
padded [] n i = none n i
  where
    none : (m j : ℕ) → ◌≡◌ {A = ℕ} (get_or (replicate m 0) j 0) 0
    none zero j = refl
    none (suc m) zero = refl
    none (suc m) (suc j) = none m j
padded (x ∷ xs) n zero = refl
padded (x ∷ xs) n (suc i) = padded xs n i

-- one part more behind those that are there
more : (p ys s xs : List ℕ) (a k : ℕ) → xs ≡ p ++ drop a s → length p ≡ a → length ys ≡ k → put_mid a k xs ys ≡ (p ++ ys) ++ drop (a + k) s
more p ys s xs a k e f g = ap (λ (l : List ℕ). put_mid a k l ys) e ∙ put_next p ys s a k f g

-- nothing is left of what was lent
full : (p s : List ℕ) (n : ℕ) → length s ≡ n → p ++ drop n s ≡ p
full p s n e = ap (λ (t : List ℕ). p ++ t) (drop_of_length-le s {i = n} (omega (arith, e))) ∙ append-nil p

-- what stands behind a part that is put first stays
behind : (s y : List ℕ) (a k : ℕ) → length y ≡ a → mid_of a k (put_mid 0 a s y) ≡ mid_of a k s
behind s y a k e =
    ap (λ (l : List ℕ). mid_of a k l) (put_next [] y s 0 a refl e)
    ∙ ap (λ (n : ℕ). mid_of a k (y ++ drop n s)) (zero-add a)
    ∙ ap (take k) (drop_at y (drop a s) a e)

length_shares : (c : Cluster) → length (shares_words c) ≡ 64
unfolding shares_words
length_shares c = length_list (λ i. get_or c.shares i 0) 64

-- share places past the cluster's end are zero, as are those of a list past its end
shares_put : (shares : List ℕ) (u r : ℕ) → list_below 64 (λ i. get_or shares i 0) ≡ shares_words (cluster_from shares u r)
unfolding shares_words
shares_put shares u r =
    list_is (λ i. get_or (shares ++ replicate (64 - length shares) 0) i 0) 0 64 (list_below 64 (λ i. get_or shares i 0)) (length_list (λ i. get_or shares i 0) 64)
    (λ i l. list_at (λ j. get_or shares j 0) 0 64 i l ∙ sym (padded shares (64 - length shares) i))

pub cluster_put : (shares : List ℕ) (u r : ℕ) (s y z : List ℕ) → length s ≡ 67 → z ≡ list_below 64 (λ i. get_or shares i 0) → (v w : ℕ) → y ≡ length shares ∷ v ∷ w ∷ [] → v ≡ u → w ≡ r
    → put_mid 0 3 (put_mid 3 64 s z) y ≡ cluster_words (cluster_from shares u r)
unfolding cluster_words
cluster_put shares u r s y z l e v w d f g =
    let ly : length y ≡ 3 = ap length d in
    let lz : length z ≡ 64 = ap length e ∙ length_list (λ i. get_or shares i 0) 64 in
    let lt : length (take 3 s) ≡ 3 = length-take-le 3 s (omega (arith, l)) in
    let one : put_mid 3 64 s z ≡ (take 3 s ++ z) ++ drop 67 s = more (take 3 s) z s s 3 64 (sym (take-append-drop 3 s)) lt lz in
    let rest : drop 3 (put_mid 3 64 s z) ≡ z = ap (drop 3) (one ∙ full (take 3 s ++ z) s 67 l) ∙ drop_at (take 3 s) z 3 lt in
    put_next [] y (put_mid 3 64 s z) 0 3 refl ly ∙ rw (rest, d, e, shares_put shares u r, f, g)

pub length_cluster : (c : Cluster) → length (cluster_words c) ≡ 67
unfolding cluster_words
length_cluster c = length-append (c.members ∷ c.u ∷ c.r ∷ []) (shares_words c) ∙ omega (arith, length_shares c)

pub length_numbers : (l : List Report) → length (numbers_of l) ≡ 64
unfolding numbers_of
length_numbers l = length_list (λ i. (report_at l i).number) 64

pub length_masks : (l : List Report) → length (masks_of l) ≡ 64
unfolding masks_of
length_masks l = length_list (λ i. (report_at l i).mask) 64

pub length_heard : (l : List Report) → length (heard_of l) ≡ 64
unfolding heard_of
length_heard l = length_list _ 64

pub length_reports : (l : List Report) → length (report_words l) ≡ 192
unfolding report_words
length_reports l =
    length-append (numbers_of l ++ masks_of l) (heard_of l)
    ∙ omega (arith, length-append (numbers_of l) (masks_of l), length_numbers l, length_masks l, length_heard l)

-- ---- zeros
-- what is zero from a place on ends in zeros
ends_in_zeros : (f : ℕ → ℕ) (i d : ℕ) → ((j : ℕ) → i ≤ j → f j ≡ 0) → list_below (i + d) f ≡ list_below i f ++ zeros d
unfolding zeros list_below
ends_in_zeros f i zero h = ap (λ (n : ℕ). list_below n f) (add-zero i) ∙ sym (append-nil (list_below i f))
ends_in_zeros f i (suc d) h =
    ap (λ (n : ℕ). list_below n f) (add-suc i d)
    ∙ ap₂ (λ (l : List ℕ) (x : ℕ). l ++ (x ∷ [])) (ends_in_zeros f i d h) (h (i + d) (omega arith))
    ∙ append_assoc (list_below i f) (zeros d) (0 ∷ [])

-- what is put before zeros, and is itself zero where they stand
pub before_zeros : (f : ℕ → ℕ) (i : ℕ) (l o : List ℕ) → l ≡ list_below i f ++ drop i o → o ≡ zeros 64 → i ≤ 64 → ((j : ℕ) → i ≤ j → f j ≡ 0) → l ≡ list_below 64 f
unfolding zeros
before_zeros f i l o e z b h =
    let all : i + (64 - i) ≡ 64 = omega arith in
    let rest : drop i o ≡ zeros (64 - i) =
    ap (drop i) (z ∙ ap zeros (sym all) ∙ ends_in_zeros (λ _. 0) i (64 - i) (λ j k. refl)) ∙ drop_at (zeros i) (zeros (64 - i)) i (length_list (λ _. 0) i) in
    e ∙ ap (λ (t : List ℕ). list_below i f ++ t) rest ∙ sym (ends_in_zeros f i (64 - i) h) ∙ ap (λ (n : ℕ). list_below n f) all

pub none_past : (l : List ℕ) (i : ℕ) → length l ≤ i → (j : ℕ) → i ≤ j → get_or l j 0 ≡ 0
none_past l i a j b = get_or-eq_default l 0 (omega arith)

none_there : drop 137 (zeros 457) ≡ report_words (replicate 64 no_report) ++ entry_words (replicate 64 no_entry)
unfolding zeros report_words entry_words numbers_of masks_of heard_of counts_of complaints_of list_below
none_there = refl

pub none_put : (ws l : List ℕ) → length ws ≡ 457 → l ≡ replicate (length ws) 0 → l ≡ words_of no_window
unfolding words_of cluster_words shares_words report_words entry_words numbers_of masks_of heard_of counts_of complaints_of list_below
none_put ws l n e = rw n at e

-- ---- parts of zeros
none_zeros : (l : List ℕ) → l ≡ words_of no_window → l ≡ zeros 457
unfolding zeros words_of cluster_words shares_words report_words entry_words numbers_of masks_of heard_of counts_of complaints_of list_below
none_zeros l e = e

pub zeros_first : (l : List ℕ) → l ≡ words_of no_window → mid_of 0 67 l ≡ zeros 67
unfolding zeros list_below
zeros_first l e = rw (none_zeros l e) refl

pub zeros_second : (c : Cluster) (l y : List ℕ) → l ≡ words_of no_window → y ≡ cluster_words c → mid_of 67 67 (put_mid 0 67 l y) ≡ zeros 67
unfolding zeros list_below
zeros_second c l y e f = behind l y 67 67 (ap length f ∙ length_cluster c) ∙ rw (none_zeros l e) refl

pub zeros_shares : (l : List ℕ) → l ≡ zeros 67 → mid_of 3 64 l ≡ zeros 64
unfolding zeros list_below
zeros_shares l e = rw e refl

pub opened_put : (sending receiving : Cluster) (q : ℕ) (s a b c : List ℕ) → s ≡ words_of no_window → a ≡ cluster_words sending → b ≡ cluster_words receiving → (x : ℕ) → c ≡ x ∷ 0 ∷ 0 ∷ [] → x ≡ q
    → put_mid 134 3 (put_mid 67 67 (put_mid 0 67 s a) b) c ≡ words_of (window_from sending receiving q)
unfolding words_of
opened_put sending receiving q s a b c e ea eb x ec ex =
    let la : length a ≡ 67 = ap length ea ∙ length_cluster sending in
    let lb : length b ≡ 67 = ap length eb ∙ length_cluster receiving in
    let lc : length c ≡ 3 = ap length ec in
    let lab : length (a ++ b) ≡ 134 = length-append a b ∙ omega (arith, la, lb) in
    let one : put_mid 0 67 s a ≡ a ++ drop 67 s = put_next [] a s 0 67 refl la in
    let two : put_mid 67 67 (put_mid 0 67 s a) b ≡ (a ++ b) ++ drop 134 s = more a b s (put_mid 0 67 s a) 67 67 one la lb in
    more (a ++ b) c s (put_mid 67 67 (put_mid 0 67 s a) b) 134 3 two lab lc
    ∙ ap (λ (t : List ℕ). a ++ b ++ c ++ drop 137 t) (none_zeros s e)
    ∙ ap (λ (t : List ℕ). a ++ b ++ c ++ t) none_there
    ∙ sym (append_assoc (a ++ b ++ c) (report_words (replicate 64 no_report)) (entry_words (replicate 64 no_entry)))
    ∙ rw (ea, eb, ec, ex) refl
