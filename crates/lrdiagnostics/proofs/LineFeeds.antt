-- line feeds, and the lines between them
use Rattle.std.proofs.Common.{◌≡◌, ℕ, zero, suc, ◌+◌, ◌<◌, ◌≤◌, ◌-◌, min, true, false, List, [], ◌∷◌, length, take, drop, sym, ◌∙◌, subst, arith, slice_index, nat_lt, refl, cond, add-one, ◌==◌, if◌then◌else◌}
use Rattle.std.proofs.lemmas.Bool.{ltb-true, ltb-false, lt-ltb, ne_eqb}
use Rattle.std.proofs.lemmas.List.{take-take, take_all, take_min, length-take-le, get_or_default}
use Rattle.std.proofs.lemmas.List.Sums.{sum_by-take-le, sum_by-take-drop, sum_by-cons}
use Rattle.std.specs.List.{count_by, slice_index_or}
use Rattle.std.specs.List.Sorted.{IsPartitionedBy, IsPartitionPoint}
use Rattle.lrdiagnostics.specs.Positions.{AreFeeds, is_feed, last_line}

-- how many line feeds stand before a place
abbrev before : List ℕ → ℕ → ℕ
before text at = count_by is_feed (take at text)

before_grows : (text : List ℕ) (i j : ℕ) → i ≤ j → before text i ≤ before text j
before_grows text i j h = rw (take-take i j text h) at (sum_by-take-le (λ b. cond (is_feed b) 1 0) (take j text) i)

before_within : (text : List ℕ) (at : ℕ) → before text at ≤ count_by is_feed text
before_within text at = sum_by-take-le (λ b. cond (is_feed b) 1 0) text at

meet : (n m end : ℕ) → n ≤ m → (n < end → m ≤ n) → m ≤ end → n ≤ end → n ≡ m
meet n m end low high whole fits = grind arith

less : (end place : ℕ) {m n : ℕ} → (end ≤ place → m ≤ n) → n < m → place < end
less end place {m} {n} grows h = grind arith

-- the places of line feeds, upwards
module _ (text places : List ℕ) (are : AreFeeds text (length text) places) where
  upwards : (i j : ℕ) → i ≤ j → j < length places → slice_index places j + 1 ≤ slice_index places i → ⊥
  upwards i j le inside h =
      let more = before_grows text (slice_index places j + 1) (slice_index places i) h in
      let one = are.through j inside in
      let other = are.before i (omega arith) in
      omega arith

  pub partitioned : (at : ℕ) → IsPartitionedBy (λ place. nat_lt place at) places
  partitioned at i j d le inside less =
      let here = get_or_default places i d 0 (omega arith) in
      let there = get_or_default places j d 0 inside in
      let below = ltb-true (slice_index_or places j d) at less in
      let not_above = upwards i j le inside in
      lt-ltb (slice_index_or places i d) at (omega arith)

  at_least : (at n : ℕ) → n ≤ length places → ((k : ℕ) → k < n → slice_index places k < at) → n ≤ before text at
  at_least at zero fits all = omega arith
  at_least at (suc m) fits all =
      let more = before_grows text (slice_index places m + 1) at (omega (arith, all m (omega arith))) in
      let one = are.through m (omega arith) in
      omega arith

  pub counted : (at n : ℕ) → n ≤ length places → IsPartitionPoint (λ place. nat_lt place at ≡ true) (λ place. nat_lt place at ≡ false) places n → n ≡ before text at
  counted at n fits point =
      let low = at_least at n fits (λ k h. ltb-true (slice_index places k) at (point.0 k 0 (omega arith) h)) in
      let high : n < length places → before text at ≤ n = λ h.
      let more = before_grows text at (slice_index places n) (ltb-false (slice_index places n) at (point.1 n 0 (omega arith) h)) in
      let one = are.before n h in
      omega arith in
      let whole : before text at ≤ length places = rw (are.all, take_all (length text) text (omega arith)) (before_within text at) in
      meet n (before text at) (length places) low high whole fits

if_some : (n : ℕ) (xs ys : List ℕ) → 0 < n → (if n == 0 then xs else ys) ≡ ys
if_some n xs ys h = rw (ne_eqb n 0 (λ e. omega arith)) refl

pub without_feed : (text : List ℕ) → count_by is_feed text ≡ 0 → last_line text ≡ text
without_feed [] none = refl
without_feed (b ∷ bs) none = rw none refl

-- what stands behind a line feed that no other follows
pub behind_last : (text : List ℕ) (place : ℕ) → before text place < before text (suc place) → count_by is_feed (drop (suc place) text) ≡ 0 → last_line text ≡ drop (suc place) text
behind_last [] place is none = absurd (omega (arith, before_within [] (suc place)))
behind_last (b ∷ bs) zero is none =
    if_some (count_by is_feed (b ∷ bs)) (b ∷ bs) (last_line bs) (omega (arith, before_within (b ∷ bs) 1)) ∙ without_feed bs none
behind_last (b ∷ bs) (suc place) is none =
    let step : (at : ℕ) → before (b ∷ bs) (suc at) ≡ cond (is_feed b) 1 0 + before bs at = λ at. sum_by-cons (λ x. cond (is_feed x) 1 0) b (take at bs) in
    if_some (count_by is_feed (b ∷ bs)) (b ∷ bs) (last_line bs) (omega (arith, before_within (b ∷ bs) (suc (suc place))))
    ∙ behind_last bs place (omega (arith, step place, step (suc place))) none

-- what stands before a place in its line begins behind the last of the line feeds before it
module _ (text places : List ℕ) (are : AreFeeds text (length text) places) (start : ℕ) where
  first_line : (end : ℕ) → before text end ≡ 0 → start ≡ 0 → (start ≤ end) × (drop start (take end text) ≡ last_line (take end text))
  first_line end none is = (omega arith, rw is (sym (without_feed (take end text) none)))

  later_line : (end k : ℕ) → k < length places → before text end ≡ suc k → start ≡ slice_index places k + 1 → (start ≤ end) × (drop start (take end text) ≡ last_line (take end text))
  later_line end k inside is begins =
      let place = slice_index places k in
      let up_to : before text place ≡ k = are.before k inside in
      let through : before text (suc place) ≡ suc k = rw (add-one place, add-one k) at (are.through k inside) in
      let fits : suc place ≤ end = less end place (before_grows text end place) (omega arith) in
      let more : before (take end text) place < before (take end text) (suc place) = rw (take-take place end text (omega arith), take-take (suc place) end text fits) (omega arith) in
      let parts = rw (take-take (suc place) end text fits) at (sum_by-take-drop (λ b. cond (is_feed b) 1 0) (take end text) (suc place)) in
      let none : count_by is_feed (drop (suc place) (take end text)) ≡ 0 = omega arith in
      let here : start ≡ suc place = begins ∙ add-one place in
      (omega arith, rw here (sym (behind_last (take end text) place more none)))

  front_to : (end n : ℕ) → n ≡ before text end → (n ≡ 0 → start ≡ 0) → (0 < n → n ≤ length places → start ≡ slice_index places (n - 1) + 1) → (start ≤ end) × (drop start (take end text) ≡ last_line (take end text))
  front_to end zero is first behind = first_line end (sym is) (first refl)
  front_to end (suc k) is first behind =
      let whole : before text end ≤ length places = rw (are.all, take_all (length text) text (omega arith)) (before_within text end) in
      let back : suc k - 1 ≡ k = omega arith in
      later_line end k (omega arith) (sym is) (rw back at (behind (omega arith) (omega arith)))

  pub front_is : (at end n : ℕ) → end ≡ min at (length text) → n ≡ before text end → (n ≡ 0 → start ≡ 0) → (0 < n → n ≤ length places → start ≡ slice_index places (n - 1) + 1) → (start ≤ length (take end text)) × (drop start (take end text) ≡ last_line (take at text))
  front_is at end n least is first behind =
      let parts = front_to end n is first behind in
      let same : take end text ≡ take at text = rw least (take_min at text) in
      (rw (length-take-le end text (omega arith)) parts.0, subst (λ line. drop start (take end text) ≡ last_line line) same parts.1)
