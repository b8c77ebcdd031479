-- the new numbers of marked states: they begin with 0, rise from one marked state to the next, and are those below the
-- number of marks
use Rattle.std.proofs.Common.{◌≡◌, ℕ, zero, suc, ◌+◌, ◌<◌, ◌≤◌, Bool, true, false, cond, List, [], ◌∷◌, length, take, refl, sym, ap, ◌∙◌, arith, IsTrue}
use Rattle.std.specs.Prelude.{slice_index_or, count_by}
use Rattle.std.proofs.lemmas.List.{take-take}
use Rattle.std.proofs.lemmas.List.Sums.{sum_by-cons, sum_by-take-le, count_by_more_yes}
use Rattle.lrpager.specs.Collecting.{new_number}

-- how many marks there are
abbrev pub mark_count : List Bool → ℕ
mark_count marks = count_by (λ b. b) marks

-- a state that is marked has a mark
pub marked_below : (marks : List Bool) (k : ℕ) → IsTrue (slice_index_or marks k false) → k < length marks
marked_below [] k m = absurd cc
marked_below (b ∷ marks) zero m = omega arith
marked_below (b ∷ marks) (suc k) m = let l : k < length marks = marked_below marks k m in omega arith

-- the first number is 0
pub new_number_start : (marks : List Bool) → new_number marks 0 ≡ 0
new_number_start [] = refl
new_number_start (b ∷ marks) = refl

-- a marked state makes the numbers behind it one more
pub new_number_after :
    (marks : List Bool) (k : ℕ) → IsTrue (slice_index_or marks k false) → new_number marks (k + 1) ≡ new_number marks k + 1
new_number_after marks k m = count_by_more_yes (λ b. b) marks k false (marked_below marks k m) m

-- numbers never fall
new_number_mono : (marks : List Bool) (j k : ℕ) → j ≤ k → new_number marks j ≤ new_number marks k
new_number_mono marks j k l =
    let within : mark_count (take j (take k marks)) ≤ mark_count (take k marks) = sum_by-take-le (λ (b : Bool). cond b 1 0) (take k marks) j in
    rw take-take at within

-- they rise behind a marked state
pub new_number_increases :
    (marks : List Bool) (j k : ℕ) → IsTrue (slice_index_or marks j false) → j < k → new_number marks j < new_number marks k
new_number_increases marks j k m l =
    let next = new_number_after marks j m in
    let then = new_number_mono marks (j + 1) k (omega arith) in
    omega (arith, next, then)

-- the number of a marked state is below the number of marks
pub new_number_below : (marks : List Bool) (k : ℕ) → IsTrue (slice_index_or marks k false) → new_number marks k < mark_count marks
new_number_below marks k m =
    let next = new_number_after marks k m in
    let all = sum_by-take-le (λ (b : Bool). cond b 1 0) marks (k + 1) in
    omega (arith, next, all)

-- the number is the one of a marked state
abbrev pub IsTaken : List Bool → ℕ → Type 0
IsTaken marks s = (k : ℕ) × IsTrue (slice_index_or marks k false) × (new_number marks k ≡ s)

taken_behind : (b : Bool) (marks : List Bool) (s n : ℕ) → n ≡ cond b 1 0 + s → IsTaken marks s → IsTaken (b ∷ marks) n
taken_behind b marks s n e (k, m, i) =
    (suc k, m, sum_by-cons (λ (c : Bool). cond c 1 0) b (take k marks) ∙ (ap (λ j. cond b 1 0 + j) i ∙ sym e))

-- and each number below that is the one of a marked state
pub new_number_taken : (marks : List Bool) (s : ℕ) → s < mark_count marks → IsTaken marks s
new_number_taken [] s l = absurd (omega arith)
new_number_taken (true ∷ marks) zero l = (0, refl, refl)
new_number_taken (true ∷ marks) (suc s) l =
    let k = sum_by-cons (λ (c : Bool). cond c 1 0) true marks in
    taken_behind true marks s (suc s) (omega arith) (new_number_taken marks s (omega (arith, k)))
new_number_taken (false ∷ marks) s l =
    let k = sum_by-cons (λ (c : Bool). cond c 1 0) false marks in
    taken_behind false marks s s (omega arith) (new_number_taken marks s (omega (arith, k)))
