-- the machine after steps that go on, and runs that reject
use Rattle.std.proofs.Common.{◌≡◌, ◌≢◌, ℕ, zero, suc, ◌≤◌, List, refl, ap, ◌∙◌, arith}
use Rattle.lrspec.specs.grammars.Grammar.{Grammar}
use Rattle.lrspec.specs.tables.Table as table
use Rattle.lrspec.specs.tables.Table.{Table, action_of}
use Rattle.lrspec.specs.tables.Machine.{Config, Outcome, Goes, Accepts, Rejects, Sticks, Answer, Accepted, Rejected, Unfinished, next_token, act, step, after_step, after, stands_behind, stands_after, start_config, run}
use Rattle.lrspec.proofs.tables.MachineMoves as move
use Rattle.lrspec.proofs.tables.MachineMoves.{Moves}
use Rattle.lrtable.specs.Reached.{IsReachedIn}
use Rattle.lrlosses.specs.Losses.{Place, StopsAt, IsRejected, IsNeverAccepted, machine_after, cell_seen}

-- steps that go on lead to where the machine stands after them
stands_there : {g : Grammar} {b : Table} {n : ℕ} {c d : Config} → Moves g b n c d → stands_after g b n c ≡ d
stands_there move.Moves.none = refl
stands_there {g} {b} {c = c} (move.Moves.more {n = n} s p) = ap (λ x. stands_behind (λ d. stands_after g b n d) x c) s ∙ stands_there p

-- where the machine has come, it stands after its steps
pub stands_where_reached : {g : Grammar} {b : Table} {text : List ℕ} {n : ℕ} {c : Config} → IsReachedIn g b text n c → machine_after g b text n ≡ c
stands_where_reached r = stands_there r

-- as long as steps go on, the run is not at its end
going_on : {g : Grammar} {b : Table} {n : ℕ} {c d : Config} → Moves g b n c d → (k : ℕ) → k ≤ n → (after g b k c).verdict ≡ Unfinished
going_on p zero l = refl
going_on move.Moves.none (suc k) l = absurd (omega arith)
going_on {g} {b} {c = c} (move.Moves.more s p) (suc k) l =
    ap (λ x. (after_step (λ d. after g b k d) x c).verdict) s ∙ going_on p k (omega arith)

-- so no fewer steps than were made end it
pub unfinished_before :
    {g : Grammar} {b : Table} {text : List ℕ} {n : ℕ} {c : Config} → IsReachedIn g b text n c → (k : ℕ) → k ≤ n → (run g b k text).verdict ≡ Unfinished
unfinished_before r k l = going_on r k l

-- behind a step that goes on no run accepts where none did; and else the step decides
by_step :
    (x : Outcome) (go come : Config → Answer) (c : Config) → ((d : Config) → (go d).verdict ≡ Rejected → (come d).verdict ≢ Accepted)
    → (after_step go x c).verdict ≡ Rejected → (after_step come x c).verdict ≢ Accepted
by_step (Goes d) go come c k r = k d r
by_step Accepts go come c k r = cc
by_step Rejects go come c k r = λ e. cc
by_step Sticks go come c k r = λ e. cc

-- where some number of steps rejects, no number accepts
never : (g : Grammar) (b : Table) (n m : ℕ) (c : Config) → (after g b n c).verdict ≡ Rejected → (after g b m c).verdict ≢ Accepted
never g b zero m c r = cc
never g b (suc n) zero c r = λ e. cc
never g b (suc n) (suc m) c r = by_step (step g b c) (λ d. after g b n d) (λ d. after g b m d) c (λ d. never g b n m d) r

-- what is rejected is never accepted
pub never_accepted : (g : Grammar) (b : Table) (text : List ℕ) → IsRejected g b text → IsNeverAccepted g b text
never_accepted g b text (n, r) = λ m. never g b n m (start_config b text) r

-- behind a step that goes on a run ends with an error where it did; and else it is at its end
ends_by_step :
    (g : Grammar) (b : Table) (x : Outcome) (go more : Config → Answer) (to : Config → Config) (c : Config)
    → ((d : Config) → (go d).verdict ≡ Unfinished → cell_seen g b (to d) ≡ table.Action.Error → (more d).verdict ≡ Rejected)
    → (after_step go x c).verdict ≡ Unfinished → cell_seen g b (stands_behind to x c) ≡ table.Action.Error
    → (after_step more x c).verdict ≡ Rejected
ends_by_step g b (Goes d) go more to c k u e = k d u e
ends_by_step g b Accepts go more to c k u e = cc
ends_by_step g b Rejects go more to c k u e = cc
ends_by_step g b Sticks go more to c k u e = cc

-- where steps don't end a run, and then the cell is an error, the next step rejects
error_ends :
    (g : Grammar) (b : Table) (n : ℕ) (c : Config) → (after g b n c).verdict ≡ Unfinished
    → cell_seen g b (stands_after g b n c) ≡ table.Action.Error → (after g b (suc n) c).verdict ≡ Rejected
error_ends g b zero c u e = ap (λ a. (after_step (λ d. after g b zero d) (act g b a c) c).verdict) e
error_ends g b (suc n) c u e =
    ends_by_step g b (step g b c) (λ d. after g b n d) (λ d. after g b (suc n) d) (λ d. stands_after g b n d) c (λ d. error_ends g b n d) u e

-- so a text that stops at a place is rejected
pub rejected_there : (g : Grammar) (b : Table) (text : List ℕ) (x : Place) → StopsAt g b text x → IsRejected g b text
rejected_there g b text x stops =
    let comes = stops.comes in
    let c = machine_after g b text x.steps in
    let token : next_token g c.left ≡ x.token = ap (next_token g) comes.left ∙ comes.token in
    let cell : cell_seen g b c ≡ action_of b x.state x.token = ap (λ i. action_of b i (next_token g c.left)) comes.state ∙ ap (action_of b x.state) token in
    (suc x.steps, error_ends g b x.steps (start_config b text) comes.goes (cell ∙ stops.error))
