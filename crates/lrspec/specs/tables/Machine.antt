-- the machine that a table drives, and its runs on a text
use Rattle.std.specs.Prelude.{ℕ, zero, suc, ◌+◌, nat_le, if◌then◌else◌, List, [], ◌∷◌, ◌++◌, length, drop, Option, None, Some}
use Rattle.lrspec.specs.grammars.Grammar.{Grammar, end_token, body_of, rule_of}
use Rattle.lrspec.specs.tables.Table as table
use Rattle.lrspec.specs.tables.Table.{Table, Action, action_of, goto_of}

-- the machine at work: its stack of states, the top first, what is left of the text, and the
-- reductions so far
pub record Config : Type 0 where
  pub stack : List ℕ
  pub left : List ℕ
  pub reductions : List ℕ

-- what a step comes to
pub data Outcome : Type 0 where
  Goes : Config → Outcome
  Accepts Rejects Sticks : Outcome

-- the next token, or the end token where the text is used up
abbrev pub next_token : Grammar → List ℕ → ℕ
next_token g [] = end_token g
next_token g (t ∷ ts) = t

-- the state on top of the stack, the start state without one
abbrev pub top : List ℕ → ℕ
top [] = 0
top (s ∷ ss) = s

-- the state to which the goto leads is pushed, and the reduction is noted; without one the machine
-- sticks
abbrev pub reduced : Option ℕ → ℕ → List ℕ → Config → Outcome
reduced None p ss c = Sticks
reduced (Some u) p ss c =
    Goes (record { stack = u ∷ ss; left = c.left; reductions = c.reductions ++ p ∷ [] })

-- a reduction drops as many states as the body of `p` is long, and sticks where no state would be
-- left
abbrev pub reduce_by : Grammar → Table → ℕ → Config → Outcome
reduce_by g b p c =
    let ss = drop (length (body_of g p)) c.stack in
    if nat_le (length c.stack) (length (body_of g p)) then Sticks
    else reduced (goto_of b (top ss) (rule_of g p)) p ss c

-- what a cell has the machine do
abbrev pub act : Grammar → Table → Action → Config → Outcome
act g b (table.Action.Shift u) c =
    Goes (record { stack = u ∷ c.stack; left = drop 1 c.left; reductions = c.reductions })
act g b (table.Action.Reduce p) c = reduce_by g b p c
act g b table.Action.Accept c = Accepts
act g b table.Action.Error c = Rejects

-- one step, by the cell of the top state and the next token
abbrev pub step : Grammar → Table → Config → Outcome
step g b c = act g b (action_of b (top c.stack) (next_token g c.left)) c

-- how a run ended, or that it is not at its end yet
pub data Verdict : Type 0 where
  Accepted Rejected Unfinished Stuck : Verdict

-- how a run came out: its verdict, the number of its steps, and its reductions
pub record Answer : Type 0 where
  pub verdict : Verdict
  pub steps : ℕ
  pub reductions : List ℕ

-- the answer of a run that has made a step more before
abbrev pub one_step_more : Answer → Answer
one_step_more a = record { verdict = a.verdict; steps = a.steps + 1; reductions = a.reductions }

-- the answer of a run that comes to its end so
abbrev pub ended : Verdict → ℕ → Config → Answer
ended v n c = record { verdict = v; steps = n; reductions = c.reductions }

-- a run that goes on as told where the step goes on
abbrev pub after_step : (Config → Answer) → Outcome → Config → Answer
after_step go (Goes d) c = one_step_more (go d)
after_step go Accepts c = ended Accepted 1 c
after_step go Rejects c = ended Rejected 1 c
after_step go Sticks c = ended Stuck 1 c

-- at most `n` steps
abbrev pub after : Grammar → Table → ℕ → Config → Answer
after g b zero c = ended Unfinished 0 c
after g b (suc n) c = after_step (λ d. after g b n d) (step g b c) c

-- the machine before its first step
abbrev pub start_config : Table → List ℕ → Config
start_config b text = record { stack = b.start ∷ []; left = text; reductions = [] }

-- at most `n` steps on the text
abbrev pub run : Grammar → Table → ℕ → List ℕ → Answer
run g b n text = after g b n (start_config b text)

-- where the machine stands behind a step: as told where the step goes on, and else where it stood
abbrev pub stands_behind : (Config → Config) → Outcome → Config → Config
stands_behind go (Goes d) c = go d
stands_behind go _ c = c

-- where it stands after at most `n` steps
abbrev pub stands_after : Grammar → Table → ℕ → Config → Config
stands_after g b zero c = c
stands_after g b (suc n) c = stands_behind (λ d. stands_after g b n d) (step g b c) c

-- what is left of the text after at most `n` steps
abbrev pub left_after : Grammar → Table → ℕ → List ℕ → List ℕ
left_after g b n text = (stands_after g b n (start_config b text)).left
