-- what is below states, step by step
use Rattle.std.proofs.Common.{◌≡◌, ◌≢◌, ℕ, List, [], ◌∷◌, ◌++◌, append_assoc, Some, refl, sym, ap, ◌∙◌}
use Rattle.std.specs.Prelude.{Contains}
use Rattle.std.proofs.lemmas.List.{append-nil}
use Rattle.lrspec.specs.grammars.Grammar.{Symbol}
use Rattle.lrspec.specs.merging.Graph as graph
use Rattle.lrspec.specs.merging.Graph.{Graph, Leads, edge}
use Rattle.lrsearches.specs.StoredWays.{IsRowOf}
use Rattle.lrexchange.specs.Asked.{AreStepsBack, AreBelow, HasSteps, KeepsBelows}
use Rattle.lrexchange.specs.StoredPositions.{symbols_of}
use Rattle.lrexchange.specs.declared.below.Below.{Below}
use Rattle.lrexchange.proofs.AskedInTurn.{AllBut, end_all}

-- a state with what is above it, by numbers
abbrev pub below_of : Below → ℕ × List Symbol
below_of b = (b.state.0, symbols_of b.symbols.items)

-- the pair of a state and symbols
abbrev pub pair : ℕ → List Symbol → ℕ × List Symbol
pair s xs = (s, xs)

pub step_so : (s r : ℕ) (xs ys : List Symbol) → s ≡ r → xs ≡ ys → pair s xs ≡ pair r ys
step_so s r xs ys e f = ap (λ (n : ℕ). pair n xs) e ∙ ap (pair r) f

-- a list that leads to another state than the start state goes over an edge at last
pub back_over :
    {h : Graph} {w : List Symbol} {q : ℕ} → Leads h w q → q ≢ 0
    → (v : List Symbol) × (x : Symbol) × (r : ℕ) × (w ≡ v ++ x ∷ []) × Leads h v r × (edge h r x ≡ Some q)
back_over graph.Leads.start n = absurd (n refl)
back_over (graph.Leads.follow {w} {s} x l e) n = (w, x, s, refl, l, e)

-- at first there is the state alone
pub begin_below : (h : Graph) (s : ℕ) (belows : List (ℕ × List Symbol)) → Contains belows (s, []) → AreBelow h s belows
begin_below h s belows k z l = (z, [], s, sym (append-nil z), l, k)

-- and then one more step
pub next_below : (h : Graph) (s : ℕ) (old new : List (ℕ × List Symbol)) → AreBelow h s old → AreStepsBack h old new → AreBelow h s new
next_below h s old new k steps z l =
    let f = k z l in
    let b = back_over f.4 (steps.not_start f.2 f.1 f.5) in
    let e : z ≡ b.0 ++ (b.1 ∷ f.1) = f.3 ∙ ap (λ (v : List Symbol). v ++ f.1) b.3 ∙ append_assoc b.0 (b.1 ∷ []) f.1 in
    (b.0, b.1 ∷ f.1, b.2, e, b.4, steps.steps f.2 b.2 f.1 b.1 f.5 b.5)

-- a step back from a state over each of its edges
pub record StepsFrom (h : Graph) (steps : List (ℕ × List Symbol)) (b : ℕ × List Symbol) : Type 0 where
  pub not_start : b.0 ≢ 0
  pub edges : (r : ℕ) (x : Symbol) → edge h r x ≡ Some b.0 → Contains steps (r, x ∷ b.1)

pub more_steps :
    (h : Graph) (old new : List (ℕ × List Symbol)) → KeepsBelows old new → (b : ℕ × List Symbol) → StepsFrom h old b → StepsFrom h new b
more_steps h old new keeps b k = record { not_start = k.not_start; edges = λ r x e. keeps (r, x ∷ b.1) (k.edges r x e) }

pub steps_of_row :
    (h : Graph) (q : ℕ) (c : List Symbol) (row : List (Symbol × ℕ)) (steps : List (ℕ × List Symbol)) → q ≢ 0 → IsRowOf h q row → HasSteps row c steps
    → StepsFrom h steps (q, c)
steps_of_row h q c row steps n is has = record { not_start = n; edges = λ r x e. has x r ((is x r).1 e) }

pub all_steps :
    (h : Graph) (belows left steps : List (ℕ × List Symbol)) → left ≡ [] → AllBut (StepsFrom h steps) belows left → AreStepsBack h belows steps
all_steps h belows left steps none k = record {
  not_start = λ q c i. (end_all (StepsFrom h steps) belows left none k (q, c) i).not_start;
  steps = λ q r c x i e. (end_all (StepsFrom h steps) belows left none k (q, c) i).edges r x e;
}
