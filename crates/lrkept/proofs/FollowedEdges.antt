-- where the edges on symbols lead from a state
use Rattle.std.proofs.Common.{◌≡◌, ℕ, List, [], ◌∷◌, ◌++◌, Option, None, Some, refl, sym, ap, ◌∙◌, append_assoc, append-nil}
use Rattle.std.specs.Option.{option_and_then}
use Rattle.lrspec.specs.grammars.Grammar.{Symbol}
use Rattle.lrspec.specs.merging.Graph as graph
use Rattle.lrspec.specs.merging.Graph.{Graph, Leads, edge}
use Rattle.lrspec.proofs.grammars.BodyFacts.{push_same, push_not_empty}

-- where the edges on the symbols lead from the state, one after the other
abbrev pub follow : Graph → ℕ → List Symbol → Option ℕ
follow h s [] = Some s
follow h s (x ∷ xs) = option_and_then (λ u. follow h u xs) (edge h s x)

-- those on two lists, one after the other
pub follow_both : (h : Graph) (s : ℕ) (xs ys : List Symbol) → follow h s (xs ++ ys) ≡ option_and_then (λ u. follow h u ys) (follow h s xs)
follow_both h s [] ys = refl
follow_both h s (x ∷ xs) ys = go (edge h s x) (λ u. follow_both h u xs ys)
  where
    go :
        (o : Option ℕ) → ((u : ℕ) → follow h u (xs ++ ys) ≡ option_and_then (λ v. follow h v ys) (follow h u xs))
        → option_and_then (λ u. follow h u (xs ++ ys)) o ≡ option_and_then (λ u. follow h u ys) (option_and_then (λ u. follow h u xs) o)
    go None same = refl
    go (Some u) same = same u

-- where the edges lead to a state, the first does
first_edge :
    (f : ℕ → Option ℕ) (o : Option ℕ) {s : ℕ} → option_and_then f o ≡ Some s → (u : ℕ) × (o ≡ Some u) × (f u ≡ Some s)
first_edge f None e = absurd cc
first_edge f (Some u) e = (u, refl, e)

-- a list with a last symbol leads over an edge on it
pub leads_over : {h : Graph} {v : List Symbol} {u : ℕ} → Leads h v u → (w : List Symbol) (x : Symbol) → v ≡ w ++ x ∷ [] → (s : ℕ) × Leads h w s × (edge h s x ≡ Some u)
leads_over graph.Leads.start w x e = absurd (push_not_empty w x (sym e))
leads_over {u = u} (graph.Leads.follow {w = v} {s = s} y l f) w x e =
    let both = push_same v w y x e in (s, rw both.0 at l, rw both.1 at f)

-- the empty list leads to the start state
leads_nowhere : {h : Graph} {v : List Symbol} {s : ℕ} → Leads h v s → v ≡ [] → s ≡ 0
leads_nowhere graph.Leads.start e = refl
leads_nowhere (graph.Leads.follow {w = w} x l k) e = absurd (push_not_empty w x e)

-- a list leads to one state
pub leads_once : {h : Graph} {v : List Symbol} {s u : ℕ} → Leads h v s → Leads h v u → s ≡ u
leads_once graph.Leads.start k = sym (leads_nowhere k refl)
leads_once {h} (graph.Leads.follow {w = w} {s = s} x l e) k =
    let (r, before, f) = leads_over k w x refl in
    let same : s ≡ r = leads_once l before in
    cc

-- a list that leads to a state leads on by the edges from there
pub leads_on : {h : Graph} (xs : List Symbol) {z : List Symbol} {r s : ℕ} → Leads h z r → follow h r xs ≡ Some s → Leads h (z ++ xs) s
leads_on [] {z} {r} {s} l e = let same : r ≡ s = cc in rw (append-nil z, ← same) l
leads_on {h} (x ∷ xs) {z} {r} l e =
    let (u, first, others) = first_edge (λ v. follow h v xs) (edge h r x) e in
    rw (append_assoc z (x ∷ []) xs) at (leads_on xs (graph.Leads.follow x l first) others)

-- where two lists, one after the other, lead, the second leads by the edges from where the first does
pub leads_parts : {h : Graph} (z xs : List Symbol) {s : ℕ} → Leads h (z ++ xs) s → (r : ℕ) × Leads h z r × (follow h r xs ≡ Some s)
leads_parts z [] {s} l = (s, rw (append-nil z) at l, refl)
leads_parts {h} z (x ∷ xs) {s} l =
    let (u, longer, e) = leads_parts (z ++ x ∷ []) xs (rw (append_assoc z (x ∷ []) xs) l) in
    let (r, before, k) = leads_over longer z x refl in
    (r, before, ap (option_and_then (λ v. follow h v xs)) k ∙ e)
