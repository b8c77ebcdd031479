-- steps of the machine on stacks that are kept with the top last
use Rattle.std.proofs.Common.{◌≡◌, ℕ, ◌+◌, ◌-◌, ◌<◌, List, [], ◌∷◌, ◌++◌, length, map, reverse, take, drop, refl, sym, ap, ◌∙◌, drop-drop, Option, None, Some, slice_get, Bool, true, false, cond, arith}
use Rattle.std.specs.Option.{IsSome, option_map}
use Rattle.std.proofs.lemmas.Bool.{lt-leb}
use Rattle.std.proofs.lemmas.List.{length-reverse, length-map, map-append}
use Rattle.lrspec.specs.grammars.Grammar.{Production, Grammar, body_of, IsOfRule, IsProductionOf, rule_of, rule_or_zero}
use Rattle.lrspec.specs.tables.Table as table
use Rattle.lrspec.specs.tables.Table.{Table, Action, action_of, goto_of}
use Rattle.lrspec.specs.tables.Machine.{Config, Goes, Sticks, top, next_token, reduced, reduce_by, act, step}
use Rattle.lrspec.proofs.tables.MachineMoves.{at}
use Rattle.lrtable.specs.Reached.{CanReduce}
use Rattle.lrtable.proofs.StackLists.{stack_pushed, stack_cut}

-- the cell of the same state and token
pub cell_here : (b : Table) (s t u v : ℕ) (x : Action) → x ≡ action_of b s t → s ≡ u → t ≡ v → action_of b u v ≡ x
cell_here b s t u v x e p q = sym (e ∙ (ap (λ i. action_of b i t) p ∙ ap (λ i. action_of b u i) q))

-- configs with the same parts
same_config : (ss zs us vs rs qs : List ℕ) → ss ≡ zs → us ≡ vs → rs ≡ qs → Goes (at ss us rs) ≡ Goes (at zs vs qs)
same_config ss zs us vs rs qs p q r = rw (p, q, r) refl

-- a shift
pub step_shifts :
    {X : Type 0} (g : Grammar) (b : Table) (f : X → ℕ) (xs ys : List X) (x : X) (text rs : List ℕ) (i : ℕ)
    → action_of b (top (reverse (map f xs))) (next_token g (drop i text)) ≡ table.Action.Shift (f x) → ys ≡ xs ++ x ∷ []
    → step g b (at (reverse (map f xs)) (drop i text) rs) ≡ Goes (at (reverse (map f ys)) (drop (i + 1) text) rs)
step_shifts g b f xs ys x text rs i e n =
    ap (λ a. act g b a (at (reverse (map f xs)) (drop i text) rs)) e
    ∙ same_config _ _ _ _ rs rs (sym (ap (λ l. reverse (map f l)) n ∙ stack_pushed f xs x)) (drop-drop 1 i text) refl

-- a reduction goes on where the stack is deep enough and the goto is there
reduction_goes :
    (x : Bool) (o : Option ℕ) (p u : ℕ) (ss : List ℕ) (c : Config) → x ≡ false → o ≡ Some u
    → cond x Sticks (reduced o p ss c) ≡ Goes (at (u ∷ ss) c.left (c.reductions ++ p ∷ []))
reduction_goes true o p u ss c e f = cc
reduction_goes false None p u ss c e f = cc
reduction_goes false (Some v) p u ss c e f = let k : v ≡ u = cc in rw k refl

-- a reduction
pub reduction_made :
    {X Y : Type 0} (g : Grammar) (b : Table) (f : X → ℕ) (h : Y → ℕ) (xs ys : List X) (x : X) (rs qs : List Y) (y : Y) (left : List ℕ)
    → CanReduce g b (h y) (reverse (map f xs))
    → goto_of b (top (drop (length (body_of g (h y))) (reverse (map f xs)))) (rule_of g (h y)) ≡ Some (f x)
    → ys ≡ take (length xs - length (body_of g (h y))) xs ++ x ∷ [] → qs ≡ rs ++ y ∷ []
    → reduce_by g b (h y) (at (reverse (map f xs)) left (map h rs)) ≡ Goes (at (reverse (map f ys)) left (map h qs))
reduction_made g b f h xs ys x rs qs y left can goto n q =
    let size : ℕ = length (body_of g (h y)) in
    let ss : List ℕ = reverse (map f xs) in
    let long : length ss ≡ length xs = length-reverse (map f xs) ∙ length-map xs f in
    let kept : List _ = take (length xs - size) xs in
    let cut : reverse (map f kept) ≡ drop size ss = stack_cut f xs size (omega (arith, can.deep)) in
    let pushed : reverse (map f ys) ≡ f x ∷ drop size ss =
    ap (λ l. reverse (map f l)) n ∙ (stack_pushed f kept x ∙ ap (λ l. f x ∷ l) cut) in
    reduction_goes _ _ (h y) (f x) (drop size ss) (at ss left (map h rs)) (lt-leb (length ss) size can.deep) goto
    ∙ same_config _ _ left left _ _ (sym pushed) refl (sym (ap (map h) q ∙ map-append h rs (y ∷ [])))

-- the rule of a production
rule_there : (o : Option Production) (r : ℕ) → IsOfRule o r → rule_or_zero o ≡ r
rule_there None r k = absurd k
rule_there (Some p) r k = k

-- the goto of the same state on the rule of the production
pub goto_here :
    {X : Type 0} (g : Grammar) (b : Table) (f : X → ℕ) (xs kept : List X) (p s r : ℕ) (o : Option ℕ) → length (body_of g p) < length (reverse (map f xs))
    → o ≡ goto_of b s r → s ≡ top (reverse (map f kept)) → kept ≡ take (length xs - length (body_of g p)) xs → IsProductionOf g p r
    → goto_of b (top (drop (length (body_of g p)) (reverse (map f xs)))) (rule_of g p) ≡ o
goto_here g b f xs kept p s r o deep e t n k =
    let size : ℕ = length (body_of g p) in
    let long : length (reverse (map f xs)) ≡ length xs = length-reverse (map f xs) ∙ length-map xs f in
    let cut : s ≡ top (drop size (reverse (map f xs))) =
    t ∙ ap top (ap (λ l. reverse (map f l)) n ∙ stack_cut f xs size (omega arith)) in
    let of_rule : rule_of g p ≡ r = rule_there (slice_get g.productions p) r k in
    sym (e ∙ (ap (λ i. goto_of b i r) cut ∙ ap (goto_of b (top (drop size (reverse (map f xs))))) (sym of_rule)))

-- what has a value by numbers is there
pub there_by_number : {X : Type 0} (f : X → ℕ) (o : Option X) (u : ℕ) → option_map f o ≡ Some u → IsSome o
there_by_number f None u e = cc
there_by_number f (Some x) u e = refl
