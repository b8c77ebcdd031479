-- the numbers of a state's rows keep states and productions up to the greatest index
use Rattle.std.proofs.Common.{◌≡◌, ℕ, zero, suc, ◌+◌, ◌<◌, ◌≤◌, Bool, true, false, cond, ltb, List, [], ◌∷◌, Option, None, Some, length, refl, sym, subst, arith}
use Rattle.std.specs.Prelude.{IfSome}
use Rattle.std.specs.List.{All, range_with_len}
use Rattle.std.proofs.lemmas.List.Elements.{All-nil, All-cons, All-head, All-map, All-filter}
use Rattle.lrspec.specs.grammars.Grammar.{Symbol, Rule, Token, Kind, Left, Right, Nonassoc, Precedence, Grammar, token_count, token_precedence, production_precedence}
use Rattle.lrspec.specs.merging.Graph.{Graph, edge, closed_of}
use Rattle.lrspec.specs.tables.Table.{Action, Shift, Reduce, Accept, Error, by_kind, decide, cell_by, cell_of, reductions, accepts_at}
use Rattle.lrgrammar.specs.GrammarSizes.{IsWithin}
use Rattle.lrrows.specs.StoredActions.{IsIndexed, action_number, action_numbered, goto_number, goto_numbered}
use Rattle.lrrows.specs.ReadGraphs.{IsReadable}
use Rattle.lrrows.specs.StateRows.{action_row, goto_row}
use Rattle.lrrows.proofs.KeptNumbers.{numbered_action, numbered_goto}

-- what holds of each number below `a + n` holds of the `n` numbers from `a` on
All-range : (P : ℕ → Type 0) (a n : ℕ) → ((k : ℕ) → k < a + n → P k) → All P (range_with_len a n)
All-range P a zero f = All-nil P
All-range P a (suc n) f =
    All-cons P a (range_with_len (a + 1) n) (f a (omega arith)) (All-range P (a + 1) n (λ k l. f k (omega arith)))

-- an edge leads to a state of the graph
edge_below :
    (g : Grammar) (h : Graph) (most s : ℕ) (x : Symbol) → IsReadable g h → length h ≤ most
    → (o : Option ℕ) → edge h s x ≡ o → IfSome o (λ u. u ≤ most)
edge_below g h most s x m l None e = tt
edge_below g h most s x m l (Some u) e = let b = m.targets s u x e in omega arith

-- a production that an item set reduces by is one of the grammar
reductions_within : (g : Grammar) (most t s : ℕ) (h : Graph) → IsWithin most g → All (λ p. p ≤ most) (reductions g (closed_of h s) t)
reductions_within g most t s h w =
    All-filter _ (λ p. p ≤ most) (range_with_len 0 (length g.productions))
    (All-range (λ p. p ≤ most) 0 (length g.productions) (λ k l. let n = w.productions in omega arith))

-- how operators of one level group
kind_indexed : (most u p : ℕ) (k : Kind) → u ≤ most → p ≤ most → IsIndexed most (by_kind k u p)
kind_indexed most u p Left l m = m
kind_indexed most u p Right l m = l
kind_indexed most u p Nonassoc l m = tt

-- one of two
either_indexed : (most : ℕ) (b : Bool) (x y : Action) → IsIndexed most x → IsIndexed most y → IsIndexed most (cond b x y)
either_indexed most true x y l m = l
either_indexed most false x y l m = m

-- what precedences decide
decided_indexed : (most u p : ℕ) (a b : Option Precedence) → u ≤ most → p ≤ most → IsIndexed most (decide a b u p)
decided_indexed most u p None b l m = l
decided_indexed most u p (Some a) None l m = l
decided_indexed most u p (Some a) (Some b) l m =
    either_indexed most (ltb b.level a.level) (Shift u) (cond (ltb a.level b.level) (Reduce p) (by_kind a.kind u p)) l
    (either_indexed most (ltb a.level b.level) (Reduce p) (by_kind a.kind u p) m (kind_indexed most u p a.kind l m))

-- a cell by its reductions and its edge
cell_indexed :
    (g : Grammar) (most t : ℕ) (ps : List ℕ) (o : Option ℕ) (b : Bool)
    → All (λ p. p ≤ most) ps → IfSome o (λ u. u ≤ most) → IsIndexed most (cell_by g t ps o b)
cell_indexed g most t [] None b l m = either_indexed most b Accept Error tt tt
cell_indexed g most t [] (Some u) b l m = m
cell_indexed g most t (p ∷ ps) None b l m = All-head (λ q. q ≤ most) p ps l
cell_indexed g most t (p ∷ ps) (Some u) b l m =
    decided_indexed most u p (token_precedence g t) (production_precedence g p) m (All-head (λ q. q ≤ most) p ps l)

-- the cell of a state and a token says a state or a production up to the greatest index
pub indexed_cell :
    (g : Grammar) (h : Graph) (most s t : ℕ) → IsReadable g h → IsWithin most g → length h ≤ most
    → IsIndexed most (cell_of g h s t)
indexed_cell g h most s t m w l =
    cell_indexed g most t (reductions g (closed_of h s) t) (edge h s (Token t)) (accepts_at g (closed_of h s) t)
    (reductions_within g most t s h w) (edge_below g h most s (Token t) m l (edge h s (Token t)) refl)

-- every number of a row of cells keeps an action whose state or production is up to the greatest index
pub indexed_action_row :
    (g : Grammar) (h : Graph) (most s : ℕ) → IsReadable g h → IsWithin most g → length h ≤ most
    → All (λ c. IsIndexed most (action_numbered c)) (action_row g h s)
indexed_action_row g h most s m w l =
    All-map (λ c. IsIndexed most (action_numbered c)) (λ t. action_number (cell_of g h s t)) (range_with_len 0 (token_count g))
    (All-range (λ t. IsIndexed most (action_numbered (action_number (cell_of g h s t)))) 0 (token_count g)
    (λ t k. subst (IsIndexed most) (sym (numbered_action (cell_of g h s t))) (indexed_cell g h most s t m w l)))

-- every number of a row of gotos keeps a state up to the greatest index, if any
pub indexed_goto_row :
    (g : Grammar) (h : Graph) (most s : ℕ) → IsReadable g h → length h ≤ most
    → All (λ c. IfSome (goto_numbered c) (λ u. u ≤ most)) (goto_row g h s)
indexed_goto_row g h most s m l =
    All-map (λ c. IfSome (goto_numbered c) (λ u. u ≤ most)) (λ r. goto_number (edge h s (Rule r))) (range_with_len 0 (length g.rule_names))
    (All-range (λ r. IfSome (goto_numbered (goto_number (edge h s (Rule r)))) (λ u. u ≤ most)) 0 (length g.rule_names)
    (λ r k. subst (λ o. IfSome o (λ u. u ≤ most)) (sym (numbered_goto (edge h s (Rule r)))) (edge_below g h most s (Rule r) m l (edge h s (Rule r)) refl)))
