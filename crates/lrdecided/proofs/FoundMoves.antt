-- nodes to which moves lead, one after another
use Rattle.std.proofs.Common.{◌≡◌, ℕ, zero, suc, ◌+◌, ◌-◌, ◌<◌, ◌≤◌, List, [], ◌∷◌, length, map, get_or, take, drop, Option, None, Some, refl, sym, ap, subst, ◌∙◌, ◌⊎◌, inl, inr, arith}
use Rattle.std.specs.Prelude.{Contains, slice_get}
use Rattle.std.specs.Option.{option_map}
use Rattle.std.specs.declared.vec.Vec.{Vec}
use Rattle.std.specs.declared.alloc.Global.{Global}
use Rattle.std.proofs.lemmas.Bool.{cases_lt}
use Rattle.std.proofs.lemmas.Option.{slice_get_past}
use Rattle.lrspec.specs.grammars.Grammar.{Symbol, Rule, Grammar, body_of, rest, IsProductionOf, productions_of, body_or_none}
use Rattle.lrspec.specs.merging.Graph.{Graph}
use Rattle.lrspec.proofs.grammars.BodyFacts.{rule_unique, rest_next}
use Rattle.lrclosing.proofs.ProductionsOfRule.{IsAmongFirst, among_next, among_none, among_productions}
use Rattle.lrclosing.proofs.SymbolsBehindDots.{sliced}
use Rattle.lrgrammar.specs.declared.idx.StIdx.{StIdx}
use Rattle.lrdecided.specs.declared.nodes.Node as kept
use Rattle.lrdecided.specs.Beginnings.{node_with}
use Rattle.lrdecided.specs.Moved.{HasNodes, HasExpansions, HasOutside, HasAllOutside, AreMoves, expansion}
use Rattle.lrdecided.specs.Nodes.{Side, Node, swap}
use Rattle.lrdecided.specs.Rules as rule
use Rattle.lrdecided.specs.Rules.{Proceeds}
use Rattle.lrdecided.specs.StoredNodes.{states_of, nodes_of}
use Rattle.lrdecided.proofs.CollectedInTurn.{first_or_behind, none_contained}

-- a turn for each production of a rule: the nodes of the first of them are there
abbrev pub HasFirst : Grammar → Node → List ℕ → ℕ → List Node → Type 0
HasFirst g a ps n nodes = (q : ℕ) → IsAmongFirst n ps q → Contains nodes (expansion g a q)

pub begin_first : (g : Grammar) (a : Node) (ps : List ℕ) (nodes : List Node) → HasFirst g a ps 0 nodes
begin_first g a ps nodes q i = absurd (among_none ps q i)

pub next_first :
    (g : Grammar) (a : Node) (ps : List ℕ) (n p : ℕ) (old new : List Node) → get_or ps n 0 ≡ p → HasFirst g a ps n old → HasNodes old new → Contains new (expansion g a p)
    → HasFirst g a ps (n + 1) new
next_first g a ps n p old new e k keeps here q i = elim (among_next n ps p q e i) [
  | inl j ↦ keeps (expansion g a q) (k q j)
  | inr same ↦ rw same here
]

pub end_first :
    (g : Grammar) (a : Node) (ps : List ℕ) (r n : ℕ) (nodes : List Node) → ps ≡ productions_of g r → length ps ≤ n → HasFirst g a ps n nodes → HasExpansions g a r nodes
end_first g a ps r n nodes e l k q i = k q (among_productions g ps r n q e l i)

-- nothing stands behind a dot past all productions
none_dropped : (d : ℕ) (l : List Symbol) → l ≡ [] → drop d l ≡ []
none_dropped zero [] e = refl
none_dropped (suc d) [] e = refl
none_dropped d (x ∷ l) e = absurd cc

pub no_rest : (g : Grammar) (p d : ℕ) (x : Symbol) (y : List Symbol) → length g.productions ≤ p → rest g p d ≡ x ∷ y → ⊥
no_rest g p d x y l e =
    let none : slice_get g.productions p ≡ None = slice_get_past g.productions p l in
    let empty : rest g p d ≡ [] = none_dropped d (body_of g p) (ap body_or_none none) in
    let both : [] ≡ x ∷ y = sym empty ∙ e in
    absurd cc

-- a turn for each item of a row: where those are that are not left, the nodes are there
abbrev pub HasOutsideBut : Graph → Grammar → Node → ℕ → List (ℕ × ℕ) → List (ℕ × ℕ) → List Node → Type 0
HasOutsideBut h g a r row left nodes = (p d : ℕ) → Contains row (p, d) → Contains left (p, d) ⊎ HasOutside h g a r p d nodes

pub begin_outside : (h : Graph) (g : Grammar) (a : Node) (r : ℕ) (row : List (ℕ × ℕ)) (nodes : List Node) → HasOutsideBut h g a r row row nodes
begin_outside h g a r row nodes p d k = inl k

outside_kept : (h : Graph) (g : Grammar) (a : Node) (r p d : ℕ) (old new : List Node) → HasNodes old new → HasOutside h g a r p d old → HasOutside h g a r p d new
outside_kept h g a r p d old new keeps k y e = let (states, has, there) = k y e in (states, has, keeps _ there)

pub next_outside :
    (h : Graph) (g : Grammar) (a : Node) (r p d : ℕ) (row left : List (ℕ × ℕ)) (old new : List Node) → HasOutsideBut h g a r row ((p, d) ∷ left) old → HasNodes old new
    → HasOutside h g a r p d new → HasOutsideBut h g a r row left new
next_outside h g a r p d row left old new k keeps here q e i = elim (k q e i) [
  | inl j ↦ elim (first_or_behind (p, d) left (q, e) j) [
    | inl same ↦
        let one : q ≡ p = ap (λ (z : ℕ × ℕ). z.0) same in
        let two : e ≡ d = ap (λ (z : ℕ × ℕ). z.1) same in
        inr (rw (one, two) here)
    | inr l ↦ inl l
  ]
  | inr j ↦ inr (outside_kept h g a r q e old new keeps j)
]

pub end_outside :
    (h : Graph) (g : Grammar) (a : Node) (r : ℕ) (row left : List (ℕ × ℕ)) (nodes : List Node) → left ≡ []
    → ((p d : ℕ) (y : List Symbol) → p < length g.productions → rest g p d ≡ Rule r ∷ y → Contains row (p, d)) → HasOutsideBut h g a r row left nodes
    → HasAllOutside h g a r nodes
end_outside h g a r row left nodes none all k p d y e =
    elim (k p d (all p d y (below p d y e) e)) [ inl j ↦ absurd (none_contained (p, d) (rw none at j)) | inr o ↦ o y e ]
  where
    below : (p d : ℕ) (y : List Symbol) → rest g p d ≡ Rule r ∷ y → p < length g.productions
    below p d y e = elim (cases_lt p (length g.productions)) [ inl l ↦ l | inr l ↦ absurd (no_rest g p d (Rule r) y l e) ]

-- the moves of the ways exchanged
pub swapped_moves : (g : Grammar) (h : Graph) (a : Node) (o : Option (List Node)) → AreMoves g h (swap a) o → AreMoves g h a o
swapped_moves g h a None k = tt
swapped_moves g h a (Some ms) k = rule.Proceeds.swapped k

-- the one way goes out
pub closes :
    (g : Grammar) (h : Graph) (a : Node) (r : ℕ) (ms : List Node) → a.one.dot ≡ 0 → (a.one.production ≡ g.start_production → ⊥) → IsProductionOf g a.one.production r
    → HasAllOutside h g a r ms → Proceeds g h (Contains ms) a
closes g h a r ms z differ of k =
    rule.Proceeds.close z differ (λ p d s y i e. let same = rule_unique g a.one.production s r i of in k p d y (rw same at e))

-- where the first symbol of the one way is a rule
pub expands :
    (g : Grammar) (h : Graph) (a : Node) (r : ℕ) (ms : List Node) → a.one.symbols ≡ Rule r ∷ drop 1 a.one.symbols → HasExpansions g a r ms → Proceeds g h (Contains ms) a
expands g h a r ms e k = rule.Proceeds.expand r (drop 1 a.one.symbols) e k

-- the node with its one way so, in these states
pub so_with_one :
    (a b : Node) (x y : Side) (ss ts : List (StIdx ℕ)) → b ≡ record a { one = x; states = states_of ss } → ss ≡ ts → x ≡ y
    → b ≡ record a { one = y; states = states_of ts }
so_with_one a b x y ss ts e s o =
    e ∙ ap (λ (us : List (StIdx ℕ)). record a { one = x; states = states_of us }) s ∙ ap (λ (z : Side). record a { one = z; states = states_of ts }) o

-- a list that begins with something has something
pub not_none : {X Y : Type 0} (f : X → Y) (xs : List X) (y : Y) (ys : List Y) → map f xs ≡ y ∷ ys → 0 < length xs
not_none f [] y ys e = absurd cc
not_none f (x ∷ xs) y ys e = omega arith

-- both sides of a node
pub so_with : (x y z w : Side) (states : List ℕ) (next left : Option ℕ) → x ≡ z → y ≡ w → node_with x y states next left ≡ node_with z w states next left
so_with x y z w states next left e f =
    ap (λ (s : Side). node_with s y states next left) e ∙ ap (λ (s : Side). node_with z s states next left) f

-- what stands behind a rule in a body
pub behind_rule :
    {X : Type 0} (f : X → Symbol) (g : Grammar) (p d r n m : ℕ) (xs : List X) (y : List Symbol) → map f xs ≡ body_of g p → n ≡ m → m ≡ suc d → rest g p d ≡ Rule r ∷ y
    → map f (take (length xs - n) (drop n xs)) ≡ y
behind_rule f g p d r n m xs y body e i is =
    let at : n ≡ suc d = e ∙ i in
    sliced f xs n (body_of g p) body ∙ ap (λ (k : ℕ). drop k (body_of g p)) at ∙ rest_next (body_of g p) d (Rule r) y is

pub swapped_so :
    (g : Grammar) (h : Graph) (a b : Node) → b ≡ swap a → (o : Option (Vec kept.Node Global))
    → AreMoves g h b (option_map (λ v. nodes_of v.items) o) → AreMoves g h a (option_map (λ v. nodes_of v.items) o)
swapped_so g h a b e o k =
    swapped_moves g h a (option_map (λ v. nodes_of v.items) o) (subst (λ (c : Node). AreMoves g h c (option_map (λ v. nodes_of v.items) o)) e k)
