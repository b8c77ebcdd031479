-- the edges of a state by new numbers
use Rattle.std.proofs.Common.{◌≡◌, ℕ, Bool, true, false, cond, List, [], ◌∷◌, ◌++◌, Some, map, refl, sym, ap, ◌∙◌, append_assoc, append-nil}
use Rattle.std.specs.Prelude.{option_map}
use Rattle.std.proofs.lemmas.List.{map-append}
use Rattle.lrspec.specs.grammars.Grammar as math
use Rattle.lrspec.specs.merging.Graph.{same_symbol, edge_at}
use Rattle.lrgrammar.specs.declared.idx.Symbol.{Symbol}
use Rattle.lrgrammar.specs.Symbols.{symbol_of}
use Rattle.lrgraphs.specs.GraphOf.{edges_of}
use Rattle.lrplacing.specs.Construction.{HasEdgesOnce}
use Rattle.lrpager.specs.Collecting.{AreRenumbered}

-- the edges, each to where `f` takes the state to which it led
abbrev pub renumbered : (ℕ → ℕ) → List (math.Symbol × ℕ) → List (math.Symbol × ℕ)
renumbered f es = map (λ e. (e.0, f e.1)) es

pub edge_renumbered : (f : ℕ → ℕ) (es : List (math.Symbol × ℕ)) → AreRenumbered f es (renumbered f es)
edge_renumbered f [] x = refl
edge_renumbered f (e ∷ es) x = go (same_symbol x e.0) (edge_renumbered f es x)
  where
    go :
        (b : Bool) → edge_at (renumbered f es) x ≡ option_map f (edge_at es x)
        → cond b (Some (f e.1)) (edge_at (renumbered f es) x) ≡ option_map f (cond b (Some e.1) (edge_at es x))
    go true r = refl
    go false r = r

-- so they are on the same symbols, of which none has two
pub once_renumbered : (f : ℕ → ℕ) (es : List (math.Symbol × ℕ)) → HasEdgesOnce es → HasEdgesOnce (renumbered f es)
once_renumbered f [] once = tt
once_renumbered f (e ∷ es) once = (edge_renumbered f es e.0 ∙ ap (option_map f) once.0, once_renumbered f es once.1)

-- one edge more is pushed behind those before it
pub push_renumbered :
    {T X : Type 0} (number : T → ℕ) (state : X → ℕ) (f : ℕ → ℕ) (ps qs : List (Symbol T × X)) (k : Symbol T) (w : X) (u : ℕ)
    (left rest whole : List (math.Symbol × ℕ)) → qs ≡ ps ++ (k, w) ∷ [] → state w ≡ f u → left ≡ (symbol_of number k, u) ∷ rest
    → edges_of number state ps ++ renumbered f left ≡ whole → edges_of number state qs ++ renumbered f rest ≡ whole
push_renumbered number state f ps qs k w u left rest whole pushed same next h =
    let all : edges_of number state qs ≡ edges_of number state ps ++ (symbol_of number k, state w) ∷ [] = rw pushed (map-append _ ps ((k, w) ∷ [])) in
    let before = rw next at h in
    rw (all, same, append_assoc) before

-- all are there where none is to come
pub none_more : (a left whole : List (math.Symbol × ℕ)) (f : ℕ → ℕ) → left ≡ [] → a ++ renumbered f left ≡ whole → a ≡ whole
none_more a left whole f e h = sym (append-nil a) ∙ (rw e at h)
