-- going over the edges of a map: each is the one that is found on its symbol
use Rattle.std.proofs.Common.{◌≡◌, ℕ, suc, ◌<◌, Ordering, List, [], ◌∷◌, length, get_or, Option, Some, sym, ap, ◌∙◌, arith}
use Rattle.std.specs.Prelude.{option_map}
use Rattle.std.specs.Map.{lookup}
use Rattle.std.specs.BTreeMap.{is_at}
use Rattle.lrspec.specs.grammars.Grammar as math
use Rattle.lrspec.specs.merging.Graph.{edge_at}
use Rattle.lrgrammar.specs.declared.idx.StIdx.{StIdx}
use Rattle.lrgrammar.specs.declared.idx.Symbol.{Symbol}
use Rattle.lrgrammar.specs.Symbols.{symbol_of}
use Rattle.lrgrammar.specs.SymbolLaws.{symbol_cmp}
use Rattle.lrgraphs.specs.GraphOf.{edges_of}
use Rattle.lrgraphs.proofs.EdgeFacts.{edge_here}

module _ {T : Type 0} (number : T → ℕ) where
  abbrev Edge : Type 0
  Edge = Symbol T × StIdx T

  -- each edge of the list is the one of the state on its symbol
  abbrev pub FoundAll : (math.Symbol → Option ℕ) → List Edge → Type 0
  FoundAll whole [] = Unit {0}
  FoundAll whole (e ∷ es) = (whole (symbol_of number e.0) ≡ Some (number e.1.0)) × FoundAll whole es

  pub found_all :
      (cmp : Symbol T → Symbol T → Ordering) → ((a b : Symbol T) → cmp a b ≡ symbol_cmp number a b) → (es rest : List Edge) (whole : List (math.Symbol × ℕ))
      → edges_of number (λ (u : StIdx T). number u.0) es ≡ whole
      → ((k : ℕ) (d : Edge) → k < length rest → lookup (is_at (cmp (get_or rest k d).0)) es ≡ Some (get_or rest k d).1)
      → FoundAll (λ v. edge_at whole v) rest
  found_all cmp order es [] whole same h = tt
  found_all cmp order es (e ∷ rest) whole same h = (
    ap (λ (w : List (math.Symbol × ℕ)). edge_at w (symbol_of number e.0)) (sym same) ∙ sym (edge_here number (λ (u : StIdx T). number u.0) cmp order es e.0)
        ∙ ap (option_map (λ (u : StIdx T). number u.0)) (h 0 e (omega arith)),
    found_all cmp order es rest whole same (λ k d l. h (suc k) d (omega arith)),
  )
