-- tables can be read off the graphs of grammars, and off their outlines
use Rattle.std.proofs.Common.{◌≡◌, ℕ, ◌<◌, Some, length, refl, sym, ◌∙◌, arith}
use Rattle.lrspec.specs.grammars.Grammar.{Rule, Token, Grammar, IsGrammar, token_count}
use Rattle.lrspec.specs.merging.Graph.{Graph, edge, IsGraphOf}
use Rattle.lrspec.proofs.grammars.BodyFacts.{symbol_at_dot}
use Rattle.lrgraphs.specs.Outlines.{IsOutlineOf}
use Rattle.lrrows.specs.ReadGraphs.{IsReadable}

-- an edge on a rule leads on from an item before it, and such a rule is one of the grammar
rule_within : (g : Grammar) (h : Graph) (s r u : ℕ) → IsGrammar g → IsGraphOf g h → edge h s (Rule r) ≡ Some u → r < length g.rule_names
rule_within g h s r u shape graph e =
    let (p, d, i, b) = (graph.gotos.edges s (Rule r)).0 (rw e refl) in
    (symbol_at_dot shape p d (Rule r) b).1

-- so does one on a token
token_within : (g : Grammar) (h : Graph) (s t u : ℕ) → IsGrammar g → IsGraphOf g h → edge h s (Token t) ≡ Some u → t < token_count g
token_within g h s t u shape graph e =
    let (p, d, i, b) = (graph.gotos.edges s (Token t)).0 (rw e refl) in
    omega (arith, symbol_at_dot shape p d (Token t) b)

pub readable_graph : (g : Grammar) (h : Graph) → IsGrammar g → IsGraphOf g h → IsReadable g h
readable_graph g h shape graph = record {
  closed = graph.closures.fit_closed;
  targets = λ s u x e. (graph.gotos.gotos s u x e).below;
  rules = λ s r u e. rule_within g h s r u shape graph e;
  tokens = λ s t u e. token_within g h s t u shape graph e;
}

pub readable_outline : (g : Grammar) (h k : Graph) → IsGrammar g → IsGraphOf g h → IsOutlineOf g h k → IsReadable g k
readable_outline g h k shape graph outline = record {
  closed = outline.fits;
  targets = λ s u x e. let below = (graph.gotos.gotos s u x (sym (outline.edges s x) ∙ e)).below in omega (arith, below, outline.length_is);
  rules = λ s r u e. rule_within g h s r u shape graph (sym (outline.edges s (Rule r)) ∙ e);
  tokens = λ s t u e. token_within g h s t u shape graph (sym (outline.edges s (Token t)) ∙ e);
}
