-- a state reduces by no two productions of one rule and one length
use Rattle.std.proofs.Common.{◌≡◌, ℕ, zero, suc, ◌<◌, ◌≤◌, List, [], ◌∷◌, length, refl, sym, ◌∙◌, arith}
use Rattle.std.specs.Prelude.{slice_get}
use Rattle.lrspec.specs.grammars.Grammar.{Production, Grammar, IsGrammar, body_of, rule_of, rule_or_zero, IsOfRule, IsProductionOf}
use Rattle.lrspec.specs.grammars.ItemSets.{HasItem, LooksIn}
use Rattle.lrspec.specs.merging.Graph.{Graph, closed_of, IsGraphOf}
use Rattle.lrspec.specs.tables.Table as table
use Rattle.lrspec.specs.tables.Table.{Table, cell_of, IsTableOf}
use Rattle.lrspec.specs.tables.Rows.{ReducesApart}
use Rattle.lrspec.proofs.grammars.CanonicalItemFacts.{sister_looks}
use Rattle.lrspec.proofs.grammars.Closures.{has_of_looks}
use Rattle.lrspec.proofs.merging.RootedCores.{rooted_closes, rooted_closes_looks}
use Rattle.lrspec.proofs.tables.CellFacts.{among_reductions, looks_from_reduce, least_from_reduce}
use Rattle.lrspec.proofs.tables.MachineStacks.{look_fits}
use Rattle.lrspec.proofs.tables.TableGrids.{acts_inside}

-- a place of a list of productions has one, of the rule that is told
of_rule_at : (ps : List Production) (p : ℕ) → p < length ps → IsOfRule (slice_get ps p) (rule_or_zero (slice_get ps p))
of_rule_at [] p l = absurd (omega (arith, l))
of_rule_at (x ∷ ps) zero l = refl
of_rule_at (x ∷ ps) (suc p) l = of_rule_at ps p (omega (arith, l))

module _ (g : Grammar) (h : Graph) (grammar : IsGrammar g) (m : IsGraphOf g h) where
  -- items of one rule with equal dots look at the same tokens in a closed state
  pub closed_sisters :
      (s p q d r t : ℕ) → s < length h → IsProductionOf g p r → IsProductionOf g q r → HasItem (closed_of h s) q d → LooksIn (closed_of h s) p d t
      → LooksIn (closed_of h s) q d t
  closed_sisters s p q d r t l i j has looks =
      let (ws, root) = m.hold.rooted s l in
      let closure = m.closures.closures s l in
      let (w, k, look) = (rooted_closes_looks root closure p d t).0 looks in
      let stands = (rooted_closes w root k closure q d).0 has in
      (rooted_closes_looks root closure q d t).1 (w, k, sister_looks grammar d q r look stands i j)

  -- of two reductions of one rule and one length, the one on its token is at most the other
  least_sister :
      (s t u p q : ℕ) → s < length h → cell_of g h s t ≡ table.Action.Reduce p → cell_of g h s u ≡ table.Action.Reduce q
      → rule_of g p ≡ rule_of g q → length (body_of g p) ≡ length (body_of g q) → p ≤ q
  least_sister s t u p q l e f rules lengths =
      let c = closed_of h s in
      let d = length (body_of g q) in
      let (n, a) = looks_from_reduce g h s t p e in
      let (o, b) = looks_from_reduce g h s u q f in
      let (below, token) = look_fits c p (length (body_of g p)) t (m.closures.fit_closed s l) a in
      let (other, same) = look_fits c q d u (m.closures.fit_closed s l) b in
      let one : IsProductionOf g p (rule_of g q) = rw rules at (of_rule_at g.productions p below) in
      let two : IsProductionOf g q (rule_of g q) = of_rule_at g.productions q other in
      let looks = closed_sisters s p q d (rule_of g q) t l one two (has_of_looks c q d u b) (rw lengths at a) in
      least_from_reduce g h s t p q e (among_reductions g c t q other o looks)

-- a state of a table reduces by no two productions of one rule and one length
pub reduces_apart : (g : Grammar) (h : Graph) (b : Table) → IsGrammar g → IsGraphOf g h → IsTableOf g h b → ReducesApart g b
reduces_apart g h b grammar m k s t u p q e f rules lengths =
    let (l, x) = acts_inside k s t (λ z. cc) in
    let (n, y) = acts_inside k s u (λ z. cc) in
    let i = sym (k.cells s t l x) ∙ e in
    let j = sym (k.cells s u l y) ∙ f in
    let one = least_sister g h grammar m s t u p q l i j rules lengths in
    let two = least_sister g h grammar m s u t q p l j i (sym rules) (sym lengths) in
    omega (arith, one, two)
