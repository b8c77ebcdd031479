-- a machine from which no moves read what is left of a text
use Rattle.std.proofs.Common.{◌≡◌, ℕ, List, ◌++◌, take, drop, take-append-drop, refl, sym, ◌∙◌, subst}
use Rattle.lrgrammar.specs.declared.idx.TIdx.{TIdx}
use Rattle.lrspec.specs.grammars.Grammar.{Grammar, IsGrammar}
use Rattle.lrspec.specs.grammars.Trees.{forest_leaves}
use Rattle.lrspec.specs.merging.Graph.{Graph, IsGraphOf}
use Rattle.lrspec.specs.tables.Table.{Table, IsTableOf}
use Rattle.lrspec.specs.tables.Machine.{Config}
use Rattle.lrspec.proofs.tables.MachineStacks.{IsStack}
use Rattle.lrtable.specs.RunAnswers.{text_of}
use Rattle.lrconflicts.specs.Moves.{moves_of, IsTreeBy}
use Rattle.lrlosses.proofs.Rejections.{stands_where_reached}
use Rattle.lrlosses.proofs.Sentences.{sentence_named}
use Rattle.lrlosses.proofs.WholeTrees.{along_reads}
use Rattle.lrambiguity.specs.Finishing.{Finishes}
use Rattle.lrambiguity.proofs.Finishing.{way_of_tree}
use Rattle.lrgrammar.specs.Symbols.{number_of}
use Rattle.lrcharts.specs.declared.machine.Machine.{Machine}
use Rattle.lrcharts.specs.Machines.{config_of, HasCome}
use Rattle.lrcharts.specs.Ways.{reading, HasNoTreeLeft, IsDeadEnd}

-- where the machine is at a dead end, no tree of the text is left
pub no_tree_left :
    (g : Grammar) (h : Graph) (b : Table) (shape : IsGrammar g) (k : IsGraphOf g h) (o : IsTableOf g h b) (text : List (TIdx ℕ)) (n : ℕ) (m : Machine)
    → HasCome g b text n m → IsDeadEnd (reading g h text) m → HasNoTreeLeft g b (text_of number_of text) n
no_tree_left g h b shape k o text n m come dead t tree along =
    let s = tree.0 in
    let ms = moves_of t in
    let (c, r, a) = along_reads g h b shape k o (text_of number_of text) (sentence_named shape s) ms n along in
    let same : c ≡ config_of m text come.reductions = sym (stands_where_reached r) ∙ stands_where_reached come.reached in
    let whole : IsTreeBy g ms (text_of number_of text) t = record {
      of_start = record { rule = s.rule; start = s.start; is_tree = rw tree.1 at s.is_tree };
      leaves_are = rw tree.1 at s.leaves_are;
      moves_are = refl;
    } in
    let split : IsTreeBy g (take n ms ++ drop n ms) (forest_leaves a.trees ++ c.left) t = rw (take-append-drop n ms, a.holds.used) whole in
    let way : Finishes g a.holds.symbols (drop n ms) c.left =
    way_of_tree shape (drop n ms) c.left t (record { roots = a.holds.roots; used = refl; made = a.made }) split in
    dead (drop n ms) (record {
      symbols = a.holds.symbols;
      is_stack = subst (λ (d : Config). IsStack h a.holds.symbols d.stack) same a.holds.is_stack;
      finishes = subst (λ (d : Config). Finishes g a.holds.symbols (drop n ms) d.left) same way;
    })
