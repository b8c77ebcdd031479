-- what a table lists is what its graph has
use Rattle.std.proofs.Common.{◌≡◌, ℕ, List, ap, ◌∙◌}
use Rattle.lrspec.specs.grammars.Grammar.{Grammar}
use Rattle.lrspec.specs.merging.Graph.{Graph}
use Rattle.lrspec.specs.tables.Table.{Table, Lists, IsTableOf, lists_of, reduce_reduce_of}
use Rattle.lrconflicts.specs.Entries.{lists_in}

-- both lists
abbrev both : List (ℕ × ℕ × ℕ × ℕ) → List (ℕ × ℕ × ℕ) → Lists
both pairs mixes = record { reduce_reduce = pairs; shift_reduce = mixes }

pub lists_same : (g : Grammar) (h : Graph) (b : Table) → IsTableOf g h b → lists_of b ≡ lists_in g h
lists_same g h b t = ap (λ pairs. both pairs b.shift_reduce) t.reduce_reduce ∙ ap (λ mixes. both (reduce_reduce_of g h) mixes) t.shift_reduce
