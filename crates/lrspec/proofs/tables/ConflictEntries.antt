-- the lists of conflicts of a table name tokens and productions of its grammar
use Rattle.std.proofs.Common.{ℕ, ◌<◌, not, ◌&&◌, length}
use Rattle.std.specs.Prelude.{◌==◌, Contains}
use Rattle.std.specs.List.{range_with_len}
use Rattle.lrspec.specs.grammars.Grammar.{Grammar, token_count}
use Rattle.lrspec.specs.grammars.ItemSets.{Items}
use Rattle.lrspec.specs.merging.Graph.{Graph, closed_of}
use Rattle.lrspec.specs.tables.Table.{Table, is_complete_at, reductions, reduce_reduce_of, shift_reduce_of, lists_of, IsTableOf}
use Rattle.lrspec.specs.tables.Conflicts.{AreEntriesOf}
use Rattle.lrspec.proofs.grammars.ListMembers.{Among, among_from_contains, below_from_range, from_filter}
use Rattle.lrspec.proofs.tables.ListedConflicts.{listed_pair, listed_mix}

-- a reduction is by a production of the grammar
pub reduction_below : (g : Grammar) (a : Items) (t p : ℕ) → Among p (reductions g a t) → p < length g.productions
reduction_below g a t p h =
    below_from_range (length g.productions) p
    (from_filter (λ q. not (q == g.start_production) && is_complete_at g a t q) p (range_with_len 0 (length g.productions)) h)

module _ (g : Grammar) (h : Graph) where
  -- what an entry of the list of reduce/reduce conflicts names
  pair_in_range :
      (t p q s : ℕ) → Contains (reduce_reduce_of g h) (t, p, q, s)
      → (t < token_count g) × (p < length g.productions) × (q < length g.productions)
  pair_in_range t p q s i =
      let pair = listed_pair g h t p q s (among_from_contains (t, p, q, s) (reduce_reduce_of g h) i) in
      (pair.token, reduction_below g (closed_of h s) t p pair.first, reduction_below g (closed_of h s) t q pair.second)

  -- what an entry of the list of shift/reduce conflicts names
  mix_in_range : (t p s : ℕ) → Contains (shift_reduce_of g h) (t, p, s) → (t < token_count g) × (p < length g.productions)
  mix_in_range t p s i =
      let mix = listed_mix g h t p s (among_from_contains (t, p, s) (shift_reduce_of g h) i) in
      (mix.token, reduction_below g (closed_of h s) t p mix.reduces)

  -- the entries of a table are in range
  pub entries_in_range : (b : Table) → IsTableOf g h b → AreEntriesOf g (lists_of b)
  entries_in_range b table = record {
    pairs = λ t p q s i. pair_in_range t p q s (rw table.reduce_reduce at i);
    mixes = λ t p s i. mix_in_range t p s (rw table.shift_reduce at i);
  }
