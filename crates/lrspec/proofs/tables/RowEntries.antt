-- the rows of a table name tokens and productions of its grammar, and of a state that is not there
-- they are empty; of a table for a grammar, `k`, these are told of `k.table_of`
use Rattle.std.proofs.Common.{◌≡◌, ℕ, ◌<◌, ◌≤◌, List, [], ◌∷◌, length, refl, sym, ◌∙◌, inl, arith}
use Rattle.std.specs.Prelude.{Contains}
use Rattle.lrspec.specs.grammars.Grammar.{Grammar, token_count}
use Rattle.lrspec.specs.merging.Graph.{Graph, closed_of}
use Rattle.lrspec.specs.tables.Table.{Table, IsTableOf}
use Rattle.lrspec.specs.tables.Rows.{AreAllWith, AreActingTokens, AreShiftedTokens, AreReducedBy, ReducesOnly}
use Rattle.lrspec.proofs.tables.CellFacts.{reduction_of_cell}
use Rattle.lrspec.proofs.tables.ConflictEntries.{reduction_below}
use Rattle.lrspec.proofs.tables.TableGrids.{errs_outside, acts_inside}

-- of what nothing has, there is an empty list
none_with : (P : ℕ → Type 0) (ns : List ℕ) → AreAllWith P ns → ((n : ℕ) → P n → ⊥) → ns ≡ []
none_with P [] all none = refl
none_with P (n ∷ ns) all none = absurd (none n ((all.members n).0 (0, omega arith, refl)))

module _ {g : Grammar} {h : Graph} {b : Table} (k : IsTableOf g h b) (s : ℕ) where
  -- each token on which a state does not err is one of the grammar
  pub acting_tokens_below : (ts : List ℕ) → AreActingTokens b s ts → (t : ℕ) → Contains ts t → t < token_count g
  acting_tokens_below ts all t i = (acts_inside k s t ((all.members t).0 i)).1

  -- each token that a state shifts is one of the grammar
  pub shifted_tokens_below : (ts : List ℕ) → AreShiftedTokens b s ts → (t : ℕ) → Contains ts t → t < token_count g
  shifted_tokens_below ts all t i = let (u, e) = (all.members t).0 i in (acts_inside k s t (λ z. cc)).1

  -- each production by which a state reduces is one of the grammar
  pub reduced_by_below : (ps : List ℕ) → AreReducedBy b s ps → (p : ℕ) → Contains ps p → p < length g.productions
  reduced_by_below ps all p i =
      let (t, e) = (all.members p).0 i in
      let (l, m) = acts_inside k s t (λ z. cc) in
      reduction_below g (closed_of h s) t p (reduction_of_cell g h s t p (sym (k.cells s t l m) ∙ e))

  -- a state that is not there acts on no token
  pub no_acting_tokens : (ts : List ℕ) → length h ≤ s → AreActingTokens b s ts → ts ≡ []
  no_acting_tokens ts l all = none_with _ ts all (λ t acts. acts (errs_outside k s t (inl l)))

  -- and shifts none
  pub no_shifted_tokens : (ts : List ℕ) → length h ≤ s → AreShiftedTokens b s ts → ts ≡ []
  no_shifted_tokens ts l all = none_with _ ts all (λ t (u, e). let f = errs_outside k s t (inl l) in cc)

  -- it reduces by no production
  pub no_reductions : (ps : List ℕ) → length h ≤ s → AreReducedBy b s ps → ps ≡ []
  no_reductions ps l all = none_with _ ps all (λ p (t, e). let f = errs_outside k s t (inl l) in cc)

  -- so it does not reduce only
  pub not_reduces_only : length h ≤ s → ReducesOnly b s → ⊥
  not_reduces_only l (p, (t, e), each) = let f = errs_outside k s t (inl l) in cc
