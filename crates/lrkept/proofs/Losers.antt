-- what cells don't take, and crowded cells
use Rattle.std.proofs.Common.{◌≡◌, ◌≢◌, ℕ, ◌<◌, Bool, List, [], ◌∷◌, ◌⊎◌, inl, inr, length, Option, None, Some, refl, sym, ◌∙◌, subst, arith}
use Rattle.lrspec.specs.grammars.Grammar.{Token, Grammar, IsGrammar, body_of, token_count}
use Rattle.lrspec.specs.merging.Graph.{Graph, closed_of, edge, IsGraphOf}
use Rattle.lrspec.specs.tables.Table as table
use Rattle.lrspec.specs.tables.Table.{Table, Action, reductions, accepts_at, cell_by, cell_of, IsContender, IsCrowded, IsTableOf, action_of}
use Rattle.lrspec.proofs.grammars.BodyFacts.{symbol_at_dot}
use Rattle.lrspec.proofs.grammars.ListMembers.{Among}
use Rattle.lrspec.proofs.tables.CellFacts.{among_reductions, reduction_looks}
use Rattle.lrspec.proofs.tables.MachineStacks.{look_fits}
use Rattle.lrspec.proofs.tables.UncrowdedCells.{crowd}
use Rattle.lrconflicts.specs.Moves.{Move, Shift, Reduce, candidate_of}
use Rattle.lrlosses.specs.Losses.{Takes}
use Rattle.lrkept.specs.Choices.{TakesAll}

-- a cell with an edge and a reduction is crowded
edge_and_reduction : {g : Grammar} {h : Graph} {s t u : ℕ} (p : ℕ) → edge h s (Token t) ≡ Some u → Among p (reductions g (closed_of h s) t) → IsCrowded g h s t
edge_and_reduction {g} {h} {s} {t} p there among =
    let (differ, looks) = reduction_looks g (closed_of h s) t p among in
    crowd (λ e. cc) (table.IsContender.shift there) (table.IsContender.reduce differ looks)

module _ (g : Grammar) (h : Graph) (b : Table) (m : IsGrammar g) (k : IsGraphOf g h) (o : IsTableOf g h b) where
  -- moves contend at tokens of the grammar alone
  pub token_contended : (s t : ℕ) (l : Move) → s < length h → IsContender g h s t (candidate_of l) → t < token_count g
  token_contended s t Shift below (table.IsContender.shift e) =
      let (p, d, i, before) = (k.gotos.edges s (Token t)).0 (rw e refl) in
      omega (arith, symbol_at_dot m p d (Token t) before)
  token_contended s t (Reduce p) below (table.IsContender.reduce differ looks) =
      (look_fits (closed_of h s) p (length (body_of g p)) t (k.closures.fit_closed s below) looks).1

  -- where cells take all that contends for them, they take each move that does
  pub all_taken : TakesAll g h b → (s t : ℕ) (l : Move) → s < length h → IsContender g h s t (candidate_of l) → Takes (action_of b s t) l
  all_taken all s t Shift below (table.IsContender.shift {u = u} e) =
      let within = token_contended s t Shift below (table.IsContender.shift e) in (all s below t within).0 u e
  all_taken all s t (Reduce p) below (table.IsContender.reduce differ looks) =
      let within = token_contended s t (Reduce p) below (table.IsContender.reduce differ looks) in (all s below t within).1 p differ looks

  -- a cell for which a move contends is an error only where another does
  error_by :
      (s t : ℕ) (l : Move) (ps : List ℕ) (e : Option ℕ) (accepts : Bool) → s < length h → reductions g (closed_of h s) t ≡ ps → edge h s (Token t) ≡ e
      → cell_by g t ps e accepts ≡ table.Action.Error → IsContender g h s t (candidate_of l) → IsCrowded g h s t
  error_by s t Shift [] None accepts below is none error (table.IsContender.shift {u = u} there) = absurd (cc)
  error_by s t (Reduce p) [] None accepts below is none error (table.IsContender.reduce differ looks) =
      let fits = look_fits (closed_of h s) p (length (body_of g p)) t (k.closures.fit_closed s below) looks in
      absurd (subst (Among p) is (among_reductions g (closed_of h s) t p fits.0 differ looks))
  error_by s t l [] (Some u) accepts below is there error c = absurd (cc)
  error_by s t l (p ∷ ps) None accepts below is none error c = absurd (cc)
  error_by s t l (p ∷ ps) (Some u) accepts below is there error c = edge_and_reduction p there (subst (Among p) (sym is) (inl refl))

  pub error_crowded :
      (s t : ℕ) (l : Move) → s < length h → action_of b s t ≡ table.Action.Error → IsContender g h s t (candidate_of l) → IsCrowded g h s t
  error_crowded s t l below error c =
      let cell : cell_of g h s t ≡ table.Action.Error = sym (o.cells s t below (token_contended s t l below c)) ∙ error in
      error_by s t l (reductions g (closed_of h s) t) (edge h s (Token t)) (accepts_at g (closed_of h s) t) below refl refl cell c

-- a cell is an error or not
pub error_or_not : (a : Action) → (a ≡ table.Action.Error) ⊎ (a ≢ table.Action.Error)
error_or_not (table.Action.Shift u) = inr (λ e. cc)
error_or_not (table.Action.Reduce p) = inr (λ e. cc)
error_or_not table.Action.Accept = inr (λ e. cc)
error_or_not table.Action.Error = inl refl
