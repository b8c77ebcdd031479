-- the table that is read off an outline is that of the graph
use Rattle.std.proofs.Common.{◌≡◌, ℕ, List, length, Option, Some, None, Result, Ok, Err, refl, ap, subst, ◌∙◌, arith}
use Rattle.std.specs.Prelude.{◌==◌, ◌&&◌, not, IfOk, IfErr, filter}
use Rattle.std.specs.List.{flat_map, filter_map, range_with_len}
use Rattle.std.proofs.Math.Path.{fun_ext}
use Rattle.lrspec.specs.grammars.Grammar.{Rule, Token, Grammar, token_count, end_token, body_of}
use Rattle.lrspec.specs.grammars.ItemSets.{LooksIn}
use Rattle.lrspec.specs.merging.Graph.{Graph, closed_of, edge}
use Rattle.lrspec.specs.tables.Table.{Table, bit_or_none, reductions, accepts_at, cell_of, reduce_reduce_entry, reduce_reduce_of, shift_reduce_entry, shift_reduce_of, AcceptsAndReduces, IsGrid, IsTableOf}
use Rattle.lrspec.specs.tables.Conflicts.{IsLeastAcceptReduce}
use Rattle.lrgraphs.specs.Outlines.{IsOutlineOf}
use Rattle.lrgraphs.specs.declared.errors.BuildError.{BuildError}
use Rattle.lrgraphs.specs.declared.errors.BuildError.TheVariants as refusal
use Rattle.lrgraphs.specs.declared.statetable.StateTableErrorKind.{StateTableErrorKind}
use Rattle.lrgraphs.specs.declared.statetable.StateTableErrorKind.TheVariants.{AcceptReduceConflict}
use Rattle.lrcells.specs.Refusals.{TellsOne, IsTableRefusal}

-- what follows from a fact on an answer, and from one on an error
pub of_answer : {X E : Type 0} {P Q : X → Type 0} (r : Result X E) → ((x : X) → P x → Q x) → IfOk r P → IfOk r Q
of_answer (Ok x) f p = f x p
of_answer (Err e) f p = tt

pub of_error : {X E : Type 0} {P Q : E → Type 0} (r : Result X E) → ((e : E) → P e → Q e) → IfErr r P → IfErr r Q
of_error (Ok x) f p = tt
of_error (Err e) f p = f e p

-- the lists of conflicts, by the number of states, by what reduces, and by where edges on tokens lead
abbrev reduce_reduce_by : Grammar → ℕ → (ℕ → ℕ → List ℕ) → List (ℕ × ℕ × ℕ × ℕ)
reduce_reduce_by g n on =
    flat_map
    (λ s. flat_map (λ q. filter_map (λ t. reduce_reduce_entry (on s t) s q t) (range_with_len 0 (token_count g))) (range_with_len 0 (length g.productions)))
    (range_with_len 0 n)

abbrev shift_reduce_by : Grammar → ℕ → (ℕ → ℕ → List ℕ) → (ℕ → ℕ → Option ℕ) → List (ℕ × ℕ × ℕ)
shift_reduce_by g n on leads =
    flat_map
    (λ s. filter_map (λ t. shift_reduce_entry g (on s t) (leads s t) s t) (range_with_len 0 (token_count g)))
    (range_with_len 0 n)

-- the reductions of each state, and where its edges on tokens lead
abbrev reductions_of : Grammar → Graph → ℕ → ℕ → List ℕ
reductions_of g h s t = reductions g (closed_of h s) t

abbrev token_edges_of : Graph → ℕ → ℕ → Option ℕ
token_edges_of h s t = edge h s (Token t)

module _ (g : Grammar) (h k : Graph) (outline : IsOutlineOf g h k) where
  same_reductions : (s t : ℕ) → reductions g (closed_of k s) t ≡ reductions g (closed_of h s) t
  same_reductions s t =
      ap (λ f. filter f (range_with_len 0 (length g.productions)))
      (fun_ext (λ p. ap (λ o. not (p == g.start_production) && bit_or_none o t) (outline.completes s p)))

  same_accepts : (s t : ℕ) → accepts_at g (closed_of k s) t ≡ accepts_at g (closed_of h s) t
  same_accepts s t = ap (λ o. bit_or_none o t) (outline.completes s g.start_production)

  same_cell : (s t : ℕ) → cell_of g k s t ≡ cell_of g h s t
  same_cell s t = rw (same_reductions s t, same_accepts s t, outline.edges s (Token t)) refl

  all_reductions : reductions_of g k ≡ reductions_of g h
  all_reductions = fun_ext (λ s. fun_ext (same_reductions s))

  all_targets : token_edges_of k ≡ token_edges_of h
  all_targets = fun_ext (λ s. fun_ext (λ t. outline.edges s (Token t)))

  same_reduce_reduce : reduce_reduce_of g k ≡ reduce_reduce_of g h
  same_reduce_reduce =
      ap (λ n. reduce_reduce_by g n (reductions_of g k)) outline.length_is
      ∙ ap (reduce_reduce_by g (length h)) all_reductions

  same_shift_reduce : shift_reduce_of g k ≡ shift_reduce_of g h
  same_shift_reduce =
      ap (λ n. shift_reduce_by g n (reductions_of g k) (token_edges_of k)) outline.length_is
      ∙ (ap (λ on. shift_reduce_by g (length h) on (token_edges_of k)) all_reductions
      ∙ ap (shift_reduce_by g (length h) (reductions_of g h)) all_targets)

  -- a complete item looks at a token in the outline where it does in the graph
  looks_told : (s p t : ℕ) → LooksIn (closed_of k s) p (length (body_of g p)) t → LooksIn (closed_of h s) p (length (body_of g p)) t
  looks_told s p t looks = rw (outline.completes s p) at looks

  looks_back : (s p t : ℕ) → LooksIn (closed_of h s) p (length (body_of g p)) t → LooksIn (closed_of k s) p (length (body_of g p)) t
  looks_back s p t looks = rw (outline.completes s p) looks

  accept_told : (s p : ℕ) → AcceptsAndReduces g k s p → AcceptsAndReduces g h s p
  accept_told s p a = record {
    below = omega (arith, a.below, outline.length_is);
    differ = a.differ;
    accepts = looks_told s g.start_production (end_token g) a.accepts;
    reduces = looks_told s p (end_token g) a.reduces;
  }

  accept_back : (s p : ℕ) → AcceptsAndReduces g h s p → AcceptsAndReduces g k s p
  accept_back s p a = record {
    below = omega (arith, a.below, outline.length_is);
    differ = a.differ;
    accepts = looks_back s g.start_production (end_token g) a.accepts;
    reduces = looks_back s p (end_token g) a.reduces;
  }

  pub outlined_table : (b : Table) → IsTableOf g k b → IsTableOf g h b
  outlined_table b m = record {
    no_contest = λ s p a. m.no_contest s p (accept_back s p a);
    start = m.start;
    action_grid = subst (λ n. IsGrid n (token_count g) b.actions) outline.length_is m.action_grid;
    goto_grid = subst (λ n. IsGrid n (length g.rule_names) b.gotos) outline.length_is m.goto_grid;
    cells = λ s t l i. m.cells s t (omega (arith, l, outline.length_is)) i ∙ same_cell s t;
    gotos = λ s r l i. m.gotos s r (omega (arith, l, outline.length_is)) i ∙ outline.edges s (Rule r);
    reduce_reduce = m.reduce_reduce ∙ same_reduce_reduce;
    shift_reduce = m.shift_reduce ∙ same_shift_reduce;
  }

  least_told : (p : ℕ) → IsLeastAcceptReduce g k p → IsLeastAcceptReduce g h p
  least_told p least = record {
    some = (least.some.0, accept_told least.some.0 p least.some.1);
    least = λ s q a. least.least s q (accept_back s q a);
  }

  other_told : {T : Type 0} (number : T → ℕ) (kind : StateTableErrorKind T) → TellsOne number (IsLeastAcceptReduce g k) kind → TellsOne number (IsLeastAcceptReduce g h) kind
  other_told number (AcceptReduceConflict None) t = t
  other_told number (AcceptReduceConflict (Some p)) t = least_told (number p.0) t

  pub outlined_refusal : {T : Type 0} (number : T → ℕ) (most : ℕ) (e : BuildError T) → IsTableRefusal number most g k e → IsTableRefusal number most g h e
  outlined_refusal number most (refusal.Table e) (below, refused) = (
    omega (arith, below, outline.length_is),
    record { other = other_told number e.kind refused.other; at = refused.at },
  )
  outlined_refusal number most refusal.TooLarge large = omega (arith, large, outline.length_is)
  outlined_refusal number most refusal.Memory t = tt
