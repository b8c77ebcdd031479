-- an ambiguity by the numbers of a file
use Rattle.std.proofs.Common.{◌≡◌, ◌≢◌, ℕ, List, [], ◌∷◌, Some, map, refl, sym, ap, ◌∙◌}
use Rattle.std.specs.Prelude.{slice_get}
use Rattle.lrspec.specs.grammars.Grammar.{Grammar}
use Rattle.lrspec.specs.merging.Graph.{Graph}
use Rattle.lrgrammar.specs.Symbols.{symbol_of, number_of}
use Rattle.lrtable.specs.RunAnswers.{text_of}
use Rattle.lrtree.specs.StoredTrees.{tree_of}
use Rattle.lrconflicts.specs.Moves.{Move}
use Rattle.lrconflicts.specs.StoredMoves.{move_of, moves_stored}
use Rattle.lrconflicts.specs.declared.moves.Move as stored
use Rattle.lrconflicts.specs.declared.moves.Move.TheVariants as code
use Rattle.lrconflicts.specs.declared.conflicts.Conflict.{Conflict}
use Rattle.lrambiguity.specs.Partings.{BeginsWith}
use Rattle.lrreasons.specs.declared.ambiguities.ProvedAmbiguity.{ProvedAmbiguity}
use Rattle.lrreasons.specs.Ambiguities.{IsProofOf}
use Rattle.lrshown.specs.declared.ambiguities.Ambiguity.{Ambiguity}
use Rattle.lrshown.specs.Steps.{moves_by}
use Rattle.lrshown.specs.Ambiguities.{HasTwoTrees, HasTwoWays, PartAlike}
use Rattle.lrentries.specs.Ambiguities.{PartsAt}

-- its steps are the moves of one that is proved
pub record HasMovesOf (p : ProvedAmbiguity) (a : Ambiguity) : Type 0 where
  pub tokens : a.tokens.items ≡ text_of number_of p.ambiguity.text.items
  pub before : moves_by a.trees.before.items ≡ moves_stored number_of p.ambiguity.before.items
  pub one : moves_by a.trees.one.items ≡ moves_stored number_of p.ambiguity.one.items
  pub other : moves_by a.trees.other.items ≡ moves_stored number_of p.ambiguity.other.items
  pub form_before : moves_by a.form.before.items ≡ moves_stored number_of p.form.ways.before.items
  pub form_one : moves_by a.form.one.items ≡ moves_stored number_of p.form.ways.first.items
  pub form_other : moves_by a.form.other.items ≡ moves_stored number_of p.form.ways.second.items

-- a move is known by its number
same_move : (m n : stored.Move ℕ) → move_of number_of m ≡ move_of number_of n → m ≡ n
same_move code.Shift code.Shift e = refl
same_move code.Shift (code.Reduce q) e = absurd (cc)
same_move (code.Reduce p) code.Shift e = absurd (cc)
same_move (code.Reduce p) (code.Reduce q) e = let same : p.0 ≡ q.0 = cc in ap (λ x. code.Reduce (record { 0 = x })) same

-- where moves begin differently, so do their numbers
begin_differently : (ms ns : List (stored.Move ℕ)) → slice_get ms 0 ≢ slice_get ns 0 → slice_get (moves_stored number_of ms) 0 ≢ slice_get (moves_stored number_of ns) 0
begin_differently [] [] differ = λ same. differ refl
begin_differently [] (n ∷ ns) differ = λ same. cc
begin_differently (m ∷ ms) [] differ = λ same. cc
begin_differently (m ∷ ms) (n ∷ ns) differ = λ same.
    let equal : move_of number_of m ≡ move_of number_of n = cc in
    differ (ap Some (same_move m n equal))

-- moves that begin with one move have the same first move
begin_alike : {ms ns : List Move} {m : Move} → BeginsWith ms m → BeginsWith ns m → slice_get ms 0 ≡ slice_get ns 0
begin_alike (rest, is) (others, are) = ap (λ l. slice_get l 0) is ∙ sym (ap (λ l. slice_get l 0) are)

module _ (g : Grammar) (h : Graph) (c : Conflict ℕ) (p : ProvedAmbiguity) (a : Ambiguity) (proof : IsProofOf g h c p) (has : HasMovesOf p a) where
  -- the form is derived in the same two ways
  abbrev two_ways : HasTwoWays g a.form
  two_ways = record {
    rule = p.form.rule.0;
    symbols = map (symbol_of number_of) p.form.symbols.items;
    first = rw (has.form_before, has.form_one) proof.form.first;
    second = rw (has.form_before, has.form_other) proof.form.second;
    differ = rw (has.form_one, has.form_other) (begin_differently p.form.ways.first.items p.form.ways.second.items proof.form.part);
  }

  -- and these part by the moves by which the trees part
  part_alike : PartAlike a.form a.trees
  part_alike = record {
    one = rw (has.form_one, has.one) (begin_alike proof.form_parts.first proof.parts.first);
    other = rw (has.form_other, has.other) (begin_alike proof.form_parts.second proof.parts.second);
  }

  -- the text has both trees of that
  pub numbered : tree_of number_of p.ambiguity.one_tree ≢ tree_of number_of p.ambiguity.other_tree → HasTwoTrees g a
  numbered differ = record {
    one = tree_of number_of p.ambiguity.one_tree;
    other = tree_of number_of p.ambiguity.other_tree;
    first = rw (has.before, has.one, has.tokens) proof.trees.first;
    second = rw (has.before, has.other, has.tokens) proof.trees.second;
    differ = differ;
    drawn = two_ways;
    alike = part_alike;
    part = rw (has.form_before, has.form_one, has.form_other, has.before, has.one, has.other) proof.part;
  }

  -- and they part where those of that do
  pub parts : PartsAt g h c.state.0 c.token.0 a
  parts =
      let (rest, first) = proof.parts.first in
      let (behind, second) = proof.parts.second in
      record {
        one = move_of number_of p.contest.one;
        other = move_of number_of p.contest.other;
        parts = rw (has.tokens, has.before, has.one, has.other, ← proof.state, ← proof.token) proof.parts;
        differ = λ same. begin_differently p.ambiguity.one.items p.ambiguity.other.items proof.trees.part
            (ap (λ ms. slice_get ms 0) first ∙ ap Some same ∙ sym (ap (λ ms. slice_get ms 0) second));
      }
