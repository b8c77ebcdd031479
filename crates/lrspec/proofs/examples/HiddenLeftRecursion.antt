-- hidden left recursion: items through a nullable rule, and a contested token
use Rattle.std.proofs.Common.{List, [], ◌∷◌, refl, arith}
use Rattle.lrspec.specs.grammars.Grammar.{Symbol, Rule, Token, IsGrammar}
use Rattle.lrspec.specs.grammars.First as first
use Rattle.lrspec.specs.grammars.First.{Nullable, AllNullable, Begins}
use Rattle.lrspec.specs.grammars.CanonicalItems as item
use Rattle.lrspec.specs.grammars.CanonicalItems.{Stands, Looks}
use Rattle.lrspec.specs.grammars.Candidates as candidate
use Rattle.lrspec.specs.grammars.Candidates.{Candidate, IsCandidate, IsContested}
use Rattle.lrspec.specs.examples.ExampleGrammars.{hidden_left_recursion}
use Rattle.lrspec.proofs.examples.GrammarsByComputing.{grammar_from_test}

-- hidden left recursion: `S: A S 'x' | B 'y'; A: ; B: ;`
pub hidden_grammar : IsGrammar hidden_left_recursion
hidden_grammar = grammar_from_test hidden_left_recursion 1 refl refl refl refl refl refl

-- A is nullable, and so is B
pub hidden_nullable : Nullable hidden_left_recursion 2 × Nullable hidden_left_recursion 3
hidden_nullable = (first.Nullable.by_body 2 refl first.AllNullable.none, first.Nullable.by_body 3 refl first.AllNullable.none)

-- so `y` begins `S 'x'`, behind a B that is empty
pub hidden_begins : Begins hidden_left_recursion (Rule 1 ∷ Token 0 ∷ []) 1
hidden_begins = first.Begins.inside 1 refl (first.Begins.past hidden_nullable.1 first.Begins.here)

-- where both bodies of S stand, `A: .` looks at `y`, and so does `B: .`
pub hidden_look :
    {w : List Symbol} → Stands hidden_left_recursion w 0 0 → Stands hidden_left_recursion w 1 0
    → Looks hidden_left_recursion w 2 0 1 × Looks hidden_left_recursion w 3 0 1
hidden_look long short = (item.Looks.expand long refl refl hidden_begins, item.Looks.expand short refl refl first.Begins.here)

-- so there `y` is contested, before it is read
pub hidden_contested_where :
    {w : List Symbol} → Stands hidden_left_recursion w 0 0 → Stands hidden_left_recursion w 1 0 → IsContested hidden_left_recursion w 1
hidden_contested_where long short = record {
  one = candidate.Candidate.Reduce 2;
  other = candidate.Candidate.Reduce 3;
  differ = λ e. cc;
  is_one = candidate.IsCandidate.reduce (λ e. omega (arith, e)) (hidden_look long short).0;
  is_other = candidate.IsCandidate.reduce (λ e. omega (arith, e)) (hidden_look long short).1;
}

-- as after the empty list
pub hidden_contested : IsContested hidden_left_recursion [] 1
hidden_contested = hidden_contested_where (item.Stands.expand item.Stands.begin refl refl) (item.Stands.expand item.Stands.begin refl refl)

-- and after an A, behind which S begins anew
pub hidden_contested_again : IsContested hidden_left_recursion (Rule 2 ∷ []) 1
hidden_contested_again =
    let behind : Stands hidden_left_recursion (Rule 2 ∷ []) 0 1 = item.Stands.advance (item.Stands.expand item.Stands.begin refl refl) refl in
    hidden_contested_where (item.Stands.expand behind refl refl) (item.Stands.expand behind refl refl)
