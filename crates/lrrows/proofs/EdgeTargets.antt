-- targets of the edges of a state, by the places of their symbols
use Rattle.std.proofs.Common.{◌≡◌, ℕ, ◌≤◌, List, ◌∷◌, length, Option, None, eq-eqb, refl, arith}
use Rattle.std.proofs.lemmas.Option.{slice_get_past}
use Rattle.lrspec.specs.grammars.Grammar.{Symbol, Rule, Token}
use Rattle.lrspec.specs.merging.Graph.{Graph, edge, edge_at}
use Rattle.lrrows.proofs.CompleteTurns.{other}
use Rattle.lrrows.proofs.FilledPlaces.{AreFilling, IsFilled, filled_turn}

-- a state whose number is not below that of states is not there
pub not_there : (a b s m n : ℕ) → b ≤ a → a ≡ s → b ≡ m → m ≡ n → n ≤ s
not_there a b s m n l e f h = omega arith

-- there are no edges of a state that is not there
pub nowhere : (h : Graph) (s : ℕ) (x : Symbol) → length h ≤ s → edge h s x ≡ None
nowhere h s x l = rw (slice_get_past h s l) refl

module _ {X : Type 0} (number : X → ℕ) (n : ℕ) (edges rest : List (Symbol × ℕ)) (whole : ℕ → Option ℕ) where
  -- an edge on a rule leads to no place of a token
  pub token_passed :
      (os : List (Option X)) (r u : ℕ) → edges ≡ (Rule r, u) ∷ rest
      → AreFilling number os n (λ t. edge_at edges (Token t)) whole
      → AreFilling number os n (λ t. edge_at rest (Token t)) whole
  token_passed os r u e h = rw e at h

  -- the target of an edge on a token comes to the place of the token
  pub token_turn :
      (old new : List (Option X)) (k : ℕ) (x : X) → length old ≡ n → IsFilled old new k x → edges ≡ (Token k, number x) ∷ rest
      → AreFilling number old n (λ t. edge_at edges (Token t)) whole
      → AreFilling number new n (λ t. edge_at rest (Token t)) whole
  token_turn old new k x many filled e =
      filled_turn number old new n k x (λ t. edge_at edges (Token t)) (λ t. edge_at rest (Token t)) whole many filled
      (rw (e, eq-eqb k k refl) refl) (λ t d. rw (e, other t k d) refl)
