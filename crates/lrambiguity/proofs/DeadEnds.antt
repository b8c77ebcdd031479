-- moves that lead to no tree
use Rattle.std.proofs.Common.{◌≡◌, ℕ, zero, suc, ◌<◌, ◌≤◌, List, [], ◌∷◌, ◌++◌, length, take, drop, sym, ap, ◌∙◌, append_assoc, append-nil, arith}
use Rattle.std.proofs.lemmas.List.{take_all}
use Rattle.lrspec.specs.grammars.Grammar.{Symbol, Rule, Token, Grammar, IsGrammar, body_of}
use Rattle.lrspec.specs.grammars.Trees.{Tree, Forest, Bare, And, leaves, bare, and}
use Rattle.lrspec.specs.grammars.Candidates as candidate
use Rattle.lrspec.specs.grammars.Candidates.{IsCandidate}
use Rattle.lrspec.specs.tables.Machine.{next_token}
use Rattle.lrspec.proofs.grammars.BodyFacts.{symbol_at_dot}
use Rattle.lrspec.proofs.grammars.CanonicalItemFacts.{stands_of_looks, stands_production, stands_split}
use Rattle.lrconflicts.specs.Moves.{Move, Shift, Reduce, candidate_of, moves_of, IsTreeBy}
use Rattle.lrambiguity.specs.Replays.{Reads}
use Rattle.lrambiguity.proofs.ReadOnce.{read_once}
use Rattle.lrambiguity.proofs.NextMoves.{next_is_candidate}

-- a list behind which nothing is left
pub all_before : (text : List ℕ) (n : ℕ) → drop n text ≡ [] → length text ≤ n
all_before [] n e = omega arith
all_before (t ∷ text) zero e = absurd (cc)
all_before (t ∷ text) (suc n) e = let l : length text ≤ n = all_before text n e in omega arith

-- a token that is shifted is a named one
shifted_below : {g : Grammar} → IsGrammar g → {w : List Symbol} {t : ℕ} → IsCandidate g w t candidate.Candidate.Shift → t < length g.token_names
shifted_below shape {t = t} (candidate.IsCandidate.shift {p = p} {d = d} s b) = symbol_at_dot shape p d (Token t) b

-- the body of a production that is reduced comes last in the list
body_last :
    {g : Grammar} → IsGrammar g → {w : List Symbol} {t p : ℕ} → IsCandidate g w t (candidate.Candidate.Reduce p)
    → (p < g.start_production) × ((front : List Symbol) × (w ≡ front ++ body_of g p))
body_last {g} shape (candidate.IsCandidate.reduce {p = p} differ look) =
    let stands = stands_of_looks look in
    let split = stands_split (length (body_of g p)) stands in
    let all : take (length (body_of g p)) (body_of g p) ≡ body_of g p = take_all (length (body_of g p)) (body_of g p) (omega arith) in
    let below : p < length g.productions = stands_production shape stands in
    (omega (arith, below, shape.last, differ), (split.0, split.1 ∙ ap (λ l. split.0 ++ l) all))

module _ {g : Grammar} (shape : IsGrammar g) {ms : List Move} {used : List ℕ} {w : List Symbol} {ts : Forest} (reads : Reads g ms used w ts) (text left : List ℕ) (split : text ≡ used ++ left) where
  -- what goes on with a move has it as a candidate
  next_in : (m : Move) (rest : List Move) (t : Tree) → IsTreeBy g ((ms ++ m ∷ []) ++ rest) text t → IsCandidate g w (next_token g left) (candidate_of m)
  next_in m rest t a = next_is_candidate shape left t m rest a.of_start (a.leaves_are ∙ split) (a.moves_are ∙ append_assoc ms (m ∷ []) rest) reads

  -- behind the text nothing is shifted
  pub nothing_shifted : (rest : List Move) (t : Tree) → left ≡ [] → ¬ (IsTreeBy g ((ms ++ Shift ∷ []) ++ rest) text t)
  nothing_shifted rest t e a = let below : next_token g left < length g.token_names = shifted_below shape (next_in Shift rest t a) in omega (arith, rw e at below)

  -- a reduction has its body there
  pub body_there :
      (p : ℕ) (rest : List Move) (t : Tree) → IsTreeBy g ((ms ++ Reduce p ∷ []) ++ rest) text t
      → (p < g.start_production) × ((front : List Symbol) × (w ≡ front ++ body_of g p))
  body_there p rest t a = body_last shape (next_in (Reduce p) rest t a)

-- where the moves put together a tree of the text, that is what they have read
pub tree_read :
    {g : Grammar} {ms : List Move} {used text : List ℕ} {w : List Symbol} {ts : Forest} (left : List ℕ) (t : Tree) → Reads g ms used w ts → text ≡ used ++ left
    → IsTreeBy g ms text t → (w ≡ body_of g g.start_production) × (left ≡ [])
tree_read {g} {ms} {text = text} left t reads split a =
    let whole : Reads g ms text (Rule a.of_start.rule ∷ []) (And t Bare) = record {
      roots = and a.of_start.is_tree bare;
      used = append-nil (leaves t) ∙ a.leaves_are;
      made = append-nil (moves_of t) ∙ a.moves_are;
    } in
    let one = read_once reads whole (sym split ∙ sym (append-nil text)) in
    (one.0 ∙ sym a.of_start.start, one.1)
