-- a cell with one contender does what that one says
use Rattle.std.proofs.Common.{◌≡◌, ◌≢◌, ℕ, ◌<◌, Bool, true, false, List, [], ◌∷◌, Option, None, Some, length, refl, ap, inl, ⊎_elim}
use Rattle.std.proofs.lemmas.Bool.{cases_eq}
use Rattle.lrspec.specs.grammars.Grammar.{Token, Grammar, body_of}
use Rattle.lrspec.specs.grammars.ItemSets.{LooksIn}
use Rattle.lrspec.proofs.grammars.ListMembers.{Among}
use Rattle.lrspec.specs.grammars.Candidates as candidate
use Rattle.lrspec.specs.merging.Graph.{Graph, closed_of, edge}
use Rattle.lrspec.specs.tables.Table as table
use Rattle.lrspec.specs.tables.Table.{reductions, IsContender, IsCrowded, cell_by, cell_of, accepts_at}
use Rattle.lrspec.proofs.tables.CellFacts.{test_from_looks_in, among_reductions, reduction_looks}

-- a cell without a reduction shifts where there is an edge
shift_alone :
    (g : Grammar) (t : ℕ) (ps : List ℕ) (o : Option ℕ) (b : Bool) (u : ℕ) → o ≡ Some u → ((p : ℕ) → Among p ps → ⊥)
    → cell_by g t ps o b ≡ table.Action.Shift u
shift_alone g t [] None b u e n = cc
shift_alone g t [] (Some v) b u e n = cc
shift_alone g t (p ∷ ps) o b u e n = absurd (n p (inl refl))

-- a cell with one reduction and no edge reduces by it
reduce_alone :
    (g : Grammar) (t : ℕ) (ps : List ℕ) (o : Option ℕ) (b : Bool) (p : ℕ) → Among p ps → ((q : ℕ) → Among q ps → q ≡ p) → ((u : ℕ) → o ≡ Some u → ⊥)
    → cell_by g t ps o b ≡ table.Action.Reduce p
reduce_alone g t [] o b p i only n = absurd i
reduce_alone g t (q ∷ ps) None b p i only n = ap (λ r. table.Action.Reduce r) (only q (inl refl))
reduce_alone g t (q ∷ ps) (Some v) b p i only n = absurd (n v refl)

-- a cell with neither accepts where that is told
accept_alone :
    (g : Grammar) (t : ℕ) (ps : List ℕ) (o : Option ℕ) (b : Bool) → ((p : ℕ) → Among p ps → ⊥) → ((u : ℕ) → o ≡ Some u → ⊥) → b ≡ true
    → cell_by g t ps o b ≡ table.Action.Accept
accept_alone g t [] None true n m e = refl
accept_alone g t [] None false n m e = cc
accept_alone g t [] (Some v) b n m e = absurd (m v refl)
accept_alone g t (p ∷ ps) o b n m e = absurd (n p (inl refl))

-- a reduction contends
contends : (g : Grammar) (h : Graph) (s t p : ℕ) → Among p (reductions g (closed_of h s) t) → IsContender g h s t (candidate.Candidate.Reduce p)
contends g h s t p i = let k = reduction_looks g (closed_of h s) t p i in table.IsContender.reduce k.0 k.1

-- two contenders that differ crowd the cell
pub crowd :
    {g : Grammar} {h : Graph} {s t : ℕ} {one other : candidate.Candidate} → one ≢ other → IsContender g h s t one → IsContender g h s t other
    → IsCrowded g h s t
crowd {one = one} {other = other} n i j = record { one = one; other = other; differ = n; is_one = i; is_other = j }

-- a cell that isn't crowded shifts where there is an edge
pub only_shift :
    (g : Grammar) (h : Graph) (s t u : ℕ) → (IsCrowded g h s t → ⊥) → edge h s (Token t) ≡ Some u → cell_of g h s t ≡ table.Action.Shift u
only_shift g h s t u alone e =
    shift_alone g t (reductions g (closed_of h s) t) (edge h s (Token t)) (accepts_at g (closed_of h s) t) u e
    (λ p i. alone (crowd (λ d. cc) (table.IsContender.shift e) (contends g h s t p i)))

-- a cell that isn't crowded reduces by a complete production other than the start production that looks at the token
pub only_reduce :
    (g : Grammar) (h : Graph) (s t p : ℕ) → (IsCrowded g h s t → ⊥) → p < length g.productions → p ≢ g.start_production
    → LooksIn (closed_of h s) p (length (body_of g p)) t → cell_of g h s t ≡ table.Action.Reduce p
only_reduce g h s t p alone l n k =
    reduce_alone g t (reductions g (closed_of h s) t) (edge h s (Token t)) (accepts_at g (closed_of h s) t) p
    (among_reductions g (closed_of h s) t p l n k)
    (λ q i. ⊎_elim (λ (e : q ≡ p). e)
    (λ (d : q ≢ p). absurd (alone (crowd (λ e. d (cc)) (contends g h s t q i) (table.IsContender.reduce n k)))) (cases_eq q p))
    (λ u e. alone (crowd (λ d. cc) (table.IsContender.shift e) (table.IsContender.reduce n k)))

-- a cell that isn't crowded accepts where the complete start production looks at the token
pub only_accept :
    (g : Grammar) (h : Graph) (s t : ℕ) → (IsCrowded g h s t → ⊥)
    → LooksIn (closed_of h s) g.start_production (length (body_of g g.start_production)) t → cell_of g h s t ≡ table.Action.Accept
only_accept g h s t alone k =
    accept_alone g t (reductions g (closed_of h s) t) (edge h s (Token t)) (accepts_at g (closed_of h s) t)
    (λ p i. alone (crowd (λ d. cc) (table.IsContender.accept k) (contends g h s t p i)))
    (λ u e. alone (crowd (λ d. cc) (table.IsContender.accept k) (table.IsContender.shift e)))
    (test_from_looks_in (closed_of h s) g.start_production (length (body_of g g.start_production)) t k)
