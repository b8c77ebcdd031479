-- cells whose refused moves are kept, one after another
use Rattle.std.proofs.Common.{◌≡◌, ℕ, ◌+◌, ◌<◌, List, length, get_or, take, refl, subst}
use Rattle.std.specs.Prelude.{All}
use Rattle.std.proofs.lemmas.List.{get_or_default}
use Rattle.lrspec.specs.grammars.Grammar.{Grammar, IsGrammar}
use Rattle.lrspec.specs.merging.Graph.{Graph, IsGraphOf}
use Rattle.lrspec.specs.tables.Table as table
use Rattle.lrspec.specs.tables.Table.{Table, IsContender, IsTableOf}
use Rattle.lrconflicts.specs.Moves.{Move, Reduce, candidate_of}
use Rattle.lrlosses.specs.declared.exactness.Exactness.{Exactness}
use Rattle.lrlosses.specs.declared.exactness.Exactness.TheVariants as known
use Rattle.lrkept.specs.Kept.{IsLoser, AreKept, AreKeptButAtErrors}
use Rattle.lrkept.specs.Keeping.{IsKeptAs, IsKnownOf, AreKnownOf, IsCellKeptAs, IsStateKeptAs, IsKnownOfBoth}
use Rattle.lrdecided.specs.Contenders.{HasContenders}
use Rattle.lrdecided.proofs.DecidedCells.{next_below}
use Rattle.lrdecided.proofs.SameNodes.{all_more}
use Rattle.lrkept.proofs.Losers.{token_contended}

-- the reduction by the start production doesn't contend
pub by_start : (e : Exactness) (g : Grammar) (h : Graph) (b : Table) (s t : ℕ) (m : Move) → m ≡ Reduce g.start_production → IsKnownOf e g h b s t m
by_start e g h b s t m is contends = absurd (differs (subst (λ n. IsContender g h s t (candidate_of n)) is contends))
  where
    differs : IsContender g h s t (candidate_of (Reduce g.start_production)) → ⊥
    differs (table.IsContender.reduce differ looks) = differ refl

module _ (one other both : Exactness) (k : IsKnownOfBoth one other both) (g : Grammar) (h : Graph) (b : Table) (s : ℕ) where
  -- a turn for each move
  pub move_more :
      {X : Type 0} (t : ℕ) (f : X → Move) (xs : List X) (i : ℕ) (d : X) → i < length xs → All (λ z. IsKnownOf one g h b s t (f z)) (take i xs)
      → IsKnownOf other g h b s t (f (get_or xs i d)) → All (λ z. IsKnownOf both g h b s t (f z)) (take (i + 1) xs)
  move_more t f xs i d l before here =
      all_more f (IsKnownOf both g h b s t) xs i (get_or xs i d) l (get_or_default xs i d (get_or xs i d) l)
      (λ n e below contends. k.of_one g h b s t (f (get_or (take i xs) n e)) (before n e below contends))
      (λ contends. k.of_other g h b s t (f (get_or xs i d)) (here contends))

  -- a turn for each token
  pub token_more :
      (n : ℕ) (moves : List Move) → HasContenders g h s n moves → ((t : ℕ) → t < n → IsCellKeptAs one g h b s t) → AreKnownOf other g h b s n moves → (t : ℕ)
      → t < n + 1 → IsCellKeptAs both g h b s t
  token_more n moves has before here =
      next_below (IsCellKeptAs both g h b s) n (λ t l m i. k.of_one g h b s t m (before t l m i)) (λ m i. k.of_other g h b s n m (here m (has m i) i))

-- a turn for each state
pub state_more :
    (one other both : Exactness) → IsKnownOfBoth one other both → (g : Grammar) (h : Graph) (b : Table) (n : ℕ) → ((s : ℕ) → s < n → IsStateKeptAs one g h b s)
    → IsStateKeptAs other g h b n → (s : ℕ) → s < n + 1 → IsStateKeptAs both g h b s
state_more one other both k g h b n before here =
    next_below (IsStateKeptAs both g h b) n (λ s l t below m i. k.of_one g h b s t m (before s l t below m i)) (λ t below m i. k.of_other g h b n t m (here t below m i))

-- so of a whole table
module _ (g : Grammar) (h : Graph) (b : Table) (m : IsGrammar g) (k : IsGraphOf g h) (o : IsTableOf g h b) (e : Exactness) (all : (s : ℕ) → s < length h → IsStateKeptAs e g h b s) where
  known_of : (s t : ℕ) (l : Move) → s < length h → IsLoser g h b s t l → IsKeptAs e g h b s t l
  known_of s t l below loser = all s below t (token_contended g h b m k o s t l below loser.contends) l loser.contends

  pub all_kept : e ≡ known.Exact → AreKept g h b
  all_kept is s t l below loser = subst (λ x. IsKeptAs x g h b s t l) is (known_of s t l below loser)

  pub all_kept_but_at_errors : e ≡ known.ButAtErrors → AreKeptButAtErrors g h b
  all_kept_but_at_errors is s t l below loser = subst (λ x. IsKeptAs x g h b s t l) is (known_of s t l below loser)
