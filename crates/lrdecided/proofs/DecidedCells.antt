-- cells in which each two contenders are decided
use Rattle.std.proofs.Common.{◌≡◌, ℕ, ◌+◌, ◌<◌, ◌≤◌, Bool, false, IsTrue, List, [], ◌∷◌, ◌++◌, length, map, get_or, take, Option, None, Some, refl, sym, subst, ap, ◌∙◌, inl, inr, arith}
use Rattle.std.specs.Prelude.{slice_index_or}
use Rattle.std.specs.Option.{IsSomeAnd}
use Rattle.std.proofs.lemmas.Bool.{cases_eq}
use Rattle.std.proofs.lemmas.List.{map_more, take_all}
use Rattle.std.proofs.lemmas.List.Elements.{Contains-push_cases}
use Rattle.lrspec.specs.grammars.Grammar.{Token, Grammar, IsGrammar, token_count, body_of}
use Rattle.lrspec.specs.grammars.ItemSets.{Items, item_at, LooksIn, Fits}
use Rattle.lrspec.specs.merging.Graph.{Graph, closed_of, IsGraphOf}
use Rattle.lrspec.specs.tables.Table as table
use Rattle.lrspec.specs.tables.Table.{IsContender}
use Rattle.lrspec.proofs.grammars.BodyFacts.{symbol_at_dot}
use Rattle.lrclosing.proofs.MarkedProductions.{below_of_bit}
use Rattle.lrconflicts.specs.Moves.{Move, Shift, Reduce, candidate_of}
use Rattle.lrdecided.specs.Contenders.{HasContenders, IsDecidedAgainst, ArePairsDecided, IsCellDecided, IsStateDecided}
use Rattle.lrdecided.specs.Decided.{IsDecided, AreDecided}
use Rattle.lrdecided.proofs.UnambiguousGrammars.{decided_swapped}

-- what holds below a number and at it holds below the next
pub next_below : (P : ℕ → Type 0) (n : ℕ) → ((k : ℕ) → k < n → P k) → P n → (k : ℕ) → k < n + 1 → P k
next_below P n before here k l = elim (cases_eq k n) [
  | inl e ↦ rw e here
  | inr e ↦ before k (omega (arith, l, e))
]

module _ (g : Grammar) (h : Graph) (s t : ℕ) where
  -- one more move, which is decided with each of those before it
  pair_pushed : (ms : List Move) (m : Move) → ArePairsDecided g h s t ms → IsDecidedAgainst g h s t m ms → ArePairsDecided g h s t (ms ++ m ∷ [])
  pair_pushed ms m pairs here a i b j differ = elim (Contains-push_cases ms m a i) [
    | inl x ↦ elim (Contains-push_cases ms m b j) [
      | inl y ↦ pairs a x b y differ
      | inr e ↦ decided_swapped (subst (λ (n : Move). IsDecided g h s t n a) e (here a x (λ same. differ (sym same ∙ e))))
    ]
    | inr e ↦ elim (Contains-push_cases ms m b j) [
      | inl y ↦ subst (λ (n : Move). IsDecided g h s t n b) e (here b y (λ same. differ (sym e ∙ same)))
      | inr f ↦ absurd (differ (sym e ∙ f))
    ]
  ]

  pub no_pairs : ArePairsDecided g h s t []
  no_pairs m (k, l, e) = absurd (omega (arith, l))

  module _ {X : Type 0} (f : X → Move) (xs : List X) (i : ℕ) where
    pub pair_more :
        (x : X) → i < length xs → x ≡ get_or xs i x → ArePairsDecided g h s t (map f (take i xs)) → IsDecidedAgainst g h s t (f x) (map f (take i xs))
        → ArePairsDecided g h s t (map f (take (i + 1) xs))
    pair_more x l is pairs here =
        let more : map f (take (i + 1) xs) ≡ map f (take i xs) ++ f x ∷ [] =
        map_more f xs i x l ∙ ap (λ (y : X). map f (take i xs) ++ f y ∷ []) (sym is) in
        subst (ArePairsDecided g h s t) (sym more) (pair_pushed (map f (take i xs)) (f x) pairs here)

    pub pair_all : (length xs ≤ i) → ArePairsDecided g h s t (map f (take i xs)) → ArePairsDecided g h s t (map f xs)
    pair_all l pairs = subst (λ (ys : List X). ArePairsDecided g h s t (map f ys)) (take_all i xs l) pairs

  -- where each two of all that contend are decided
  pub cell_decided : (ms : List Move) → HasContenders g h s t ms → ArePairsDecided g h s t ms → IsCellDecided g h s t
  cell_decided ms has pairs m n differ a b = pairs m (has m a) n (has n b) differ

module _ (g : Grammar) (h : Graph) (shape : IsGrammar g) (graph : IsGraphOf g h) where
  -- what looks at a token looks at one of the grammar
  looked : (a : Items) (p d t : ℕ) → Fits g a → LooksIn a p d t → t < token_count g
  looked a p d t fits look = go (item_at a p d) refl look
    where
      go : (o : Option (List Bool)) → item_at a p d ≡ o → IsSomeAnd o (λ v. IsTrue (slice_index_or v t false)) → t < token_count g
      go None e l = absurd l
      go (Some v) e l = let below = below_of_bit v t l in omega (arith, below, (fits p d v e).bits)

  -- so moves contend at tokens of the grammar alone
  contended : (s t : ℕ) (m : Move) → s < length h → IsContender g h s t (candidate_of m) → t < token_count g
  contended s t Shift below (table.IsContender.shift e) =
      let (p, d, i, b) = (graph.gotos.edges s (Token t)).0 (rw e refl) in
      omega (arith, symbol_at_dot shape p d (Token t) b)
  contended s t (Reduce p) below (table.IsContender.reduce differ l) = looked (closed_of h s) p (length (body_of g p)) t (graph.closures.fit_closed s below) l

  pub all_decided : ((s : ℕ) → s < length h → IsStateDecided g h s) → AreDecided g h
  all_decided all s t m n below differ a b = all s below t (contended s t m below a) m n differ a b
