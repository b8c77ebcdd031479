-- where stacks lead, and what is done on top of them, item after item
use Rattle.std.proofs.Common.{◌≡◌, ◌≢◌, ℕ, Bool, List, [], ◌∷◌, ◌++◌, length, None, Some, refl, sym, subst, ap, ◌∙◌, ◌⊎◌, inl, inr, arith}
use Rattle.std.specs.Prelude.{Contains, IsTrue}
use Rattle.std.specs.Option.{IsSome}
use Rattle.std.proofs.lemmas.List.{get_or_default}
use Rattle.lrspec.specs.grammars.Grammar.{Symbol, Token, Grammar, body_of, productions_of, IsProductionOf}
use Rattle.lrspec.specs.grammars.ItemSets.{Items, HasItem, LooksIn}
use Rattle.lrspec.specs.merging.Graph.{Graph, core_of, closed_of, edge}
use Rattle.lrbits.specs.Bits.{bit}
use Rattle.lrclosing.proofs.ProductionsOfRule.{among_productions}
use Rattle.lrclosing.proofs.WalksOverItems.{first_or_rest}
use Rattle.lrdecided.proofs.FoundContenders.{first_or_rest_looks}
use Rattle.lrexchange.specs.Asked.{EndsIn, HasReductionsOn, HasEachOpen, KeepsPositions, TakesShift, TakesReductions, TakesReductionsBy, OpensItems}
use Rattle.lrexchange.specs.Exchanges.{at, IsDeep, TakesAllMoves}
use Rattle.lrexchange.specs.Positions as pos
use Rattle.lrexchange.specs.Positions.{Turn, Open, Position, Follows}

-- the edges on no symbols lead nowhere else
follows_none : {h : Graph} {s u : ℕ} → Follows h s [] u → s ≡ u
follows_none pos.Follows.here = refl

-- those on some lead over the first
follows_over : {h : Graph} {s u : ℕ} {x : Symbol} {xs : List Symbol} → Follows h s (x ∷ xs) u → (r : ℕ) × (edge h s x ≡ Some r) × Follows h r xs u
follows_over (pos.Follows.there {u = r} e f) = (r, e, f)

some_same : {A : Type 0} (x y : A) → Some x ≡ Some y → x ≡ y
some_same x y e = cc

-- edges lead to one state
pub follows_once : (h : Graph) (s : ℕ) (xs : List Symbol) (u v : ℕ) → Follows h s xs u → Follows h s xs v → u ≡ v
follows_once h s [] u v f k = sym (follows_none f) ∙ follows_none k
follows_once h s (x ∷ xs) u v f k =
    let i = follows_over f in
    let j = follows_over k in
    let same : j.0 ≡ i.0 = some_same j.0 i.0 (sym j.1 ∙ i.1) in
    follows_once h i.0 xs u v i.2 (subst (λ (r : ℕ). Follows h r xs v) same j.2)

-- a turn for each symbol: from the state the rest leads where all lead
pub record LeadsOn (h : Graph) (s : ℕ) (xs : List Symbol) (r : ℕ) (left : List Symbol) : Type 0 where
  pub to : (u : ℕ) → Follows h s xs u → Follows h r left u
  pub from : (u : ℕ) → Follows h r left u → Follows h s xs u

pub begin_leading : (h : Graph) (s : ℕ) (xs : List Symbol) → LeadsOn h s xs s xs
begin_leading h s xs = record { to = λ u f. f; from = λ u f. f }

pub next_leading :
    (h : Graph) (s : ℕ) (xs : List Symbol) (r v : ℕ) (x : Symbol) (left : List Symbol) → LeadsOn h s xs r (x ∷ left) → Some v ≡ edge h r x → LeadsOn h s xs v left
next_leading h s xs r v x left k e = record {
  to = λ u f. let i = follows_over (k.to u f) in subst (λ (q : ℕ). Follows h q left u) (some_same i.0 v (sym i.1 ∙ sym e)) i.2;
  from = λ u f. k.from u (pos.Follows.there (sym e) f);
}

pub no_lead : (h : Graph) (s : ℕ) (xs : List Symbol) (r : ℕ) (x : Symbol) (left : List Symbol) → LeadsOn h s xs r (x ∷ left) → None ≡ edge h r x → EndsIn h s xs None
no_lead h s xs r x left k none u f = let i = follows_over (k.to u f) in let both : None ≡ Some i.0 = none ∙ i.1 in absurd cc

pub end_leading : (h : Graph) (s : ℕ) (xs : List Symbol) (r : ℕ) (left : List Symbol) → left ≡ [] → LeadsOn h s xs r left → EndsIn h s xs (Some r)
end_leading h s xs r left none k = k.from r (subst (λ (ys : List Symbol). Follows h r ys r) (sym none) pos.Follows.here)

-- a turn for each item of a closed state: of those that are not left the productions are listed
pub record HasReductionsBut (g : Grammar) (set left : Items) (t : ℕ) (ps : List ℕ) : Type 0 where
  pub so :
      (p : ℕ) → p ≢ g.start_production → LooksIn set p (length (body_of g p)) t
      → LooksIn left p (length (body_of g p)) t ⊎ Contains ps p

pub begin_reductions : (g : Grammar) (set : Items) (t : ℕ) (ps : List ℕ) → HasReductionsBut g set set t ps
begin_reductions g set t ps = record { so = λ p n l. inl l }

pub next_reductions :
    (g : Grammar) (set left : Items) (p d : ℕ) (ctx : List Bool) (t : ℕ) (old new : List ℕ) → HasReductionsBut g set (((p, d), ctx) ∷ left) t old
    → ((q : ℕ) → Contains old q → Contains new q) → (d ≡ length (body_of g p) → p ≢ g.start_production → IsTrue (bit ctx t) → Contains new p)
    → HasReductionsBut g set left t new
next_reductions g set left p d ctx t old new k keeps here = record {
  so = λ q n l. elim (k.so q n l) [
    | inl j ↦ elim (first_or_rest_looks p d ctx left q (length (body_of g q)) t j) [
      | inl same ↦
          let whole : d ≡ length (body_of g p) = same.1 ∙ ap (λ (r : ℕ). length (body_of g r)) (sym same.0) in
          let differ : p ≢ g.start_production = λ e. n (sym same.0 ∙ e) in
          inr (subst (λ (r : ℕ). Contains new r) same.0 (here whole differ same.2))
      | inr r ↦ inl r
    ]
    | inr j ↦ inr (keeps q j)
  ];
}

pub end_reductions :
    (g : Grammar) (h : Graph) (u t : ℕ) (left : Items) (ps : List ℕ) → left ≡ [] → HasReductionsBut g (closed_of h u) left t ps → HasReductionsOn g h u t ps
end_reductions g h u t left ps none k p n l = elim (k.so p n l) [
  | inl j ↦ absurd (subst (λ (a : Items). LooksIn a p (length (body_of g p)) t) none j)
  | inr j ↦ j
]

-- a turn for each item of a core: those that are not left are open at positions that are listed
pub record HasOpenBut (set left : Items) (a : Position) (ps : List Position) : Type 0 where
  pub so : (p d : ℕ) → HasItem set p d → HasItem left p d ⊎ Contains ps (at (Open p d) a.state a.theirs a.ours)

pub begin_open : (set : Items) (a : Position) (ps : List Position) → HasOpenBut set set a ps
begin_open set a ps = record { so = λ p d i. inl i }

pub next_open :
    (set left : Items) (p d : ℕ) (ctx : List Bool) (a : Position) (old new : List Position) → HasOpenBut set (((p, d), ctx) ∷ left) a old → KeepsPositions old new
    → Contains new (at (Open p d) a.state a.theirs a.ours) → HasOpenBut set left a new
next_open set left p d ctx a old new k keeps here = record {
  so = λ i e has. elim (k.so i e has) [
    | inl j ↦ elim (first_or_rest p d ctx left i e j) [
      | inl same ↦ inr (rw (same.0, same.1) here)
      | inr l ↦ inl l
    ]
    | inr j ↦ inr (keeps _ j)
  ];
}

pub end_open : (h : Graph) (u : ℕ) (left : Items) (a : Position) (ps : List Position) → left ≡ [] → HasOpenBut (core_of h u) left a ps → HasEachOpen h u a ps
end_open h u left a ps none k p d i = elim (k.so p d i) [
  | inl j ↦ let no = subst (λ (b : Items). HasItem b p d) none j in absurd cc
  | inr j ↦ j
]

-- what they do on the top to which their stack leads is all they do
module _ (h : Graph) (M : Position → Type 0) (a : Position) where
  pub shift_from :
      (t : ℕ) (shifted : Turn) (u : ℕ) → Follows h a.state a.theirs u
      → (IsSome (edge h u (Token t)) → M (at shifted a.state (a.theirs ++ Token t ∷ []) a.ours)) → TakesShift h t M shifted a
  shift_from t shifted u f here v k e =
      here (subst (λ (w : ℕ). IsSome (edge h w (Token t))) (follows_once h a.state a.theirs v u k f) e)

  pub no_shift : (t : ℕ) (shifted : Turn) → EndsIn h a.state a.theirs None → TakesShift h t M shifted a
  no_shift t shifted none v k e = absurd (none v k)

  pub open_from :
      (u : ℕ) → IsDeep a → Follows h a.state a.theirs u
      → ((p d : ℕ) → HasItem (core_of h u) p d → M (at (Open p d) a.state a.theirs a.ours)) → OpensItems h M a
  open_from u deep f here = record {
    deep = deep;
    open_ones = λ v p d k i. here p d (subst (λ (w : ℕ). HasItem (core_of h w) p d) (follows_once h a.state a.theirs v u k f) i);
  }

  pub none_open : IsDeep a → EndsIn h a.state a.theirs None → OpensItems h M a
  none_open deep none = record { deep = deep; open_ones = λ v p d k i. absurd (none v k) }

  module _ (g : Grammar) (t : ℕ) where
    pub reductions_from :
        (u : ℕ) (ps : List ℕ) → Follows h a.state a.theirs u → HasReductionsOn g h u t ps → TakesReductionsBy g h M ps a → TakesReductions g h t M a
    reductions_from u ps f has by v p k n l =
        by p (has p n (subst (λ (w : ℕ). LooksIn (closed_of h w) p (length (body_of g p)) t) (follows_once h a.state a.theirs v u k f) l))

    pub no_reductions : EndsIn h a.state a.theirs None → TakesReductions g h t M a
    no_reductions none v p k n l = absurd (none v k)

    -- and so where they shift and reduce
    pub all_moves : (shifted : Turn) → TakesShift h t M shifted a → TakesReductions g h t M a → TakesAllMoves g h t M shifted a
    all_moves shifted s r = record { shift = s; reduce = r }

-- each production of the rule is listed
pub production_listed : (g : Grammar) (ps : List ℕ) (r q : ℕ) → ps ≡ productions_of g r → IsProductionOf g q r → Contains ps q
production_listed g ps r q e i =
    let s = among_productions g ps r (length ps) q e (omega arith) i in
    (s.0, s.2, get_or_default ps s.0 q 0 s.2 ∙ s.3)
