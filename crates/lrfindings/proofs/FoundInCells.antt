-- what is found in the cells of a graph, and where no precedence decides
use Rattle.std.proofs.Common.{◌≡◌, ◌∙◌, ℕ, Bool, true, false, IsTrue, ◌↔◌, Bor, List, [], ◌∷◌, map, Option, None, Some, option_map, refl, sym, ap, subst}
use Rattle.std.specs.Prelude.{IfNone, IfSome}
use Rattle.std.specs.List.{Any, flat_map, range_with_len}
use Rattle.std.specs.Option.{IsSome}
use Rattle.std.proofs.lemmas.Bool.{false_from_ne_true}
use Rattle.lrspec.proofs.tables.NoPrecedences.{no_precedences}
use Rattle.std.specs.List.Sorted.{IsPermutation}
use Rattle.lrspec.specs.grammars.Grammar.{Grammar, token_count}
use Rattle.lrspec.specs.merging.Graph.{Graph, closed_of}
use Rattle.lrspec.specs.tables.LrTables.{HasNoPrecedences}
use Rattle.lrspec.specs.tables.Table.{Lists, reductions}
use Rattle.lrverdicts.specs.declared.conflicts.Entry.{Entry}
use Rattle.lrverdicts.specs.Listed.{told, listed}
use Rattle.lrfindings.specs.declared.cells.Outcome.{Outcome}
use Rattle.lrfindings.specs.declared.cells.Outcome.TheVariants.{Open}
use Rattle.lrfindings.specs.declared.cells.Resolved.{Resolved}
use Rattle.lrfindings.specs.CellConflicts.{outcome, decided, resolved_by, resolved_at, resolved_in}
use Rattle.lrfindings.specs.ReachedStates.{IsReachedIn, AreResolved}
use Rattle.lrfindings.specs.StoredCells.{resolution}
use Rattle.lrfindings.proofs.PartedByReach.{of_nothing}
use Rattle.lrfindings.proofs.CellsInTurn.{nothing_given}

-- what holds of the graph behind a reference holds of the graph, where there is one
pub of_kept :
    (o : Option Graph) (r : Option (Bor Graph)) (h : Graph) (plain : Type 0) (P : Graph → Type 0) → option_map (λ b. b.now) r ≡ o
    → IfSome o (λ g. g ≡ h) → IfNone o plain → ¬ plain → IfSome r (λ b. P b.now) → P h
of_kept None r h plain P e kept is not holds = absurd (not is)
of_kept (Some g) None h plain P e kept is not holds = absurd cc
of_kept (Some g) (Some b) h plain P e kept is not holds = let same : b.now ≡ g = cc in subst P (same ∙ kept) holds

-- what follows of something follows where that holds
pub given_some : (r : Option (Bor Graph)) (A : Type 0) (P : Graph → Type 0) → IfSome r (λ b. A → P b.now) → A → IfSome r (λ b. P b.now)
given_some None A P h a = tt
given_some (Some b) A P h a = h a

module _ (o : ℕ → Outcome) (open_all : (p : ℕ) → o p ≡ Open) where
  nothing_decided : (ps : List ℕ) → decided o ps ≡ []
  nothing_decided [] = refl
  nothing_decided (p ∷ ps) = rw (open_all p) (nothing_decided ps)

  nothing_resolved_by : (s t : ℕ) (b : Bool) (ps : List ℕ) → resolved_by o s t b ps ≡ []
  nothing_resolved_by s t false ps = refl
  nothing_resolved_by s t true ps = rw (nothing_decided ps) refl

-- where no token has a precedence nothing is resolved
pub nothing_resolved : (g : Grammar) (h : Graph) → HasNoPrecedences g → resolved_in g h ≡ []
nothing_resolved g h plain =
    let open_all : (t p : ℕ) → outcome g t p ≡ Open = λ t p. rw (plain t) refl in
    nothing_given (λ s. flat_map (resolved_at g h s) (range_with_len 0 (token_count g))) _
    (λ s.
    nothing_given (resolved_at g h s) (range_with_len 0 (token_count g))
    (λ t. nothing_resolved_by (outcome g t) (open_all t) s t _ (reductions g (closed_of h s) t)))

-- that precedences decide or not, by whether a token has one
pub decides_not : (g : Grammar) (b : Bool) → IsTrue b ↔ Any IsSome g.token_precedences → HasNoPrecedences g → b ≡ false
decides_not g b test plain = false_from_ne_true b (λ some. (no_precedences g).0 plain (test.0 some))

pub decides : (g : Grammar) (b : Bool) → IsTrue b ↔ Any IsSome g.token_precedences → ¬ (HasNoPrecedences g) → b ≡ true
decides g true test some = refl
decides g false test some = absurd (some ((no_precedences g).1 (λ any. let wrong : false ≡ true = test.1 any in cc)))

pub plain_if_false : (g : Grammar) (b : Bool) → IsTrue b ↔ Any IsSome g.token_precedences → b ≡ false → HasNoPrecedences g
plain_if_false g b test is = (no_precedences g).1 (λ any. let wrong : false ≡ true = sym is ∙ test.1 any in cc)

pub some_if_true : (g : Grammar) (b : Bool) → IsTrue b ↔ Any IsSome g.token_precedences → b ≡ true → ¬ (HasNoPrecedences g)
some_if_true g b test is plain = (no_precedences g).0 plain (test.0 is)

-- nothing is found resolved there
pub none_is_resolved : (g : Grammar) (h : Graph) (xs : List Resolved) → HasNoPrecedences g → xs ≡ [] → AreResolved g h (map resolution xs)
none_is_resolved g h xs plain none = of_nothing (IsReachedIn g h) _ _ _ (nothing_resolved g h plain) (ap (map resolution) none)

-- the conflicts of the table are left
pub all_are_left : (k : Lists) (es ls : List Entry) → IsPermutation (listed k) (map told es) → ls ≡ es → IsPermutation (listed k) (map told ls)
all_are_left k es ls moved same = rw same moved

-- it is by what is decided in the cells, or there is nothing to decide
pub resolved_either :
    (g : Grammar) (h : Graph) (xs : List Resolved) (b : Bool) → IsTrue b ↔ Any IsSome g.token_precedences
    → (b ≡ false → xs ≡ []) → (b ≡ true → AreResolved g h (map resolution xs)) → AreResolved g h (map resolution xs)
resolved_either g h xs true test none some = some refl
resolved_either g h xs false test none some = none_is_resolved g h xs (plain_if_false g false test refl) (none refl)
