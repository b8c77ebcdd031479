-- a chain of two item sets with the same items: the cores of `S: S S S;` after three S and after four
use Rattle.std.proofs.Common.{◌≡◌, ℕ, Bool, true, false, List, [], ◌∷◌, ◌++◌, Some, refl, ap, ◌⊎◌, inl, inr, arith}
use Rattle.lrspec.specs.grammars.Grammar.{Symbol, Rule, IsGrammar}
use Rattle.lrspec.specs.grammars.First as first
use Rattle.lrspec.specs.grammars.CanonicalItems as item
use Rattle.lrspec.specs.grammars.CanonicalItems.{Stands, Looks}
use Rattle.lrspec.specs.grammars.ItemSets.{Items, HasItem}
use Rattle.lrspec.specs.merging.Cores.{IsRootedBy}
use Rattle.lrspec.specs.merging.WeakCompatibility.{SameItems, Clash}
use Rattle.lrspec.specs.merging.Chains.{IsKeptApart, IsChain}
use Rattle.lrspec.specs.examples.ExampleGrammars.{three_of_itself}
use Rattle.lrspec.proofs.grammars.Closures.{contained_itself}
use Rattle.lrspec.proofs.grammars.CanonicalItemFacts.{stands_of_looks}
use Rattle.lrspec.proofs.merging.ChainFacts.{kept_apart_by_clash}
use Rattle.lrspec.proofs.examples.GrammarsByComputing.{grammar_from_test}
use Rattle.lrspec.proofs.examples.ItemEntries.{Entry}
use Rattle.lrspec.proofs.examples.ContestedTokens.{after, no_null}
use Rattle.lrspec.proofs.examples.ItemsByComputing.{is_enumeration}
use Rattle.lrspec.proofs.examples.ItemSetEntries.{item_listed, none_shared}
use Rattle.lrspec.proofs.examples.CoresByComputing.{AllStand, rooted_by_computing}

-- it has the shape that every grammar has
pub three_grammar : IsGrammar three_of_itself
three_grammar = grammar_from_test three_of_itself 1 refl refl refl refl refl refl

abbrev two : List Symbol
two = Rule 1 ∷ Rule 1 ∷ []

abbrev three : List Symbol
three = Rule 1 ∷ Rule 1 ∷ Rule 1 ∷ []

abbrev four : List Symbol
four = Rule 1 ∷ Rule 1 ∷ Rule 1 ∷ Rule 1 ∷ []

-- what stands after the lists of up to four symbols, and where it looks
abbrev entries : List Entry
entries =
    after [] ((1, 0, 0 ∷ []) ∷ (0, 0, 0 ∷ []) ∷ [])
    ++ after (Rule 1 ∷ []) ((1, 1, 0 ∷ []) ∷ (0, 1, 0 ∷ []) ∷ (0, 0, []) ∷ [])
    ++ after two ((0, 2, 0 ∷ []) ∷ (0, 1, []) ∷ (0, 0, 0 ∷ []) ∷ [])
    ++ after three ((0, 3, 0 ∷ []) ∷ (0, 2, []) ∷ (0, 1, 0 ∷ []) ∷ (0, 0, []) ∷ [])
    ++ after four ((0, 3, []) ∷ (0, 2, 0 ∷ []) ∷ (0, 1, []) ∷ (0, 0, 0 ∷ []) ∷ [])

-- no token begins a rule
abbrev nothing_begins : ℕ → List ℕ
nothing_begins r = []

entries_hold : is_enumeration three_of_itself (Some 4) no_null nothing_begins entries ≡ true
entries_hold = refl

-- ---- what stands, and where it looks

stands_at_start : Stands three_of_itself [] 0 0
stands_at_start = item.Stands.expand item.Stands.begin refl refl

-- two S are read over by the item that stands at the start, one by that which stands behind the first
over_one : Stands three_of_itself (Rule 1 ∷ []) 0 1
over_one = item.Stands.advance stands_at_start refl

over_two : Looks three_of_itself two 0 2 0
over_two = item.Looks.advance (item.Looks.advance (item.Looks.inherit item.Looks.begin refl refl first.AllNullable.none) refl) refl

one_over_two : Stands three_of_itself two 0 1
one_over_two = item.Stands.advance (item.Stands.expand over_one refl refl) refl

-- behind three S
behind_3_3 : Looks three_of_itself three 0 3 0
behind_3_3 = item.Looks.advance over_two refl

behind_3_2 : Stands three_of_itself three 0 2
behind_3_2 = item.Stands.advance one_over_two refl

behind_3_1 : Looks three_of_itself three 0 1 0
behind_3_1 = item.Looks.advance (item.Looks.inherit over_two refl refl first.AllNullable.none) refl

-- behind four S
behind_4_3 : Stands three_of_itself four 0 3
behind_4_3 = item.Stands.advance behind_3_2 refl

behind_4_2 : Looks three_of_itself four 0 2 0
behind_4_2 = item.Looks.advance behind_3_1 refl

behind_4_1 : Stands three_of_itself four 0 1
behind_4_1 = item.Stands.advance (item.Stands.expand behind_3_2 refl refl) refl

-- ---- the two item sets

-- after three S: the first and the last item look at the end token
abbrev pub after_three : Items
after_three = ((0, 1), true ∷ []) ∷ ((0, 2), false ∷ []) ∷ ((0, 3), true ∷ []) ∷ []

-- after four S: the one in the middle does
abbrev pub after_four : Items
after_four = ((0, 1), false ∷ []) ∷ ((0, 2), true ∷ []) ∷ ((0, 3), false ∷ []) ∷ []

-- the first is rooted by its list
pub three_rooted : IsRootedBy three_of_itself (three ∷ []) after_three
three_rooted =
    rooted_by_computing three_of_itself (Some 4) no_null nothing_begins entries entries_hold three after_three refl refl refl refl all (0, 1, refl)
  where
    all : AllStand three_of_itself three after_three
    all = (
      stands_of_looks behind_3_1,
      refl,
      (behind_3_1, tt),
      (behind_3_2, refl, tt, (stands_of_looks behind_3_3, refl, (behind_3_3, tt), tt)),
    )

-- and so is the other
pub four_rooted : IsRootedBy three_of_itself (four ∷ []) after_four
four_rooted =
    rooted_by_computing three_of_itself (Some 4) no_null nothing_begins entries entries_hold four after_four refl refl refl refl all (0, 1, refl)
  where
    all : AllStand three_of_itself four after_four
    all = (behind_4_1, refl, tt, (stands_of_looks behind_4_2, refl, (behind_4_2, tt), (behind_4_3, refl, tt, tt)))

abbrev IsOfThree : ℕ → ℕ → Type 0
IsOfThree p d = (p ≡ 0) × ((d ≡ 1) ⊎ (d ≡ 2) ⊎ (d ≡ 3))

of_three : (u v w : List Bool) (p d : ℕ) → HasItem (((0, 1), u) ∷ ((0, 2), v) ∷ ((0, 3), w) ∷ []) p d → IsOfThree p d
of_three u v w p d h = elim (item_listed (((0, 1), u) ∷ ((0, 2), v) ∷ ((0, 3), w) ∷ []) p d h).1 [
  | inl e ↦ (ap (λ i. i.0.0) e, inl (ap (λ i. i.0.1) e))
  | inr (inl e) ↦ (ap (λ i. i.0.0) e, inr (inl (ap (λ i. i.0.1) e)))
  | inr (inr (inl e)) ↦ (ap (λ i. i.0.0) e, inr (inr (ap (λ i. i.0.1) e)))
  | inr (inr (inr e)) ↦ absurd e
]

has_of_three : (u v w : List Bool) (p d : ℕ) → IsOfThree p d → HasItem (((0, 1), u) ∷ ((0, 2), v) ∷ ((0, 3), w) ∷ []) p d
has_of_three u v w p d (i, inl j) = rw (i, j) refl
has_of_three u v w p d (i, inr (inl j)) = rw (i, j) refl
has_of_three u v w p d (i, inr (inr j)) = rw (i, j) refl

-- they have the same items
pub three_and_four_same : SameItems after_three after_four
three_and_four_same p d = (
  λ h. has_of_three (false ∷ []) (true ∷ []) (false ∷ []) p d (of_three (true ∷ []) (false ∷ []) (true ∷ []) p d h),
  λ h. has_of_three (true ∷ []) (false ∷ []) (true ∷ []) p d (of_three (false ∷ []) (true ∷ []) (false ∷ []) p d h),
)

-- the last item of the first and the one in the middle of the second look at the end token, and share none within
pub three_and_four_clash : Clash after_three after_four
three_and_four_clash = record {
  cross = record { p = 0; d = 3; q = 0; e = 2; apart = λ e f. omega arith; meet = (0, refl, refl) };
  first = λ m. none_shared (true ∷ []) (false ∷ []) m.0 refl m.1 m.2;
  second = λ m. none_shared (false ∷ []) (true ∷ []) m.0 refl m.1 m.2;
}

-- so the first is kept apart from the second
pub three_and_four_apart : IsKeptApart three_of_itself after_three after_four
three_and_four_apart = kept_apart_by_clash (record {
  witness = after_three;
  rooted = (three ∷ [], three_rooted);
  same = λ p d. (λ h. h, λ h. h);
  contains = contained_itself after_three;
  clash = three_and_four_clash;
})

-- and both are a chain
pub chain_of_two : IsChain three_of_itself (after_three ∷ after_four ∷ [])
chain_of_two = ((three ∷ [], three_rooted), (λ s. three_and_four_apart, tt), ((four ∷ [], four_rooted), tt, tt))
