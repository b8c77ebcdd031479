-- placing a goto keeps a chain of as many item sets as there are states
use Rattle.std.proofs.Common.{◌≡◌, ℕ, zero, suc, ◌<◌, List, [], ◌∷◌, ◌++◌, length, Some, refl, ap, arith, length-append, ◌⊎◌, inl, inr}
use Rattle.std.specs.Prelude.{slice_get}
use Rattle.std.proofs.lemmas.Option.{slice_get_within}
use Rattle.lrspec.specs.grammars.Grammar.{Symbol, Grammar}
use Rattle.lrspec.specs.grammars.ItemSets.{Items}
use Rattle.lrspec.specs.merging.WeakCompatibility.{SameItems}
use Rattle.lrspec.specs.merging.Chains.{IsChain, IsKeptApart}
use Rattle.lrspec.proofs.grammars.Closures.{contained_itself, contained_then}
use Rattle.lrspec.proofs.merging.ChainFacts.{kept_apart_by_clash, chain_longer}
use Rattle.lrplacing.specs.Construction.{Draft, core_at, Makes, PlacesOne}
use Rattle.lrplacing.specs.Invariant.{MayBePlaced, HasChain, Holds}
use Rattle.lrplacing.proofs.CoreGrowth.{GrowsInto, placed_core}

same_then : (a b c : Items) → SameItems a b → SameItems b c → SameItems a c
same_then a b c m n p d = (λ h. (n p d).0 ((m p d).0 h), λ h. (m p d).1 ((n p d).1 h))

same_items_of : (a b : Items) → a ≡ b → SameItems a b
same_items_of a b e p d = (λ h. rw e at h, λ h. rw e h)

-- an entry of a list with one more at its end
pushed : {X : Type 0} (xs : List X) (y : X) (j : ℕ) (a : X) → slice_get (xs ++ y ∷ []) j ≡ Some a → (slice_get xs j ≡ Some a) ⊎ ((j ≡ length xs) × (a ≡ y))
pushed [] y zero a e = inr (refl, cc)
pushed [] y (suc j) a e = absurd (cc)
pushed (x ∷ xs) y zero a e = inl e
pushed (x ∷ xs) y (suc j) a e = elim (pushed xs y j a e) [ inl i ↦ inl i | inr i ↦ inr (ap suc i.0, i.1) ]

-- there is a chain of exactly as many item sets as states
pub chain_of_states : {g : Grammar} (ss : List Draft) → HasChain g ss → (chain : List Items) × IsChain g chain × (length chain ≡ length ss)
chain_of_states ss c = (c.chain, c.is_chain, c.length_is)

-- where cores grow and no state is made, a chain stays
pub chain_stays :
    {g : Grammar} (old new : List Draft) → length new ≡ length old → ((j : ℕ) → j < length old → GrowsInto (core_at old j) (core_at new j))
    → HasChain g old → HasChain g new
chain_stays old new l grows c = record {
  chain = c.chain;
  is_chain = c.is_chain;
  length_is = omega (arith, l, c.length_is);
  same = λ j a e. same_then a (core_at old j) (core_at new j) (c.same j a e) (grows j (within j a e)).same;
  contained = λ j a e. contained_then a (core_at old j) (core_at new j) (c.contained j a e) (grows j (within j a e)).contained;
}
  where
    within : (j : ℕ) (a : Items) → slice_get c.chain j ≡ Some a → j < length old
    within j a e = omega (arith, slice_get_within c.chain j a e, c.length_is)

module _
    (g : Grammar) (old new : List Draft) (from k : ℕ) (x : Symbol) (goto : Items)
    (holds : Holds g old) (may : MayBePlaced g old from x goto) (m : PlacesOne old from x goto k new)
  where
    -- each item set of the chain with the items of the goto is kept apart from it, where the goto made a state
    apart_from_goto :
        Makes old new k goto → (j : ℕ) (a : Items) → slice_get holds.chain.chain j ≡ Some a → SameItems a goto → IsKeptApart g a goto
    apart_from_goto made j a e s =
        let c = holds.chain in
        let below : j < length old = omega (arith, slice_get_within c.chain j a e, c.length_is) in
        let back : SameItems (core_at old j) a = λ p d. ((c.same j a e p d).1, (c.same j a e p d).0) in
        let shared = holds.sharing j below in
        kept_apart_by_clash (record {
          witness = core_at old j;
          rooted = (shared.0, shared.1);
          same = back;
          contains = c.contained j a e;
          clash = made.clashes j below (same_then (core_at old j) a goto back s);
        })

    chain_made : Makes old new k goto → HasChain g new
    chain_made made = record {
      chain = c.chain ++ goto ∷ [];
      is_chain = chain_longer c.chain goto c.is_chain (may.sharing.0, may.sharing.1) (apart_from_goto made);
      length_is = omega (arith, length-append c.chain (goto ∷ []), c.length_is, made.length_is);
      same = λ j a e. (entry j a e).same;
      contained = λ j a e. (entry j a e).contained;
    }
      where
        c : HasChain g old
        c = holds.chain

        entry : (j : ℕ) (a : Items) → slice_get (c.chain ++ goto ∷ []) j ≡ Some a → GrowsInto a (core_at new j)
        entry j a e = elim (pushed c.chain goto j a e) [
          | inl i ↦
              let grows = placed_core old new from k x goto m j (omega (arith, slice_get_within c.chain j a i, c.length_is)) in
              record {
                same = same_then a (core_at old j) (core_at new j) (c.same j a i) grows.same;
                contained = contained_then a (core_at old j) (core_at new j) (c.contained j a i) grows.contained;
              }
          | inr (i, z) ↦
              let last : j ≡ k = omega (arith, i, c.length_is, made.last) in
              rw (last, z, made.core) (record { same = same_items_of goto goto refl; contained = contained_itself goto })
        ]

    -- placing a goto keeps a chain: a goto that makes a state lengthens it
    pub places_chain : HasChain g new
    places_chain = elim m.how [
      | inl h ↦ chain_stays old new h.length_is (placed_core old new from k x goto m) holds.chain
      | inr h ↦ chain_made h
    ]
