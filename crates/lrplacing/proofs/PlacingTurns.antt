-- what the placing of one goto leaves for the next ones
use Rattle.std.proofs.Common.{◌≡◌, ℕ, ◌<◌, ◌≤◌, List, [], ◌∷◌, None, length, refl, ap, ◌∙◌, inl, inr, arith}
use Rattle.std.specs.Prelude.{◌==◌}
use Rattle.std.proofs.lemmas.Bool.{cases_Bool, and_right}
use Rattle.lrspec.specs.grammars.Grammar.{Symbol, Grammar, token_count}
use Rattle.lrspec.specs.grammars.ItemSets.{Items, Fits}
use Rattle.lrspec.proofs.grammars.ListMembers.{Among}
use Rattle.lrspec.specs.merging.Graph.{same_symbol}
use Rattle.lrplacing.specs.Construction.{Draft, core_at, edge_from, Grows, PlacesOne}
use Rattle.lrplacing.specs.Invariant.{MayBePlaced, AllMayBePlaced, Holds}
use Rattle.lrgraphs.specs.declared.errors.BuildError.{BuildError}
use Rattle.lrgraphs.specs.declared.errors.BuildError.TheVariants.{Table, TooLarge, Memory}
use Rattle.lrspec.specs.merging.Chains.{HasChainOf}
use Rattle.lrplacing.specs.Refusals.{IsLargeOnly}
use Rattle.lritems.specs.Merging.{HaveEquallyManyBits}
use Rattle.lritems.specs.Gotos.{AreGotosOf, AreGotosToPlace, HasGotoOn}
use Rattle.lrplacing.proofs.DraftFacts.{symbol_equal}
use Rattle.lrplacing.proofs.PlacedGotos as placed
use Rattle.lrplacing.proofs.PlacedStates.{places_holds, may_be_placed_kept}
use Rattle.lrplacing.proofs.ChainGrowth.{chain_of_states, places_chain}

-- a goto that may be placed has as many bits as each core
pub bits_of_goto :
    {g : Grammar} {ss : List Draft} {from : ℕ} {x : Symbol} {a : Items} → Holds g ss → MayBePlaced g ss from x a
    → (k : ℕ) → k < length ss → HaveEquallyManyBits (core_at ss k) a
bits_of_goto {g} holds m k b = (token_count g, λ p d v e. (holds.fits k b p d v e).bits, λ p d v e. (m.fits p d v e).bits)

-- wherever a goto of the state `from` is placed, the core that took it in fits the grammar
abbrev pub LeavesFit : Grammar → ℕ → Type 0
LeavesFit g from =
    (ss ts : List Draft) (x : Symbol) (a : Items) (k : ℕ) → Holds g ss → MayBePlaced g ss from x a → PlacesOne ss from x a k ts → Fits g (core_at ts k)

-- which it does where growing cores go on to fit
pub leaves_fit :
    {g : Grammar} (from : ℕ) → ((ss ts : List Draft) (k : ℕ) (a : Items) → Grows ss ts k a → Fits g (core_at ss k) → Fits g (core_at ts k))
    → LeavesFit g from
leaves_fit from grown ss ts x a k h goes m =
    elim m.how [
      | inl n ↦ let inside : k < length ss = omega (arith, n.length_is, m.taken) in grown ss ts k a n (h.fits k inside)
      | inr n ↦ rw n.core goes.fits
    ]

-- the invariant holds on
pub held_on :
    {g : Grammar} {old new : List Draft} {from : ℕ} {x : Symbol} {a : Items} {k : ℕ} → PlacesOne old from x a k new → Holds g old → from < length old
    → MayBePlaced g old from x a → Holds g new
held_on {g} {old} {new} {from} {x} {a} {k} m holds b may =
    places_holds m holds b may (leaves_fit from (λ ss ts j c w f. w.fits_kept g f) old new x a k holds may m) (places_chain g old new from k x a holds may m)

-- and the other gotos may still be placed
pub still_may_be_placed :
    (g : Grammar) {old new : List Draft} {from : ℕ} {x : Symbol} {a : Items} {k : ℕ} → PlacesOne old from x a k new → from < length old
    → (gs : List (Symbol × Items)) → AllMayBePlaced g old from gs → AllMayBePlaced g new from gs
still_may_be_placed g m b [] h = tt
still_may_be_placed g m b (e ∷ es) h = (may_be_placed_kept m b h.0, still_may_be_placed g m b es h.1)

-- as the other gotos are on other symbols, from the state there is no edge on theirs still
pub still_free :
    {old new : List Draft} {from : ℕ} {x : Symbol} {a : Items} {k : ℕ} → PlacesOne old from x a k new → (gs : List (Symbol × Items))
    → (HasGotoOn gs x → ⊥) → ((y : Symbol) → HasGotoOn gs y → edge_from old from y ≡ None) → (y : Symbol) → HasGotoOn gs y
    → edge_from new from y ≡ None
still_free {from = from} {x = x} m gs other free y i =
    elim (cases_Bool (same_symbol y x)) [
      | inl e ↦ absurd (other (rw (symbol_equal y x e) at i))
      | inr e ↦ placed.edge_kept m from y (and_right (from == from) (same_symbol y x) e) ∙ free y i
    ]

-- so many states make a chain of as many item sets
pub chain_of_most : {g : Grammar} (ss : List Draft) (most : ℕ) → Holds g ss → most ≤ length ss → HasChainOf g most
chain_of_most ss most holds b = let c = chain_of_states ss holds.chain in (c.0, c.1, omega (arith, c.2))

-- what a refusal says by one cause it says by another that follows
pub large_by : {T P Q : Type 0} → (P → Q) → (e : BuildError T) → IsLargeOnly P e → IsLargeOnly Q e
large_by f (Table t) h = h
large_by f TooLarge h = f h
large_by f Memory h = tt

-- ---- the gotos of what a core closes to

module _ (g : Grammar) (c : Items) where
  each_is : (gs : List (Symbol × Items)) → AreGotosToPlace g c gs → (x : Symbol) (a : Items) → Among {X = Symbol × Items} (x, a) gs → placed.IsGotoOf g c x a
  each_is [] h x a i = absurd i
  each_is (e ∷ es) h x a i =
      elim i [
        | inl same ↦ rw (ap (λ f. f.0) same, ap (λ f. f.1) same) (record { goto = h.0.is_goto; fits = h.0.fits; some = h.0.before })
        | inr later ↦ each_is es h.1 x a later
      ]

  among_gotos : (gs : List (Symbol × Items)) (x : Symbol) → HasGotoOn gs x → (a : Items) × Among {X = Symbol × Items} (x, a) gs
  among_gotos [] x i = absurd i
  among_gotos (e ∷ es) x i =
      elim i [
        | inl same ↦ (e.1, inl (rw same refl))
        | inr later ↦ let found = among_gotos es x later in (found.0, inr found.1)
      ]

  -- the gotos at hand, as the lemmas on placing them want them
  pub gotos_at_hand : (gs : List (Symbol × Items)) → AreGotosOf g c gs → placed.AreGotosOf g c gs
  gotos_at_hand gs h = record { each = λ x a i. each_is gs h.each x a i; all = λ p d x i b. among_gotos gs x (h.all p d x i b) }

  -- each of them may be placed
  pub all_may_be_placed :
      (ss : List Draft) (from : ℕ) (gs : List (Symbol × Items)) → ((x : Symbol) (a : Items) → placed.IsGotoOf g c x a → MayBePlaced g ss from x a)
      → AreGotosToPlace g c gs → AllMayBePlaced g ss from gs
  all_may_be_placed ss from [] f h = tt
  all_may_be_placed ss from (e ∷ es) f h =
      (f e.0 e.1 (record { goto = h.0.is_goto; fits = h.0.fits; some = h.0.before }), all_may_be_placed ss from es f h.1)
