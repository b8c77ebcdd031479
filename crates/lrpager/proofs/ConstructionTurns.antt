-- a turn of the construction, which closes a state and places its gotos, keeps all that holds and leaves no goto missing
use Rattle.std.proofs.Common.{◌≡◌, ◌≢◌, ℕ, ◌<◌, true, List, length, refl, sym, ap, subst, inl, inr, arith}
use Rattle.std.proofs.lemmas.Bool.{cases_eq}
use Rattle.lrspec.specs.grammars.Grammar.{Symbol, Grammar, IsGrammar}
use Rattle.lrspec.specs.grammars.ItemSets.{Items, HasItem, LooksIn, IsContained, IsClosure, IsGoto}
use Rattle.lrspec.proofs.grammars.ListMembers.{Among}
use Rattle.lrspec.proofs.grammars.Closures.{contained_itself, contained_then, closed_item_mono, closed_look_mono}
use Rattle.lrplacing.specs.Construction as con
use Rattle.lrplacing.specs.Construction.{Draft, core_at, closed_at, PlacesOne, PlacesAll}
use Rattle.lrplacing.specs.Invariant.{MayBePlaced, HasChain, Holds, HasGotos}
use Rattle.lrpager.specs.Closing.{Closes}
use Rattle.lrplacing.proofs.PlacedCores.{length_grown, closed_before, closed_grew_not}
use Rattle.lrplacing.proofs.PlacedStates.{places_holds, may_be_placed_kept}
use Rattle.lrplacing.proofs.PlacingTurns.{LeavesFit}
use Rattle.lrpager.proofs.ClosedStates.{closes_holds, closes_gotos}
use Rattle.lrplacing.proofs.PlacedGotos.{LooksOver, AreGotosOf, goto_may_be_placed, leads_over_from, places_gotos, looks_over_placed, looks_over_still}

-- wherever a goto of the state `from` is placed there is a chain
abbrev pub LeavesChain : Grammar → ℕ → Type 0
LeavesChain g from =
    (ss ts : List Draft) (x : Symbol) (a : Items) (k : ℕ) → Holds g ss → MayBePlaced g ss from x a → PlacesOne ss from x a k ts → HasChain g ts

-- each goto of the list may be placed
abbrev pub AllMayBePlaced : Grammar → List Draft → ℕ → List (Symbol × Items) → Type 0
AllMayBePlaced g ss from gs = (x : Symbol) (a : Items) → Among (x, a) gs → MayBePlaced g ss from x a

-- placing gotos in turn keeps all that holds
pub places_all_holds :
    {g : Grammar} (from : ℕ) {old new : List Draft} {gs : List (Symbol × Items)} → LeavesChain g from → LeavesFit g from → PlacesAll from old gs new
    → from < length old → AllMayBePlaced g old from gs → Holds g old → Holds g new
places_all_holds from chains fits con.PlacesAll.none inside all h = h
places_all_holds from chains fits (con.PlacesAll.more {ss = ss} {ts = ts} {x = x} {a = a} k m r) inside all h =
    let goes = all x a (inl refl) in
    places_all_holds from chains fits r (omega (arith, length_grown m)) (λ y b i. may_be_placed_kept m inside (all y b (inr i)))
    (places_holds m h inside goes (fits ss ts x a k h goes m) (chains ss ts x a k h goes m))

-- a state that is closed after gotos were placed was closed before
pub places_all_closed :
    (from : ℕ) {old new : List Draft} {gs : List (Symbol × Items)} → PlacesAll from old gs new → (j : ℕ) → closed_at new j ≡ true
    → closed_at old j ≡ true
places_all_closed from con.PlacesAll.none j e = e
places_all_closed from (con.PlacesAll.more k m r) j e = closed_before m j (places_all_closed from r j e)

-- and its core grew by nothing
pub places_all_grew_not :
    (from : ℕ) {old new : List Draft} {gs : List (Symbol × Items)} → PlacesAll from old gs new → (j : ℕ) → closed_at new j ≡ true
    → IsContained (core_at new j) (core_at old j)
places_all_grew_not from {old} con.PlacesAll.none j e = contained_itself (core_at old j)
places_all_grew_not from {old} {new} (con.PlacesAll.more {ts = ts} k m r) j e =
    contained_then (core_at new j) (core_at ts j) (core_at old j) (places_all_grew_not from r j e) (closed_grew_not m j (places_all_closed from r j e))

-- placing gotos in turn keeps the gotos of the other states
pub places_all_gotos :
    {g : Grammar} (from : ℕ) {old new : List Draft} {gs : List (Symbol × Items)} → PlacesAll from old gs new → (j : ℕ) → j ≢ from → HasGotos g old j
    → HasGotos g new j
places_all_gotos from con.PlacesAll.none j n h = h
places_all_gotos from (con.PlacesAll.more k m r) j n h = places_all_gotos from r j n (places_gotos m j n h)

-- each pair is a goto of the item set
abbrev pub AllGotos : Grammar → Items → List (Symbol × Items) → Type 0
AllGotos g c gs = (x : Symbol) (a : Items) → Among (x, a) gs → IsGoto g c x a

-- where an edge leads over a goto it still does after gotos of the same state were placed
looks_over_all :
    {g : Grammar} {c : Items} (from : ℕ) {old new : List Draft} {gs : List (Symbol × Items)} → PlacesAll from old gs new → AllGotos g c gs → (x : Symbol)
    → LooksOver g old from (LooksIn c) x → LooksOver g new from (LooksIn c) x
looks_over_all from con.PlacesAll.none all x h = h
looks_over_all from (con.PlacesAll.more {x = y} {a = b} k m r) all x h =
    looks_over_all from r (λ z i j. all z i (inr j)) x (looks_over_still m x (all y b (inl refl)) h)

-- each goto that was placed is led over
pub placed_looks_over :
    {g : Grammar} {c : Items} (from : ℕ) {old new : List Draft} {gs : List (Symbol × Items)} → PlacesAll from old gs new → AllGotos g c gs
    → (x : Symbol) (a : Items) → Among (x, a) gs → LooksOver g new from (LooksIn c) x
placed_looks_over from con.PlacesAll.none all x a i = absurd i
placed_looks_over from (con.PlacesAll.more {x = y} {a = b} k m r) all x a (inl e) =
    looks_over_all from r (λ z d j. all z d (inr j)) x (rw (ap (λ q. q.0) e) (looks_over_placed m (all y b (inl refl))))
placed_looks_over from (con.PlacesAll.more k m r) all x a (inr i) = placed_looks_over from r (λ z d j. all z d (inr j)) x a i

-- after all gotos of what a core closes to were placed none is missing there
pub placed_all_gotos :
    {g : Grammar} {c : Items} (from : ℕ) {mid new : List Draft} {gs : List (Symbol × Items)} → PlacesAll from mid gs new → IsClosure g (core_at mid from) c
    → AreGotosOf g c gs → HasGotos g new from
placed_all_gotos {g} {c} from {mid} {new} r closure n closed p d x item before =
    let back = places_all_grew_not from r from closed in
    let there : HasItem c p d = (closure.items p d).1 (closed_item_mono back.items item) in
    let (a, among) = n.all p d x there before in
    leads_over_from (λ q e t l. (closure.looks q e t).1 (closed_look_mono back.items back.looks l))
    (placed_looks_over from r (λ y e i. (n.each y e i).goto) x a among)

-- the core that was closed closes to the same still
pub closure_after : {g : Grammar} {c : Items} (i : ℕ) {old mid : List Draft} → Closes old i mid → IsClosure g (core_at old i) c → IsClosure g (core_at mid i) c
closure_after {g} {c} i m closure = subst (λ a. IsClosure g a c) (sym m.core) closure

-- a turn of the construction keeps all that holds
pub turn_holds :
    {g : Grammar} {c : Items} (i : ℕ) {old mid new : List Draft} {gs : List (Symbol × Items)} → IsGrammar g → LeavesChain g i → LeavesFit g i
    → Closes old i mid → IsClosure g (core_at old i) c → AreGotosOf g c gs → PlacesAll i mid gs new → Holds g old → Holds g new
turn_holds i {mid = mid} n chains fits m closure gotos r h =
    let holds = closes_holds m h in
    let below : i < length mid = omega (arith, m.length_is, m.below) in
    places_all_holds i chains fits r below (λ x a j. goto_may_be_placed n holds below (closure_after i m closure) (gotos.each x a j)) holds

-- and after it no goto is missing
pub turn_gotos :
    {g : Grammar} {c : Items} (i : ℕ) {old mid new : List Draft} {gs : List (Symbol × Items)} → Closes old i mid → IsClosure g (core_at old i) c
    → AreGotosOf g c gs → PlacesAll i mid gs new → ((k : ℕ) → HasGotos g old k) → (k : ℕ) → HasGotos g new k
turn_gotos i m closure gotos r h k =
    elim (cases_eq k i) [
      | inl e ↦ rw e (placed_all_gotos i r (closure_after i m closure) gotos)
      | inr n ↦ places_all_gotos i r k n (closes_gotos m k n (h k))
    ]
