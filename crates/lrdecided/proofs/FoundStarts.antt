-- nodes at which two ways may begin, one after another
use Rattle.std.proofs.Common.{◌≡◌, ℕ, Bool, false, ◌+◌, ◌<◌, List, [], ◌∷◌, length, Option, refl, ap, ◌∙◌, ◌⊎◌, inl, inr, arith}
use Rattle.std.specs.Prelude.{Contains}
use Rattle.std.proofs.lemmas.Bool.{cases_eq}
use Rattle.lrspec.specs.grammars.Grammar.{Symbol, Grammar, body_of}
use Rattle.lrspec.specs.grammars.ItemSets.{Items, HasItem}
use Rattle.lrspec.specs.merging.Graph.{Graph, core_of, closed_of}
use Rattle.lrspec.specs.merging.WeakCompatibility.{SameItems}
use Rattle.lrclosing.proofs.WalksOverItems.{first_or_rest}
use Rattle.lrconflicts.specs.Moves.{Move, Shift, Reduce}
use Rattle.lrdecided.specs.Certificates as certificate
use Rattle.lrdecided.specs.Certificates.{StandsBefore}
use Rattle.lrdecided.specs.Moved.{HasNodes}
use Rattle.lrdecided.specs.Nodes.{Side, Node}
use Rattle.lrdecided.specs.Starts.{reduced, HasSide, HasSides, KeepsSides, HasStartsOf, HasStarts, start_of}
use Rattle.lrdecided.proofs.CollectedInTurn.{first_or_behind, none_contained}

abbrev pub the_side : ℕ → ℕ → List Symbol → Side
the_side p d y = record { production = p; dot = d; symbols = y; is_cut = false }

-- how a way stands that goes on with a reduction
pub of_reduction :
    {g : Grammar} {h : Graph} {s t : ℕ} {m : Move} {x : Side} (p : ℕ) → StandsBefore g h s t m x → m ≡ Reduce p → reduced g p ≡ x
of_reduction {g} p (certificate.StandsBefore.reduce q) e =
    let same : p ≡ q = cc in
    ap (reduced g) same
of_reduction p (certificate.StandsBefore.shift q d i b) e = absurd cc

-- a turn for each item of a closed state: of those that are not left the sides are listed
abbrev pub HasSidesBut : Grammar → Items → Items → ℕ → List Side → Type 0
HasSidesBut g set left t sides = (p d : ℕ) → HasItem set p d → HasItem left p d ⊎ HasSide g p d t sides

pub begin_sides : (g : Grammar) (set : Items) (t : ℕ) (sides : List Side) → HasSidesBut g set set t sides
begin_sides g set t sides p d i = inl i

pub next_sides :
    (g : Grammar) (set left : Items) (p d t : ℕ) (ctx : List Bool) (old new : List Side) → HasSidesBut g set (((p, d), ctx) ∷ left) t old → KeepsSides old new
    → HasSide g p d t new → HasSidesBut g set left t new
next_sides g set left p d t ctx old new k keeps here i e has = elim (k i e has) [
  | inl j ↦ elim (first_or_rest p d ctx left i e j) [
    | inl same ↦ inr (rw (same.0, same.1) here)
    | inr l ↦ inl l
  ]
  | inr j ↦ inr (λ b. keeps _ (j b))
]

pub end_sides :
    (g : Grammar) (h : Graph) (s t : ℕ) (left : Items) (sides : List Side) → ((p d : ℕ) → HasItem left p d → ⊥) → HasSidesBut g (closed_of h s) left t sides
    → HasSides g h s t Shift sides
end_sides g h s t left sides none k x b = go x b refl
  where
    go : {m : Move} (x : Side) → StandsBefore g h s t m x → m ≡ Shift → Contains sides x
    go x (certificate.StandsBefore.reduce p) e = absurd cc
    go x (certificate.StandsBefore.shift p d i before) e = elim (k p d i) [ inl j ↦ absurd (none p d j) | inr has ↦ has before ]

-- a turn for each of the other sides
abbrev pub HasStartsBut : Side → List Side → List Side → List ℕ → ℕ → Option ℕ → List Node → Type 0
HasStartsBut x others left states t agree nodes = (y : Side) → Contains others y → Contains left y ⊎ Contains nodes (start_of x y states t agree)

pub begin_starts : (x : Side) (others : List Side) (states : List ℕ) (t : ℕ) (agree : Option ℕ) (nodes : List Node) → HasStartsBut x others others states t agree nodes
begin_starts x others states t agree nodes y h = inl h

pub next_starts :
    (x y : Side) (others left : List Side) (states : List ℕ) (t : ℕ) (agree : Option ℕ) (old new : List Node) → HasStartsBut x others (y ∷ left) states t agree old
    → HasNodes old new → Contains new (start_of x y states t agree) → HasStartsBut x others left states t agree new
next_starts x y others left states t agree old new k keeps here z h = elim (k z h) [
  | inl j ↦ elim (first_or_behind y left z j) [ inl same ↦ inr (rw same here) | inr l ↦ inl l ]
  | inr j ↦ inr (keeps _ j)
]

pub end_starts :
    (x : Side) (others left : List Side) (states : List ℕ) (t : ℕ) (agree : Option ℕ) (nodes : List Node) → left ≡ [] → HasStartsBut x others left states t agree nodes
    → HasStartsOf x others states t agree nodes
end_starts x others left states t agree nodes none k y h = elim (k y h) [ inl j ↦ absurd (none_contained y (rw none at j)) | inr j ↦ j ]

-- a turn for each of the first sides
abbrev pub HasAllStartsBut : List Side → List Side → List Side → List ℕ → ℕ → Option ℕ → List Node → Type 0
HasAllStartsBut ones left others states t agree nodes = (x : Side) → Contains ones x → Contains left x ⊎ HasStartsOf x others states t agree nodes

pub begin_all_starts :
    (ones others : List Side) (states : List ℕ) (t : ℕ) (agree : Option ℕ) (nodes : List Node) → HasAllStartsBut ones ones others states t agree nodes
begin_all_starts ones others states t agree nodes x h = inl h

pub next_all_starts :
    (x : Side) (ones left others : List Side) (states : List ℕ) (t : ℕ) (agree : Option ℕ) (old new : List Node) → HasAllStartsBut ones (x ∷ left) others states t agree old
    → HasNodes old new → HasStartsOf x others states t agree new → HasAllStartsBut ones left others states t agree new
next_all_starts x ones left others states t agree old new k keeps here z h = elim (k z h) [
  | inl j ↦ elim (first_or_behind x left z j) [ inl same ↦ inr (rw same here) | inr l ↦ inl l ]
  | inr j ↦ inr (λ y i. keeps _ (j y i))
]

pub end_all_starts :
    (ones left others : List Side) (states : List ℕ) (t : ℕ) (agree : Option ℕ) (nodes : List Node) → left ≡ [] → HasAllStartsBut ones left others states t agree nodes
    → HasStarts ones others states t agree nodes
end_all_starts ones left others states t agree nodes none k x h = elim (k x h) [ inl j ↦ absurd (none_contained x (rw none at j)) | inr j ↦ j ]

-- a turn for each state: of the first ones those with the core are listed
abbrev pub HasCoresBelow : Graph → ℕ → ℕ → List ℕ → Type 0
HasCoresBelow h s n states = (q : ℕ) → q < n → SameItems (core_of h q) (core_of h s) → Contains states q

pub next_cores :
    (h : Graph) (s n : ℕ) (old new : List ℕ) → HasCoresBelow h s n old → ((q : ℕ) → Contains old q → Contains new q)
    → (SameItems (core_of h n) (core_of h s) → Contains new n) → HasCoresBelow h s (n + 1) new
next_cores h s n old new k keeps here q l same = elim (cases_eq q n) [
  | inl e ↦ rw e (here (rw e at same))
  | inr e ↦ keeps q (k q (omega (arith, l, e)) same)
]

-- those of a reduction are all
pub of_reductions : (g : Grammar) (h : Graph) (s t p : ℕ) (sides : List Side) → Contains sides (reduced g p) → HasSides g h s t (Reduce p) sides
of_reductions g h s t p sides here x b = rw (← of_reduction p b refl) here

-- the side at the dot of an item
pub side_so : (p d : ℕ) (y z : List Symbol) → y ≡ z → record { production = p; dot = d; symbols = y; is_cut = false } ≡ the_side p d z
side_so p d y z e = ap (the_side p d) e

-- the side at the end of a production
pub reduced_so :
    (g : Grammar) (p d : ℕ) (y : List Symbol) → d ≡ length (body_of g p) → y ≡ [] → record { production = p; dot = d; symbols = y; is_cut = false } ≡ reduced g p
reduced_so g p d y e n = ap (λ (k : ℕ). the_side p k y) e ∙ ap (λ (z : List Symbol). the_side p (length (body_of g p)) z) n

-- a node at which ways begin
pub start_so :
    (x y z w : Side) (states those : List ℕ) (t : ℕ) (agree : Option ℕ) → x ≡ z → y ≡ w → states ≡ those → start_of x y states t agree ≡ start_of z w those t agree
start_so x y z w states those t agree e f i =
    ap (λ (s : Side). start_of s y states t agree) e ∙ ap (λ (s : Side). start_of z s states t agree) f ∙ ap (λ (ss : List ℕ). start_of z w ss t agree) i
