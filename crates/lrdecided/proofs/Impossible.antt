-- no two ways stand as an impossible node says
use Rattle.std.proofs.Common.{◌≡◌, ℕ, List, [], ◌++◌, refl, sym, ap, ◌∙◌, inl, inr, arith}
use Rattle.std.specs.Prelude.{Contains}
use Rattle.lrspec.specs.grammars.Grammar.{Symbol, Grammar, IsGrammar, end_token}
use Rattle.lrspec.specs.grammars.Trees.{Forest, forest_leaves, IsForest, bare, and}
use Rattle.lrspec.specs.grammars.First.{AllNullable, Begins}
use Rattle.lrspec.specs.merging.Graph.{Graph}
use Rattle.lrspec.specs.tables.Machine.{next_token}
use Rattle.lrdecided.specs.Nodes as nodes
use Rattle.lrdecided.specs.Nodes.{Side}
use Rattle.lrdecided.specs.Rules as rule
use Rattle.lrdecided.specs.Rules.{CannotBegin, IsAtEnd, IsImpossible}
use Rattle.lrdecided.proofs.OpenItems.{open_at_start}
use Rattle.lrdecided.proofs.Ways.{SideHolds, Holds, holds_swapped, side_begins, agree_next}

-- a way whose symbols are not nullable begins with one of their tokens
begins_really : {g : Grammar} {w : List Symbol} {a : Side} {text : List ℕ} {n : ℕ} → SideHolds g w a text n → ¬ (AllNullable g a.symbols) → Begins g a.symbols (next_token g text)
begins_really k not = elim (side_begins k) [ inl b ↦ b | inr c ↦ absurd (not c) ]

-- none goes on with a token with which it can't begin
no_begin : {g : Grammar} {w : List Symbol} {a : Side} {text : List ℕ} {n : ℕ} (t : ℕ) → SideHolds g w a text n → next_token g text ≡ t → CannotBegin g a.symbols t → ⊥
no_begin t k e c = c.not_first (rw e at (begins_really k c.not_empty))

-- a forest of no symbols has no leaves
leaves_of_none : {g : Grammar} {y : List Symbol} {ts : Forest} → IsForest g y ts → y ≡ [] → forest_leaves ts ≡ []
leaves_of_none bare e = refl
leaves_of_none (and t f) e = absurd cc

-- a way at its end has no text left
text_at_end : {g : Grammar} {w : List Symbol} {a : Side} {text : List ℕ} {n : ℕ} → IsGrammar g → SideHolds g w a text n → IsAtEnd g a → text ≡ []
text_at_end shape k e =
    let none = leaves_of_none k.forest (ap (λ y. y ++ k.others) e.symbols ∙ k.whole e.whole) in
    let behind = open_at_start shape k.item e.production e.dot in
    k.splits ∙ (ap (λ l. l ++ k.behind) none ∙ behind)

-- no list of no states has one
none_within : (s : ℕ) → Contains [] s → ⊥
none_within s (k, l, e) = absurd (omega (arith, l))

pub impossible : {g : Grammar} {h : Graph} {a : nodes.Node} {n : ℕ} → IsGrammar g → IsImpossible g a → Holds g h a n → ⊥
impossible shape (rule.IsImpossible.nowhere e) k = none_within k.state (rw e at k.within)
impossible shape (rule.IsImpossible.known t e c) k = no_begin t k.one (k.next t e).0 c
impossible {g} shape (rule.IsImpossible.apart s one other parted) k =
    let same = (agree_next g k.one_text k.other_text s k.agree).0 in
    parted (next_token g k.one_text) (begins_really k.one one) (rw (sym same) at (begins_really k.other other))
impossible {g} shape (rule.IsImpossible.ended s end c) k =
    let same = (agree_next g k.one_text k.other_text s k.agree).0 in
    no_begin (end_token g) k.other (sym same ∙ ap (next_token g) (text_at_end shape k.one end)) c
impossible {g} shape (rule.IsImpossible.unended t e differ end) k =
    differ (sym (k.next t e).0 ∙ ap (next_token g) (text_at_end shape k.one end))
impossible shape (rule.IsImpossible.swapped i) k = impossible shape i (holds_swapped k)
