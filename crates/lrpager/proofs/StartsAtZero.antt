-- no item of a core but the start item has its dot at 0, so a core has no item that the rows of a closure give
use Rattle.std.proofs.Common.{◌≡◌, ℕ, zero, suc, List, [], ◌∷◌, Option, Some, refl, sym, arith}
use Rattle.std.specs.Prelude.{drop, slice_get}
use Rattle.lrspec.specs.grammars.Grammar.{Symbol, Rule, Grammar, Production, IsBodySymbol, AreBodySymbols, IsOfRule, IsProductionOf, IsGrammar, body_of, rest}
use Rattle.lrspec.specs.grammars.ItemSets.{Items, HasItem}
use Rattle.lrspec.specs.merging.Cores as cores
use Rattle.lrspec.specs.merging.Cores.{IsCoreItem}
use Rattle.lrclosing.specs.Rows.{Rows, IsPutIn, AreClosingRows}
use Rattle.lrplacing.specs.Invariant.{HasSharing}
use Rattle.lrpager.specs.Collecting.{OnlyStartsAtZero}

start_at_zero : {g : Grammar} {w : List Symbol} {p d : ℕ} → IsCoreItem g w p d → d ≡ 0 → p ≡ g.start_production
start_at_zero (cores.IsCoreItem.start s) e = refl
start_at_zero (cores.IsCoreItem.moved {d = d} s) e = absurd (omega arith)

-- of the items of a core the start item alone has its dot at 0
pub only_starts : {g : Grammar} {a : Items} → HasSharing g a → OnlyStartsAtZero g a
only_starts (ws, root, shared) p h = let (w, among) = root.some in start_at_zero (((root.cores w among).items p 0).0 h) refl

of_rule_zero : (o : Option Production) (r : ℕ) (body : List Symbol) (t : Option ℕ) → o ≡ Some (record { rule = 0; body = body; precedence_token = t }) → IsOfRule o r → r ≡ 0
of_rule_zero o r body t e h = let zero_is : 0 ≡ r = rw e at h in sym zero_is

no_rule_zero : (g : Grammar) (xs : List Symbol) (d : ℕ) (y : List Symbol) → AreBodySymbols g xs → drop d xs ≡ Rule 0 ∷ y → ⊥
no_rule_zero g [] zero y a e = cc
no_rule_zero g [] (suc d) y a e = cc
no_rule_zero g (x ∷ xs) zero y a e =
    let same : x ≡ Rule 0 = cc in
    let here : IsBodySymbol g (Rule 0) = rw same at a.0 in
    here.0 refl
no_rule_zero g (x ∷ xs) (suc d) y a e = no_rule_zero g xs d y a.1 e

not_before : {g : Grammar} → IsGrammar g → (p d r : ℕ) (y : List Symbol) → rest g p d ≡ Rule r ∷ y → r ≡ 0 → ⊥
not_before {g} n p d r y b e = no_rule_zero g (body_of g p) d y (n.symbols p) (rw e at b)

-- a production whose rule has a row stands in no such core at dot 0: it isn't the start production, since rule 0 stands
-- behind no dot
pub rows_apart :
    {g : Grammar} {a : Items} {rows : Rows} → IsGrammar g → OnlyStartsAtZero g a → AreClosingRows g a rows
    → (q : ℕ) → IsPutIn g rows q → HasItem a q 0 → ⊥
rows_apart {g} n only m q (r, of, some) h =
    let start : IsProductionOf g g.start_production r = rw (only q h) at of in
    let zero_is : r ≡ 0 = of_rule_zero (slice_get g.productions g.start_production) r _ _ n.start.1 start in
    let (p, d, behind) = m.behind r some in
    not_before n p d r behind.0 behind.1 zero_is
