-- where edges contain gotos, none leads to the start state, and those to one state are on one symbol
use Rattle.std.proofs.Common.{◌≡◌, ℕ, suc, ◌<◌, List, ◌∷◌, length, Some, refl}
use Rattle.lrspec.specs.grammars.Grammar.{Symbol, Grammar, rest}
use Rattle.lrspec.specs.grammars.ItemSets as set
use Rattle.lrspec.specs.grammars.ItemSets.{Items, HasItem, IsBefore, Moved}
use Rattle.lrspec.specs.grammars.StartState.{IsStartCore}
use Rattle.lrspec.specs.merging.Cores.{IsRooted}
use Rattle.lrspec.specs.merging.Graph.{Graph, core_of, edge, Leads, ContainGotos, AreReached}
use Rattle.lrspec.proofs.merging.StatesHoldWhatStands.{AreRooted}

-- a rooted item set has an item
pub item_of_rooted : {g : Grammar} {a : Items} → IsRooted g a → (p : ℕ) × (d : ℕ) × HasItem a p d
item_of_rooted (ws, root) = let (w, k) = root.some in (root.cores w k).some

-- no item at dot 0 was moved over a symbol
not_moved : {g : Grammar} {x : Symbol} {A : ℕ → ℕ → Type 0} {p d : ℕ} → Moved g x A p d → d ≡ 0 → ⊥
not_moved (set.Moved.moved i b) e = cc

-- an item that was moved over a symbol has that symbol before its dot
behind_symbol :
    {g : Grammar} {x : Symbol} {A : ℕ → ℕ → Type 0} {p d : ℕ} → Moved g x A p d
    → (e : ℕ) × (y : List Symbol) × (d ≡ suc e) × (rest g p e ≡ x ∷ y)
behind_symbol (set.Moved.moved {d = e} i (y, k)) = (e, y, refl, k)

-- so it was moved over one symbol only
pub moved_symbol :
    {g : Grammar} {x y : Symbol} {A B : ℕ → ℕ → Type 0} {p d : ℕ} → Moved g x A p d → Moved g y B p d → x ≡ y
moved_symbol {g} {x} {y} {p = p} m n =
    let (d, us, i, j) = behind_symbol m in
    let (e, vs, k, l) = behind_symbol n in
    let same : d ≡ e = cc in
    let both : rest g p e ≡ x ∷ us = rw same at j in
    cc

module _ (g : Grammar) (h : Graph) (gotos : ContainGotos g h) (start : IsStartCore g (core_of h 0)) (rooted : AreRooted g h) where
  -- an edge leads to a state with an item
  moved_into : (s u : ℕ) (x : Symbol) → edge h s x ≡ Some u → (p : ℕ) × (d : ℕ) × HasItem (core_of h u) p d
  moved_into s u x e = item_of_rooted (rooted u (gotos.gotos s u x e).below)

  not_to_start : (s u : ℕ) (x : Symbol) → edge h s x ≡ Some u → u ≡ 0 → ⊥
  not_to_start s u x e z =
      let at = (gotos.gotos s u x e).items g.start_production 0 in
      not_moved (at.0 (rw z ((start.item g.start_production 0).1 (refl, refl)))) refl

  by_one_symbol : (s v u : ℕ) (x y : Symbol) → edge h s x ≡ Some u → edge h v y ≡ Some u → x ≡ y
  by_one_symbol s v u x y e f =
      let (p, d, i) = moved_into s u x e in
      moved_symbol (((gotos.gotos s u x e).items p d).0 i) (((gotos.gotos v u y f).items p d).0 i)

  -- where a list leads to each state, they are reached
  pub reached_of_gotos : ((s : ℕ) → s < length h → (w : List Symbol) × Leads h w s) → AreReached h
  reached_of_gotos lists = record { reached = lists; start = not_to_start; one_symbol = by_one_symbol }
