-- edges that lead to different states are no more than those states
use Rattle.std.proofs.Common.{◌≡◌, ℕ, ◌<◌, ◌≤◌, true, eqb, List, length, map, get_or, Some, sym, ap, ◌∙◌, arith}
use Rattle.std.specs.List.{IsDistinct, list_any}
use Rattle.std.proofs.lemmas.Bool.{eqb-true, ne_eqb}
use Rattle.std.proofs.lemmas.List.{length-map, get_or-map}
use Rattle.std.proofs.lemmas.List.Folds.{Any-from_list_any}
use Rattle.std.proofs.lemmas.Map.Keys.{IsDistinct-from_apart}
use Rattle.std.proofs.lemmas.Map.Steps.{length-le_from_distinct_below}
use Rattle.lrspec.specs.grammars.Grammar.{Symbol, Rule}
use Rattle.lrspec.specs.merging.Graph.{edge_at}
use Rattle.lrplacing.specs.Construction.{HasEdgesOnce}
use Rattle.lrpager.specs.Collecting.{HaveDistinctTargets}
use Rattle.lrgraphs.proofs.DistinctSymbols.{AreOnDistinctSymbols, edge_at_place}
use Rattle.lrpager.proofs.EdgeWalk.{distinct_once}

-- where the edges lead
abbrev pub targets : List (Symbol × ℕ) → List ℕ
targets es = map (λ (e : Symbol × ℕ). e.1) es

module _ (n : ℕ) (es : List (Symbol × ℕ)) (once : HasEdgesOnce es) (lead : HaveDistinctTargets n es) where
  distinct : AreOnDistinctSymbols es
  distinct = distinct_once es once

  at_target : (i d : ℕ) → i < length es → edge_at es (get_or es i (Rule 0, d)).0 ≡ Some (get_or (targets es) i d)
  at_target i d l = edge_at_place es distinct i (Rule 0, d) l ∙ ap Some (sym (get_or-map (λ (e : Symbol × ℕ). e.1) es i (Rule 0, d) d l))

  distinct_targets : IsDistinct eqb (targets es)
  distinct_targets = IsDistinct-from_apart eqb (targets es) (λ i j d l m. ne_eqb (get_or (targets es) i d) (get_or (targets es) j d) (differ i j d l m))
    where
      differ : (i j d : ℕ) → i < j → j < length (targets es) → get_or (targets es) i d ≡ get_or (targets es) j d → ⊥
      differ i j d l m z =
          let o : j < length es = rw length-map at m in
          let one = at_target i d (omega (arith, l, o)) in
          let other = at_target j d o in
          distinct i j (Rule 0, d) l o (lead.apart (get_or es i (Rule 0, d)).0 (get_or es j (Rule 0, d)).0 (get_or (targets es) j d) (rw z at one) other)

  target_below : (q : ℕ) → list_any (eqb q) (targets es) ≡ true → q < n
  target_below q a =
      let (i, v, l, at, is) = Any-from_list_any (eqb q) (targets es) a in
      let k : i < length es = rw length-map at l in
      let same : q ≡ v = eqb-true q v is in
      rw same (lead.below (get_or es i (Rule 0, v)).0 v (rw at at (at_target i v k)))

  -- edges that lead to different states below `n` are at most `n`
  pub few_edges : length es ≤ n
  few_edges = let few = length-le_from_distinct_below (targets es) n distinct_targets target_below in rw length-map at few
