-- sets of tokens, to which complete items bring their lookaheads, and edges their tokens
use Rattle.std.proofs.Common.{◌≡◌, ◌≢◌, ℕ, zero, suc, ◌<◌, Bool, true, false, cond, List, [], ◌∷◌, Option, None, Some, length, replicate, ⊎_elim, eq-eqb, refl, sym, ap, ◌∙◌}
use Rattle.std.specs.Prelude.{◌||◌, is_some, slice_set}
use Rattle.std.proofs.lemmas.Bool.{cases_eq}
use Rattle.std.proofs.lemmas.Grind.{get_or-set_at}
use Rattle.std.proofs.lemmas.List.{get_or-set_other}
use Rattle.lrspec.specs.grammars.Grammar.{Symbol, Rule, Token}
use Rattle.lrspec.specs.merging.Graph.{edge_at}
use Rattle.lrspec.specs.tables.Table.{bit_or_none}
use Rattle.lrgrammar.specs.Bits.{bit}
use Rattle.lrrows.specs.StateRows.{first_at}
use Rattle.lrrows.proofs.CompleteTurns.{other}

or_false : (a : Bool) → a ≡ (a || false)
or_false true = refl
or_false false = refl

or_true : (a : Bool) → (a || true) ≡ true
or_true true = refl
or_true false = refl

none_set : (n t : ℕ) → bit (replicate n false) t ≡ false
none_set zero t = refl
none_set (suc n) zero = refl
none_set (suc n) (suc t) = none_set n t

-- the set begins with the tokens at which the text may end
pub begun_with :
    (looked new ctx : List Bool) (o : Option (List Bool)) (n : ℕ) → looked ≡ replicate n false → o ≡ Some ctx
    → ((t : ℕ) → bit new t ≡ (bit looked t || bit ctx t)) → (t : ℕ) → bit new t ≡ bit_or_none o t
begun_with looked new ctx o n none is joined t =
    let before : bit looked t ≡ false = ap (λ v. bit v t) none ∙ none_set n t in
    rw is (joined t ∙ ap (λ b. b || bit ctx t) before)

-- or with none
pub begun_without :
    (looked : List Bool) (o : Option (List Bool)) (n : ℕ) → looked ≡ replicate n false → o ≡ None
    → (t : ℕ) → bit looked t ≡ bit_or_none o t
begun_without looked o n none is t = rw is (ap (λ v. bit v t) none ∙ none_set n t)

regrouped : (a b : Bool) (p : ℕ) (o : Option ℕ) → ((a || b) || is_some o) ≡ (a || is_some (cond b (Some p) o))
regrouped true b p o = refl
regrouped false true p o = refl
regrouped false false p o = refl

module _ (old new : List Bool) (whole : ℕ → Bool) where
  -- the lookaheads of one complete item more have come
  pub looks_turn :
      (item : ℕ × List Bool) (items later : List (ℕ × List Bool)) → items ≡ item ∷ later
      → ((t : ℕ) → bit new t ≡ (bit old t || bit item.1 t)) → ((t : ℕ) → (bit old t || is_some (first_at items t)) ≡ whole t)
      → (t : ℕ) → (bit new t || is_some (first_at later t)) ≡ whole t
  looks_turn item items later e joined h t =
      rw (joined t) (regrouped (bit old t) (bit item.1 t) item.0 (first_at later t) ∙ (rw e at (h t)))

  -- the token of one edge more has come
  pub edge_turn :
      (k u : ℕ) (edges rest : List (Symbol × ℕ)) → edges ≡ (Token k, u) ∷ rest → k < length old → new ≡ slice_set old k true
      → ((t : ℕ) → (bit old t || is_some (edge_at edges (Token t))) ≡ whole t)
      → (t : ℕ) → (bit new t || is_some (edge_at rest (Token t))) ≡ whole t
  edge_turn k u edges rest e l set h t =
      ⊎_elim
      (λ (i : t ≡ k).
      rw (set, get_or-set_at old k t true false i l) (sym (or_true (bit old t)) ∙ (rw (e, eq-eqb t k i) at (h t))))
      (λ (d : t ≢ k). rw (set, get_or-set_other old k t true false d) (rw (e, other t k d) at (h t)))
      (cases_eq t k)

module _ (set : List Bool) (whole : ℕ → Bool) where
  -- an edge on a rule brings none
  pub edge_passed :
      (r u : ℕ) (edges rest : List (Symbol × ℕ)) → edges ≡ (Rule r, u) ∷ rest
      → ((t : ℕ) → (bit set t || is_some (edge_at edges (Token t))) ≡ whole t)
      → (t : ℕ) → (bit set t || is_some (edge_at rest (Token t))) ≡ whole t
  edge_passed r u edges rest e h = rw e at h

  -- all have come
  pub looks_end :
      (items : List (ℕ × List Bool)) → items ≡ [] → ((t : ℕ) → (bit set t || is_some (first_at items t)) ≡ whole t)
      → (t : ℕ) → bit set t ≡ whole t
  looks_end items e h t = or_false (bit set t) ∙ (rw e at (h t))
