-- A stored grammar as plain lists, and what it keeps.
use Rattle.std.specs.Prelude.{◌≡◌, ◌≢◌, ℕ, ◌<◌, List, [], ◌∷◌, ◌++◌, map, length, slice_index_or}
use Rattle.std.specs.HashMap.{get_by_text}
use Rattle.std.specs.Option.{option_map}
use Rattle.std.specs.String.{string_bytes}
use Rattle.std.specs.declared.vec.Vec.{Vec}
use Rattle.std.specs.declared.alloc.Global.{Global}
use Rattle.lrgrammar.specs.declared.grammar.Production as stored
use Rattle.lrgrammar.specs.declared.grammar.YaccGrammar.TheInside.{Inside}
use Rattle.lrgrammar.specs.declared.idx.PIdx.{PIdx}
use Rattle.lrspec.specs.grammars.Grammar.{Grammar, Production, IsGrammar, places_of_rule}
use Rattle.lrgrammar.specs.Symbols.{symbol_of}
use Rattle.lrgrammar.specs.GrammarSizes.{IsWithin}
use Rattle.lrtext.specs.StoredParts.{precedence_of}
use Rattle.lrparts.specs.LookUps.{FindsNames}

-- a stored production as the grammar has it
abbrev pub production_of : {T : Type 0} → (T → ℕ) → stored.Production T → Production
production_of number p =
    record {
      rule = number p.rule.0;
      body = map (symbol_of number) p.body.items;
      precedence_token = option_map (λ t. number t.0) p.precedence;
    }

-- a stored grammar as plain lists
abbrev pub grammar_of : {T : Type 0} → (T → ℕ) → Inside T → Grammar
grammar_of number g =
    record {
      rule_names = map string_bytes g.rule_names.items;
      token_names = map string_bytes g.token_names.items;
      token_precedences = map (option_map precedence_of) g.token_precedences.items;
      productions = map (production_of number) g.prods.items;
      start_production = number g.start.0;
    }

-- the numbers of stored productions
abbrev pub numbers_of : {T : Type 0} → (T → ℕ) → List (PIdx T) → List ℕ
numbers_of number ps = map (λ p. number p.0) ps

-- a list for each rule, of the productions of the rule
pub record AreListsOf {T : Type 0} (number : T → ℕ) (ps : List Production) (rules : ℕ)
    (lists : List (Vec (PIdx T) Global)) : Type 0 where
  pub count : length lists ≡ rules
  pub each : (r : ℕ) (d : Vec (PIdx T) Global) → r < rules
      → numbers_of number (slice_index_or lists r d).items ≡ places_of_rule ps r

-- the list of the rule has the production more, at its end
abbrev pub HasOneMore :
    {T : Type 0} → List (Vec (PIdx T) Global) → List (Vec (PIdx T) Global) → ℕ → PIdx T → Type 0
HasOneMore {T} old new rule p =
    (d : Vec (PIdx T) Global)
    → (slice_index_or new rule d).items ≡ (slice_index_or old rule d).items ++ p ∷ []

-- the lists of all other rules are the same
abbrev pub KeepsOthers :
    {T : Type 0} → List (Vec (PIdx T) Global) → List (Vec (PIdx T) Global) → ℕ → Type 0
KeepsOthers {T} old new rule =
    (k : ℕ) (d : Vec (PIdx T) Global) → k ≢ rule → slice_index_or new k d ≡ slice_index_or old k d

-- what each stored grammar keeps
pub record IsStored {T : Type 0} (number : T → ℕ) (most : ℕ) (g : Inside T) : Type 0 where
  pub shape : IsGrammar (grammar_of number g)
  pub sizes : IsWithin most (grammar_of number g)
  pub lists : AreListsOf number (map (production_of number) g.prods.items)
      (length g.rule_names.items) g.rule_prods.items
  pub rules : FindsNames (get_by_text g.rule_places) (map string_bytes g.rule_names.items)
      (length g.rule_names.items)
  pub tokens : FindsNames (get_by_text g.token_places) (map string_bytes g.token_names.items)
      (length g.token_names.items)
