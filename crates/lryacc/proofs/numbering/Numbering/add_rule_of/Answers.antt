use Rattle.std.proofs.Common.{◌≡◌, None, Some, ◌∙◌, ◌<◌, arith, ap, sym, refl, subst, map, List, ℕ, slice_get, string_bytes}
use Rattle.std.proofs.lemmas.Option.{same_Some}
use Rattle.std.specs.BTreeMap.{get, is_at}
use Rattle.std.specs.Ordering.{nat_cmp}
use Rattle.std.specs.declared.alloc.Global.{Global}
use Rattle.std.specs.declared.string.String.{String}
use Rattle.std.specs.declared.vec.Vec.{Vec}
use Rattle.lrgrammar.specs.declared.grammar.PartToken.{PartToken}
use Rattle.lryacc.specs.declared.places.Span.{Span}
use Rattle.lryacc.specs.NamedSymbols.{IsTextOf}
use Rattle.lryacc.specs.Numbered.{AreLevelled, names_of, symbol_in}
use Rattle.std.proofs.lemmas.List.{length-map}
use Rattle.lryacc.proofs.Numbered.{end-more, given-some, none-some, stays, rules-before, some-first, lengths-more, numbered-rule, numbered-more, map-added, map-more, with_more}
use Rattle.lryacc.proofs.numbering.Numbering.add_rule_of.Goals as goal

pub returns-clause-added : goal.returns-clause-added
returns-clause-added c =
    let rule_name = λ (name : String Global). string_bytes name in
    let token_name = λ (token : PartToken). string_bytes token.name in
    let start = λ (place : Span). place.start in
    let old = c.args.self.now.grammar in
    let new = c.add_rule.new.self in
    let added = c.in_ok-rule.ensures in
    let names = names_of c.args.self.now in
    let rules = map rule_name new.parts.rules.items in
    let tokens = map token_name new.parts.tokens.items in
    let levels = map (λ (token : PartToken). token.precedence) new.parts.tokens.items in
    let starts = map start new.rule_places.items in
    let symbol = symbol_in (record c.args.self.now { rules = c.insert.new.self }) in
    record {
      meaning = refl;
      contents = refl;
      rules = λ n r e.
          let none : get nat_cmp c.args.self.now.rules c.in-Some.symbol ≡ None =
          none-some _ (sym c.contains_key.ensures ∙ c.if-contains_key.false) in
          stays (get nat_cmp c.args.self.now.rules) (get nat_cmp c.insert.new.self) c.in-Some.symbol c.in_ok-rule.rule n r (is_at (nat_cmp c.in-Some.symbol) n) none refl (c.in_ok-insert.ensures.updates.0 n) e;
      numbered = λ h.
          numbered-rule (with_more names rules tokens levels starts symbol) _ _ _ _ c.in-Some.symbol c.in_ok-rule.rule (λ q. c.in_ok-insert.ensures.updates.0 q)
          (record {
            is_rule = c.requires c.in-Some.symbol (sym c.find.ensures ∙ c.in-Some.is);
            behind = subst (λ (n : ℕ). 0 < n) (sym added.number) (omega (arith, some-first names.rules _ h.accept, length-map old.parts.rules.items rule_name));
            name = c.args.name;
            same = sym c.find.ensures ∙ c.in-Some.is;
            text = string_bytes c.in_ok-text.text;
            here = ap (slice_get rules) added.number ∙ map-added rule_name old.parts.rules.items new.parts.rules.items c.in_ok-text.text added.rules;
            is = subst (λ (bytes : List ℕ). IsTextOf bytes (string_bytes c.in_ok-text.text)) c.name.ensures c.in_ok-text.ensures;
          })
          (rules-before names _ _ _ c.in_ok-rule.rule (length-map old.parts.rules.items rule_name ∙ sym added.number) h)
          (numbered-more names rules tokens levels starts symbol _ _ _
          (map-more rule_name old.parts.rules.items new.parts.rules.items c.in_ok-text.text added.rules)
          (λ n x e. ap (λ (ts : Vec PartToken Global). slice_get (map token_name ts.items) n) added.tokens ∙ e)
          (λ n x e. ap (λ (ts : Vec PartToken Global). slice_get (map (λ (token : PartToken). token.precedence) ts.items) n) added.tokens ∙ e)
          (map-more start old.rule_places.items new.rule_places.items c.args.place added.places)
          (lengths-more start rule_name old.rule_places.items new.rule_places.items old.parts.rules.items new.parts.rules.items c.args.place c.in_ok-text.text added.places added.rules)
          h);
      levelled = λ h.
          subst (λ (ts : Vec PartToken Global). AreLevelled (map (λ (token : PartToken). token.precedence) ts.items) (get nat_cmp c.args.self.now.below) c.args.self.now.without_level)
          (sym added.tokens) h;
      end =
          end-more names rules tokens levels starts symbol _
          (λ n x e. ap (λ (ts : Vec PartToken Global). slice_get (map token_name ts.items) n) added.tokens ∙ e)
          (λ n x e. ap (λ (ts : Vec PartToken Global). slice_get (map (λ (token : PartToken). token.precedence) ts.items) n) added.tokens ∙ e);
    }

pub returns-clause-has : goal.returns-clause-has
returns-clause-has c = λ number e.
    let same : c.in-Some.symbol ≡ number = same_Some c.in-Some.symbol number (sym c.in-Some.is ∙ c.find.ensures ∙ e) in
    (c.in_ok-rule.rule, ap (get nat_cmp c.insert.new.self) (sym same) ∙ c.in_ok-insert.ensures.updates.1)

pub returns-then-contains_key-clause-has : goal.returns-then-contains_key-clause-has
returns-then-contains_key-clause-has c = λ number e.
    let same : c.in-Some.symbol ≡ number = same_Some c.in-Some.symbol number (sym c.in-Some.is ∙ c.find.ensures ∙ e) in
    let rule = given-some _ (sym c.contains_key.ensures ∙ c.if-contains_key.true) in
    (rule.0, ap (get nat_cmp c.args.self.now.rules) (sym same) ∙ rule.1)

pub returns-in_default-clause-has : goal.returns-in_default-clause-has
returns-in_default-clause-has c = λ number e.
    let no : None ≡ Some number = sym c.in_default.is ∙ c.find.ensures ∙ e in
    absurd (cc)
