use Rattle.std.proofs.Common.{◌≡◌, ◌∙◌, ap, refl, subst, sym, arith, length, map, slice_get, string_bytes}
use Rattle.std.specs.BTreeMap.{get}
use Rattle.std.specs.Ordering.{nat_cmp}
use Rattle.std.specs.declared.alloc.Global.{Global}
use Rattle.std.specs.declared.string.String.{String}
use Rattle.std.specs.declared.vec.Vec.{Vec}
use Rattle.std.proofs.lemmas.List.{length-map}
use Rattle.lrgrammar.specs.declared.grammar.PartToken.{PartToken}
use Rattle.lryacc.specs.declared.places.Span.{Span}
use Rattle.lryacc.specs.Numbered.{AreLevelled, names_of}
use Rattle.lryacc.proofs.Numbered.{end-more, lengths-more, numbered-action, numbered-more, map-added, map-more, with_more}
use Rattle.lryacc.proofs.numbering.Numbering.add_action.Goals as goal

pub returns : goal.returns
returns c =
    let rule_name = λ (name : String Global). string_bytes name in
    let token_name = λ (token : PartToken). string_bytes token.name in
    let start = λ (place : Span). place.start in
    let old = c.args.self.now.grammar in
    let new = c.add_rule.new.self in
    let added = c.in_ok-rule.ensures in
    let names = names_of c.args.self.now in
    let rules = map rule_name new.parts.rules.items in
    let tokens = map token_name new.parts.tokens.items in
    let levels = map (λ (token : PartToken). token.precedence) new.parts.tokens.items in
    let starts = map start new.rule_places.items in
    let number : length names.starts ≡ length names.rules → c.in_ok-rule.rule ≡ length old.rule_places.items =
    λ same. omega (arith, added.number, same, length-map old.rule_places.items start, length-map old.parts.rules.items rule_name) in
    record {
      meaning = refl;
      contents = refl;
      rules = λ _ _ e. e;
      numbered = λ h.
          numbered-action (with_more names rules tokens levels starts names.symbol) _ _ _ _ c.args.action.span.start c.in_ok-rule.rule (λ q. c.in_ok-insert.ensures.updates.0 q)
          (record {
            place = ap (slice_get starts) (number h.placed) ∙ map-added start old.rule_places.items new.rule_places.items c.args.action.span added.places;
            text = string_bytes c.in_ok-name.name;
            here = ap (slice_get rules) added.number ∙ map-added rule_name old.parts.rules.items new.parts.rules.items c.in_ok-name.name added.rules;
            is = c.in_ok-name.ensures;
          })
          (numbered-more names rules tokens levels starts names.symbol _ _ _
          (map-more rule_name old.parts.rules.items new.parts.rules.items c.in_ok-name.name added.rules)
          (λ n x e. ap (λ (ts : Vec PartToken Global). slice_get (map token_name ts.items) n) added.tokens ∙ e)
          (λ n x e. ap (λ (ts : Vec PartToken Global). slice_get (map (λ (token : PartToken). token.precedence) ts.items) n) added.tokens ∙ e)
          (map-more start old.rule_places.items new.rule_places.items c.args.action.span added.places)
          (lengths-more start rule_name old.rule_places.items new.rule_places.items old.parts.rules.items new.parts.rules.items c.args.action.span c.in_ok-name.name added.places added.rules)
          h);
      levelled = λ h.
          subst (λ (ts : Vec PartToken Global). AreLevelled (map (λ (token : PartToken). token.precedence) ts.items) (get nat_cmp c.args.self.now.below) c.args.self.now.without_level)
          (sym added.tokens) h;
      end =
          end-more names rules tokens levels starts names.symbol _
          (λ n x e. ap (λ (ts : Vec PartToken Global). slice_get (map token_name ts.items) n) added.tokens ∙ e)
          (λ n x e. ap (λ (ts : Vec PartToken Global). slice_get (map (λ (token : PartToken). token.precedence) ts.items) n) added.tokens ∙ e);
    }
