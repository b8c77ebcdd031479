use Rattle.std.proofs.Common.{◌≡◌, List, Option, ◌-◌, None, [], ◌∷◌, ◌++◌, refl, ap, sym, subst, arith, ◌∙◌}
use Rattle.lryacc.specs.declared.contents.Alternative.{Alternative}
use Rattle.lryacc.specs.declared.lexemes.Lexeme.{Lexeme}
use Rattle.lryacc.specs.declared.places.Span.{Span}
use Rattle.lryacc.specs.Bodies.{IsBody, IsRuleBefore, place_of, reach_over}
use Rattle.lryacc.specs.Bodies.IsBody.{begins}
use Rattle.lryacc.specs.DeclarationsRead.{stated}
use Rattle.lryacc.proofs.AllDeclared.{body-declared}
use Rattle.lryacc.proofs.DeclarationsRead.{stated-same}
use Rattle.lryacc.proofs.BodiesRead.{IsBody-same, alternative-count, body_counts, ends_there}
use Rattle.lryacc.proofs.reader.Reader.alternative.Goals as goal

pub returns-clause-added : goal.returns-clause-added
returns-clause-added c =
    let old = c.args.self.now in
    let added = c.in_ok-end_body.ensures.ended in
    let read = c.in_ok-parts.ensures.read in
    let stays = c.in_ok-want_end.ensures.stays in
    let now_text = added.text ∙ c.parts.ensures.file.text in
    let now_lexemes = added.lexemes ∙ c.parts.ensures.file.lexemes in
    let now_dialect = added.dialect ∙ c.parts.ensures.file.dialect in
    let text = old.text.now in
    let lexemes = old.lexemes.now in
    let first : IsBody text lexemes old.at old.at c.new-body.result.parts.items c.new-body.result.precedence =
    IsBody-same text lexemes old.at old.at old.at [] c.new-body.result.parts.items None c.new-body.result.precedence refl c.new-body.ensures.parts c.new-body.ensures.precedence begins in
    let counts = body_counts text lexemes old.at c.parts.new.self.at c.parts.new.body.parts.items c.parts.new.body.precedence (read.parts old.at first) in
    record {
      text = stays.file.text ∙ now_text;
      lexemes = stays.file.lexemes ∙ now_lexemes;
      on = omega (arith, counts.0, added.at, stays.at);
      count =
          alternative-count old c.parts.new.self c.want_end.new.self c.parts.ensures.file.lexemes
          (stays.file.lexemes ∙ added.lexemes) (stays.at ∙ added.at) counts.1;
      dialect = stays.file.dialect ∙ now_dialect;
      body = added.body;
      rule_is = added.rule_is;
      read = record {
        rule = subst (λ (name : Lexeme). IsRuleBefore lexemes old.at name) (sym added.rule_is) c.requires.rule_is;
        to = c.parts.new.self.at;
        parts = IsBody-same text lexemes old.at c.parts.new.self.at c.parts.new.self.at c.parts.new.body.parts.items added.body.parts.items c.parts.new.body.precedence added.body.precedence refl added.parts_are added.precedence_is (read.parts old.at first);
        ends =
            ends_there old c.end_body.new.self c.parts.new.self.at now_text now_lexemes now_dialect added.at
            c.in_ok-want_end.ensures.ends;
        place =
            added.place
            ∙ ap (λ (z : Option Span). place_of z c.args.mark)
            (read.reach
            ∙ ap (λ (z : Option Span). reach_over lexemes old.at z (c.parts.new.self.at - old.at)) c.new-body.ensures.span);
      };
      bodies =
          stays.file.bodies ∙ added.bodies
          ∙ ap (λ (xs : List Alternative). xs ++ added.body ∷ []) c.parts.ensures.file.bodies;
    }

pub returns-clause-said : goal.returns-clause-said
returns-clause-said c =
    let old = c.args.self.now in
    let added = c.in_ok-end_body.ensures.ended in
    let stays = c.in_ok-want_end.ensures.stays in
    let text = stays.file.text ∙ (added.text ∙ c.parts.ensures.file.text) in
    let lexemes = stays.file.lexemes ∙ (added.lexemes ∙ c.parts.ensures.file.lexemes) in
    let dialect = stays.file.dialect ∙ (added.dialect ∙ c.parts.ensures.file.dialect) in
    let kept : stated c.want_end.new.self ≡ stated old =
    stated-same c.parts.new.self c.want_end.new.self (c.want_end.ensures.statements ∙ c.end_body.ensures.statements) ∙ c.in_ok-parts.ensures.kept in
    let first : IsBody old.text.now old.lexemes.now old.at old.at c.new-body.result.parts.items c.new-body.result.precedence =
    IsBody-same old.text.now old.lexemes.now old.at old.at old.at [] c.new-body.result.parts.items None c.new-body.result.precedence refl c.new-body.ensures.parts c.new-body.ensures.precedence begins in
    body-declared old c.want_end.new.self c.parts.new.self.at c.parts.new.body.parts.items c.parts.new.body.precedence text lexemes dialect
    (stays.at ∙ added.at) kept c.requires.behind (c.in_ok-parts.ensures.read.parts old.at first)
