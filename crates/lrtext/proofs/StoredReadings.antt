-- what was read, as the code stores it, with one more thing
use Rattle.std.proofs.Common.{◌≡◌, ℕ, List, [], ◌∷◌, ◌++◌, Option, None, Some, Vec, Global, map, sym, ap, ◌∙◌}
use Rattle.std.specs.Option.{option_map}
use Rattle.std.proofs.lemmas.List.{map-append}
use denote.Ref.{Bor}
use Rattle.lrtext.specs.declared.contents.NameText.{NameText}
use Rattle.lrtext.specs.declared.contents.NameText.TheVariants as name
use Rattle.lrtext.specs.declared.contents.KindLine.{KindLine}
use Rattle.lrtext.specs.declared.contents.Alternative.{Alternative}
use Rattle.lrtext.specs.declared.lexemes.Lexeme.{Lexeme}
use Rattle.lrtext.specs.declared.lexemes.Lexeme.TheVariants as code
use Rattle.lrtext.specs.declared.parts.AssocKind.{AssocKind}
use Rattle.lrtext.specs.declared.reading.Reading.{Reading}
use Rattle.lrtext.specs.NextLexemes.{lexeme_of}
use Rattle.lrtext.specs.NumberedNames.{names_of}
use Rattle.lrspec.specs.texts.Documents.{BodyText}
use Rattle.lrtext.specs.Readings.{named, line_ended, alternative_ended, in_body}
use Rattle.lrtext.specs.StoredContents.{name_text_of, kind_line_of, alternative_of}
use Rattle.lrtext.specs.StoredParts.{kind_of}
use Rattle.lrtext.specs.StoredReading.{reading_of}

module _ (r : Reading) where
  -- one more name of a `%token` line
  pub declared_more : (w : Bor (List ℕ)) (new : Vec (Bor (List ℕ)) Global) → r.line ≡ None → new.items ≡ r.contents.declared.items ++ w ∷ [] → reading_of (record r { contents = record r.contents { declared = new } }) ≡ named (option_map kind_of r.line) w.now (reading_of r)
  declared_more w new none more =
      ap (λ ns. record (reading_of r) { declared = ns }) (ap names_of more ∙ map-append (λ (v : Bor (List ℕ)). v.now) r.contents.declared.items (w ∷ []))
      ∙ sym (ap (λ (o : Option AssocKind). named (option_map kind_of o) w.now (reading_of r)) none)

  -- one more name of a precedence line
  pub name_more : (k : AssocKind) (w : Bor (List ℕ)) (new : Vec (Bor (List ℕ)) Global) → r.line ≡ Some k → new.items ≡ r.names.items ++ w ∷ [] → reading_of (record r { names = new }) ≡ named (option_map kind_of r.line) w.now (reading_of r)
  name_more k w new some more =
      ap (λ ns. record (reading_of r) { names = ns }) (ap names_of more ∙ map-append (λ (v : Bor (List ℕ)). v.now) r.names.items (w ∷ []))
      ∙ sym (ap (λ (o : Option AssocKind). named (option_map kind_of o) w.now (reading_of r)) some)

  -- the end of a precedence line
  pub line_more : (k : AssocKind) (names empty : Vec (Bor (List ℕ)) Global) (new : Vec KindLine Global) → r.line ≡ Some k → new.items ≡ r.contents.kind_lines.items ++ record { kind = k; names = names } ∷ [] → names ≡ r.names → empty.items ≡ [] → reading_of (record r { contents = record r.contents { kind_lines = new }; line = None; names = empty }) ≡ line_ended (option_map kind_of r.line) (reading_of r)
  line_more k names empty new some more same none =
      let before = map kind_line_of r.contents.kind_lines.items in
      ap (λ ls. record (reading_of r) { kind_lines = ls; line = None; names = names_of empty.items })
      (ap (map kind_line_of) more
      ∙ map-append kind_line_of r.contents.kind_lines.items (record { kind = k; names = names } ∷ [])
      ∙ ap (λ (v : Vec (Bor (List ℕ)) Global). before ++ (kind_of k, names_of v.items) ∷ []) same)
      ∙ ap (λ ns. record (reading_of r) { kind_lines = before ++ (kind_of k, names_of r.names.items) ∷ []; line = None; names = names_of ns }) none
      ∙ sym (ap (λ (o : Option AssocKind). line_ended (option_map kind_of o) (reading_of r)) some)

  -- the end of an alternative
  pub alternative_more : (body empty : Vec NameText Global) (new : Vec Alternative Global) → new.items ≡ r.contents.alternatives.items ++ record { rule = r.rule; body = body; precedence = r.precedence } ∷ [] → body ≡ r.body → empty.items ≡ [] → reading_of (record r { contents = record r.contents { alternatives = new }; body = empty; precedence = None }) ≡ alternative_ended (reading_of r)
  alternative_more body empty new more same none =
      let before = map alternative_of r.contents.alternatives.items in
      let said : List NameText → List ℕ × BodyText = λ ns. (r.rule.now, record { names = map name_text_of ns; precedence = option_map name_text_of r.precedence }) in
      ap (λ ls. record (reading_of r) { alternatives = ls; body = map name_text_of empty.items; precedence = None })
      (ap (map alternative_of) more
      ∙ map-append alternative_of r.contents.alternatives.items (record { rule = r.rule; body = body; precedence = r.precedence } ∷ [])
      ∙ ap (λ (v : Vec NameText Global). before ++ said v.items ∷ []) same)
      ∙ ap (λ ns. record (reading_of r) { alternatives = before ++ said r.body.items ∷ []; body = map name_text_of ns; precedence = None }) none

  -- one more name in a body
  pub plain_more : (l : Lexeme) (w : Bor (List ℕ)) (new : Vec NameText Global) → l ≡ code.Name w → new.items ≡ r.body.items ++ name.Plain w ∷ [] → reading_of (record r { body = new }) ≡ in_body (lexeme_of l) (reading_of r)
  plain_more l w new is more =
      ap (λ ns. record (reading_of r) { body = ns }) (ap (map name_text_of) more ∙ map-append name_text_of r.body.items (name.Plain w ∷ []))
      ∙ sym (ap (λ (m : Lexeme). in_body (lexeme_of m) (reading_of r)) is)

  -- one more name in quotes in a body
  pub quoted_more : (l : Lexeme) (w : Bor (List ℕ)) (new : Vec NameText Global) → l ≡ code.Quoted w → new.items ≡ r.body.items ++ name.InQuotes w ∷ [] → reading_of (record r { body = new }) ≡ in_body (lexeme_of l) (reading_of r)
  quoted_more l w new is more =
      ap (λ ns. record (reading_of r) { body = ns }) (ap (map name_text_of) more ∙ map-append name_text_of r.body.items (name.InQuotes w ∷ []))
      ∙ sym (ap (λ (m : Lexeme). in_body (lexeme_of m) (reading_of r)) is)
