-- the contents of a document, as the code stores them, by plain lists
use Rattle.std.specs.Prelude.{ℕ, List, [], ◌∷◌, map, Option, None, Some}
use denote.Ref.{Bor}
use Rattle.std.specs.Option.{option_map}
use Rattle.lrtext.specs.declared.contents.NameText as stored_name
use Rattle.lrtext.specs.declared.contents.NameText.TheVariants as name
use Rattle.lrtext.specs.declared.contents.KindLine.{KindLine}
use Rattle.lrtext.specs.declared.contents.Alternative.{Alternative}
use Rattle.lrtext.specs.declared.contents.Contents as stored
use Rattle.lrtext.specs.StoredParts.{kind_of}
use Rattle.lrtext.specs.NumberedNames.{names_of}
use Rattle.lrspec.specs.grammars.Grammar.{Kind}
use Rattle.lrspec.specs.texts.Documents.{NameText, Plain, InQuotes, BodyText}
use Rattle.lrspec.specs.texts.Meaning.{Contents}

-- a name in a body as a document has it
abbrev pub name_text_of : stored_name.NameText → NameText
name_text_of (name.Plain w) = Plain w.now
name_text_of (name.InQuotes w) = InQuotes w.now

-- the kind and the names of a precedence line
abbrev pub kind_line_of : KindLine → Kind × List (List ℕ)
kind_line_of l = (kind_of l.kind, names_of l.names.items)

-- an alternative with the name of its rule
abbrev pub alternative_of : Alternative → List ℕ × BodyText
alternative_of a = (
  a.rule.now,
  record {
    names = map name_text_of a.body.items;
    precedence = option_map name_text_of a.precedence;
  },
)

-- the names behind `%start`
abbrev pub starts_of : Option (Bor (List ℕ)) → List (List ℕ)
starts_of None = []
starts_of (Some w) = w.now ∷ []

-- what a document says, by plain lists
abbrev pub plain_contents : stored.Contents → Contents
plain_contents c =
    record {
      starts = starts_of c.start;
      declared = names_of c.declared.items;
      kind_lines = map kind_line_of c.kind_lines.items;
      alternatives = map alternative_of c.alternatives.items;
    }

-- the name of the rule of an alternative
abbrev pub rule_name_of : Alternative → List ℕ
rule_name_of a = a.rule.now

-- the names of a precedence line
abbrev pub line_names_of : KindLine → List (List ℕ)
line_names_of l = names_of l.names.items

-- the names in the body of an alternative
abbrev pub body_of : Alternative → List NameText
body_of a = map name_text_of a.body.items
