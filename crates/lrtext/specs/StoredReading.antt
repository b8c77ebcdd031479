-- what was read of a document, as the code stores it, by plain lists
use Rattle.std.specs.Prelude.{◌≡◌, Bool, true, false, Option, None, Some, map}
use Rattle.std.specs.Option.{option_map}
use Rattle.lrtext.specs.declared.reading_state.ReadingState as stored_state
use Rattle.lrtext.specs.declared.reading_state.ReadingState.TheVariants as state
use Rattle.lrtext.specs.declared.reading.Reading as stored
use Rattle.lrtext.specs.StoredParts.{kind_of}
use Rattle.lrtext.specs.StoredContents.{name_text_of, kind_line_of, alternative_of}
use Rattle.lrtext.specs.NumberedNames.{names_of}
use Rattle.lrspec.specs.texts.ReadingStates.{ReadingState, AtDeclaration, WantsStart, WantsName, InLine, AtRule, WantsColon, InBody, WantsPrecedence, BehindBody, Behind}
use Rattle.lrtext.specs.Readings.{Reading}

-- how far a document was read
abbrev pub state_of : stored_state.ReadingState → ReadingState
state_of (state.AtDeclaration seen) = AtDeclaration seen
state_of state.WantsStart = WantsStart
state_of (state.WantsName seen) = WantsName seen
state_of (state.InLine seen) = InLine seen
state_of state.AtRule = AtRule
state_of state.WantsColon = WantsColon
state_of state.InBody = InBody
state_of state.WantsPrecedence = WantsPrecedence
state_of state.BehindBody = BehindBody
state_of state.Behind = Behind

-- what was read, by plain lists
abbrev pub reading_of : stored.Reading → Reading
reading_of r =
    record {
      state = state_of r.state;
      start = option_map (λ w. w.now) r.contents.start;
      declared = names_of r.contents.declared.items;
      kind_lines = map kind_line_of r.contents.kind_lines.items;
      line = option_map kind_of r.line;
      names = names_of r.names.items;
      rule = r.rule.now;
      body = map name_text_of r.body.items;
      precedence = option_map name_text_of r.precedence;
      alternatives = map alternative_of r.contents.alternatives.items;
    }

-- the lexeme was taken, or else it may not come; `o` is what was read behind it, if it may come
abbrev pub IsTaken : Bool → Option Reading → Reading → Type 0
IsTaken true o x = o ≡ Some x
IsTaken false o x = o ≡ None
