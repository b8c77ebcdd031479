-- a part that the code makes is the part that is meant
use Rattle.std.proofs.Common.{◌≡◌, ℕ, List, Option, String, Vec, Global, map, ap, ◌∙◌}
use Rattle.std.specs.String.{string_bytes}
use Rattle.std.specs.Option.{option_map}
use Rattle.lrspec.specs.grammars.Grammar.{Precedence}
use Rattle.lrspec.specs.texts.Names.{place_of}
use Rattle.lrspec.specs.texts.Meaning.{token_in, symbol_in, production_in, precedence_in, named_precedence}
use Rattle.lrtext.specs.declared.contents.Alternative.{Alternative}
use Rattle.lrtext.specs.declared.contents.NameText.{NameText}
use Rattle.lrtext.specs.declared.parts.PartSymbol.{PartSymbol}
use Rattle.lrtext.specs.declared.parts.Precedence as stored
use Rattle.lrtext.specs.StoredParts.{token_of, precedence_of, part_symbol_of, part_production_of}
use Rattle.lrtext.specs.StoredContents.{name_text_of, alternative_of}

-- a token
pub token_made : (ps : List (List ℕ × Precedence)) (w : List ℕ) (n : String Global) (p : Option stored.Precedence) → string_bytes n ≡ w → option_map precedence_of p ≡ precedence_in ps w → token_of (record { name = n; precedence = p }) ≡ token_in ps w
token_made ps w n p named given =
    ap (λ v. record { name = v; precedence = option_map precedence_of p }) named ∙ ap (λ o. record { name = w; precedence = o }) given

-- a production
pub production_made : (rules tokens : List (List ℕ)) (a b : Alternative) (ns : List NameText) (k : ℕ) (ss : Vec PartSymbol Global) (p : Option ℕ) → a ≡ b → ns ≡ a.body.items → k ≡ place_of rules a.rule.now → map part_symbol_of ss.items ≡ map (symbol_in rules tokens) (map name_text_of ns) → p ≡ option_map (place_of tokens) (named_precedence (alternative_of a)) → part_production_of (record { rule = k; symbols = ss; precedence = p }) ≡ production_in rules tokens (alternative_of b)
production_made rules tokens a b ns k ss p here body place made named =
    ap (λ n. record { rule = n; body = map part_symbol_of ss.items; precedence_token = p }) place
    ∙ ap (λ o. record { rule = place_of rules a.rule.now; body = map part_symbol_of ss.items; precedence_token = o }) named
    ∙ ap (λ ys. record { rule = place_of rules a.rule.now; body = ys; precedence_token = option_map (place_of tokens) (named_precedence (alternative_of a)) }) (made ∙ ap (λ xs. map (symbol_in rules tokens) (map name_text_of xs)) body)
    ∙ ap (λ x. production_in rules tokens (alternative_of x)) here
