-- the parts of a grammar, as the code stores them, by plain lists
use Rattle.std.specs.Prelude.{map}
use Rattle.std.specs.Option.{option_map}
use Rattle.std.specs.String.{string_bytes}
use Rattle.lrtext.specs.declared.parts.GrammarParts.{GrammarParts}
use Rattle.lrtext.specs.declared.parts.PartToken as token
use Rattle.lrtext.specs.declared.parts.PartProd.{PartProd}
use Rattle.lrtext.specs.declared.parts.PartSymbol.{PartSymbol}
use Rattle.lrtext.specs.declared.parts.PartSymbol.TheVariants as symbol
use Rattle.lrtext.specs.declared.parts.Precedence as precedence
use Rattle.lrtext.specs.declared.parts.AssocKind.{AssocKind}
use Rattle.lrtext.specs.declared.parts.AssocKind.TheVariants as kind
use Rattle.lrspec.specs.grammars.Grammar as math
use Rattle.lrspec.specs.texts.Parts.{Parts, PartToken}

abbrev pub kind_of : AssocKind → math.Kind
kind_of kind.Left = math.Kind.Left
kind_of kind.Right = math.Kind.Right
kind_of kind.Nonassoc = math.Kind.Nonassoc

-- a precedence as the grammar has it
abbrev pub precedence_of : precedence.Precedence → math.Precedence
precedence_of p = record { level = p.level; kind = kind_of p.kind }

abbrev pub token_of : token.PartToken → PartToken
token_of t =
    record { name = string_bytes t.name; precedence = option_map precedence_of t.precedence }

abbrev pub part_symbol_of : PartSymbol → math.Symbol
part_symbol_of (symbol.Rule r) = math.Symbol.Rule r
part_symbol_of (symbol.Token t) = math.Symbol.Token t

abbrev pub part_production_of : PartProd → math.Production
part_production_of p =
    record {
      rule = p.rule;
      body = map part_symbol_of p.symbols.items;
      precedence_token = p.precedence;
    }

-- the parts as plain lists
abbrev pub parts_of : GrammarParts → Parts
parts_of ps =
    record {
      rules = map string_bytes ps.rules.items;
      tokens = map token_of ps.tokens.items;
      prods = map part_production_of ps.prods.items;
      start = ps.start;
    }
