-- the productions of what a file says
use Rattle.std.specs.Prelude.{◌≡◌, ℕ, Option, Some, codes, slice_get}
use Rattle.lrgrammar.specs.declared.grammar.PartSymbol.{PartSymbol}
use Rattle.lryacc.specs.declared.contents.Contents.{Contents}
use Rattle.lryacc.specs.declared.meaning.Meaning.{Meaning}
use Rattle.lryacc.specs.declared.numbering.FileGrammar.{FileGrammar}
use Rattle.lryacc.specs.BodyProductions.{AreOfFile}
use Rattle.lryacc.specs.NamedSymbols.{AreDeclaredRules, AreOneEach, HasEndToken, names_in}
use Rattle.lryacc.specs.ProductionPlaces.{start_rules_of}

-- a grammar has the productions of a file whose names have their meaning, and each of its rules and tokens is one symbol; rule 0 is
-- `$accept`, and token 0 the end token
pub record HasProductions (meaning : Meaning) (contents : Contents) (file : FileGrammar)
    : Type 0 where
  pub symbol : ℕ → Option PartSymbol
  pub one_each : AreOneEach symbol
  pub accept : slice_get (names_in meaning contents symbol file).rules 0 ≡ Some (codes "$accept")
  pub declared : AreDeclaredRules (names_in meaning contents symbol file)
  pub end : HasEndToken (names_in meaning contents symbol file)
  pub productions :
      AreOfFile (names_in meaning contents symbol file)
      (start_rules_of meaning.starts.items contents.alternatives.items)
      contents.alternatives.items file.parts.prods.items
