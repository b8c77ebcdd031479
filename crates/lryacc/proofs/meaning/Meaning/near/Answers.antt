use Rattle.std.proofs.Common.{◌≡◌, ◌∙◌, ℕ, List, Some, IfSome, ap, inl, inr, refl, slice_get, subst, sym}
use Rattle.std.proofs.lemmas.Option.{same_Some}
use Rattle.lryacc.specs.declared.spellings.Near.{Near}
use Rattle.lryacc.specs.declared.symbols.Symbol.{Symbol}
use Rattle.lryacc.specs.declared.symbols.Symbols.{Symbols}
use Rattle.lryacc.specs.NamedSymbols.{name_of}
use Rattle.lryacc.specs.Spellings.{IsNearSymbol, IsProposed}
use Rattle.lryacc.proofs.Numbered.{some-at}
use Rattle.lryacc.proofs.meaning.Meaning.near.Goals as goal

-- the symbol of the nearest name is proposed
proposed : (symbols : Symbols) (name : List ℕ) (near : Near) (symbol : Symbol) → IsNearSymbol symbols name near → slice_get symbols.list.items near.at ≡ Some symbol → IsProposed symbols name symbol.mention.span
proposed symbols name near symbol found there = record {
  number = near.at;
  symbol = found.symbol;
  there = found.there;
  at = ap (λ (s : Symbol). s.mention.span) (same_Some found.symbol symbol (sym found.there ∙ there));
  near = found.near;
}

pub loop-number-preserved : goal.loop-number-preserved
loop-number-preserved c =
    elim c.in_ok-best.ensures [
      | inl same ↦ rw same c.loop-number.invariant
      | inr near ↦ near
    ]

pub returns-in-Some-get-clause-proposed : goal.returns-in-Some-get-clause-proposed
returns-in-Some-get-clause-proposed c =
    let symbols = c.args.self.now.symbols in
    let name = name_of symbols.text.now symbols.dialect c.args.lexeme in
    let near = c.in-Some.near in
    let symbol = c.in-Some-get.symbol.now in
    let place = c.in-Some-get.ensures.lookup in
    let there : slice_get symbols.list.items near.at ≡ Some symbol = subst (λ (ss : List Symbol). slice_get ss near.at ≡ Some symbol) c.deref.ensures.value (some-at _ _ _ place.3.0 place.1) in
    proposed symbols name near symbol (subst (λ best. IfSome best (IsNearSymbol symbols name)) c.in-Some.is c.loop-number.invariant) there

pub returns-in-Some-get-clause-at : goal.returns-in-Some-get-clause-at
returns-in-Some-get-clause-at c =
    let symbols = c.args.self.now.symbols in
    let name = name_of symbols.text.now symbols.dialect c.args.lexeme in
    let near = c.in-Some.near in
    let symbol = c.in-Some-get.symbol.now in
    let place = c.in-Some-get.ensures.lookup in
    let there : slice_get symbols.list.items near.at ≡ Some symbol = subst (λ (ss : List Symbol). slice_get ss near.at ≡ Some symbol) c.deref.ensures.value (some-at _ _ _ place.3.0 place.1) in
    record {
      lexeme = c.args.lexeme;
      at = refl;
      is = proposed symbols name near symbol (subst (λ best. IfSome best (IsNearSymbol symbols name)) c.in-Some.is c.loop-number.invariant) there;
    }
