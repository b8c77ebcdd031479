use Rattle.std.proofs.Common.{◌≡◌, ◌∙◌, ◌+◌, ◌++◌, ◌∷◌, [], ◌<◌, ℕ, List, Option, ap, get_or, length, map, sym, take}
use Rattle.std.proofs.lemmas.List.{map-append, take_more}
use Rattle.lrgrammar.specs.declared.grammar.PartSymbol.{PartSymbol}
use Rattle.lrgrammar.specs.StoredParts.{part_symbol_of}
use Rattle.lrspec.specs.grammars.Grammar.{Symbol}
use Rattle.lryacc.specs.KeptProductions.{new_symbol}
use Rattle.lryacc.proofs.useful.renumbered.Goals as goal

-- one symbol more has its new number
one-more : (numbers : List (Option ℕ)) (list new : List PartSymbol) (symbol : PartSymbol) (all : List PartSymbol) (i : ℕ) (d : PartSymbol) → i < length all → new ≡ list ++ symbol ∷ [] → part_symbol_of symbol ≡ new_symbol numbers (part_symbol_of (get_or all i d)) → map part_symbol_of list ≡ map (new_symbol numbers) (map part_symbol_of (take i all)) → map part_symbol_of new ≡ map (new_symbol numbers) (map part_symbol_of (take (i + 1) all))
one-more numbers list new symbol all i d below is same so_far =
    let before = map part_symbol_of (take i all) in
    let last = get_or all i d in
    ap (map part_symbol_of) is
    ∙ (map-append part_symbol_of list (symbol ∷ [])
    ∙ (ap (λ (symbols : List Symbol). symbols ++ part_symbol_of symbol ∷ []) so_far
    ∙ (ap (λ (s : Symbol). map (new_symbol numbers) before ++ s ∷ []) same
    ∙ sym (ap (λ (symbols : List PartSymbol). map (new_symbol numbers) (map part_symbol_of symbols)) (take_more all i d below)
    ∙ ap (map (new_symbol numbers)) (map-append part_symbol_of (take i all) (last ∷ []))
    ∙ map-append (new_symbol numbers) before (part_symbol_of last ∷ [])))))

pub loop-symbol-preserved : goal.loop-symbol-preserved
loop-symbol-preserved c =
    one-more c.args.numbers.now c.loop-symbol.list.items c.push.new.self.items c.renumbered_symbol.result c.args.symbols.now c.loop-symbol.symbol-index _ c.loop-symbol-test.true
    c.in_ok-push.ensures.items c.renumbered_symbol.ensures c.loop-symbol.invariant
