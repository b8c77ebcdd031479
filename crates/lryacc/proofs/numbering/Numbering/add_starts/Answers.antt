use Rattle.std.proofs.Common.{◌<◌, ℕ, List, Option, get_or, length, arith, subst, sym}
use Rattle.std.proofs.lemmas.List.{take_all, take_more}
use Rattle.std.proofs.Common.{map}
use Rattle.lryacc.specs.declared.lexemes.Lexeme.{Lexeme}
use Rattle.lryacc.specs.declared.lexemes.LexemeKind.TheVariants as kind
use Rattle.lryacc.specs.BodyProductions.{AddsProductions, AreRelated, IsMark, IsOfStart, is_one}
use Rattle.lryacc.specs.BodyProductions.AreRelated.{none}
use Rattle.lryacc.specs.ProductionPlaces.{Adds}
use Rattle.lryacc.specs.Numbered.{names_of}
use Rattle.lryacc.proofs.Numbered.{element-at}
use Rattle.lryacc.proofs.MarksAdded.{mark-at}
use Rattle.lryacc.proofs.ProductionsAdded.{related-added, no-place, none_added, places-mapped}
use Rattle.lryacc.proofs.numbering.Numbering.add_starts.Goals as goal

pub loop-at-init : goal.loop-at-init
loop-at-init c = record {
  places = no-place c.args.productions.now;
  added = none_added _ c.args.productions.now none;
}

pub loop-at-preserved : goal.loop-at-preserved
loop-at-preserved c =
    let starts = c.args.starts.now in
    let at = c.loop-at.at in
    let below : at < length starts = omega arith in
    let names = names_of c.args.self.now in
    let one = c.in_ok-add_start.ensures.added in
    let mark = c.mark_at.ensures in
    let start : Lexeme = get_or starts at record { kind = kind.Name; span = record { start = 0; end = 0 } } in
    record {
      places = places-mapped (λ (start : Lexeme). start.span) _ _ _ _ _ _ (take_more c.args.starts.now c.loop-at.at _ below) c.loop-at.invariant.places c.in_ok-add_start.ensures.places;
      added = related-added (IsOfStart (names_of c.args.self.now) (is_one c.args.starts.now)) _ _ _ _ _ _ (take_more c.args.starts.now c.loop-at.at _ below) c.loop-at.invariant.added
          record {
            prod = one.prod;
            prods = one.prods;
            is = record {
              mark = c.mark_at.result;
              is_mark = subst (λ (m : Option ℕ). IsMark names (is_one starts) start m) (sym mark) (mark-at names starts c.args.marks.now (is_one starts) c.requires.marks at start (element-at starts at _ below));
              marked = one.is;
            };
          };
    }

pub returns-clause-places : goal.returns-clause-places
returns-clause-places c =
    subst (λ (xs : List Lexeme). Adds c.args.productions.now c.loop-at.productions (map (λ (start : Lexeme). start.span) xs)) (take_all _ _ c.loop-at-test.false) c.loop-at.invariant.places

pub returns-clause-added : goal.returns-clause-added
returns-clause-added c =
    subst (λ (xs : List Lexeme). AddsProductions c.args.productions.now c.loop-at.productions (AreRelated (IsOfStart (names_of c.args.self.now) (is_one c.args.starts.now)) xs)) (take_all _ _ c.loop-at-test.false) c.loop-at.invariant.added
