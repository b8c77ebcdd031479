use Rattle.std.proofs.Common.{◌≡◌, [], inl, refl, ap, sym, arith, ◌∙◌}
use Rattle.lryacc.proofs.Scanning.{all-found, none-of, scanned-more}
use Rattle.lryacc.proofs.scanner.scan.Goals as goal

pub loop-found-init : goal.loop-found-init
loop-found-init c =
    let same = c.into_iter-found-iterator.ensures.into_iter_gives in
    let no_second : c.into_iter-found-iterator.result.separators ≡ 0 =
    ap (λ s. s.separators) same ∙ c.new-found-items.ensures.none in
    record {
      text_is = ap (λ s. s.text.now) same ∙ c.new-found-items.ensures.text;
      dialect_is = ap (λ s. s.dialect) same ∙ c.new-found-items.ensures.dialect;
      lexemes = record { bare = []; last = 0; order = refl; named = c.new.ensures.items };
      reached = omega arith;
      all = λ _.
          record {
            bare = [];
            last = 0;
            order = refl;
            named = c.new.ensures.items;
            count = sym no_second;
            reached = inl (ap (λ s. s.at) same ∙ c.new-found-items.ensures.begins, omega arith);
          };
    }

pub loop-found-preserved : goal.loop-found-preserved
loop-found-preserved c =
    scanned-more c.args.text.now c.args.dialect c.loop-found.scanned c.add.new.self c.loop-found.found-iterator c.next.new.self
    c.in-Some.found c.loop-found.invariant c.in-Some.ensures.steps c.in_ok-add.ensures

pub returns-clause-lexemes : goal.returns-clause-lexemes
returns-clause-lexemes c = c.loop-found.invariant.lexemes

pub returns-clause-all : goal.returns-clause-all
returns-clause-all c = λ none.
    all-found c.args.text.now c.args.dialect c.loop-found.scanned c.loop-found.found-iterator c.next.new.self
    c.loop-found.invariant c.in-None.ensures.steps
    (none-of c.loop-found.scanned.faults.items (omega (arith, c.loop-found.scanned.faults.ok.0)))
