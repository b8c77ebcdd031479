use Rattle.std.proofs.Common.{◌≡◌, ◌<◌, ℕ, true, false, List, length, map, get_or, drop, ap, ◌∙◌, arith, rules, bytes_eq, Bor}
use Rattle.lrparsing.specs.Lines.{behind}
use Rattle.lrparsing.proofs.WordsBehind.{stands, stands_elsewhere}
use Rattle.lrparsing.proofs.spellings.behind.Goals as goal

pub loop-word-preserved : goal.loop-word-preserved
loop-word-preserved c =
    let ws = c.args.words.now in
    let i = c.loop-word.next in
    let x = c.in-Some-get.here.now in
    let inside : i < length ws = c.in-Some-get.ensures.lookup.3.0 in
    let is : x ≡ get_or ws i x = c.in-Some-get.ensures.lookup.1 in
    let same : bytes_eq c.in-Some.word.now x.now ≡ true = search rules in
    record {
      rest =
          c.loop-word.invariant.rest
          ∙ (ap (λ l. behind l (drop i (map (λ (w : Bor (List ℕ)). w.now) ws))) c.in-Some.ensures.steps
          ∙ stands (λ (w : Bor (List ℕ)). w.now) ws i x inside is c.in-Some.word.now c.next.new.self same);
      after = omega (arith, c.loop-word.invariant.after);
      within = omega (arith, inside);
    }

pub returns-in_default-clause-rest : goal.returns-in_default-clause-rest
returns-in_default-clause-rest c =
    let ws = c.args.words.now in
    let i = c.loop-word.next in
    let x = c.in-Some-get.here.now in
    let inside : i < length ws = c.in-Some-get.ensures.lookup.3.0 in
    let is : x ≡ get_or ws i x = c.in-Some-get.ensures.lookup.1 in
    let other : bytes_eq c.in-Some.word.now x.now ≡ false = search rules in
    c.loop-word.invariant.rest
    ∙ (ap (λ l. behind l (drop i (map (λ (w : Bor (List ℕ)). w.now) ws))) c.in-Some.ensures.steps
    ∙ stands_elsewhere (λ (w : Bor (List ℕ)). w.now) ws i x inside is c.in-Some.word.now c.next.new.self other)
