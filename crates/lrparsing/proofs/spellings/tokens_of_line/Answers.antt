use Rattle.std.proofs.Common.{◌≡◌, ◌<◌, ◌+◌, ◌++◌, ◌∷◌, [], None, ℕ, List, length, map, drop, sym, subst, arith, Bor}
use Rattle.std.proofs.lemmas.List.{map-append}
use Rattle.std.proofs.lemmas.List.Elements.{All-nil}
use Rattle.lrspec.specs.grammars.Grammar.{end_token}
use Rattle.lrspec.specs.tables.Recognition.{AreNamed}
use Rattle.lrspec.specs.texts.Lines.{words}
use Rattle.lrparsing.specs.Lines.{NameUpTo, nothing, more, first_named, front_of}
use Rattle.lrparsing.specs.Machines.{numbers}
use Rattle.lrparsing.proofs.WordsBehind.{here}
use Rattle.lrparsing.proofs.NamedTokens.{named_more, first_below}
use Rattle.lrparsing.proofs.spellings.tokens_of_line.Goals as goal

pub loop-at-init : goal.loop-at-init
loop-at-init c =
    let ss = c.args.spellings.now in
    let ws = words c.args.line.now in
    record {
      names =
          subst (NameUpTo ss ws (numbers c.new-tokens.result.items)) (sym c.in_ok-words.ensures)
          (subst (λ ts. NameUpTo ss ws (numbers ts) ws) (sym c.new-tokens.ensures.items) nothing);
      within = omega arith;
      named = λ g spelled. subst (λ ts. AreNamed g (numbers ts)) (sym c.new-tokens.ensures.items) (All-nil (λ t. t < end_token g));
    }

pub loop-at-preserved : goal.loop-at-preserved
loop-at-preserved c =
    let ss = c.args.spellings.now in
    let ws = words c.args.line.now in
    let ts = numbers c.loop-at.tokens.items in
    let t = c.in-Some.token.0 in
    let w = map (λ (w : Bor (List ℕ)). w.now) c.in_ok-words.words.items in
    let f = front_of t (drop c.in-Some.next w) in
    let found = rw c.as_slice.ensures.value at c.in-Some.ensures.named in
    let known : NameUpTo ss ws (ts ++ t ∷ []) (drop c.in-Some.next w) = more {f = f} c.loop-at.invariant.names found in
    record {
      names = rw (c.in_ok-push.ensures.items, map-append) known;
      within = rw c.as_slice.ensures.value at c.in-Some.ensures.within.1;
      named = λ g spelled.
          rw (c.in_ok-push.ensures.items, map-append)
          (named_more g ts t (c.loop-at.invariant.named g spelled) (first_below g ss (drop c.loop-at.at w) f spelled found));
    }

pub returns-in_default-clause-tokens : goal.returns-in_default-clause-tokens
returns-in_default-clause-tokens c =
    let ss = c.args.spellings.now in
    let ws = words c.args.line.now in
    let ts = numbers c.loop-at.tokens.items in
    let items = c.in_ok-words.words.items in
    let at = c.loop-at.at in
    let x = c.index.result.now in
    let rest = drop (at + 1) (map (λ (w : Bor (List ℕ)). w.now) items) in
    let inside : at < length items = omega (arith, c.loop-at-test.true, c.len.ensures, c.in_ok-words.words.ok.0) in
    let is : drop at (map (λ (w : Bor (List ℕ)). w.now) items) ≡ x.now ∷ rest = here (λ (w : Bor (List ℕ)). w.now) items at x inside c.index.ensures in
    let none = rw c.as_slice.ensures.value at c.in_default.ensures.named in
    record {
      before = ts;
      rest = rest;
      named_before = subst (NameUpTo ss ws ts) is c.loop-at.invariant.names;
      unknown = subst (λ l. first_named ss l ≡ None) is none;
    }
