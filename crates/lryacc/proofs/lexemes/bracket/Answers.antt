use Rattle.std.proofs.Common.{◌≡◌, ◌≢◌, ◌<◌, ℕ, List, true, length, slice_index, refl, rules, subst, arith}
use Rattle.lryacc.specs.Words.{Begins, IsRun, IsWord, is_in_name, is_name_start}
use Rattle.lryacc.proofs.lexemes.bracket.Goals as goal
use Rattle.lryacc.proofs.lexemes.bracket.Goals.{in-Some, in_default-2, in_default}

-- what begins a name may also stand in it
goes_on : (byte : ℕ) → is_name_start byte ≡ true → is_in_name byte ≡ true
goes_on byte begins = search rules

-- a run of such bytes that begins as a name does is a name
is_name : (text : List ℕ) (name behind : ℕ) → name < length text → is_name_start (slice_index text name) ≡ true
    → IsRun is_in_name text name behind → IsWord is_name_start is_in_name text name behind
is_name text name behind inside begins run =
    let some : name ≢ behind = λ same.
    let ends = run.ends (subst (λ at. at < length text) same inside) in
    let on = goes_on (slice_index text behind) (subst (λ at. is_name_start (slice_index text at) ≡ true) same begins) in
    absurd (cc)
    in
    let ordered = run.ordered in
    record {
      begins = begins;
      rest = record {
        ordered = omega arith;
        inside = run.inside;
        each = λ at low high. run.each at (omega arith) high;
        ends = run.ends;
      };
    }

pub returns-then-eq-clause-is : goal.returns-then-eq-clause-is
returns-then-eq-clause-is c =
    let text = c.args.text.now in
    let name = c.in_ok-name.name in
    let begins : is_name_start (slice_index text name) ≡ true = elim c.match-matches.branch [
      | in-Some w ↦ search rules
      | in_default-2 w ↦ absurd (cc)
      | in_default w ↦ absurd (cc)
    ] in
    let inside : name < length text = elim c.match-matches.branch [
      | in-Some w ↦ search rules
      | in_default-2 w ↦ absurd (cc)
      | in_default w ↦ absurd (cc)
    ] in
    let closes : Begins 93 text c.in_ok-behind.behind = search rules in
    record {
      name = name;
      behind = c.end.result;
      last = c.in_ok-behind.behind;
      opens = c.requires.first;
      before = c.in_ok-name.ensures.gap;
      word = is_name text name c.end.result inside begins c.end.ensures.run;
      after = c.in_ok-behind.ensures.gap;
      closes = closes;
      ends = refl;
    }
