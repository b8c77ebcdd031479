use Rattle.lrevidence.proofs.ListedEntries.{is_listed}
use Rattle.lrevidence.proofs.evidence.evidence_of.Goals.{then-wanted-gt0+in_ok-ambiguity+in-None, else-wanted-gt0}
use Rattle.lrevidence.proofs.evidence.evidence_of.Goals as goal

pub with_texts-requires-clause-one : goal.with_texts-requires-clause-one
with_texts-requires-clause-one c = rw c.in_ok-prepare.ensures c.requires

pub with_texts-requires-clause-listed : goal.with_texts-requires-clause-listed
with_texts-requires-clause-listed c =
    let s = c.args.searches.now in
    rw (c.in_ok-prepare.ensures, c.in-Some.ensures.entry)
    (is_listed s.reasons.grammar s.reasons.graph s.found.now.conflicts.items c.args.entry c.requires.listed
    (rw c.as_slice-listed.ensures.value at c.is_among.ensures c.if-not-is_among.false))

pub example-requires-clause-listed : goal.example-requires-clause-listed
example-requires-clause-listed c =
    let s = c.args.searches.now in
    rw (c.in_ok-prepare.ensures, c.in-Some.ensures.entry)
    (is_listed s.reasons.grammar s.reasons.graph s.found.now.conflicts.items c.args.entry c.requires.listed
    (rw c.as_slice-listed.ensures.value at c.is_among.ensures c.if-not-is_among.false))

pub example-requires-clause-contested : goal.example-requires-clause-contested
example-requires-clause-contested c = rw c.in_ok-prepare.ensures c.requires.contested

pub returns-clause-known : goal.returns-clause-known
returns-clause-known c =
    elim c.if-wanted-gt0.branch [
      | then-wanted-gt0+in_ok-ambiguity+in-None w ↦ rw w.evidence-is (record { proved = tt; parts = tt; lost = tt; decided = tt })
      | else-wanted-gt0 w ↦ rw w.evidence-is (record { proved = tt; parts = tt; lost = tt; decided = tt })
    ]
