use Rattle.std.proofs.Common.{◌≡◌, ap, sym, ◌∙◌, refl, length}
use Rattle.std.proofs.Math.Dec.{eqb}
use Rattle.std.proofs.lemmas.Bool.Decides.{same_from_decides}
use Rattle.std.specs.Bool.{Decides}
use Rattle.lrbits.proofs.PackedBits.{same_count}
use Rattle.lrbits.proofs.EqualBits.{same_bits}
use Rattle.lrbits.proofs.EqualWords.{words_decide, lengths_decide}
use Rattle.lrbits.proofs.vob.VobPartialEq.eq.Goals as goal
use Rattle.lrbits.proofs.vob.VobPartialEq.eq.Goals.{After-same_words, Else-self-other}

decides : (c : After-same_words) → Decides c.same_words.result (c.args.self.now ≡ c.args.other.now)
decides c =
    let v = c.self.inside in
    let w = c.other.inside in
    words_decide v.len w.len v.words.items w.words.items c.args.self.now c.args.other.now c.same_words.result
    c.if-self-other.true c.self.invariant c.other.invariant c.self.view_is c.other.view_is
    (rw (← c.as_slice.ensures.value, ← c.as_slice-then-self-other.ensures.value) c.same_words.ensures)

differs : (c : Else-self-other) → Decides (eqb c.self.inside.len c.other.inside.len) (c.args.self.now ≡ c.args.other.now)
differs c =
    let v = c.self.inside in
    let w = c.other.inside in
    lengths_decide v.len w.len v.words.items w.words.items c.args.self.now c.args.other.now c.if-self-other.false
    c.self.view_is c.other.view_is

pub same_words-requires : goal.same_words-requires
same_words-requires c =
    ap length c.as_slice-then-self-other.ensures.value
    ∙ same_count c.self.inside.len c.other.inside.len c.self.inside.words.items c.other.inside.words.items
    c.self.invariant c.other.invariant (sym c.if-self-other.true) ∙ ap length (sym c.as_slice.ensures.value)

pub returns-then-self-other-clause-answer : goal.returns-then-self-other-clause-answer
returns-then-self-other-clause-answer c = same_from_decides c.same_words.result _ (decides c)
    (same_bits c.args.self.now c.args.other.now _ refl)

pub returns-then-self-other-clause-same : goal.returns-then-self-other-clause-same
returns-then-self-other-clause-same c = decides c

pub returns-else-self-other-clause-answer : goal.returns-else-self-other-clause-answer
returns-else-self-other-clause-answer c = same_from_decides _ _ (differs c) (same_bits c.args.self.now c.args.other.now _ refl)

pub returns-else-self-other-clause-same : goal.returns-else-self-other-clause-same
returns-else-self-other-clause-same c = differs c
