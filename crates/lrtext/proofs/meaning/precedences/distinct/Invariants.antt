use Rattle.std.proofs.Common.{◌≡◌, take}
use Rattle.std.specs.Prelude.{IsTrue}
use Rattle.lrspec.specs.texts.Names.{has_no_repeats}
use Rattle.lrtext.specs.StoredLevels.{leveled_names}
use Rattle.lrtext.proofs.meaning.precedences.distinct.Given as goal

abbrev pub invariant-loop-one : goal.invariant-loop-one
invariant-loop-one l =
    record { numbered : l.numbers ≡ leveled_names (take l.one-index l.leveled); once : IsTrue (has_no_repeats (leveled_names (take l.one-index l.leveled))) }
