use Rattle.std.proofs.Common.{length}
use denote.Text.{Utf8}
use denote.Shadow.{shadow}
use Rattle.lrtext.proofs.ReadingTexts.{IsReadTo}
use Rattle.lrtext.specs.StoredReading.{reading_of}
use Rattle.lrtext.proofs.reader.read.Given as goal

abbrev pub invariant-loop-reading : goal.invariant-loop-reading
invariant-loop-reading l = shadow (Utf8 l.rest) × IsReadTo l.text (reading_of l.reading) l.rest

abbrev pub decreases-loop-reading : goal.decreases-loop-reading
decreases-loop-reading l = length l.rest
