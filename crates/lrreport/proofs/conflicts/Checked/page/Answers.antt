use Rattle.std.proofs.Common.{All}
use Rattle.lrevidence.specs.Ambiguities.{IsProved}
use Rattle.lrevidence.specs.Losses.{IsLostAtEntry}
use Rattle.lrevidence.specs.DecidedEntries.{IsToldDecided}
use Rattle.lrreport.proofs.Groups.{in_groups, all_shown, all_shown_decided, all_shown_kept, all_shown_lost}
use Rattle.lrreport.proofs.conflicts.Checked.page.Goals as goal

pub invariant_of-page : goal.invariant_of-page
invariant_of-page c =
    let checked = c.args.self.now in
    let cards = c.in_ok-cards.cards.items in
    let each_of = λ (P : _) (all : All P checked.told.evidence.now).
    in_groups P (λ card. card.meeting.now) cards checked.told.evidence.now c.in_ok-cards.ensures all in
    record {
      proved =
          rw c.as_slice.ensures.value
          (all_shown checked.found.now.grm (λ card. card.meeting.now) cards (each_of (IsProved checked.found.now.grm) c.requires.proved));
      lost =
          rw c.as_slice.ensures.value
          (all_shown_lost checked.found.now.grm checked.found.now.table (λ card. card.meeting.now) cards
          (each_of (IsLostAtEntry checked.found.now.grm checked.found.now.table) c.requires.lost));
      decided =
          rw c.as_slice.ensures.value
          (all_shown_decided checked.found.now.grm checked.found.now.graph (λ card. card.meeting.now) cards
          (each_of (IsToldDecided checked.found.now.grm checked.found.now.graph) c.requires.entries));
      resolved_texts = rw c.as_slice-3.ensures.value c.in_ok-resolved.ensures.texts;
      resolved_lost = rw c.as_slice-3.ensures.value c.in_ok-resolved.ensures.lost;
      unlost = all_shown_kept checked.found.now.grm checked.found.now.graph checked.found.now.table checked.told.kept.now c.requires.kept;
      told = c.requires.words;
    }
