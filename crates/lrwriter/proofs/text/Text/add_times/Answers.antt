use Rattle.std.proofs.Common.{subst, sym, encode_utf8}
use Rattle.lrwriter.specs.Texts.{Adds}
use Rattle.lrwriter.proofs.Pieces.{adds_none, adds_both, repeat_more}
use Rattle.lrwriter.proofs.text.Text.add_times.Goals as goal

pub loop-init : goal.loop-init
loop-init c = adds_none c.args.self.now

pub loop-preserved : goal.loop-preserved
loop-preserved c =
    subst (Adds c.args.self.now c.add_char.new.self) (sym (repeat_more c.loop.counter (encode_utf8 c.args.character)))
    (adds_both c.loop.invariant c.add_char.ensures)
