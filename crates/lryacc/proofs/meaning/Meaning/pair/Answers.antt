use Rattle.lryacc.proofs.NamesOfOne.{kept-again, ok-then}
use Rattle.lryacc.proofs.meaning.Meaning.pair.Goals as goal

pub returns-clause-one : goal.returns-clause-one
returns-clause-one c =
    ok-then c.tell_tags.result
    (λ told. record {
      now = c.pair.new.self;
      pairs = c.in_ok-pair.ensures;
      keeps = kept-again c.set_class.ensures told.symbols;
    })
    c.tell_tags.ensures
