use Rattle.lrgraphs.proofs.OrderedStates.{closed_upwards}
use Rattle.lrgraphs.proofs.stategraph.StateGraph.closed_state.Goals as goal

pub returns-clause-upwards : goal.returns-clause-upwards
returns-clause-upwards g c = closed_upwards c.args.self.now _ c.requires (rw (← c.self.view_is) c.self.invariant.order)
