-- `holders::exchange` meets its contract. Assumes nothing.
use Rattle.holders.proofs.Holding.{held-exchange}
use Rattle.holders.proofs.exchange.Goals as goal

pub returns : goal.returns
returns c rows P few lp lr H = let a = c.args in
    held-exchange a.held.now c.let_go.new.held c.take_on.new.held a.p a.u a.v c.take_on.ensures.0 c.let_go.ensures.1 c.take_on.ensures.1 rows P few lp lr H
