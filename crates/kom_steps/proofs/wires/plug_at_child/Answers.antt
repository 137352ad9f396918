use Rattle.std.proofs.Common.{is_none, [], ◌∷◌}
use Rattle.kom_steps.proofs.wires.plug_at_child.Goals as goal

pub returns-clause-step : goal.returns-clause-step
returns-clause-step c = λ rest.
    rw (c.unwrap_or.ensures, c.child_in-child.ensures, c.port_for-port.ensures)
    at (c.plug_at.ensures.step rest ((is_none c.child_in-child.result, 6) ∷ (is_none c.port_for-port.result, 11) ∷ []) c.place_fault.ensures)
