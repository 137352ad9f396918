use Rattle.std.specs.List.{flat_map}
use Rattle.kom_sysprint.specs.Canonical.{port_text, var_text, slot_text, channel_text, handler_text}
use Rattle.kom_sysprint.proofs.Pieces.{five_parts}
use Rattle.kom_sysprint.proofs.kinds.add_items.Goals as goal

pub returns : goal.returns
returns c =
    let C = c.args.declarations.now.names.now in
    let K = c.args.declarations.now.kind.now in
    five_parts c.args.text.now (flat_map (port_text C) K.ports) (flat_map (var_text C) K.vars) (flat_map (slot_text C) K.slots) (flat_map (channel_text C K) K.channels) (flat_map (handler_text C K) K.handlers)
    c.add_each.new.text c.add_each-2.new.text c.add_each-3.new.text c.add_each-4.new.text c.add_each-5.new.text
    (rw c.as_slice.ensures at c.in_ok-add_each.ensures) (rw c.as_slice-2.ensures at c.in_ok-add_each-2.ensures) (rw c.as_slice-3.ensures at c.in_ok-add_each-3.ensures) (rw c.as_slice-4.ensures at c.in_ok-add_each-4.ensures) (rw c.as_slice-5.ensures at c.in_ok-add_each-5.ensures)
