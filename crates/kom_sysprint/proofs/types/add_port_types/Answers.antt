use Rattle.std.proofs.Common.{[], ap, length, arith}
use Rattle.kom_system.specs.Contents.{Contents}
use Rattle.kom_sysprint.specs.Canonical.{declared_text, port_type_text}
use Rattle.kom_sysprint.proofs.Pieces.{one_more_placed, all_placed}
use Rattle.kom_sysprint.proofs.types.add_port_types.Goals as goal

pub loop-k-preserved : goal.loop-k-preserved
loop-k-preserved c =
    one_more_placed (declared_text 2 (port_type_text c.args.names.now)) c.args.names.now.declarations.ports c.loop-k.k (record { plus = []; minus = [] }) c.args.text.now c.loop-k.text c.add_port_type_at.new.text (omega (arith, ap length c.port_types.ensures, ap (λ (C : Contents). length C.declarations.ports) c.system-2.ensures)) c.loop-k.invariant c.in_ok-add_port_type_at.ensures

pub returns : goal.returns
returns c = all_placed (declared_text 2 (port_type_text c.args.names.now)) c.args.names.now.declarations.ports c.loop-k.k c.args.text.now c.loop-k.text (omega (arith, ap length c.port_types.ensures, ap (λ (C : Contents). length C.declarations.ports) c.system-2.ensures)) c.loop-k.invariant
