use Rattle.std.proofs.Common.{None, ap, length, arith}
use Rattle.kom_system.specs.Contents.{Contents}
use Rattle.kom_sysprint.specs.Canonical.{declared_text, event_type_text}
use Rattle.kom_sysprint.proofs.Pieces.{one_more_placed, all_placed}
use Rattle.kom_sysprint.proofs.types.add_event_types.Goals as goal

pub loop-k-preserved : goal.loop-k-preserved
loop-k-preserved c =
    one_more_placed (declared_text 4 (event_type_text c.args.names.now)) c.args.names.now.declarations.events c.loop-k.k (record { parent = None; own = 0 }) c.args.text.now c.loop-k.text c.add_event_type_at.new.text (omega (arith, ap length c.event_types.ensures, ap (λ (C : Contents). length C.declarations.events) c.system-2.ensures)) c.loop-k.invariant c.in_ok-add_event_type_at.ensures

pub returns : goal.returns
returns c = all_placed (declared_text 4 (event_type_text c.args.names.now)) c.args.names.now.declarations.events c.loop-k.k c.args.text.now c.loop-k.text (omega (arith, ap length c.event_types.ensures, ap (λ (C : Contents). length C.declarations.events) c.system-2.ensures)) c.loop-k.invariant
