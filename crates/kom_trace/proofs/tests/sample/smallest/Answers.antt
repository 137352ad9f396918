use Rattle.std.proofs.Common.{refl}
use Rattle.kom_system.proofs.Smallest.{smallest-made, made-equal, one-kind}
use Rattle.kom_trace.proofs.tests.sample.smallest.Goals as goal

pub from_declared-requires : goal.from_declared-requires
from_declared-requires c =
    let kinds = one-kind c.push.new.self c.new-kinds.result c.in_ok-empty_kind.field-0 c.in_ok-push.ensures.ok c.new-kinds.ensures c.in_ok-empty_kind.ensures in
    smallest-made c.in_ok-empty_kind.field-0.name _
    (made-equal c.in_ok-empty_kind.field-0.name _ _ _ _ c.in_ok-event_types.ensures c.in_ok-port_types.ensures kinds c.new.ensures)
    c.in_ok-names.ensures c.in_ok-attr_names.ensures c.in_ok-names-2.ensures refl
