use Rattle.std.proofs.Common.{◌≡◌, [], refl, subst, sym}
use Rattle.kom_record.specs.Entries.{History, in_hand}
use Rattle.kom_core.specs.declared.machine.Core.{Core}
use Rattle.kom_core.specs.Cores.{system_in, plan_in, history_in}
use Rattle.kom_exchange.specs.Later.{about_of}
use Rattle.kom_exchange.specs.Seats.{AreFresh}
use Rattle.kom_seats.proofs.tests.duo.begin.Goals as goal

pub begin-requires-2-clause-idle : goal.begin-requires-2-clause-idle
unfolding in_hand
begin-requires-2-clause-idle c = subst (λ (P : History). in_hand P ≡ []) (sym c.in_ok-core.ensures.history) refl

pub seated-requires-clause-fresh : goal.seated-requires-clause-fresh
seated-requires-clause-fresh c =
    let made = c.in-Made.ensures in
    subst (λ (x : Core). AreFresh c.in-Made.exchange.table.shared.table_id (history_in x) (about_of system_in plan_in x) 2 c.in-Made.seats.items) (sym made.0) made.2
