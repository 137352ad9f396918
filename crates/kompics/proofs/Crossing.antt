-- The core of a run may go to a thread of its own.
use denote.Model.Goals.{send, has_of, part_has}
use denote.Model.Local.{Parts, rows}
use denote.Model.Marks.{tied_send}
use denote.Param.Send.{IsSend, plain_send, sendable}
use denote.Param.SendFields.{declared_send as record_send, as_row_send}
use denote.RattleType.{RattleType}
use Rattle.std.proofs.Crossing.{crosses}
use Rattle.kom_comps.specs.contracts.comps.Comps as comps
use Rattle.kom_core.specs.contracts.machine.Core as core
use Rattle.kom_crew.proofs.Crossing.{system_send, system_sync}
use Rattle.kom_env.specs.contracts.agenda.Agenda as agenda
use Rattle.kom_env.specs.contracts.calendar.Calendar as calendar
use Rattle.kom_env.specs.contracts.env.Env as env
use Rattle.kom_index.specs.contracts.fifo.Fifo as fifo
use Rattle.kom_index.specs.contracts.ordered.Ordered as ordered
use Rattle.kom_index.specs.contracts.tree.Tree as sorted
use Rattle.kom_index.specs.contracts.tree.Tree.TheKnot as knot
use Rattle.kom_index.specs.declared.tree.Tree.TheDeep.{the_members, member-Tree}
use Rattle.kom_lang.proofs.body.Body.TheSendSync as body
use Rattle.kom_life.specs.contracts.life.Life as life
use Rattle.kom_numbers.specs.contracts.numbers.Numbers as numbers
use Rattle.kom_record.proofs.entry.Entry.TheSendSync as entry
use Rattle.kom_record.specs.contracts.record.Record as kept
use Rattle.kom_turns.specs.contracts.counts.Counts as counts
use Rattle.kom_turns.specs.contracts.run.Held as held
use Rattle.kom_queues.specs.contracts.queues.Queues as queues
use Rattle.kom_queues.specs.contracts.slot.Slot as slot
use Rattle.kom_state.specs.contracts.bodies.Bodies as bodies
use Rattle.kom_state.specs.contracts.state.RunState as state
use Rattle.kom_tree.specs.contracts.tree.Tree as tree
use Rattle.kom_turns.specs.contracts.run.Run as run
use Rattle.kom_wiring.specs.contracts.wiring.Wiring as wiring

-- ---- maps and queues, as their keys and values may

module _ (K V : RattleType) (g : _) (e : _) (p : _) (sk : IsSend K) (sv : IsSend V) where
  layer_send : (q : Parts (knot.frame K V g e p)) → IsSend (rows (knot.frame K V g e p) q member-Tree) → IsSend (knot.view-Tree K V g e p q)
  layer_send q s = search (sendable, crosses) depth 40

  knot_send : (q : Parts (knot.frame K V g e p)) → ((j : the_members) → IsSend (rows (knot.frame K V g e p) q j)) → (i : the_members) → IsSend (rows (knot.frame K V g e p) (knot.step K V g e p q) i)
  knot_send q all member-Tree = has_of (knot.frame K V g e p) send (knot.step K V g e p q) member-Tree (part_has send (knot.view-Tree K V g e p q) (layer_send q (all member-Tree)))

  sorted_send : IsSend (sorted.the_row K V g e p)
  sorted_send = tied_send (knot.frame K V g e p) (knot.step K V g e p) (knot.sizes K V g e p) knot_send member-Tree

  ordered_send : IsSend (ordered.the_row K V g e p)
  ordered_send = search (sendable, crosses, sorted_send) depth 40

fifo_send : (T : RattleType) → IsSend T → IsSend (fifo.the_row T)
fifo_send T s = search (sendable, crosses) depth 40

-- ---- the state of a run, and its environment

wiring_send : IsSend wiring.the_row
wiring_send = search (sendable, crosses, ordered_send) depth 40

comps_send : IsSend comps.the_row
comps_send = search (sendable, crosses, ordered_send) depth 40

queues_send : IsSend queues.the_row
queues_send = let a : IsSend slot.the_row = search (sendable, crosses, fifo_send) depth 40 in search (sendable, crosses, ordered_send) depth 40

life_send : IsSend life.the_row
life_send = search (sendable, crosses, fifo_send) depth 40

tree_send : IsSend tree.the_row
tree_send = search (sendable, crosses) depth 40

numbers_send : IsSend numbers.the_row
numbers_send = search (sendable, crosses) depth 40

bodies_send : IsSend bodies.the_row
bodies_send = search (sendable, crosses, body.the_send) depth 40

state_send : IsSend state.the_row
state_send = search (sendable, crosses, tree_send, wiring_send, queues_send, life_send, bodies_send, numbers_send) depth 40

agenda_send : IsSend agenda.the_row
agenda_send = search (sendable, crosses, ordered_send) depth 40

calendar_send : IsSend calendar.the_row
calendar_send = search (sendable, crosses, ordered_send) depth 40

env_send : IsSend env.the_row
env_send = search (sendable, crosses, agenda_send, calendar_send) depth 40

-- ---- the core

kept_send : IsSend kept.the_row
kept_send = search (sendable, crosses, entry.the_send) depth 40

run_send : IsSend run.the_row
run_send = let a : IsSend held.the_row = search sendable depth 20 in let b : IsSend counts.the_row = search sendable depth 20 in
    search (record_send, as_row_send, plain_send, crosses, ordered_send, system_send, system_sync, kept_send, state_send, env_send, comps_send) depth 20

pub core_send : IsSend core.the_row
core_send = search (record_send, as_row_send, crosses, run_send) depth 20
