use Rattle.std.proofs.Math.Logic.{∥∥₁_elim}
use Rattle.std.proofs.lemmas.Result.{IfOk-weaker}
use Rattle.std.specs.Coded.{coded_option}
use base.Stored.{Coded-set}
use Rattle.kom_record.specs.contracts.item.Item.{the_row}
use Rattle.kom_state.specs.Parts.{state_of}
use Rattle.kom_turns.specs.Runs.{history_of, system_of}
use Rattle.kom_turns.proofs.Standing.{said}
use Rattle.kom_turns.proofs.Arriving.{some_front, comes, half_some, event_some, back_some, next_by}
use Rattle.kom_turns.proofs.run.Run.next_arrival.Goals as goal

pub arrival-requires-clause-half : goal.arrival-requires-clause-half
arrival-requires-clause-half c =
    let v = c.args.self.now in
    let f = c.in-Some.front in
    said _ c.requires.run (λ s. half_some (system_of v) (history_of v) (state_of v.state) s.state c.args.c c.requires.runnable c.requires.no_control f.0 f.1 f.2
    (comes (system_of v) (history_of v) (state_of v.state) s.state c.args.c c.requires.runnable c.requires.no_control c.next_is_first.ensures c.waiting_is_read.ensures f.0 f.1 f.2 c.in-Some.ensures))

pub arrival-requires-clause-event : goal.arrival-requires-clause-event
arrival-requires-clause-event c =
    let v = c.args.self.now in
    let f = c.in-Some.front in
    said _ c.requires.run (λ s. event_some (system_of v) (history_of v) (state_of v.state) s.state c.args.c c.requires.runnable c.requires.no_control f.0 f.1 f.2
    (comes (system_of v) (history_of v) (state_of v.state) s.state c.args.c c.requires.runnable c.requires.no_control c.next_is_first.ensures c.waiting_is_read.ensures f.0 f.1 f.2 c.in-Some.ensures))

pub arrival-requires-clause-back : goal.arrival-requires-clause-back
arrival-requires-clause-back c =
    let v = c.args.self.now in
    let f = c.in-Some.front in
    said _ c.requires.run (λ s. back_some (system_of v) (history_of v) (state_of v.state) s.state c.args.c c.requires.runnable c.requires.no_control f.0 f.1 f.2
    (comes (system_of v) (history_of v) (state_of v.state) s.state c.args.c c.requires.runnable c.requires.no_control c.next_is_first.ensures c.waiting_is_read.ensures f.0 f.1 f.2 c.in-Some.ensures))

pub unreachable-requires : goal.unreachable-requires
unreachable-requires c =
    let v = c.args.self.now in
    ∥∥₁_elim c.requires.run (λ x. absurd x) (λ s. some_front (system_of v) (history_of v) (state_of v.state) s.state c.args.c c.requires.runnable c.requires.no_control c.runnable_by_state.ensures c.in-None.ensures)

pub returns-clause-next : goal.returns-clause-next
returns-clause-next c =
    let v = c.args.self.now in
    let f = c.in-Some.front in
    IfOk-weaker c.arrival.result _ _
    (λ item a. ∥∥₁_elim c.requires.run (Coded-set (coded_option the_row.coded) _ _)
    (λ s. next_by (system_of v) (history_of v) (state_of v.state) s.state c.args.c c.requires.runnable c.requires.no_control f.0 f.1 f.2 item
    (comes (system_of v) (history_of v) (state_of v.state) s.state c.args.c c.requires.runnable c.requires.no_control c.next_is_first.ensures c.waiting_is_read.ensures f.0 f.1 f.2 c.in-Some.ensures) a))
    c.arrival.ensures
