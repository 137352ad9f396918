use Rattle.std.proofs.Common.{sym, ap, ◌∙◌, Some}
use Rattle.std.proofs.Math.Logic.{∥∥₁_elim}
use Rattle.std.specs.Coded.{coded_option}
use base.Stored.{Coded-set}
use Rattle.kom_record.specs.contracts.item.Item.{the_row}
use Rattle.kom_state.specs.Parts.{state_of}
use Rattle.kom_turns.specs.Runs.{history_of, system_of}
use Rattle.kom_turns.proofs.Standing.{said, runs_alive, next_control}
use Rattle.kom_turns.proofs.run.Run.next_item.Goals as goal

pub first_control-requires : goal.first_control-requires
first_control-requires c =
    let v = c.args.self.now in
    said _ c.requires.run (λ s. s.state.living c.args.c ∙ runs_alive (system_of v) (history_of v) (state_of v.state) s.state c.args.c c.requires.runnable)

pub returns-in_ok-copy-in-Some-clause-next : goal.returns-in_ok-copy-in-Some-clause-next
returns-in_ok-copy-in-Some-clause-next c =
    let v = c.args.self.now in
    ∥∥₁_elim c.requires.run (Coded-set (coded_option the_row.coded) _ _)
    (λ s. next_control (system_of v) (history_of v) (state_of v.state) s.state c.args.c c.in_ok-copy-in-Some.field-0 c.requires.runnable (sym c.in-Some.ensures ∙ ap Some (sym c.in_ok-copy-in-Some.ensures)))
