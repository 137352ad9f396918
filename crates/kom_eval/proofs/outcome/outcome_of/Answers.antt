use Rattle.std.proofs.Common.{[]}
use Rattle.kom_eval.proofs.Handling.{prepared_kind, done, faulted}
use Rattle.kom_eval.proofs.outcome.outcome_of.Goals as goal

pub handlers-requires : goal.handlers-requires
handlers-requires c = rw (c.in_ok-body.ensures, prepared_kind) c.requires.kind

pub kind-kind-requires : goal.kind-kind-requires
kind-kind-requires c = rw (c.in_ok-body.ensures, prepared_kind) c.requires.kind

pub returns-in-Ok : goal.returns-in-Ok
returns-in-Ok c =
    done c.args.system.now.declarations c.args.body.now c.args.item.now c.run_handlers.new.handling
    (rw (c.attributes_of.ensures, c.state_of.ensures, c.in_ok-numbers.ensures, c.kind-kind.ensures.value, c.in_ok-body.ensures, c.new.ensures, c.new-2.ensures) at (c.in-Ok.ensures []))

pub returns-in-Err-Fault : goal.returns-in-Err-Fault
returns-in-Err-Fault c =
    let told = rw c.in-Err-Fault.field-0-is at (c.in-Err-Fault.ensures []) in
    faulted c.args.system.now.declarations c.args.body.now c.args.item.now c.in-Err-Fault.number
    (rw (c.attributes_of.ensures, c.state_of.ensures, c.in_ok-numbers.ensures, c.kind-kind.ensures.value, c.in_ok-body.ensures, c.new.ensures, c.new-2.ensures) at told)
