use Rattle.std.proofs.Common.{rules}
use Rattle.kom_record.specs.Offers.{relayed_from}
use Rattle.kom_entering.proofs.relays.relayed_took.Goals as goal

pub returns-then-no-ne0 : goal.returns-then-no-ne0
unfolding relayed_from
returns-then-no-ne0 c = search rules

pub returns-in-Some-Arrival : goal.returns-in-Some-Arrival
unfolding relayed_from
returns-in-Some-Arrival c = search rules

pub returns-in-Some-Control : goal.returns-in-Some-Control
unfolding relayed_from
returns-in-Some-Control c = search rules

pub returns-in-None-taken_item : goal.returns-in-None-taken_item
unfolding relayed_from
returns-in-None-taken_item c = search rules

pub returns-in-Some-Took : goal.returns-in-Some-Took
unfolding relayed_from
returns-in-Some-Took c = search rules

pub returns-in-Some-Moved : goal.returns-in-Some-Moved
unfolding relayed_from
returns-in-Some-Moved c = search rules

pub returns-in-None : goal.returns-in-None
unfolding relayed_from
returns-in-None c = search rules
