use Rattle.std.proofs.Common.{rules}
use Rattle.kom_record.specs.Offers.{relayed_back}
use Rattle.kom_entering.proofs.relays.passed_on.Goals as goal

pub returns-in-Plain : goal.returns-in-Plain
unfolding relayed_back
returns-in-Plain c = search rules

pub returns-in-Home : goal.returns-in-Home
unfolding relayed_back
returns-in-Home c = search rules

pub returns-in-Some : goal.returns-in-Some
unfolding relayed_back
returns-in-Some c = search rules

pub returns-in-None-relayed_took : goal.returns-in-None-relayed_took
unfolding relayed_back
returns-in-None-relayed_took c = search rules

pub returns-in-Some-Control : goal.returns-in-Some-Control
unfolding relayed_back
returns-in-Some-Control c = search rules

pub returns-in-None : goal.returns-in-None
unfolding relayed_back
returns-in-None c = search rules
