use Rattle.std.proofs.Common.{◌≡◌, true, take, drop}
use Rattle.kom_puts.specs.Puts.{is_above}
use Rattle.kom_state.specs.Parts.{state_of}
use Rattle.kom_doing.specs.Marks.{LeadsOn, MarksOn}
use Rattle.kom_doing.specs.Rooms.{HasRoomLeft}
use Rattle.kom_commits.specs.Counted.{waits_in_all}
use Rattle.kom_commits.proofs.counted.do_all.Given as goal

abbrev pub invariant-loop-k : goal.invariant-loop-k
invariant-loop-k l = record {
  amid : LeadsOn l.system.declarations l.c l.item l.told l.effects (take l.k l.effects) (drop l.k l.effects) l.fn.nursery l.nursery l.fn.state l.state;
  above : is_above (state_of l.state) l.c l.told ≡ true;
  room : HasRoomLeft l.c l.item l.told (drop l.k l.effects) l.nursery l.marks.bound l.state;
  marked : MarksOn l.system.declarations l.c l.item l.told l.effects (take l.k l.effects) l.fn.nursery l.fn.marks l.marks l.fn.state l.state;
  counted : l.queued ≡ waits_in_all l.state;
}
