use Rattle.std.proofs.Common.{◌+◌, sym, ap, ◌∙◌, length, arith}
use Rattle.std.specs.Option.{option_and_then}
use Rattle.kom_refine.specs.States.{end_of}
use Rattle.kom_state.specs.Parts.{state_of}
use Rattle.kom_puts.proofs.BySlots.{keeps_again}
use Rattle.kom_commits.proofs.begun.begin.Goals as goal

pub come_in-requires-clause-there : goal.come_in-requires-clause-there
come_in-requires-clause-there c = c.requires.there (state_of c.put_by_item.new.state) c.put_by_item.ensures.puts.queues

pub come_in-requires-clause-room : goal.come_in-requires-clause-room
come_in-requires-clause-room c x d = let a = c.requires.room x d in let b = c.put_by_item.ensures.queues x d in omega (arith, a, b)

pub come_in-requires-clause-below : goal.come_in-requires-clause-below
come_in-requires-clause-below c x e h q =
    let a = c.requires.below x e h (ap (option_and_then (λ l. end_of l e)) (sym (c.put_by_item.ensures.puts.links x)) ∙ q) in
    let b = c.put_by_item.ensures.marks.bound in
    omega (arith, a, b)

pub returns-clause-begun : goal.returns-clause-begun
returns-clause-begun c =
    let v = c.args.state.now in
    let k = c.put_by_item.new.state in
    let w = c.come_in.new.state in
    let put = c.put_by_item.ensures in
    let come = c.come_in.ensures in
    record {
      between = state_of k;
      puts = put.puts;
      follows = put.step;
      come = come.step;
      room = keeps_again v k w put.room come.room;
      controls = λ d. let a = put.controls d in let b = come.controls d in omega (arith, a, b);
      unborn = λ d l. let a = put.unborn d l in let b = come.controls d in omega (arith, a, b);
    }

pub returns-clause-marks : goal.returns-clause-marks
returns-clause-marks c =
    c.marks_add_up.ensures (1 + length c.args.body.now.slots) (length c.args.comings.now) c.args.marks.now c.put_by_item.new.marks c.come_in.new.marks
    (state_of c.args.state.now) (state_of c.put_by_item.new.state) (state_of c.come_in.new.state) c.put_by_item.ensures.marks c.come_in.ensures.marked
