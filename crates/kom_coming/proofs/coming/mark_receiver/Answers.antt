use Rattle.std.proofs.Common.{sym, ap, ◌∙◌, arith}
use Rattle.std.specs.Option.{option_and_then}
use Rattle.kom_base.specs.Numbers.{opposite}
use Rattle.kom_refine.specs.States.{Link, end_of}
use Rattle.kom_state.specs.Parts.{state_of}
use Rattle.kom_coming.proofs.Receiving.{link_there, others_stay, all_stay}
use Rattle.kom_coming.proofs.coming.mark_receiver.Goals as goal

pub end-requires : goal.end-requires
end-requires c = link_there c.args.state.now c.holds_together.ensures c.args.x c.args.d c.requires.there

pub mark-requires : goal.mark-requires
mark-requires c =
    c.requires.below c.args.x (opposite c.args.d) c.in-Some.half (ap (λ f. option_and_then (λ (l : Link). end_of l f) ((state_of c.args.state.now).links c.args.x)) (sym c.opposite.ensures) ∙ sym c.end.ensures ∙ c.in-Some.is)

pub returns-in-Some-clause-marked : goal.returns-in-Some-clause-marked
returns-in-Some-clause-marked c k n step =
    let at = ap (λ f. option_and_then (λ (l : Link). end_of l f) ((state_of c.args.state.now).links c.args.x)) (sym c.opposite.ensures) ∙ sym c.end.ensures ∙ c.in-Some.is in
    c.mark.ensures.marked (state_of c.args.state.now) n (others_stay c.args.state.now c.holds_together.ensures c.args.x c.args.d k n c.in-Some.half c.comings_leave.ensures step at)

pub returns-in-None-clause-marked : goal.returns-in-None-clause-marked
returns-in-None-clause-marked c k n step =
    let at = ap (λ f. option_and_then (λ (l : Link). end_of l f) ((state_of c.args.state.now).links c.args.x)) (sym c.opposite.ensures) ∙ sym c.end.ensures ∙ c.in-None.is in
    c.marks_are_few.ensures 0 1 c.args.marks.now c.args.marks.now (state_of c.args.state.now) n (omega arith)
    (c.marks_stay.ensures c.args.marks.now (state_of c.args.state.now) n (all_stay c.args.state.now c.holds_together.ensures c.args.x c.args.d k n c.comings_leave.ensures step at))
