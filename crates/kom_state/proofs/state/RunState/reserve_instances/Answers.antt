use Rattle.std.proofs.Common.{refl, arith, ◌≤◌}
use Rattle.kom_state.specs.Insides.{parts_of}
use Rattle.kom_state.specs.Parts.{instance_spare}
use Rattle.kom_state.proofs.Reserving.{instances_same, instances_less, on_ok}
use Rattle.kom_state.proofs.state.RunState.reserve_instances.Goals as goal

pub returns-in_err-reserve-clause-same : goal.returns-in_err-reserve-clause-same
returns-in_err-reserve-clause-same c =
    let i = c.self.inside in
    rw (← c.self.view_is) (instances_same (parts_of i) c.reserve.new.self i.bodies i.numbers c.reserve.ensures.same refl refl)

pub returns-in_err-reserve-clause-not_less : goal.returns-in_err-reserve-clause-not_less
returns-in_err-reserve-clause-not_less c =
    let i = c.self.inside in
    rw (← c.self.view_is) (instances_less (parts_of i) c.reserve.new.self i.bodies i.numbers c.reserve.ensures.not_less (omega arith) (omega arith) refl refl)

pub returns-in_err-reserve-2-clause-same : goal.returns-in_err-reserve-2-clause-same
returns-in_err-reserve-2-clause-same c =
    let i = c.self.inside in
    rw (← c.self.view_is) (instances_same (parts_of i) c.reserve.new.self c.reserve-2.new.self i.numbers c.reserve.ensures.same c.reserve-2.ensures.same refl)

pub returns-in_err-reserve-2-clause-not_less : goal.returns-in_err-reserve-2-clause-not_less
returns-in_err-reserve-2-clause-not_less c =
    let i = c.self.inside in
    rw (← c.self.view_is) (instances_less (parts_of i) c.reserve.new.self c.reserve-2.new.self i.numbers c.reserve.ensures.not_less c.reserve-2.ensures.not_less (omega arith) refl refl)

pub returns-clause-same : goal.returns-clause-same
returns-clause-same c =
    let i = c.self.inside in
    rw (← c.self.view_is) (instances_same (parts_of i) c.reserve.new.self c.reserve-2.new.self c.reserve-3.new.self c.reserve.ensures.same c.reserve-2.ensures.same c.reserve-3.ensures.outs)

pub returns-clause-not_less : goal.returns-clause-not_less
returns-clause-not_less c =
    let i = c.self.inside in
    rw (← c.self.view_is) (instances_less (parts_of i) c.reserve.new.self c.reserve-2.new.self c.reserve-3.new.self c.reserve.ensures.not_less c.reserve-2.ensures.not_less c.reserve-3.ensures.not_less c.reserve-3.ensures.outs c.reserve-3.ensures.counts)

pub returns-clause-ok : goal.returns-clause-ok
unfolding instance_spare
returns-clause-ok c =
    let tree : c.args.n ≤ c.reserve.new.self.spare = c.in_ok-reserve.ensures.ok in
    let bodies : c.args.n ≤ c.reserve-2.new.self.spare = c.in_ok-reserve-2.ensures.ok in
    on_ok c.reserve-3.result c.reserve-3.ensures.ok (λ (numbers : c.args.n ≤ c.reserve-3.new.self.spare). omega (arith, tree, bodies, numbers))
