use Rattle.std.proofs.Common.{◌≡◌, length, subst, arith}
use Rattle.crossbeam_deque.specs.Handles.{stealer_deque}
use Rattle.kom_ready.specs.Lots.{AreLent, deques_of}
use Rattle.kom_ready.proofs.Guested.{long_map}
use Rattle.kom_ready.proofs.Lending.{all_fresh, all_lent}
use Rattle.kom_ready.proofs.lots.ReadySet.make.Goals as goal

pub returns-clause-lots : goal.returns-clause-lots
returns-clause-lots c =
    let made = c.in_ok-set.set in
    let lots = c.loop-j.lots.items in
    let long = long_map stealer_deque made.thieves.items in
    let ok = made.thieves.ok.0 in
    let end = c.len-j-end.ensures in
    let test = c.loop-j-test.false in
    let at = c.loop-j.auto.j-end in
    let all : c.loop-j.j ≡ length (deques_of made) = omega (arith, long, ok, end, test, at) in
    all_lent made lots (subst (λ k. AreLent (deques_of made) k 0 0 lots) all c.loop-j.invariant.lent)

pub returns-clause-fresh : goal.returns-clause-fresh
returns-clause-fresh c = all_fresh _ _ _ _ _ c.loop-j.invariant.lent
