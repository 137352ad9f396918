use Rattle.std.proofs.Common.{arith}
use Rattle.kom_crew.specs.Workers.{IsDone, IsIdle, IsWorker, size_of}
use Rattle.kom_crew.proofs.Crowds.{all_first, at_each, each_set, each_weaker, firsts_set, none_first}
use Rattle.kom_crew.proofs.Places.{idle_works}
use Rattle.kom_crew.proofs.driving.end_all.Goals as goal

pub loop-i-init : goal.loop-i-init
loop-i-init g c = record { each = c.requires; firsts = none_first _ c.args.workers.now.items }

pub work_on-requires : goal.work_on-requires
work_on-requires g c =
    let crew = c.args.crew.now in
    let count = c.loop-i.invariant.each.0 in
    let given = c.requires.0 in
    let was = c.args.workers.now.ok.0 in
    let end = c.len-i-end.ensures in
    let test = c.loop-i-test.true in
    at_each (size_of crew) (IsIdle g.T.StandsFor.system g.T.StandsFor.plan g.T.StandsFor.history crew) c.loop-i.workers.items c.loop-i.i c.index_mut.result.now c.loop-i.invariant.each (omega (arith, count, given, was, end, test)) c.index_mut.ensures.value

pub loop-i-preserved : goal.loop-i-preserved
loop-i-preserved g c =
    let crew = c.args.crew.now in
    let ws = c.loop-i.workers.items in
    let count = c.loop-i.invariant.each.0 in
    let given = c.requires.0 in
    let was = c.args.workers.now.ok.0 in
    let end = c.len-i-end.ensures in
    let test = c.loop-i-test.true in
    let done = c.work_on.ensures.done c.if-not-work_on.false in
    record {
      each = each_set (size_of crew) (IsIdle g.T.StandsFor.system g.T.StandsFor.plan g.T.StandsFor.history crew) ws c.loop-i.i c.index_mut.result.now c.work_on.new.self c.loop-i.invariant.each (omega (arith, count, given, was, end, test)) c.index_mut.ensures.value c.work_on.ensures.number done.0;
      firsts = firsts_set (IsDone g.T.StandsFor.system g.T.StandsFor.plan g.T.StandsFor.history crew) ws c.loop-i.i c.work_on.new.self c.loop-i.invariant.firsts done;
    }

pub returns-then-not-work_on-clause-workers : goal.returns-then-not-work_on-clause-workers
returns-then-not-work_on-clause-workers g c =
    let crew = c.args.crew.now in
    let ws = c.loop-i.workers.items in
    let W = IsWorker g.T.StandsFor.system g.T.StandsFor.plan g.T.StandsFor.history crew in
    let count = c.loop-i.invariant.each.0 in
    let given = c.requires.0 in
    let was = c.args.workers.now.ok.0 in
    let end = c.len-i-end.ensures in
    let test = c.loop-i-test.true in
    each_set (size_of crew) W ws c.loop-i.i c.index_mut.result.now c.work_on.new.self
    (each_weaker (size_of crew) (IsIdle g.T.StandsFor.system g.T.StandsFor.plan g.T.StandsFor.history crew) W ws (idle_works g.T.StandsFor.system g.T.StandsFor.plan g.T.StandsFor.history crew) c.loop-i.invariant.each)
    (omega (arith, count, given, was, end, test)) c.index_mut.ensures.value c.work_on.ensures.number c.work_on.ensures.worker

pub returns-clause-done : goal.returns-clause-done
returns-clause-done g c = λ t.
    let crew = c.args.crew.now in
    let inv = c.loop-i.invariant in
    let count = inv.each.0 in
    let given = c.requires.0 in
    let was = c.args.workers.now.ok.0 in
    let end = c.len-i-end.ensures in
    let test = c.loop-i-test.false in
    all_first (size_of crew) (IsIdle g.T.StandsFor.system g.T.StandsFor.plan g.T.StandsFor.history crew) (IsDone g.T.StandsFor.system g.T.StandsFor.plan g.T.StandsFor.history crew) c.loop-i.workers.items c.loop-i.i inv.each inv.firsts (omega (arith, count, given, was, end, test))
