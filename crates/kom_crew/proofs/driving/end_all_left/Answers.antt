use Rattle.std.proofs.Common.{arith}
use Rattle.kom_crew.specs.Workers.{IsIdle, IsWorker, size_of}
use Rattle.kom_crew.proofs.Crowds.{at_each, each_set, firsts_set, none_first}
use Rattle.kom_crew.proofs.Places.{stepped_idle, stepped_works}
use Rattle.kom_crew.proofs.driving.end_all_left.Goals as goal

pub loop-i-init : goal.loop-i-init
loop-i-init g c = record { each = c.requires; firsts = none_first _ c.args.workers.now.items }

pub end_left-requires : goal.end_left-requires
end_left-requires g c =
    let crew = c.args.crew.now in
    let count = c.loop-i.invariant.each.0 in
    let given = c.requires.0 in
    let was = c.args.workers.now.ok.0 in
    let end = c.len-i-end.ensures in
    let test = c.loop-i-test.true in
    at_each (size_of crew) (IsWorker g.T.StandsFor.system g.T.StandsFor.plan g.T.StandsFor.history crew) c.loop-i.workers.items c.loop-i.i c.index_mut.result.now c.loop-i.invariant.each (omega (arith, count, given, was, end, test)) c.index_mut.ensures.value

pub loop-i-preserved : goal.loop-i-preserved
loop-i-preserved g c =
    let crew = c.args.crew.now in
    let ws = c.loop-i.workers.items in
    let count = c.loop-i.invariant.each.0 in
    let given = c.requires.0 in
    let was = c.args.workers.now.ok.0 in
    let end = c.len-i-end.ensures in
    let test = c.loop-i-test.true in
    record {
      each = each_set (size_of crew) (IsWorker g.T.StandsFor.system g.T.StandsFor.plan g.T.StandsFor.history crew) ws c.loop-i.i c.index_mut.result.now c.end_left.new.self c.loop-i.invariant.each (omega (arith, count, given, was, end, test)) c.index_mut.ensures.value c.end_left.ensures.number
          (stepped_works g.T.StandsFor.system g.T.StandsFor.plan g.T.StandsFor.history crew c.end_left.new.self c.end_left.result c.end_left.ensures.stepped);
      firsts = firsts_set (IsIdle g.T.StandsFor.system g.T.StandsFor.plan g.T.StandsFor.history crew) ws c.loop-i.i c.end_left.new.self c.loop-i.invariant.firsts
          (stepped_idle g.T.StandsFor.system g.T.StandsFor.plan g.T.StandsFor.history crew c.end_left.new.self c.end_left.result c.in-Again.is c.end_left.ensures.stepped);
    }

pub returns-in-Memory-clause-workers : goal.returns-in-Memory-clause-workers
returns-in-Memory-clause-workers g c =
    let crew = c.args.crew.now in
    let count = c.loop-i.invariant.each.0 in
    let given = c.requires.0 in
    let was = c.args.workers.now.ok.0 in
    let end = c.len-i-end.ensures in
    let test = c.loop-i-test.true in
    each_set (size_of crew) (IsWorker g.T.StandsFor.system g.T.StandsFor.plan g.T.StandsFor.history crew) c.loop-i.workers.items c.loop-i.i c.index_mut.result.now c.end_left.new.self c.loop-i.invariant.each (omega (arith, count, given, was, end, test)) c.index_mut.ensures.value c.end_left.ensures.number
    (stepped_works g.T.StandsFor.system g.T.StandsFor.plan g.T.StandsFor.history crew c.end_left.new.self c.end_left.result c.end_left.ensures.stepped)
