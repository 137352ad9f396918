use Rattle.std.proofs.Common.{sym, subst, arith}
use Rattle.std.specs.Prelude.{All}
use Rattle.kom_crew.specs.Workers.{IsCounted, IsWorker, size_of}
use Rattle.kom_crew.proofs.Counting.{each_all}
use Rattle.kom_crew.proofs.run.drive.Goals as goal

pub work_all-requires-clause-some : goal.work_all-requires-clause-some
work_all-requires-clause-some g c κs within = let some = c.requires.count.0 in omega (arith, some)

pub work_all-requires-clause-idle : goal.work_all-requires-clause-idle
work_all-requires-clause-idle g c κs within = c.muster-workers.ensures.idle

pub drive_on-ended-requires : goal.drive_on-ended-requires
drive_on-ended-requires g c = c.work_all.ensures

pub given_to_all-given-requires : goal.given_to_all-given-requires
given_to_all-given-requires g c =
    let crew = c.args.crew in
    let all = each_all (size_of crew) (IsWorker g.T.StandsFor.system g.T.StandsFor.plan g.T.StandsFor.history crew) IsCounted c.drive_on-ended.new.workers.items (λ w h. h.0.counted) c.drive_on-ended.ensures.workers in
    subst (All IsCounted) (sym c.as_slice.ensures.value) all

pub close-crewed-requires : goal.close-crewed-requires
close-crewed-requires g c =
    let d = c.drive_on-ended.ensures in
    let kept = c.muster-workers.ensures.kept in
    let n = d.workers.0 in
    let some = c.requires.count.0 in
    let seats = c.requires.seats.0 in
    let lots = c.requires.lots.count in
    let seats_ok = c.args.seats.ok in
    let lots_ok = c.args.lots.ok in
    let kept_seats = kept.0 in
    let kept_lots = kept.1 in
    record {
      size = omega (arith, some);
      workers = d.workers;
      done = d.done;
      empty = c.muster-workers.ensures.empty;
      room = (omega (arith, n, seats, seats_ok.0, seats_ok.1, kept_seats), omega (arith, n, lots, lots_ok.0, lots_ok.1, kept_lots));
    }
