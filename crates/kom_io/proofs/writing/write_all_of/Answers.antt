use Rattle.std.proofs.Common.{arith}
use Rattle.kom_io.proofs.Added.{one_more}
use Rattle.kom_io.proofs.writing.write_all_of.Goals as goal

pub loop-done-preserved : goal.loop-done-preserved
loop-done-preserved g c =
    let more = one_more c.loop-done.done c.in-Bytes.n c.args.bytes.now (g.K.Sink.written c.args.sink.now) _ _ c.loop-done.invariant.within c.loop-done.invariant.added c.in-Bytes.ensures.answer in
    record {
      within = more.within;
      added = more.added;
      counts = omega arith;
    }
