use Rattle.kom_spaces.proofs.Noted.{noted_more}
use Rattle.kom_spaces.proofs.declares.note_all.Goals as goal

pub loop-part-preserved : goal.loop-part-preserved
loop-part-preserved g c q =
    noted_more g.T.Declares.named c.args.parts.now c.loop-part.part-index c.part-item.result q _ _ _ c.loop-part-test.true c.part-item.is (c.loop-part.invariant q)
    (rw (c.bytes.ensures, c.spot-spot.ensures) at (c.in_ok-note.ensures q))
