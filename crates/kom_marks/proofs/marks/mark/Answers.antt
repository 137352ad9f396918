use Rattle.kom_marks.proofs.Marking.{put_in, at_most_one, one}
use Rattle.kom_comps.specs.Members.{has}
use Rattle.kom_marks.proofs.marks.mark.Goals as goal

pub returns-clause-each : goal.returns-clause-each
returns-clause-each c d = put_in c.args.marks.now c.set.new.self c.args.c d (c.set.ensures.each d)

pub returns-clause-few : goal.returns-clause-few
returns-clause-few c = at_most_one _ _ (has c.args.marks.now c.args.c) c.set.ensures.count

pub returns-clause-marked : goal.returns-clause-marked
returns-clause-marked c = one c.args.marks.now c.set.new.self c.args.c c.set.ensures.each (at_most_one _ _ (has c.args.marks.now c.args.c) c.set.ensures.count) c.set.ensures.bound
