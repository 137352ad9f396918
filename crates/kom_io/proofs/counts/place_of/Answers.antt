use Rattle.std.proofs.Common.{◌<◌, ◌∙◌, length, arith, sym}
use Rattle.kom_io.proofs.Places.{place_step}
use Rattle.kom_io.proofs.counts.place_of.Goals as goal

pub returns-then-stands_at-clause-place : goal.returns-then-stands_at-clause-place
returns-then-stands_at-clause-place c =
    let within : c.loop-i.i < length c.args.names.now = omega arith in
    let step = place_step c.args.names.now c.args.name.now c.loop-i.i within in
    let here = sym c.stands_at.ensures ∙ c.if-stands_at.true in
    sym (rw here at step) ∙ c.loop-i.invariant

pub loop-i-preserved : goal.loop-i-preserved
loop-i-preserved c =
    let within : c.loop-i.i < length c.args.names.now = omega arith in
    let step = place_step c.args.names.now c.args.name.now c.loop-i.i within in
    let here = sym c.stands_at.ensures ∙ c.if-stands_at.false in
    sym (rw here at step) ∙ c.loop-i.invariant
