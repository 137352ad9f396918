use Rattle.kom_doing.proofs.Steps.{amid_next, enough_next, marks_more, may}
use Rattle.kom_doing.proofs.all.do_effects.Goals as goal

pub do_effect-requires-clause-living : goal.do_effect-requires-clause-living
do_effect-requires-clause-living c =
    let x = c.requires.begins.ending in
    (may c.args.system.now.declarations c.args.c c.args.item.now c.args.told.now c.args.effects.now c.loop-k.k c.index-effects-k.result c.loop-k-test.true c.index-effects-k.is c.loop-k.nursery c.loop-k.marks c.loop-k.state
    c.well_formed-2.ensures.declared c.holds_together.ensures c.loop-k.invariant.room c.effects_may_be_done.ensures x (c.loop-k.invariant.amid x c.requires.begins.amid)).living

pub do_effect-requires-clause-ends : goal.do_effect-requires-clause-ends
do_effect-requires-clause-ends c =
    let x = c.requires.begins.ending in
    (may c.args.system.now.declarations c.args.c c.args.item.now c.args.told.now c.args.effects.now c.loop-k.k c.index-effects-k.result c.loop-k-test.true c.index-effects-k.is c.loop-k.nursery c.loop-k.marks c.loop-k.state
    c.well_formed-2.ensures.declared c.holds_together.ensures c.loop-k.invariant.room c.effects_may_be_done.ensures x (c.loop-k.invariant.amid x c.requires.begins.amid)).ends

pub do_effect-requires-clause-may : goal.do_effect-requires-clause-may
do_effect-requires-clause-may c =
    let x = c.requires.begins.ending in
    (may c.args.system.now.declarations c.args.c c.args.item.now c.args.told.now c.args.effects.now c.loop-k.k c.index-effects-k.result c.loop-k-test.true c.index-effects-k.is c.loop-k.nursery c.loop-k.marks c.loop-k.state
    c.well_formed-2.ensures.declared c.holds_together.ensures c.loop-k.invariant.room c.effects_may_be_done.ensures x (c.loop-k.invariant.amid x c.requires.begins.amid)).may

pub loop-k-preserved : goal.loop-k-preserved
loop-k-preserved c =
    let S = c.args.system.now.declarations in
    let x = c.requires.begins.ending in
    let left = c.do_effect.new.nursery in
    let new = c.do_effect.new.marks in
    let w = c.do_effect.new.state in
    let done = c.do_effect.ensures in
    let now = c.loop-k.invariant in
    let enough = enough_next S c.args.c c.args.item.now c.args.told.now c.args.effects.now c.loop-k.k c.index-effects-k.result c.loop-k-test.true c.index-effects-k.is c.loop-k.nursery c.loop-k.marks c.loop-k.state
    c.well_formed-2.ensures.declared c.holds_together.ensures now.room left new w c.holds_together-in-loop-k.ensures done.step done.room done.marks c.room_is_left.ensures x (now.amid x c.requires.begins.amid) now.above
    in
    record {
      amid = λ y a. amid_next S c.args.c c.args.item.now c.args.told.now c.args.effects.now c.loop-k.k c.index-effects-k.result c.loop-k-test.true c.index-effects-k.is c.loop-k.nursery c.loop-k.marks c.loop-k.state
          c.well_formed-2.ensures.declared c.holds_together.ensures now.room left new w c.holds_together-in-loop-k.ensures done.step done.room done.marks c.effects_go_on.ensures y (now.amid y a);
      above = enough.above;
      room = enough.room;
      marked = λ y a. marks_more S c.args.c c.args.item.now c.args.told.now c.args.effects.now c.loop-k.k c.index-effects-k.result c.loop-k-test.true c.index-effects-k.is c.loop-k.nursery c.loop-k.marks c.loop-k.state
          c.well_formed-2.ensures.declared c.holds_together.ensures now.room left new w c.holds_together-in-loop-k.ensures done.step done.room done.marks c.marks_add_up.ensures _ _ y (now.amid y a) (now.marked y a);
    }
