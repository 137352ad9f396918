use Rattle.std.proofs.Common.{◌+◌, arith}
use Rattle.kom_commits.specs.Counted.{lost_by, waits_in_all}
use Rattle.kom_state.specs.Parts.{state_of}
use Rattle.kom_turns.proofs.Standing.{said, same_number}
use Rattle.kom_doing.proofs.Steps.{amid_next, enough_next, marks_more, may}
use Rattle.kom_commits.proofs.Counting.{children_fit, count_next, wires_here}
use Rattle.kom_commits.proofs.Shown.{doable_by, ends_by, left_by, wires_by}
use Rattle.kom_commits.proofs.counted.do_all.Goals as goal

pub do_effect-requires-clause-living : goal.do_effect-requires-clause-living
do_effect-requires-clause-living c =
    said _ c.requires.begins
    (λ b. (may c.args.system.now.declarations c.args.c c.args.item.now c.args.told.now c.args.effects.now c.loop-k.k c.index-effects-k.result c.loop-k-test.true c.index-effects-k.is c.loop-k.nursery c.loop-k.marks c.loop-k.state
    c.well_formed-2.ensures.declared c.holds_together.ensures c.loop-k.invariant.room c.effects_may_be_done.ensures b.ending (c.loop-k.invariant.amid b.ending b.amid)).living)

pub do_effect-requires-clause-ends : goal.do_effect-requires-clause-ends
do_effect-requires-clause-ends c =
    ends_by c.requires.begins (state_of c.loop-k.state)
    (λ b. (may c.args.system.now.declarations c.args.c c.args.item.now c.args.told.now c.args.effects.now c.loop-k.k c.index-effects-k.result c.loop-k-test.true c.index-effects-k.is c.loop-k.nursery c.loop-k.marks c.loop-k.state
    c.well_formed-2.ensures.declared c.holds_together.ensures c.loop-k.invariant.room c.effects_may_be_done.ensures b.ending (c.loop-k.invariant.amid b.ending b.amid)).ends)

pub do_effect-requires-clause-may : goal.do_effect-requires-clause-may
do_effect-requires-clause-may c =
    doable_by c.requires.begins c.args.system.now.declarations c.args.c c.args.item.now c.args.told.now c.index-effects-k.result c.loop-k.nursery c.loop-k.marks.bound c.loop-k.state c.holds_together.ensures
    (λ b. (may c.args.system.now.declarations c.args.c c.args.item.now c.args.told.now c.args.effects.now c.loop-k.k c.index-effects-k.result c.loop-k-test.true c.index-effects-k.is c.loop-k.nursery c.loop-k.marks c.loop-k.state
    c.well_formed-2.ensures.declared c.holds_together.ensures c.loop-k.invariant.room c.effects_may_be_done.ensures b.ending (c.loop-k.invariant.amid b.ending b.amid)).may)

pub lost_by-lost-requires-clause-living : goal.lost_by-lost-requires-clause-living
lost_by-lost-requires-clause-living c =
    said _ c.requires.begins
    (λ b. (may c.args.system.now.declarations c.args.c c.args.item.now c.args.told.now c.args.effects.now c.loop-k.k c.index-effects-k.result c.loop-k-test.true c.index-effects-k.is c.loop-k.nursery c.loop-k.marks c.loop-k.state
    c.well_formed-2.ensures.declared c.holds_together.ensures c.loop-k.invariant.room c.effects_may_be_done.ensures b.ending (c.loop-k.invariant.amid b.ending b.amid)).living)

pub lost_by-lost-requires-clause-children : goal.lost_by-lost-requires-clause-children
lost_by-lost-requires-clause-children c =
    children_fit c.args.system.now.declarations c.args.c c.args.item.now c.args.told.now c.index-effects-k.result c.loop-k.nursery c.loop-k.marks.bound c.loop-k.state (doable_by c.requires.begins c.args.system.now.declarations c.args.c c.args.item.now c.args.told.now c.index-effects-k.result c.loop-k.nursery c.loop-k.marks.bound c.loop-k.state c.holds_together.ensures
    (λ b. (may c.args.system.now.declarations c.args.c c.args.item.now c.args.told.now c.args.effects.now c.loop-k.k c.index-effects-k.result c.loop-k-test.true c.index-effects-k.is c.loop-k.nursery c.loop-k.marks c.loop-k.state
    c.well_formed-2.ensures.declared c.holds_together.ensures c.loop-k.invariant.room c.effects_may_be_done.ensures b.ending (c.loop-k.invariant.amid b.ending b.amid)).may))

pub lost_by-lost-requires-clause-wires : goal.lost_by-lost-requires-clause-wires
lost_by-lost-requires-clause-wires c =
    wires_by c.requires.begins c.loop-k.state (λ b. wires_here c.args.system.now.declarations c.args.c c.args.item.now c.args.told.now c.args.effects.now c.loop-k.k c.index-effects-k.result c.loop-k-test.true c.index-effects-k.is c.loop-k.nursery c.loop-k.state c.well_formed-2.ensures.declared b.ending (c.loop-k.invariant.amid b.ending b.amid) c.wires_are_counted.ensures)

pub overflow_sub-queued : goal.overflow_sub-queued
overflow_sub-queued c =
    let a = same_number (waits_in_all c.do_effect.new.state + lost_by c.loop-k.state c.args.c c.index-effects-k.result) (waits_in_all c.loop-k.state) c.requires.begins
    (λ b. count_next c.args.system.now.declarations c.args.c c.args.item.now c.args.told.now c.args.effects.now c.loop-k.k c.index-effects-k.result c.loop-k-test.true c.index-effects-k.is c.loop-k.nursery c.loop-k.state c.well_formed-2.ensures.declared b.ending (c.loop-k.invariant.amid b.ending b.amid) c.effects_count.ensures c.effect_follows.ensures c.channels_are_numbered.ensures c.do_effect.new.nursery c.do_effect.new.state c.do_effect.ensures.step)
    in
    let b = c.lost_by-lost.ensures in
    let d = c.loop-k.invariant.counted in
    omega (arith, a, b, d)

pub loop-k-preserved : goal.loop-k-preserved
loop-k-preserved c =
    let left = c.do_effect.new.nursery in
    let new = c.do_effect.new.marks in
    let w = c.do_effect.new.state in
    let done = c.do_effect.ensures in
    let now = c.loop-k.invariant in
    record {
      amid = λ y a. amid_next c.args.system.now.declarations c.args.c c.args.item.now c.args.told.now c.args.effects.now c.loop-k.k c.index-effects-k.result c.loop-k-test.true c.index-effects-k.is c.loop-k.nursery c.loop-k.marks c.loop-k.state
          c.well_formed-2.ensures.declared c.holds_together.ensures c.loop-k.invariant.room left new w c.holds_together-in-loop-k.ensures done.step done.room done.marks c.effects_go_on.ensures y (now.amid y a);
      above = said _ c.requires.begins (λ b. (enough_next c.args.system.now.declarations c.args.c c.args.item.now c.args.told.now c.args.effects.now c.loop-k.k c.index-effects-k.result c.loop-k-test.true c.index-effects-k.is c.loop-k.nursery c.loop-k.marks c.loop-k.state
          c.well_formed-2.ensures.declared c.holds_together.ensures c.loop-k.invariant.room left new w c.holds_together-in-loop-k.ensures done.step done.room done.marks c.room_is_left.ensures b.ending (now.amid b.ending b.amid) now.above).above);
      room = left_by c.requires.begins _ _ _ _ _ _ _ (λ b. (enough_next c.args.system.now.declarations c.args.c c.args.item.now c.args.told.now c.args.effects.now c.loop-k.k c.index-effects-k.result c.loop-k-test.true c.index-effects-k.is c.loop-k.nursery c.loop-k.marks c.loop-k.state
          c.well_formed-2.ensures.declared c.holds_together.ensures c.loop-k.invariant.room left new w c.holds_together-in-loop-k.ensures done.step done.room done.marks c.room_is_left.ensures b.ending (now.amid b.ending b.amid) now.above).room);
      marked = λ y a. marks_more c.args.system.now.declarations c.args.c c.args.item.now c.args.told.now c.args.effects.now c.loop-k.k c.index-effects-k.result c.loop-k-test.true c.index-effects-k.is c.loop-k.nursery c.loop-k.marks c.loop-k.state
          c.well_formed-2.ensures.declared c.holds_together.ensures c.loop-k.invariant.room left new w c.holds_together-in-loop-k.ensures done.step done.room done.marks c.marks_add_up.ensures _ _ y (now.amid y a) (now.marked y a);
      counted =
          let a = same_number (waits_in_all c.do_effect.new.state + lost_by c.loop-k.state c.args.c c.index-effects-k.result) (waits_in_all c.loop-k.state) c.requires.begins
          (λ b. count_next c.args.system.now.declarations c.args.c c.args.item.now c.args.told.now c.args.effects.now c.loop-k.k c.index-effects-k.result c.loop-k-test.true c.index-effects-k.is c.loop-k.nursery c.loop-k.state c.well_formed-2.ensures.declared b.ending (c.loop-k.invariant.amid b.ending b.amid) c.effects_count.ensures c.effect_follows.ensures c.channels_are_numbered.ensures c.do_effect.new.nursery c.do_effect.new.state c.do_effect.ensures.step)
          in
          let b = c.lost_by-lost.ensures in
          let d = c.loop-k.invariant.counted in
          omega (arith, a, b, d);
    }
