use Rattle.kom_doing.proofs.Reserved.{all_reserved}
use Rattle.kom_doing.proofs.reserve.reserve_effects.Goals as goal

pub returns-clause-room : goal.returns-clause-room
returns-clause-room c bound most =
    all_reserved c.rooms_are_left.ensures c.args.c c.args.item.now c.args.told.now c.args.effects.now c.in_ok-nursery.nursery bound c.args.state.now c.make_room.new.state c.reserve_tops.new.state c.reserve_for_effects.new.state
    c.in_ok-make_room.ensures.same c.in_ok-reserve_tops.ensures.same c.in_ok-reserve_for_effects.ensures.same c.in_ok-make_room.ensures.not_less c.in_ok-reserve_tops.ensures.not_less c.in_ok-reserve_for_effects.ensures.not_less
    c.in_ok-make_room.ensures.ok c.in_ok-reserve_tops.ensures.ok c.in_ok-reserve_for_effects.ensures.ok c.requires.few c.requires.number c.requires.channels c.in_ok-nursery.ensures.few c.in_ok-nursery.ensures.few_channels most
