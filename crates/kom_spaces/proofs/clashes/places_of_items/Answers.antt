use Rattle.kom_rules.specs.Spaces.{port_spots, var_spots, slot_spots, channel_spots, handler_spots}
use Rattle.kom_spaces.proofs.Noted.{noted_five}
use Rattle.kom_spaces.proofs.clashes.places_of_items.Goals as goal

pub returns : goal.returns
returns c q =
    noted_five (port_spots c.args.part.now) (var_spots c.args.part.now) (slot_spots c.args.part.now) (channel_spots c.args.part.now) (handler_spots c.args.part.now) q _ _ _ _ _
    (rw (c.new-places.ensures, c.as_slice.ensures) at (c.in_ok-note_all.ensures q)) (rw c.as_slice-2.ensures at (c.in_ok-note_all-2.ensures q)) (rw c.as_slice-3.ensures at (c.in_ok-note_all-3.ensures q))
    (rw c.as_slice-4.ensures at (c.in_ok-note_all-4.ensures q)) (rw c.as_slice-5.ensures at (c.in_ok-note_all-5.ensures q))
