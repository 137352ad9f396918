use Rattle.std.proofs.Common.{List, ℕ, ◌∙◌, ap, sym}
use Rattle.std.specs.List.{flat_map}
use Rattle.kom_system.specs.declared.parts.Spot.{Spot}
use Rattle.kom_rules.specs.Names.{first_place}
use Rattle.kom_rules.specs.Spaces.{item_spots, port_spots, var_spots, slot_spots, channel_spots, handler_spots}
use Rattle.kom_spaces.specs.Tables.{later_in}
use Rattle.kom_spaces.proofs.Noted.{first_five, later_is}
use Rattle.kom_spaces.proofs.clashes.first_repeated.Goals as goal

pub returns : goal.returns
returns c h =
    rw (c.earlier-4.ensures, c.earlier-3.ensures, c.earlier-2.ensures, c.earlier.ensures, c.first_later-ports.ensures, c.first_later-vars.ensures, c.first_later-slots.ensures, c.first_later-channels.ensures, c.first_later-handlers.ensures, c.as_slice.ensures, c.as_slice-2.ensures, c.as_slice-3.ensures, c.as_slice-4.ensures, c.as_slice-5.ensures)
    (sym (first_five (later_in c.args.places.now) (port_spots c.args.part.now) (var_spots c.args.part.now) (slot_spots c.args.part.now) (channel_spots c.args.part.now) (handler_spots c.args.part.now))
    ∙ ap (λ (f : Spot → List ℕ). first_place (flat_map f (item_spots c.args.part.now))) (later_is c.args.places.now (item_spots c.args.part.now) h))
