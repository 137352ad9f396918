use Rattle.std.proofs.Common.{false, ap, ◌∙◌, Option}
use Rattle.std.specs.Option.{option_map_or, option_and_then}
use Rattle.kom_index.specs.Stock.{spare}
use Rattle.kom_life.specs.declared.row.Row.{Row}
use Rattle.kom_life.specs.Rows.{living_in, living_of, is_there, spare_of, has_room}
use Rattle.kom_life.proofs.Blanks.{one_more, room_stays}
use Rattle.kom_life.proofs.life.lengthen.Goals as goal

pub loop-alloc-preserved : goal.loop-alloc-preserved
loop-alloc-preserved c =
    let longer = c.in_ok-push.ensures.items in
    let r = c.blank.result in
    let i = c.loop-alloc.invariant in
    record {
      same = λ y. ap (λ m. living_of m y) longer ∙ one_more (option_and_then living_in) r (ap living_in c.blank.ensures) c.loop-alloc.rows.items y ∙ i.same y;
      there = λ y. ap (λ m. is_there m y) longer ∙ one_more (λ (g : Option Row). option_map_or (λ r. r.living) g false) r (ap (λ (r : Row). r.living) c.blank.ensures) c.loop-alloc.rows.items y ∙ i.there y;
      spare = λ y. ap (λ m. spare_of m y) longer ∙ one_more (λ (g : Option Row). option_map_or (λ r. spare r.controls) g 0) r (ap (λ (r : Row). spare r.controls) c.blank.ensures) c.loop-alloc.rows.items y ∙ i.spare y;
      room_stays = λ y h. ap (λ m. has_room m y) longer ∙ room_stays r c.loop-alloc.rows.items y (i.room_stays y h);
    }
