use Rattle.std.proofs.Common.{◌≡◌, ◌∷◌, [], ◌++◌, ◌+◌, length, sym, ap, ◌∙◌, subst, append_assoc, arith}
use Rattle.std.specs.Vec.Iter.{into_iter_items}
use Rattle.kom_numbers.specs.Numbering.{total}
use Rattle.kom_state.specs.Parts.{state_of}
use Rattle.kom_state.specs.Plantings.{HasRoomFor, IsPlanted, TakesRoom}
use Rattle.kom_births.specs.Seeds.{links_of}
use Rattle.kom_births.proofs.OneMore.{nodes_more, room_next, rooms_more, sown_more, total_more}
use Rattle.kom_births.proofs.brood.Brood.sow.Goals as goal

pub plant-requires-clause-room : goal.plant-requires-clause-room
plant-requires-clause-room c =
    let at = c.loop-seed.invariant in
    let x = c.in-Some.seed in
    let v = c.args.state.now in
    let w = c.loop-seed.state in
    let n = length (state_of v).nodes in
    let chans = total v.numbers in
    let ys = c.loop-seed.yielded in
    let steps : into_iter_items c.loop-seed.seed-iterator ≡ x ∷ into_iter_items c.next.new.self = c.in-Some.ensures.steps.0 in
    let all : ys ++ x ∷ into_iter_items c.next.new.self ≡ c.args.self = ap (λ l. ys ++ l) (sym steps) ∙ at.rest in
    let r = room_next n chans c.args.self ys x (into_iter_items c.next.new.self) v w all c.requires.room at.took in
    let links : c.as_slice.result.now ≡ x.links = c.as_slice.ensures in
    subst (λ l. HasRoomFor l x.init (length (state_of w).nodes) (total w.numbers) w) (sym links)
    (subst (λ k. HasRoomFor x.links x.init k (total w.numbers) w) (sym at.nodes) (subst (λ k. HasRoomFor x.links x.init (n + length ys) k w) (sym at.chans) r))

pub loop-seed-preserved : goal.loop-seed-preserved
loop-seed-preserved c =
    let at = c.loop-seed.invariant in
    let S = c.args.system.now.declarations in
    let x = c.in-Some.seed in
    let v = c.args.state.now in
    let w = c.loop-seed.state in
    let z = c.plant.new.self in
    let n = length (state_of v).nodes in
    let chans = total v.numbers in
    let ys = c.loop-seed.yielded in
    let steps : into_iter_items c.loop-seed.seed-iterator ≡ x ∷ into_iter_items c.next.new.self = c.in-Some.ensures.steps.0 in
    let links : c.as_slice.result.now ≡ x.links = c.as_slice.ensures in
    let number : c.plant.result ≡ n + length ys = c.plant.ensures.number ∙ at.nodes in
    let step : IsPlanted S (n + length ys) (chans + length (links_of ys)) x.place x.body x.init x.links (state_of w) (state_of z) =
    subst (λ k. IsPlanted S k (chans + length (links_of ys)) x.place x.body x.init x.links (state_of w) (state_of z)) number
    (subst (λ k. IsPlanted S c.plant.result k x.place x.body x.init x.links (state_of w) (state_of z)) at.chans
    (subst (λ l. IsPlanted S c.plant.result (total w.numbers) x.place x.body x.init l (state_of w) (state_of z)) links c.plant.ensures.step)) in
    let room : TakesRoom x.links x.init (n + length ys) w z =
    subst (λ k. TakesRoom x.links x.init k w z) number (subst (λ l. TakesRoom l x.init c.plant.result w z) links c.plant.ensures.room) in
    record {
      rest = append_assoc ys (x ∷ []) (into_iter_items c.next.new.self) ∙ ap (λ l. ys ++ l) (sym steps) ∙ at.rest;
      count = (let was = at.count in let gone = c.in-Some.ensures.steps.1 in let short = ap length steps in omega (arith, was, gone, short));
      sown = sown_more S n chans ys x (state_of v) (state_of w) (state_of z) at.sown step;
      nodes = nodes_more (state_of w).nodes _ (state_of z).nodes n ys x step.nodes at.nodes;
      chans = total_more n ys x v w z at.took room chans at.chans;
      took = rooms_more n ys x v w z at.took room;
    }
