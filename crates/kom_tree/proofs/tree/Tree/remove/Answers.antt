use Rattle.std.proofs.Common.{◌≡◌, ℕ, Bool, true, false, List, Some, sym, ap, ◌∙◌, arith, length-set}
use Rattle.kom_tree.specs.declared.family.Origin.{Origin}
use Rattle.kom_tree.specs.Forest.{Forest, occupant}
use Rattle.kom_tree.specs.Parts.{IsForest, forest_of, sits, lives, parent_at}
use Rattle.kom_tree.proofs.Views.{occupant_sits, alive_is, both_left, both_right, in_slot, lives_within}
use Rattle.kom_tree.proofs.Chains.{hangs}
use Rattle.kom_tree.proofs.Ending.{cleared}
use Rattle.kom_tree.proofs.Felling.{own_children, rooted_but, forest_left, chains_left, view_left, occupants_left}
use Rattle.kom_tree.proofs.tree.Tree.remove.Goals as goal

-- the instance that was found sits in the slot
sitting : (os : List Origin) (bs : List Bool) (f : IsForest os bs) (p s top room : ℕ) (t : Forest) → forest_of os bs room ≡ t → Some top ≡ occupant t.instances p s → sits os bs p s top ≡ true
sitting os bs f p s top room t e found = occupant_sits os bs f p s top (ap (λ (t : Forest). occupant t.instances p s) e ∙ sym found)

pub unlink-requires-clause-alive : goal.unlink-requires-clause-alive
unlink-requires-clause-alive c =
    let i = c.self.inside in
    let here = sitting i.family.origins.items i.living.items c.self.invariant.forest c.args.parent c.args.slot c.in-Some.top i.room c.args.self.now c.self.view_is c.in-Some.ensures.value in
    rw c.deref.ensures.value (both_left _ _ here)

pub unlink-requires-clause-parent_alive : goal.unlink-requires-clause-parent_alive
unlink-requires-clause-parent_alive c =
    let i = c.self.inside in
    let here = sitting i.family.origins.items i.living.items c.self.invariant.forest c.args.parent c.args.slot c.in-Some.top i.room c.args.self.now c.self.view_is c.in-Some.ensures.value in
    let up = in_slot c.args.parent c.args.slot (parent_at i.family.origins.items c.in-Some.top) (both_right (lives i.living.items c.in-Some.top) _ here) in
    rw c.deref.ensures.value (c.self.invariant.forest.rooted c.in-Some.top (c.args.parent, c.args.slot) (both_left _ _ here) up)

pub unlink-requires-clause-child : goal.unlink-requires-clause-child
unlink-requires-clause-child c =
    let i = c.self.inside in
    let here = sitting i.family.origins.items i.living.items c.self.invariant.forest c.args.parent c.args.slot c.in-Some.top i.room c.args.self.now c.self.view_is c.in-Some.ensures.value in
    hangs i.family.origins.items c.args.parent c.args.slot c.in-Some.top (in_slot c.args.parent c.args.slot (parent_at i.family.origins.items c.in-Some.top) (both_right (lives i.living.items c.in-Some.top) _ here))

pub end_one-requires : goal.end_one-requires
end_one-requires c =
    let i = c.self.inside in
    let here = sitting i.family.origins.items i.living.items c.self.invariant.forest c.args.parent c.args.slot c.in-Some.top i.room c.args.self.now c.self.view_is c.in-Some.ensures.value in
    lives_within i.living.items c.in-Some.top (both_left _ _ here)

pub end_below-requires-clause-within : goal.end_below-requires-clause-within
end_below-requires-clause-within c =
    let i = c.self.inside in
    let here = sitting i.family.origins.items i.living.items c.self.invariant.forest c.args.parent c.args.slot c.in-Some.top i.room c.args.self.now c.self.view_is c.in-Some.ensures.value in
    rw c.end_one.ensures.marks (omega (arith, lives_within i.living.items c.in-Some.top (both_left _ _ here), length-set i.living.items c.in-Some.top false))

pub end_below-requires-clause-gone : goal.end_below-requires-clause-gone
end_below-requires-clause-gone c = rw c.end_one.ensures.marks (cleared c.self.inside.living.items c.in-Some.top)

pub end_below-requires-clause-first : goal.end_below-requires-clause-first
end_below-requires-clause-first c =
    let i = c.self.inside in
    let here = sitting i.family.origins.items i.living.items c.self.invariant.forest c.args.parent c.args.slot c.in-Some.top i.room c.args.self.now c.self.view_is c.in-Some.ensures.value in
    rw (c.end_one.ensures.marks, c.unlink.ensures.keeps.origins) (c.unlink.ensures.own ∙ c.self.invariant.chained.youngest c.in-Some.top (both_left _ _ here)
    ∙ sym (own_children i.family.origins.items i.living.items c.self.invariant.forest c.args.parent c.args.slot c.in-Some.top here))

pub end_below-requires-clause-rooted : goal.end_below-requires-clause-rooted
end_below-requires-clause-rooted c =
    let i = c.self.inside in
    let here = sitting i.family.origins.items i.living.items c.self.invariant.forest c.args.parent c.args.slot c.in-Some.top i.room c.args.self.now c.self.view_is c.in-Some.ensures.value in
    rw (c.end_one.ensures.marks, c.unlink.ensures.keeps.origins) (rooted_but i.family.origins.items i.living.items c.self.invariant.forest c.args.parent c.args.slot c.in-Some.top here)

pub invariant_of-self : goal.invariant_of-self
invariant_of-self c =
    let i = c.self.inside in
    let here = sitting i.family.origins.items i.living.items c.self.invariant.forest c.args.parent c.args.slot c.in-Some.top i.room c.args.self.now c.self.view_is c.in-Some.ensures.value in
    let ends = rw (c.end_one.ensures.marks, c.unlink.ensures.keeps.origins) at c.end_below.ensures.ends in
    let chained = rw c.unlink.ensures.keeps.origins at c.unlink.ensures.chained in
    record {
      forest = rw c.unlink.ensures.keeps.origins (forest_left i.family.origins.items i.living.items c.self.invariant.forest c.args.parent c.args.slot c.in-Some.top here c.end_below.new.living.items ends);
      chained = rw c.unlink.ensures.keeps.origins (chains_left i.family.origins.items i.living.items c.self.invariant.forest c.args.parent c.args.slot c.in-Some.top here c.end_below.new.living.items ends c.unlink.new.family.links.items (rw c.deref.ensures.value at chained));
      idle = c.end_below.ensures.idle_again;
      fits = rw c.unlink.ensures.keeps.origins c.self.invariant.fits;
      in_origins = rw c.unlink.ensures.keeps.origins c.self.invariant.in_origins;
      in_links = omega (arith, c.self.invariant.in_links, c.unlink.ensures.keeps.room);
      in_living = omega (arith, c.self.invariant.in_living, c.end_one.ensures.room, c.end_below.ensures.living_stays);
      in_pending = omega (arith, c.self.invariant.in_pending, c.end_below.ensures.room_stays);
    }

pub returns-in-Some-clause-ends : goal.returns-in-Some-clause-ends
returns-in-Some-clause-ends c =
    let i = c.self.inside in
    let here = sitting i.family.origins.items i.living.items c.self.invariant.forest c.args.parent c.args.slot c.in-Some.top i.room c.args.self.now c.self.view_is c.in-Some.ensures.value in
    let ends = rw (c.end_one.ensures.marks, c.unlink.ensures.keeps.origins) at c.end_below.ensures.ends in
    rw (c.unlink.ensures.keeps.origins, ← c.self.view_is) (view_left i.family.origins.items i.living.items c.self.invariant.forest c.args.parent c.args.slot c.in-Some.top here c.end_below.new.living.items ends)

pub returns-in-Some-clause-occupants : goal.returns-in-Some-clause-occupants
returns-in-Some-clause-occupants c = λ p s.
    let i = c.self.inside in
    let here = sitting i.family.origins.items i.living.items c.self.invariant.forest c.args.parent c.args.slot c.in-Some.top i.room c.args.self.now c.self.view_is c.in-Some.ensures.value in
    let ends = rw (c.end_one.ensures.marks, c.unlink.ensures.keeps.origins) at c.end_below.ensures.ends in
    let left = forest_left i.family.origins.items i.living.items c.self.invariant.forest c.args.parent c.args.slot c.in-Some.top here c.end_below.new.living.items ends in
    rw (c.unlink.ensures.keeps.origins, alive_is i.family.origins.items c.end_below.new.living.items left p, ← c.self.view_is) (occupants_left i.family.origins.items i.living.items c.self.invariant.forest c.args.parent c.args.slot c.in-Some.top here c.end_below.new.living.items ends p s)
