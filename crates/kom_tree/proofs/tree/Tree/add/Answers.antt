use Rattle.std.proofs.Common.{◌≡◌, ◌<◌, ℕ, Bool, List, ◌∷◌, ◌++◌, [], Option, Some, None, length, refl, sym, ap, ◌∙◌, arith, length-append, Vec, Global, vec_capacity}
use Rattle.kom_tree.specs.declared.family.Origin.{Origin}
use Rattle.kom_tree.specs.Forest.{Forest, MayHang}
use Rattle.kom_tree.specs.Parts.{IsForest}
use Rattle.kom_tree.specs.Steps.{IsPlace, Hangs, KeepsOrigins}
use Rattle.kom_tree.proofs.Views.{length-all, alive_is, all, lives_within}
use Rattle.kom_tree.proofs.Adding.{forest_more, chains_more, view_more, occupants_more, hung_keeps}
use Rattle.kom_tree.proofs.tree.Tree.add.Goals as goal

place : (os : List Origin) (bs : List Bool) (f : IsForest os bs) (q : Option (ℕ × ℕ)) (n : ℕ) → length os ≡ n → MayHang (all os bs f) q → IsPlace q n
place os bs f None n e may = tt
place os bs f (Some q) n e may = omega (arith, f.marks, lives_within bs q.0 (sym (alive_is os bs f q.0) ∙ may.0))

pub hang-sibling-requires : goal.hang-sibling-requires
hang-sibling-requires c =
    let i = c.self.inside in
    place i.family.origins.items i.living.items c.self.invariant.forest c.args.parent _ (sym c.self.invariant.chained.long) (rw (← c.self.view_is) at c.requires.place)

-- the parts after the call
record Parts (c : goal.After-put-3) : Type 0 where
  few : length c.self.inside.family.origins.items < 4000000000
  may : MayHang (all c.self.inside.family.origins.items c.self.inside.living.items c.self.invariant.forest) c.args.parent
  hangs : Hangs (record { origins = c.self.inside.family.origins; links = c.self.inside.family.links }) c.hang-sibling.new.family c.args.parent (length c.self.inside.family.origins.items) c.hang-sibling.result
  keeps : KeepsOrigins (record { origins = c.self.inside.family.origins; links = c.self.inside.family.links }) c.hang-sibling.new.family
  origins : c.put.new.list.items ≡ c.self.inside.family.origins.items ++ record { kind = c.args.kind; parent = c.args.parent } ∷ []
  room : length c.self.inside.family.origins.items < c.self.inside.room

parts : (c : goal.After-put-3) → Parts c
parts c =
    let i = c.self.inside in
    let few : length i.family.origins.items < 4000000000 = omega (arith, c.requires.few, ap (λ (t : Forest). length t.instances) c.self.view_is, length-all i.family.origins.items i.living.items c.self.invariant.forest) in
    let n : c.len.result ≡ length i.family.origins.items = omega (arith, c.len.ensures) in
    let hangs = rw n at c.hang-sibling.ensures in
    let keeps = hung_keeps _ _ c.args.parent _ _ hangs in
    record {
      few = few;
      may = rw (← c.self.view_is) at c.requires.place;
      hangs = hangs;
      keeps = keeps;
      origins = c.put.ensures.items ∙ ap (λ (v : Vec Origin Global). v.items ++ record { kind = c.args.kind; parent = c.args.parent } ∷ []) keeps.origins;
      room = omega (arith, c.requires.spare, ap (λ (t : Forest). t.spare) c.self.view_is);
    }

pub invariant_of-self : goal.invariant_of-self
invariant_of-self c =
    let i = c.self.inside in
    let p = parts c in
    let o : Origin = record { kind = c.args.kind; parent = c.args.parent } in
    let forest = forest_more i.family.origins.items i.living.items o c.self.invariant.forest p.few p.may in
    let chained = chains_more i.family.origins.items i.living.items o c.self.invariant.forest p.few p.may (record { origins = i.family.origins; links = i.family.links }) c.hang-sibling.new.family refl c.self.invariant.chained c.hang-sibling.result p.hangs in
    record {
      forest = rw (p.origins, c.put-3.ensures.items) forest;
      chained = rw (p.origins, c.put-3.ensures.items, c.put-2.ensures.items) chained;
      idle = c.self.invariant.idle;
      fits = rw p.origins (omega (arith, p.room, length-append i.family.origins.items (o ∷ [])));
      in_origins = omega (arith, c.self.invariant.in_origins, c.put.ensures.room, ap (λ (v : Vec Origin Global). vec_capacity v) p.keeps.origins);
      in_links = omega (arith, c.self.invariant.in_links, c.put-2.ensures.room, p.keeps.room);
      in_living = omega (arith, c.self.invariant.in_living, c.put-3.ensures.room);
      in_pending = c.self.invariant.in_pending;
    }

pub returns-clause-number : goal.returns-clause-number
returns-clause-number c =
    let i = c.self.inside in
    omega (arith, c.len.ensures, ap (λ (t : Forest). length t.instances) c.self.view_is, length-all i.family.origins.items i.living.items c.self.invariant.forest)

pub returns-clause-grows : goal.returns-clause-grows
returns-clause-grows c =
    let i = c.self.inside in
    let p = parts c in
    let o : Origin = record { kind = c.args.kind; parent = c.args.parent } in
    rw (p.origins, c.put-3.ensures.items, ← c.self.view_is) (view_more i.family.origins.items i.living.items o c.self.invariant.forest p.few p.may)

pub returns-clause-occupants : goal.returns-clause-occupants
returns-clause-occupants c = λ q s.
    let i = c.self.inside in
    let p = parts c in
    let o : Origin = record { kind = c.args.kind; parent = c.args.parent } in
    let n : c.len.result ≡ length i.family.origins.items = omega (arith, c.len.ensures) in
    rw (p.origins, c.put-3.ensures.items, n, ← c.self.view_is) (occupants_more i.family.origins.items i.living.items o c.self.invariant.forest p.few p.may q s)
