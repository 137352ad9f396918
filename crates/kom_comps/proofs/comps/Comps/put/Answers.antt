use Rattle.std.proofs.Common.{◌≡◌, ◌+◌, ◌<◌, if◌then◌else◌, Some, sym, ap, ◌∙◌, subst, arith, length}
use Rattle.kom_comps.specs.Sound.{keys}
use Rattle.kom_comps.proofs.Counting.{has_in, has_room, none_of, within_more, changed, inserted_long, long_keys}
use Rattle.kom_comps.proofs.comps.Comps.put.Goals as goal

pub insert-requires-clause-absent : goal.insert-requires-clause-absent
insert-requires-clause-absent c = none_of _ (sym (has_in c.self.inside.members.0 c.self.inside.bound c.args.c _ c.self.view_is) ∙ sym c.contains.ensures ∙ c.if-not-contains.true)

pub insert-requires-clause-spare : goal.insert-requires-clause-spare
insert-requires-clause-spare c =
    (has_room c.self.inside.members.0 _ _ _ c.args.c c.self.invariant (subst (λ m. c.args.c < m.bound) (sym c.self.view_is) c.requires)
    (none_of _ (sym (has_in c.self.inside.members.0 c.self.inside.bound c.args.c _ c.self.view_is) ∙ sym c.contains.ensures ∙ c.if-not-contains.true))).0

pub overflow_add-self : goal.overflow_add-self
overflow_add-self c =
    let below : c.args.c < c.self.inside.bound = subst (λ m. c.args.c < m.bound) (sym c.self.view_is) c.requires in
    let room : c.self.inside.count < c.self.inside.bound =
    (has_room c.self.inside.members.0 _ _ _ c.args.c c.self.invariant below
    (none_of _ (sym (has_in c.self.inside.members.0 c.self.inside.bound c.args.c _ c.self.view_is) ∙ sym c.contains.ensures ∙ c.if-not-contains.true))).1
    in
    omega (arith, room, c.self.invariant.small)

pub invariant_of-self : goal.invariant_of-self
invariant_of-self c =
    let below : c.args.c < c.self.inside.bound = subst (λ m. c.args.c < m.bound) (sym c.self.view_is) c.requires in
    let long = ap length c.insert.ensures.new ∙ inserted_long c.args.c c.self.inside.members.0 in
    let room : 0 < c.self.inside.members.1 =
    (has_room c.self.inside.members.0 _ _ _ c.args.c c.self.invariant below
    (none_of _ (sym (has_in c.self.inside.members.0 c.self.inside.bound c.args.c _ c.self.view_is) ∙ sym c.contains.ensures ∙ c.if-not-contains.true))).0
    in
    record {
      counted = omega (arith, long, c.self.invariant.counted);
      rises = c.insert.ensures.rises;
      within = within_more c.self.inside.members.0 c.insert.new.self.0 c.self.inside.bound c.args.c below c.insert.ensures.values c.self.invariant.within;
      small = c.self.invariant.small;
      fits = omega (arith, long, room, c.insert.ensures.spare, c.self.invariant.fits);
    }

pub returns-then-not-contains-clause-each : goal.returns-then-not-contains-clause-each
returns-then-not-contains-clause-each c = changed c.self.inside.members.0 c.insert.new.self.0 c.self.inside.bound c.args.c (Some tt) _ c.self.view_is c.insert.ensures.values

pub returns-then-not-contains-clause-count : goal.returns-then-not-contains-clause-count
returns-then-not-contains-clause-count c =
    let long = ap length c.insert.ensures.new ∙ inserted_long c.args.c c.self.inside.members.0 in
    let a = long_keys c.insert.new.self.0 in
    let b = long_keys c.self.inside.members.0 in
    let view = ap (λ m. length m.list) c.self.view_is in
    let sum : length (keys c.insert.new.self.0) + 0 ≡ length c.args.self.now.list + 1 = omega (arith, long, a, b, view) in
    ap (λ b. length (keys c.insert.new.self.0) + (if b then 1 else 0)) (sym c.contains.ensures ∙ c.if-not-contains.true) ∙ sum
