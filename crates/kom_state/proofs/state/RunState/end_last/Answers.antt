use Rattle.std.proofs.Common.{◌≡◌, ℕ, ◌+◌, ◌&&◌, sym, ap, ◌∙◌, arith}
use Rattle.std.specs.Prelude.{nat_le, nat_lt}
use Rattle.kom_numbers.specs.Numbering.{is_of}
use Rattle.kom_state.specs.Insides.{parts_of}
use Rattle.kom_state.proofs.Conditions.{linked_there}
use Rattle.kom_state.proofs.Ending.{within_bodies}
use Rattle.kom_state.proofs.Lines.{alive_within}
use Rattle.kom_state.proofs.Removing.{own_lives, in_span, only, is_without, only_tied, rest}
use Rattle.kom_state.proofs.state.RunState.end_last.Goals as goal

pub cut-requires-clause-there : goal.cut-requires-clause-there
cut-requires-clause-there c = λ x low high.
    let v = parts_of c.self.inside in
    let living = rw (← c.self.view_is) at c.requires.living in
    let owns : (x : ℕ) → is_of v.numbers c.args.d x ≡ (nat_le c.first.inside.0 x && nat_lt x (c.first.inside.0 + c.span-first.result.1)) =
    λ x. c.span-first.ensures.owns x ∙ ap (λ f. nat_le f x && nat_lt x (f + c.span-first.result.1)) (sym c.first.view_is) in
    linked_there v x c.self.invariant (c.self.invariant.links x ∙ own_lives v.numbers v.tree.instances c.args.d x living (owns x ∙ in_span c.first.inside.0 c.span-first.result.1 x low high))

pub set-requires : goal.set-requires
set-requires c =
    let v = parts_of c.self.inside in
    let living = rw (← c.self.view_is) at c.requires.living in
    within_bodies v.bodies.bodies c.args.d (c.self.invariant.bodies c.args.d ∙ living)

pub remove-requires-2-clause-made : goal.remove-requires-2-clause-made
remove-requires-2-clause-made c =
    let v = parts_of c.self.inside in
    let living = rw (← c.self.view_is) at c.requires.living in
    omega (arith, alive_within v.tree.instances c.args.d living, c.seat-p.ensures.grown.older c.args.d c.seat-p.result c.seat-p.ensures.seat)

pub invariant_of-self : goal.invariant_of-self
invariant_of-self c =
    let v = parts_of c.self.inside in
    let living = rw (← c.self.view_is) at c.requires.living in
    let owns : (x : ℕ) → is_of v.numbers c.args.d x ≡ (nat_le c.first.inside.0 x && nat_lt x (c.first.inside.0 + c.span-first.result.1)) =
    λ x. c.span-first.ensures.owns x ∙ ap (λ f. nat_le f x && nat_lt x (f + c.span-first.result.1)) (sym c.first.view_is) in
    only_tied v (rest v c.self.invariant c.seat-p.ensures.grown c.args.d c.seat-p.result.0 c.seat-p.result.1 c.seat-p.ensures.seat living (rw (← c.self.view_is) at c.requires.last)
    c.cut.new.wiring c.cut.new.queues c.remove.new.self c.set.new.self c.remove-2.new.self)
    (only v c.self.invariant c.seat-p.ensures.grown c.args.d c.seat-p.result.0 c.seat-p.result.1 c.seat-p.ensures.seat living (rw (← c.self.view_is) at c.requires.last)
    c.cut.new.wiring c.cut.new.queues c.remove.new.self c.set.new.self c.remove-2.new.self c.first.inside.0 c.span-first.result.1 owns c.cut.ensures
    c.remove.ensures.each c.remove.ensures.spare c.remove.ensures.room c.set.ensures.each c.set.ensures.long c.set.ensures.spare c.remove-2.ensures.ends c.remove-2.ensures.spare c.remove-2.ensures.occupants) c.self.invariant

pub returns : goal.returns
returns c =
    let v = parts_of c.self.inside in
    let living = rw (← c.self.view_is) at c.requires.living in
    let owns : (x : ℕ) → is_of v.numbers c.args.d x ≡ (nat_le c.first.inside.0 x && nat_lt x (c.first.inside.0 + c.span-first.result.1)) =
    λ x. c.span-first.ensures.owns x ∙ ap (λ f. nat_le f x && nat_lt x (f + c.span-first.result.1)) (sym c.first.view_is) in
    rw (← c.self.view_is) (is_without v c.self.invariant c.seat-p.ensures.grown c.args.d c.seat-p.result.0 c.seat-p.result.1 c.seat-p.ensures.seat living (rw (← c.self.view_is) at c.requires.last)
    c.cut.new.wiring c.cut.new.queues c.remove.new.self c.set.new.self c.remove-2.new.self c.first.inside.0 c.span-first.result.1 owns c.cut.ensures
    c.remove.ensures.each c.remove.ensures.spare c.remove.ensures.room c.set.ensures.each c.set.ensures.long c.set.ensures.spare c.remove-2.ensures.ends c.remove-2.ensures.spare c.remove-2.ensures.occupants)
