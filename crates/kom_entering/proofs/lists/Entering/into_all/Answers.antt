use Rattle.std.proofs.Common.{◌≡◌, ℕ, false, ◌==◌, ◌∷◌, [], ◌++◌, sym, ap, ◌∙◌, subst, append_assoc}
use Rattle.std.specs.List.{list_any}
use Rattle.std.specs.Option.{option_map_or}
use Rattle.kom_state.specs.Parts.{state_of}
use Rattle.kom_state.specs.Readings.{has_end}
use Rattle.kom_entering.proofs.Noting.{append_none}
use Rattle.std.specs.List.Sorted.{IsStrictlyIncreasing}
use Rattle.kom_entering.proofs.Spread.{spread_more, spread_all, spread_there, way_more_so, way_more_not, way_all}
use Rattle.kom_entering.proofs.lists.Entering.into_all.Goals as goal

pub into_both-requires : goal.into_both-requires
into_both-requires c =
    let rest = ap (λ l. c.loop-x.yielded ++ l) (sym c.in-Some.ensures.steps) ∙ c.loop-x.invariant.rest in
    let same = rest ∙ c.into_iter-x-iterator.ensures.into_iter_gives in
    spread_there c.args.state.now c.args.half.now c.loop-x.yielded c.in-Some.x c.next.new.self _ same c.channels_at-x-items.ensures.each

pub loop-x-preserved-then-branch : goal.loop-x-preserved-then-branch
loop-x-preserved-then-branch c =
    let at = c.loop-x.invariant in
    let S = c.args.system.now.declarations in
    let v = c.args.state.now in
    let h = c.args.half.now in
    let event = c.args.event.now in
    let ys = c.loop-x.yielded in
    let x = c.in-Some.x in
    let rest = ap (λ l. ys ++ l) (sym c.in-Some.ensures.steps) ∙ at.rest in
    let same = rest ∙ c.into_iter-x-iterator.ensures.into_iter_gives in
    record {
      rest = append_assoc ys (x ∷ []) c.next.new.self ∙ rest;
      noted = spread_more S v h event ys x c.next.new.self c.args.self.now c.loop-x.self c.into_both.new.self (subst IsStrictlyIncreasing (sym same) c.channels_at-x-items.ensures.rising) at.noted c.in_ok-into_both.ensures.noted;
      out = way_more_so S v h event ys x c.in_ok-into_both.field-0 c.in_ok-into_both.ensures.out c.if-branch.true;
    }

pub loop-x-preserved : goal.loop-x-preserved
loop-x-preserved c =
    let at = c.loop-x.invariant in
    let S = c.args.system.now.declarations in
    let v = c.args.state.now in
    let h = c.args.half.now in
    let event = c.args.event.now in
    let ys = c.loop-x.yielded in
    let x = c.in-Some.x in
    let rest = ap (λ l. ys ++ l) (sym c.in-Some.ensures.steps) ∙ at.rest in
    let same = rest ∙ c.into_iter-x-iterator.ensures.into_iter_gives in
    record {
      rest = append_assoc ys (x ∷ []) c.next.new.self ∙ rest;
      noted = spread_more S v h event ys x c.next.new.self c.args.self.now c.loop-x.self c.into_both.new.self (subst IsStrictlyIncreasing (sym same) c.channels_at-x-items.ensures.rising) at.noted c.in_ok-into_both.ensures.noted;
      out = way_more_not S v h event ys x c.in_ok-into_both.field-0 c.loop-x.out c.in_ok-into_both.ensures.out c.if-branch.false at.out;
    }

pub returns-clause-noted : goal.returns-clause-noted
returns-clause-noted c =
    let S = c.args.system.now.declarations in
    let v = c.args.state.now in
    let h = c.args.half.now in
    let event = c.args.event.now in
    let ys = c.loop-x.yielded in
    let all = sym (append_none ys) ∙ ap (λ l. ys ++ l) (sym c.in-None.ensures.steps.0) ∙ c.loop-x.invariant.rest ∙ c.into_iter-x-iterator.ensures.into_iter_gives in
    let each = subst (λ xs. (x : ℕ) → list_any (λ y. y == x) xs ≡ option_map_or (has_end h) ((state_of v).links x) false) (sym all) c.channels_at-x-items.ensures.each in
    spread_all S v h event ys c.args.self.now c.loop-x.self each c.loop-x.invariant.noted

pub returns-clause-out : goal.returns-clause-out
returns-clause-out c =
    let S = c.args.system.now.declarations in
    let v = c.args.state.now in
    let h = c.args.half.now in
    let event = c.args.event.now in
    let ys = c.loop-x.yielded in
    let all = sym (append_none ys) ∙ ap (λ l. ys ++ l) (sym c.in-None.ensures.steps.0) ∙ c.loop-x.invariant.rest ∙ c.into_iter-x-iterator.ensures.into_iter_gives in
    let each = subst (λ xs. (x : ℕ) → list_any (λ y. y == x) xs ≡ option_map_or (has_end h) ((state_of v).links x) false) (sym all) c.channels_at-x-items.ensures.each in
    way_all S v h event ys c.loop-x.out each c.loop-x.invariant.out
