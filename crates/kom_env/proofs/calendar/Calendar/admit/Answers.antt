use Rattle.std.proofs.Common.{◌≡◌, ◌+◌, ◌≤◌, length, refl, sym, ap, ◌∙◌, arith}
use Rattle.kom_index.specs.Stock.{items}
use Rattle.kom_env.specs.Raised.{raises_in, admitted}
use Rattle.kom_env.proofs.Placing.{behind, no_place, placed_more, placed_wider, length-inserted, length-raises, admit_is}
use Rattle.kom_env.proofs.calendar.Calendar.admit.Goals as goal

pub insert-requires-clause-absent : goal.insert-requires-clause-absent
insert-requires-clause-absent c =
    let i = c.self.inside in
    rw c.place_of.ensures (no_place c.args.raise i.count i.raises.0 c.self.invariant.placed)

pub invariant_of-self : goal.invariant_of-self
invariant_of-self c =
    let i = c.self.inside in
    let v = c.self.invariant in
    let new = rw c.place_of.ensures at c.insert.ensures.new in
    let long = ap length new ∙ length-inserted (behind c.args.raise i.count) c.args.raise i.raises.0 in
    record {
      rises = c.insert.ensures.rises;
      placed = rw new (placed_more c.args.raise (i.count + 1) i.count i.raises.0 (omega arith) (placed_wider i.count (i.count + 1) (omega arith) i.raises.0 v.placed));
      counted = omega (arith, long, v.counted);
      few = omega (arith, c.requires.few, ap (λ m. length (items m)) c.self.view_is, length-raises i.raises.0, v.counted);
      stocked = omega (arith, v.stocked, c.insert.ensures.spare);
      empty = v.empty;
      roomy = omega (arith, v.roomy, c.requires.spare, ap (λ m. m.1) c.self.view_is);
    }

pub returns-clause-admits : goal.returns-clause-admits
returns-clause-admits c =
    let i = c.self.inside in
    let new = rw c.place_of.ensures at c.insert.ensures.new in
    ap raises_in new ∙ admit_is c.args.raise i.count i.raises.0 c.self.invariant.placed ∙ ap (λ m. admitted c.args.raise (items m)) c.self.view_is
