use Rattle.std.proofs.Common.{◌≡◌, sym, ◌∙◌, true}
use Rattle.std.specs.Ordering.{is_eq}
use Rattle.kom_queues.specs.Fronts.{front_cmp, front_of}
use Rattle.kom_queues.proofs.Fronting.{same_turns}
use Rattle.kom_queues.proofs.queues.refresh.Goals as goal

pub returns-else-not-is_same : goal.returns-else-not-is_same
returns-else-not-is_same c =
    let same : is_eq (front_cmp (front_of c.args.new.now c.args.x c.args.d) (front_of c.args.old.now c.args.x c.args.d)) ≡ true = rw (c.make_front-was.ensures, c.make_front-now.ensures) at (sym c.is_same.ensures ∙ c.if-not-is_same.false) in
    same_turns c.args.fronts.now.0 (front_of c.args.old.now c.args.x c.args.d) (front_of c.args.new.now c.args.x c.args.d) same c.requires.there
