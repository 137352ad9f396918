use Rattle.std.proofs.Common.{◌≡◌, sym, ap, ◌∙◌, is_some, false}
use Rattle.kom_names.specs.Found.{place_in}
use Rattle.kom_names.proofs.Places.{numbered_now}
use Rattle.kom_names.proofs.numbers.Numbers.add.Goals as goal

pub returns : goal.returns
returns c q =
    let absent : is_some (place_in c.args.self.now c.args.name.now) ≡ false = ap is_some (sym c.number.ensures) ∙ sym c.if-is_some.ensures in
    rw (← c.self.view_is) (numbered_now c.self.inside.numbers.entries _ _ c.args.number c.args.name.now q c.in_ok-key.ensures.items (rw c.self.view_is absent) c.in_ok-insert.ensures.entries)
