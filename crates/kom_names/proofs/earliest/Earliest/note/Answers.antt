use Rattle.std.proofs.Common.{◌≡◌, sym, ◌∙◌, Some}
use Rattle.kom_names.proofs.Places.{noted, lesser_some, lesser_none}
use Rattle.kom_rules.specs.Names.{earlier}
use Rattle.kom_names.specs.Found.{place_in}
use Rattle.kom_names.proofs.earliest.Earliest.note.Goals as goal
use Rattle.kom_names.proofs.earliest.Earliest.note.Goals.{in-Some, in-None}

pub returns : goal.returns
returns c q =
    let least : Some c.match-place.least ≡ earlier (place_in c.args.self.now c.args.name.now) (Some c.args.at) = elim c.match-place.branch [ in-Some w ↦ lesser_some _ w.in-Some.before c.match-place.least c.args.at (sym w.in-Some.ensures) (w.least-is ∙ w.min-least.ensures) | in-None w ↦ lesser_none _ c.match-place.least c.args.at (sym w.in-None.ensures) w.least-is ] in
    rw (← c.self.view_is) (noted c.self.inside.places.entries _ _ _ c.args.at c.args.name.now q c.in_ok-key.ensures.items c.in_ok-insert.ensures.entries (rw c.self.view_is least))
