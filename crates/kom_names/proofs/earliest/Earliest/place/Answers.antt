use Rattle.std.proofs.Common.{sym, ◌∙◌}
use Rattle.kom_names.proofs.Places.{place_now}
use Rattle.kom_names.proofs.earliest.Earliest.place.Goals as goal

pub returns : goal.returns
returns c = rw (← c.self.view_is) (c.copied.ensures ∙ c.get.ensures.value ∙ sym (place_now (λ k. k.items) c.self.inside.places.entries c.args.name.now))
