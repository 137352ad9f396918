use Rattle.std.proofs.Common.{sym}
use Rattle.kom_io.proofs.Places.{IsRaised, raised_only, past_end, stands}
use Rattle.kom_io.proofs.counts.Counts.raise.Goals as goal

pub returns-in-Some-place_of-clause-only : goal.returns-in-Some-place_of-clause-only
returns-in-Some-place_of-clause-only c =
    let raised : IsRaised c.in-Some-place_of.first c.args.self.now.faults.items c.raise_at.new.faults.items =
    record { there = c.raise_at.ensures.there; absent = c.raise_at.ensures.absent; others = c.raise_at.ensures.others } in
    stands c.args.self.now.names c.args.place c.in-Some.name.now _ c.in-Some.ensures
    (raised_only c.args.self.now.names c.in-Some.name.now c.in-Some-place_of.first _ _ (sym (c.in-Some-place_of.ensures.place)) c.raise_at.ensures.fits raised)

pub returns-in_default-clause-rose : goal.returns-in_default-clause-rose
returns-in_default-clause-rose c = past_end _ _ _ c.in_default.ensures
