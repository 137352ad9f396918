use Rattle.std.proofs.Common.{refl, ap}
use Rattle.kom_ready.specs.Guests.{guest_deque}
use Rattle.kom_ready.proofs.Guested.{counts_one, none_else, none_falls, rises, same_map}
use Rattle.kom_ready.proofs.Keeping.{leaves, settles}
use Rattle.kom_ready.proofs.lots.Lot.pop.Goals as goal

pub pop_as-requires-clause-fifo : goal.pop_as-requires-clause-fifo
pop_as-requires-clause-fifo c = λ _. leaves _ _ 1 c.args.self.now.part

pub pop_as-requires-clause-empty : goal.pop_as-requires-clause-empty
pop_as-requires-clause-empty c = settles _ _

pub returns-in-None-clause-same : goal.returns-in-None-clause-same
returns-in-None-clause-same c =
    let was = c.args.self.now in
    let e = c.in-None.ensures in
    record {
      number = refl;
      own = e.same.0.0;
      guests = same_map c.index_mut.result.now c.note.new.self guest_deque was.guests.items was.number c.requires c.index_mut.ensures.value (ap (λ p. (p.rows, p.heap)) c.note.ensures.pass);
      parts = ap (λ v. v.parts) e.rule.0;
    }

pub returns-in-None-clause-given : goal.returns-in-None-clause-given
returns-in-None-clause-given c =
    let was = c.args.self.now in
    (ap (λ v. v.taken) c.in-None.ensures.rule.0, rises c.index_mut.result.now c.note.new.self was.guests.items was.number c.requires c.index_mut.ensures.value c.note.ensures.found.0)

pub returns-in-None-clause-found : goal.returns-in-None-clause-found
returns-in-None-clause-found c =
    let was = c.args.self.now in
    none_falls c.index_mut.result.now c.note.new.self was.guests.items was.number c.requires c.index_mut.ensures.value c.note.ensures.found.1

pub returns-in-None-clause-counts : goal.returns-in-None-clause-counts
returns-in-None-clause-counts c =
    let was = c.args.self.now in (
      none_else c.index_mut.result.now c.note.new.self was.guests.items was.number,
      counts_one c.index_mut.result.now c.note.new.self was.guests.items was.number c.requires c.index_mut.ensures.value c.note.ensures.exact,
    )
