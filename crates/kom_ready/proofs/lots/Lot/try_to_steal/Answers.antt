use Rattle.std.proofs.Common.{refl, sym, ap, ◌∙◌, length, arith, ◌<◌}
use Rattle.std.specs.Prelude.{slice_get}
use Rattle.crossbeam_deque.specs.Handles.{stealer_deque}
use Rattle.kom_ready.specs.Guests.{guest_deque}
use Rattle.kom_ready.proofs.Guested.{at_place, long_map, none_falls, rises, same_map, same_held}
use Rattle.kom_ready.proofs.Keeping.{batches_leave, comes}
use Rattle.kom_ready.proofs.Stolen.{same_parts}
use Rattle.kom_ready.proofs.lots.Lot.try_to_steal.Goals as goal

pub steal_batch_as-stolen-requires-clause-table : goal.steal_batch_as-stolen-requires-clause-table
steal_batch_as-stolen-requires-clause-table c =
    let g = c.index_mut-guest.result.now in
    let guests = c.args.self.now.guests.items in
    let thieves = c.args.set.now.thieves.items in
    let long = sym (long_map guest_deque guests) ∙ ap length c.requires.of.guests ∙ long_map stealer_deque thieves in
    let there : c.args.j < length thieves = let k = c.requires.there in omega (arith, long, k) in
    let same = same_held (guest_deque g) (stealer_deque c.index.result.now)
    (sym (at_place guest_deque guests c.args.j g c.requires.there c.index_mut-guest.ensures.value) ∙ ap (λ ds. slice_get ds c.args.j) c.requires.of.guests
    ∙ at_place stealer_deque thieves c.args.j c.index.result.now there c.index.ensures)
    in
    ((ap (λ d. d.0) same, ap (λ d. d.1) same, g.rests.0, g.rests.1), omega arith)

pub steal_batch_as-stolen-requires-clause-takes : goal.steal_batch_as-stolen-requires-clause-takes
steal_batch_as-stolen-requires-clause-takes c = batches_leave _ _ 32 (let e = c.index_mut-guest.result.now.part in omega (arith, e))

pub steal_batch_as-stolen-requires-clause-pushes : goal.steal_batch_as-stolen-requires-clause-pushes
steal_batch_as-stolen-requires-clause-pushes c = λ xs w e. comes _ _ _ _ c.args.self.now.part

pub returns-then-is_empty-clause-same : goal.returns-then-is_empty-clause-same
returns-then-is_empty-clause-same c =
    let was = c.args.self.now in
    let e = c.steal_batch_as-stolen.ensures in
    let g = c.index_mut-guest.result.now in
    record {
      number = refl;
      own = e.same.1.0;
      guests = same_map g c.note.new.self guest_deque was.guests.items c.args.j c.requires.there c.index_mut-guest.ensures.value
          (ap (λ p. (p.rows, p.heap)) c.note.ensures.pass ∙ (λ i. (e.same.0.0 i, e.same.0.1 i)));
      parts = same_parts _ _ _ _ _ _ _ _ _ c.steal_batch_as-stolen.result e.rules;
    }

pub returns-then-is_empty-clause-empty : goal.returns-then-is_empty-clause-empty
returns-then-is_empty-clause-empty c = λ _. rises c.index_mut-guest.result.now c.note.new.self c.args.self.now.guests.items c.args.j c.requires.there c.index_mut-guest.ensures.value c.note.ensures.found.0

pub returns-then-is_empty-clause-found : goal.returns-then-is_empty-clause-found
returns-then-is_empty-clause-found c = none_falls c.index_mut-guest.result.now c.note.new.self c.args.self.now.guests.items c.args.j c.requires.there c.index_mut-guest.ensures.value c.note.ensures.found.1

pub returns-else-is_empty-clause-same : goal.returns-else-is_empty-clause-same
returns-else-is_empty-clause-same c =
    let was = c.args.self.now in
    let e = c.steal_batch_as-stolen.ensures in
    let g = c.index_mut-guest.result.now in
    record {
      number = refl;
      own = e.same.1.0;
      guests = same_map g _ guest_deque was.guests.items c.args.j c.requires.there c.index_mut-guest.ensures.value (λ i. (e.same.0.0 i, e.same.0.1 i));
      parts = same_parts _ _ _ _ _ _ _ _ _ c.steal_batch_as-stolen.result e.rules;
    }

pub returns-else-is_empty-clause-found : goal.returns-else-is_empty-clause-found
returns-else-is_empty-clause-found c = none_falls c.index_mut-guest.result.now _ c.args.self.now.guests.items c.args.j c.requires.there c.index_mut-guest.ensures.value (omega arith)
