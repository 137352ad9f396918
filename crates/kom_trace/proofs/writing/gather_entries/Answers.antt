use Rattle.std.proofs.Common.{◌<◌, ◌∷◌, ◌++◌, refl, sym, subst, ◌∙◌, length, arith}
use Rattle.kom_record.specs.Legal.{IsLegal}
use Rattle.kom_record.specs.Trace.{entry_lines, joined}
use Rattle.kom_trace.specs.Counting.{first_entries}
use Rattle.kom_trace.specs.Seen.{HasSeen, Gathers}
use Rattle.kom_trace.proofs.Written.{nothing_gathered, entry_there, next_legal, first_more, gathered_next, gathered_front}
use Rattle.kom_trace.proofs.writing.gather_entries.Goals as goal

pub loop-i-init : goal.loop-i-init
loop-i-init g c = record {
  names = refl;
  seen = λ Z h l. h;
  written = λ Z h l. nothing_gathered c.args.scribe.now.names.event_names c.args.scribe.now.names.declarations c.args.text.now (g.K.Sink.written c.args.sink.now) c.requires;
  counts = omega arith;
}

pub loop-i-preserved : goal.loop-i-preserved
loop-i-preserved g c =
    let R = c.args.kept.now.history in
    let i = c.loop-i.i in
    let S = c.args.scribe.now.names.declarations in
    let names = c.args.scribe.now.names.event_names in
    let within : i < length R = omega (arith, c.loop-i-test.true, c.len-i-end.ensures) in
    let it = entry_there R i within in
    let P = first_entries i R in
    let mid = g.K.Sink.written c.loop-i.sink in
    let after = g.K.Sink.written c.write_entry_at.new.sink in
    record {
      names = c.write_entry_at.ensures.names ∙ c.loop-i.invariant.names;
      seen = λ Z h l.
          subst (HasSeen c.write_entry_at.new.scribe) (sym (first_more i R it.0 within it.1))
          (c.write_entry_at.ensures.seen Z it.0 it.1 (c.loop-i.invariant.seen Z h l)
          (subst (λ n. ∥ IsLegal n.declarations Z (it.0 ∷ P) ∥₁) (sym c.loop-i.invariant.names) (next_legal S Z i R it.0 within it.1 l)) c.in-Whole.is);
      written = λ Z h l.
          gathered_next names S i R it.0 within it.1 (g.K.Sink.written c.args.sink.now) mid after c.loop-i.text c.write_entry_at.new.text (c.loop-i.invariant.written Z h l)
          (subst (λ r. Gathers r (c.loop-i.text ++ joined (entry_lines names S P it.0)) c.write_entry_at.new.text mid after) c.in-Whole.is
          (subst (λ n. Gathers c.write_entry_at.result (c.loop-i.text ++ joined (entry_lines n.event_names n.declarations P it.0)) c.write_entry_at.new.text mid after) c.loop-i.invariant.names
          (c.write_entry_at.ensures.written Z it.0 it.1 (c.loop-i.invariant.seen Z h l)
          (subst (λ n. ∥ IsLegal n.declarations Z (it.0 ∷ P) ∥₁) (sym c.loop-i.invariant.names) (next_legal S Z i R it.0 within it.1 l)))));
      counts = omega (arith, c.loop-i.invariant.counts, c.write_entry_at.ensures.counts);
    }

pub returns-in-WriteFault-clause-written : goal.returns-in-WriteFault-clause-written
returns-in-WriteFault-clause-written g c Z h l =
    let R = c.args.kept.now.history in
    let i = c.loop-i.i in
    let S = c.args.scribe.now.names.declarations in
    let names = c.args.scribe.now.names.event_names in
    let within : i < length R = omega (arith, c.loop-i-test.true, c.len-i-end.ensures) in
    let it = entry_there R i within in
    let P = first_entries i R in
    let mid = g.K.Sink.written c.loop-i.sink in
    let after = g.K.Sink.written c.write_entry_at.new.sink in
    gathered_front names S i R it.0 within it.1 (g.K.Sink.written c.args.sink.now) mid after c.loop-i.text c.write_entry_at.new.text (c.loop-i.invariant.written Z h l)
    (subst (λ r. Gathers r (c.loop-i.text ++ joined (entry_lines names S P it.0)) c.write_entry_at.new.text mid after) c.in-WriteFault.is
    (subst (λ n. Gathers c.write_entry_at.result (c.loop-i.text ++ joined (entry_lines n.event_names n.declarations P it.0)) c.write_entry_at.new.text mid after) c.loop-i.invariant.names
    (c.write_entry_at.ensures.written Z it.0 it.1 (c.loop-i.invariant.seen Z h l)
    (subst (λ n. ∥ IsLegal n.declarations Z (it.0 ∷ P) ∥₁) (sym c.loop-i.invariant.names) (next_legal S Z i R it.0 within it.1 l)))))

pub returns-in-Memory-clause-written : goal.returns-in-Memory-clause-written
returns-in-Memory-clause-written g c Z h l =
    let R = c.args.kept.now.history in
    let i = c.loop-i.i in
    let S = c.args.scribe.now.names.declarations in
    let names = c.args.scribe.now.names.event_names in
    let within : i < length R = omega (arith, c.loop-i-test.true, c.len-i-end.ensures) in
    let it = entry_there R i within in
    let P = first_entries i R in
    let mid = g.K.Sink.written c.loop-i.sink in
    let after = g.K.Sink.written c.write_entry_at.new.sink in
    gathered_front names S i R it.0 within it.1 (g.K.Sink.written c.args.sink.now) mid after c.loop-i.text c.write_entry_at.new.text (c.loop-i.invariant.written Z h l)
    (subst (λ r. Gathers r (c.loop-i.text ++ joined (entry_lines names S P it.0)) c.write_entry_at.new.text mid after) c.in-Memory.is
    (subst (λ n. Gathers c.write_entry_at.result (c.loop-i.text ++ joined (entry_lines n.event_names n.declarations P it.0)) c.write_entry_at.new.text mid after) c.loop-i.invariant.names
    (c.write_entry_at.ensures.written Z it.0 it.1 (c.loop-i.invariant.seen Z h l)
    (subst (λ n. ∥ IsLegal n.declarations Z (it.0 ∷ P) ∥₁) (sym c.loop-i.invariant.names) (next_legal S Z i R it.0 within it.1 l)))))
