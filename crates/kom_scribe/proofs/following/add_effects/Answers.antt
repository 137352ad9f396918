use Rattle.std.proofs.Common.{◌<◌, ◌++◌, Some, length, get_or, take, arith}
use Rattle.std.proofs.lemmas.Option.{slice_get-get_or}
use Rattle.kom_lang.specs.declared.body.Effect.TheVariants.{Escalate}
use Rattle.kom_record.specs.Entries.{acts_for}
use Rattle.kom_scribe.proofs.Told.{nothing_told, one_line_more, one_act_more}
use Rattle.kom_scribe.proofs.following.add_effects.Goals as goal

pub loop-i-init : goal.loop-i-init
loop-i-init c = record {
  lines = λ done item h. nothing_told c.args.names.now.event_names c.args.names.now.declarations done c.args.c item c.args.to.now c.args.text.now;
  after = λ done item h. h;
}

pub loop-i-preserved : goal.loop-i-preserved
loop-i-preserved c =
    let names = c.args.names.now.event_names in
    let S = c.args.names.now.declarations in
    let es = c.args.effects.now in
    let i = c.loop-i.i in
    let x = get_or es i Escalate in
    let within : i < length es = omega (arith, c.loop-i-test.true, c.len-i-end.ensures) in
    let there = slice_get-get_or es i Escalate within in
    record {
      lines = λ done item h.
          one_line_more names S done c.args.c item c.args.to.now es i Escalate c.args.text.now c.loop-i.text c.add_effect_line_at.new.text within (c.loop-i.invariant.lines done item h)
          (c.in_ok-add_effect_line_at.ensures.line (acts_for c.args.c (Some item) (take i es) ++ done) x there (c.loop-i.invariant.after done item h));
      after = λ done item h.
          one_act_more names S c.args.known.now c.add_effect_line_at.new.draft done c.args.c item es i Escalate within
          (c.in_ok-add_effect_line_at.ensures.after (acts_for c.args.c (Some item) (take i es) ++ done) x item there (c.loop-i.invariant.after done item h));
    }
