use Rattle.std.proofs.Common.{◌≡◌, ◌+◌, ◌*◌, ◌≤◌, ℕ, true, Some, map, min, slice_get, refl, sym, ap, ◌∙◌, subst, arith}
use Rattle.std.specs.Option.{unwrap_or}
use Rattle.rand_pcg.specs.Lcg.{Lcg}
use Rattle.rand_pcg.specs.Pcg.{pcg32}
use Rattle.kom_env.specs.declared.service.Service.TheVariants.{Nothing}
use Rattle.kom_index.specs.Stock.{entries}
use Rattle.kom_env.specs.Outside.{Outside, absorbed, is_later, delay_by}
use Rattle.kom_env.specs.Waiting.{scheduled, after_timer, message_wait}
use Rattle.kom_env.specs.Seen.{AreUpTo, AreDueBy, farthest, outside_of}
use Rattle.kom_env.proofs.Pending.{absent_later, up_to_later, up_to_put, due_put, up_to_timer, due_timer, seen_timer, scheduled_put, absorbed_timer, absorbed_message}
use Rattle.kom_env.proofs.env.Env.absorb.Goals as goal

pub serve_timer-requires-clause-absent : goal.serve_timer-requires-clause-absent
serve_timer-requires-clause-absent c =
    let i = c.self.inside in
    absent_later i.latest c.args.no i.agenda.0 c.self.invariant.up_to (ap (λ (v : Outside). is_later v.latest c.args.no) c.self.view_is ∙ c.requires.later)

pub add-requires-clause-absent : goal.add-requires-clause-absent
add-requires-clause-absent c =
    let i = c.self.inside in
    absent_later i.latest c.args.no i.agenda.0 c.self.invariant.up_to (ap (λ (v : Outside). is_later v.latest c.args.no) c.self.view_is ∙ c.requires.later)

pub invariant_of-self-in-Nothing : goal.invariant_of-self-in-Nothing
invariant_of-self-in-Nothing c =
    let i = c.self.inside in
    let v = c.self.invariant in
    let later = ap (λ (v : Outside). is_later v.latest c.args.no) c.self.view_is ∙ c.requires.later in
    record { pair = v.pair; most = v.most; raised = v.raised; up_to = up_to_later i.latest c.args.no i.agenda.0 v.up_to later; due_by = v.due_by; clock = v.clock }

pub invariant_of-self : goal.invariant_of-self
invariant_of-self c =
    let i = c.self.inside in
    let v = c.self.invariant in
    let later = ap (λ (v : Outside). is_later v.latest c.args.no) c.self.view_is ∙ c.requires.later in
    record {
      pair = v.pair;
      most = v.most;
      raised = v.raised;
      up_to = subst (AreUpTo (Some c.args.no)) (sym c.serve_timer.ensures.serves) (up_to_timer c.clock_at-clock.result c.args.x i.latest c.args.no c.args.event.now i.agenda.0 v.up_to later);
      due_by = subst (AreDueBy (farthest (i.releases + 1))) (sym c.serve_timer.ensures.serves) (due_timer c.clock_at-clock.result c.args.x i.latest c.args.no c.args.event.now i.agenda.0 v.up_to later (farthest (i.releases + 1)) v.due_by (omega (arith, c.clock_at-clock.ensures, v.clock)));
      clock = v.clock;
    }

pub invariant_of-self-in-Network : goal.invariant_of-self-in-Network
invariant_of-self-in-Network c =
    let i = c.self.inside in
    let v = c.self.invariant in
    let later = ap (λ (v : Outside). is_later v.latest c.args.no) c.self.view_is ∙ c.requires.later in
    let adds = rw c.message.ensures at c.add.ensures.adds in
    let w = message_wait (c.clock_at-clock.result + c.delay.result) c.args.x c.args.event.now in
    record {
      pair = v.pair;
      most = v.most;
      raised = v.raised;
      up_to = subst (AreUpTo (Some c.args.no)) (sym adds) (up_to_put i.latest c.args.no w i.agenda.0 v.up_to later);
      due_by = subst (AreDueBy (farthest (i.releases + 1))) (sym adds) (due_put (farthest (i.releases + 1)) i.latest c.args.no w i.agenda.0 v.up_to later v.due_by (omega (arith, c.clock_at-clock.ensures, v.clock, c.delay.ensures.short)));
      clock = v.clock;
    }

pub returns-in-Timer-clause-absorbs : goal.returns-in-Timer-clause-absorbs
returns-in-Timer-clause-absorbs c =
    let i = c.self.inside in
    let x = c.args.x in
    let n = c.args.no in
    let event = c.args.event.now in
    let later = ap (λ (v : Outside). is_later v.latest n) c.self.view_is ∙ c.requires.later in
    let serves = rw c.clock_at-clock.ensures at c.serve_timer.ensures.serves in
    let service = sym (c.in-Timer.ensures ∙ ap (λ l. unwrap_or (slice_get l x) Nothing) c.deref.ensures.value) in
    let spare = min c.serve_timer.new.agenda.1 i.calendar.1 in
    absorbed_timer (outside_of i) x n event spare (map scheduled c.serve_timer.new.agenda.0) service
    (ap (map scheduled) serves ∙ seen_timer (unwrap_or i.last 0) x i.latest n event i.agenda.0 c.self.invariant.up_to later)
    ∙ ap (λ (v : Outside). record (absorbed v x n event) { spare = spare }) c.self.view_is

pub returns-in-Network-clause-absorbs : goal.returns-in-Network-clause-absorbs
returns-in-Network-clause-absorbs c =
    let i = c.self.inside in
    let x = c.args.x in
    let n = c.args.no in
    let event = c.args.event.now in
    let later = ap (λ (v : Outside). is_later v.latest n) c.self.view_is ∙ c.requires.later in
    let word : c.next_word.result ≡ (pcg32 i.generator).0 = ap (λ (p : ℕ × Lcg). p.0) c.next_word.ensures in
    let due : c.clock_at-clock.result + c.delay.result ≡ unwrap_or i.last 0 + delay_by i.plan (pcg32 i.generator).0 =
    ap (λ m. m + c.delay.result) c.clock_at-clock.ensures ∙ ap (λ m. unwrap_or i.last 0 + m) (c.delay.ensures.value ∙ ap (delay_by i.plan) word) in
    let adds = rw (c.message.ensures, due) at c.add.ensures.adds in
    let service = sym (c.in-Network.ensures ∙ ap (λ l. unwrap_or (slice_get l x) Nothing) c.deref.ensures.value) in
    let spare = min c.add.new.self.1 i.calendar.1 in
    let w = message_wait (unwrap_or i.last 0 + delay_by i.plan (pcg32 i.generator).0) x event in
    absorbed_message (outside_of i) x n event spare (map scheduled c.add.new.self.0) c.next_word.new.self service
    (ap (map scheduled) adds ∙ scheduled_put i.latest n w i.agenda.0 c.self.invariant.up_to later) (ap (λ (p : ℕ × Lcg). p.1) c.next_word.ensures)
    ∙ ap (λ (v : Outside). record (absorbed v x n event) { spare = spare }) c.self.view_is
