use Rattle.std.proofs.Common.{◌≡◌, not, refl, sym, ap, ◌∙◌, arith}
use Rattle.std.specs.List.{filter}
use Rattle.kom_index.specs.Stock.{entries}
use Rattle.kom_env.specs.Keys.{number_cmp, number_total}
use Rattle.kom_env.specs.Waiting.{is_tagged}
use Rattle.kom_env.proofs.Ties.{number_tied}
use Rattle.kom_env.proofs.Rising.{filter_without}
use Rattle.kom_env.proofs.Listing.{none_dropped}
use Rattle.kom_env.proofs.agenda.Agenda.discard_like.Goals as goal

pub loop-no-preserved : goal.loop-no-preserved
loop-no-preserved c =
    let found = c.in-Some.ensures.found in
    record {
      same = ap (filter (λ e. not (is_tagged c.args.low.now.chan c.args.low.now.id e))) c.remove.ensures.rest ∙ filter_without number_cmp number_total number_tied (λ e. not (is_tagged c.args.low.now.chan c.args.low.now.id e)) c.in-Some.no found.0 (entries c.loop-no.self) c.in-Some.ensures.rises found.1 (ap not found.2) ∙ c.loop-no.invariant.same;
      room = omega (arith, c.loop-no.invariant.room, c.remove.ensures.spare);
    }

pub returns-clause-rest : goal.returns-clause-rest
returns-clause-rest c = sym (none_dropped (is_tagged c.args.low.now.chan c.args.low.now.id) (entries c.loop-no.self) c.in_default.ensures.rises c.in_default.ensures.found) ∙ c.loop-no.invariant.same
