use Rattle.std.proofs.Common.{◌∙◌, ap, sym}
use Rattle.kom_record.specs.Ready.{queued, out, has_more}
use Rattle.kompics.specs.Runs.{MayKeep}
use Rattle.kompics.proofs.Promising.{legal_of, record_of, status_is}
use Rattle.kompics.proofs.running.ended.Goals as goal

pub returns : goal.returns
returns g c = λ drive may.
    let S = (g.T.StandsFor.system c.args.station).declarations in
    let Z = g.T.StandsFor.plan c.args.station in
    let R = c.into_kept-kept.result.history in
    let same = c.into_kept-kept.ensures in
    let kept : ∥ MayKeep drive S Z R ∥₁ = rw same may in
    let more = c.tally-tally.ensures.more ∙ ap (has_more S Z) (sym same) in
    let unhandled = c.has_unhandled.ensures S R (c.in_ok-counts.ensures S Z (legal_of drive S Z R kept)) in
    record {
      record_is = record_of c.records_promise.ensures drive S Z R c.requires.declared kept;
      tally_is = record {
        queued = c.tally-tally.ensures.queued ∙ ap (queued S) (sym same);
        out = c.tally-tally.ensures.out ∙ ap (out S) (sym same);
        more = more;
      };
      status_is = c.status_of-status.ensures ∙ status_is drive S Z R c.has_unhandled.result c.tally-tally.result.more kept unhandled more;
    }
