use Rattle.std.proofs.Common.{[], sym, ap, subst}
use Rattle.std.proofs.lemmas.Result.{IfOk-weaker}
use Rattle.kom_times.specs.Following.{Follows}
use Rattle.kom_begins.proofs.begins.env_for.Goals as goal

pub returns-clause-follows : goal.returns-clause-follows
returns-clause-follows c =
    IfOk-weaker c.begin.result _ _ (λ v e. subst (Follows c.args.system.now.declarations c.args.plan []) (sym e) (c.begins_before_all.ensures c.args.system.now.declarations c.args.plan v.spare)) c.begin.ensures

pub returns-clause-plan : goal.returns-clause-plan
returns-clause-plan c = IfOk-weaker c.begin.result _ _ (λ v e. ap (λ o. o.plan) e) c.begin.ensures
