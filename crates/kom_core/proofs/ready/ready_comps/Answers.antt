use Rattle.std.proofs.Common.{◌≡◌, true, false, sym, ◌∙◌, subst}
use Rattle.std.specs.Coded.{coded_list, coded_ℕ}
use Rattle.std.proofs.Math.Logic.{∥∥₁_elim}
use base.Stored.{Coded-set}
use Rattle.kom_record.specs.Ready.{is_closed}
use Rattle.kom_turns.specs.Runs.{history_of, system_of}
use Rattle.kom_turns.proofs.Standing.{closed_is, same_test}
use Rattle.kom_core.specs.Listed.{AreListed}
use Rattle.kom_core.proofs.Listing.{listed_are_ready, none_ready}
use Rattle.kom_core.proofs.ready.ready_comps.Goals as goal

pub returns-then-is_closed : goal.returns-then-is_closed
returns-then-is_closed c =
    let v = c.args.run.now in
    let closed : is_closed (system_of v) v.env.plan (history_of v) ≡ true = same_test _ _ c.requires (λ s. sym (closed_is (system_of v) v.env.plan (history_of v) v.counts s.counts_are) ∙ sym c.is_closed.ensures ∙ c.if-is_closed.true) in
    c.new.ensures ∙ sym (none_ready (system_of v) v.env.plan (history_of v) closed)

pub returns : goal.returns
returns c =
    let v = c.args.run.now in
    let still : is_closed (system_of v) v.env.plan (history_of v) ≡ false = same_test _ _ c.requires (λ s. sym (closed_is (system_of v) v.env.plan (history_of v) v.counts s.counts_are) ∙ sym c.is_closed.ensures ∙ c.if-is_closed.false) in
    let listed = subst (λ n. AreListed v.runnable n c.in_ok-comps.comps.items) c.instance_count.ensures c.in_ok-comps.ensures in
    c.of.ensures ∙ ∥∥₁_elim c.requires (Coded-set (coded_list coded_ℕ) _ _) (λ s. listed_are_ready v s still c.in_ok-comps.comps.items listed)
