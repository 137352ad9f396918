use Rattle.std.proofs.Common.{◌≡◌, ℕ, Option, Some, None, refl, sym, ap, ◌∙◌, subst}
use Rattle.kom_base.specs.declared.numbers.EntryNo.{EntryNo}
use Rattle.kom_index.specs.Stock.{entries}
use Rattle.kom_index.specs.Entries.{IsFirstFrom}
use Rattle.kom_env.specs.declared.keys.Tag.{Tag}
use Rattle.kom_env.specs.Keys.{tag_cmp, first_no}
use Rattle.kom_env.specs.Waiting.{is_tagged, IsOneOf}
use Rattle.kom_env.proofs.Finding.{low_tag, none_tagged, one_tagged, low_is}
use Rattle.kom_env.proofs.agenda.Agenda.first_like.Goals as goal

pub returns-in-Some-clause-found : goal.returns-in-Some-clause-found
returns-in-Some-clause-found c =
    let i = c.self.inside in
    let same = c.is_like.ensures.0 c.if-is_like.true in
    subst (λ m. IsOneOf (is_tagged c.args.low.now.chan c.args.low.now.id) (entries m) (Some c.in-Some.tag.now.no)) c.self.view_is (one_tagged i.waits.0 i.tags.0 c.self.invariant.by_tag c.args.low.now.chan c.args.low.now.id c.in-Some.tag.now c.in-Some.ensures.least.0 same.0 same.1)

pub returns-in_default-clause-found : goal.returns-in_default-clause-found
returns-in_default-clause-found c =
    let i = c.self.inside in
    subst (λ m. IsOneOf (is_tagged c.args.low.now.chan c.args.low.now.id) (entries m) None) c.self.view_is (none_tagged i.waits.0 i.tags.0 c.self.invariant.by_tag c.args.low.now.chan c.args.low.now.id (Some c.in-Some.tag.now) (subst (λ t. IsFirstFrom tag_cmp t i.tags.0 (Some c.in-Some.tag.now)) (low_is c.args.low.now c.requires) c.in-Some.ensures.least)
    (λ k e here this. let is : c.in-Some.tag.now ≡ k = cc in cc (c.is_like.ensures.1 (ap (λ (t : Tag). t.chan) is ∙ here, ap (λ (t : Tag). t.id) is ∙ this), c.if-is_like.false)))

pub returns-in_default-2-clause-found : goal.returns-in_default-2-clause-found
returns-in_default-2-clause-found c =
    let i = c.self.inside in
    subst (λ m. IsOneOf (is_tagged c.args.low.now.chan c.args.low.now.id) (entries m) None) c.self.view_is (none_tagged i.waits.0 i.tags.0 c.self.invariant.by_tag c.args.low.now.chan c.args.low.now.id None (subst (λ t. IsFirstFrom tag_cmp t i.tags.0 None) (low_is c.args.low.now c.requires) (rw c.in_default.is at c.first_from.ensures.least)) (λ k e. absurd (cc)))
