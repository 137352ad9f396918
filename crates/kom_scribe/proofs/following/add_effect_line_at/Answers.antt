use Rattle.std.proofs.Common.{◌≡◌, subst, ◌∙◌, ◌∷◌, [], ◌++◌, Some}
use Rattle.kom_record.specs.Entries.{acts_for}
use Rattle.kom_laws.proofs.Members.{Some-injective}
use Rattle.kom_scribe.specs.Drafts.{IsAfter}
use Rattle.kom_scribe.proofs.following.add_effect_line_at.Goals as goal

pub returns-clause-after : goal.returns-clause-after
returns-clause-after c done e item q h =
    let same : c.in-Some.effect.now ≡ e = Some-injective (c.in-Some.ensures.value ∙ q) in
    subst (λ x. IsAfter c.args.names.now.declarations c.args.known.now c.add_effect_line.new.draft (acts_for c.args.c (Some item) (x ∷ []) ++ done)) same (c.in_ok-add_effect_line-in-Some.ensures.after done item h)
