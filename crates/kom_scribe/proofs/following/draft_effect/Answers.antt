use Rattle.std.proofs.Common.{sym, subst, ◌∙◌, ◌∷◌, [], ◌++◌, Some}
use Rattle.kom_record.specs.Entries.{acts_for}
use Rattle.kom_scribe.specs.Drafts.{IsAfter}
use Rattle.kom_scribe.proofs.Changes.{after_create, after_destroy, after_quiet, quiet}
use Rattle.kom_scribe.proofs.following.draft_effect.Goals as goal

pub returns-in_ok-draft_create-in-Create : goal.returns-in_ok-draft_create-in-Create
returns-in_ok-draft_create-in-Create c done item h =
    let S = c.args.names.now.declarations in
    let k = c.args.known.now in
    subst (λ e. IsAfter S k c.draft_create.new.draft (acts_for c.args.c (Some item) (e ∷ []) ++ done)) (sym c.in-Create.is)
    (after_create S k c.args.draft.now c.draft_create.new.draft done c.args.c c.from-comp.result c.in-Create.slot c.in-Create.kind c.in-Create.birth item (c.from-comp.ensures ∙ c.c.view_is) h c.in_ok-draft_create-in-Create.ensures)

pub returns-in_ok-add_gone-in-Destroy : goal.returns-in_ok-add_gone-in-Destroy
returns-in_ok-add_gone-in-Destroy c done item h =
    let S = c.args.names.now.declarations in
    let k = c.args.known.now in
    subst (λ e. IsAfter S k c.add_gone.new.self (acts_for c.args.c (Some item) (e ∷ []) ++ done)) (sym c.in-Destroy.is)
    (after_destroy S k c.args.draft.now c.add_gone.new.self done c.args.c c.from-comp.result c.in-Destroy.slot item (c.from-comp.ensures ∙ c.c.view_is) h c.in_ok-add_gone-in-Destroy.ensures)

pub returns-in_default : goal.returns-in_default
returns-in_default c done item h =
    after_quiet c.args.names.now.declarations c.args.known.now c.args.draft.now done c.args.c c.args.effect.now item h
    (quiet c.args.names.now.declarations c.args.known.now c.args.effect.now c.in_default.not-Create c.in_default.not-Destroy)
