use Rattle.std.proofs.Common.{◌≡◌, ℕ, false, List, [], ◌∷◌, refl, sym, ap, ◌∙◌, arith}
use Rattle.std.specs.List.{list_any}
use Rattle.std.specs.Option.{option_map_or}
use Rattle.std.proofs.lemmas.List.{get_or_past}
use Rattle.kom_lang.specs.Declarations.{kind_of, no_kind, handler_of, is_fault}
use Rattle.kom_lang.specs.declared.kind.Kind.{Kind}
use Rattle.kom_record.specs.Bodies.{catches}
use Rattle.kom_state.proofs.catching.catches_faults.Goals as goal

none_for : (subs : List ℕ) → list_any (λ h. option_map_or (λ x. is_fault x.on) (handler_of no_kind h) false) subs ≡ false
none_for [] = refl
none_for (h ∷ subs) = none_for subs

pub returns-then-body-kinds : goal.returns-then-body-kinds
unfolding catches
returns-then-body-kinds c =
    let S = c.args.system.now.declarations in
    let past : kind_of S c.args.body.now.kind ≡ no_kind = get_or_past S.kinds c.args.body.now.kind no_kind (omega (arith, c.kinds.ensures, c.if-body-kinds.true)) in
    sym (ap (λ (k : Kind). list_any (λ h. option_map_or (λ x. is_fault x.on) (handler_of k h) false) c.args.body.now.subs) past ∙ none_for c.args.body.now.subs)

pub returns : goal.returns
unfolding catches
returns c =
    c.any_for_faults.ensures
    ∙ ap (λ (k : Kind). list_any (λ h. option_map_or (λ x. is_fault x.on) (handler_of k h) false) c.args.body.now.subs) c.kind.ensures.value
