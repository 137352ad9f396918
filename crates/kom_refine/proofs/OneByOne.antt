-- The laws within an entry.
use Rattle.std.proofs.Common.{◌≡◌, ℕ, refl, sym, ap, ◌∙◌, subst, List, [], ◌∷◌, ◌++◌, Option, Some, None}
use Rattle.std.specs.Option.{option_map, option_map_or}
use Rattle.std.proofs.lemmas.List.{append-nil, append_assoc}
use Rattle.kom_base.specs.declared.numbers.EntryNo.{EntryNo}
use Rattle.kom_lang.specs.Declarations.{Declarations}
use Rattle.kom_lang.specs.declared.body.Effect.{Effect}
use Rattle.kom_record.specs.declared.item.Control.{Control as ControlItem}
use Rattle.kom_record.specs.declared.item.Item.{Item}
use Rattle.kom_record.specs.Entries.{acts, acts_for, item_at}
use Rattle.kom_record.specs.Queues.{entering}
use Rattle.kom_record.specs.Controls.{put_by_item}
use Rattle.kom_laws.proofs.Escalations.{acts_by_born}
use Rattle.kom_refine.specs.States.{Queue, ControlRow}
use Rattle.kom_refine.specs.Points.{Point, act_of, start_of, with_act, with_put, with_effects, before_effects_of, StandsAt}
use Rattle.kom_refine.specs.Steps.{with_items, with_numbers, ArePut}
use Rattle.kom_refine.specs.Within.{NothingIsAdded, PutsAddUp, ComesAddUp, PutsFollow, ComesFollow, EndsFollow, SamePointsFollow, HandlingsBeginFresh, HandlingsBegin, HandlingsAreWithin, HandlingsGoOn, HandlingsEnd, EffectsAreByCreated}
use Rattle.kom_refine.proofs.Creating.{by_created}
use Rattle.kom_refine.proofs.Ending.{ended_follows}
use Rattle.kom_refine.proofs.Entries.{done_at_end}
use Rattle.kom_refine.proofs.Fresh.{fresh_before, fresh_effects}
use Rattle.kom_refine.proofs.Laws.{effect_follows}
use Rattle.kom_refine.proofs.Points.{same_point, mine_effects, before_effects}
use Rattle.kom_refine.proofs.Putting.{items_follow, numbers_follow}

-- ---- little by little

no_items : (r : Option ControlRow) → r ≡ option_map (with_items []) r
no_items None = refl
no_items (Some r) = ap {B = Option ControlRow} (λ is. Some (record { items = is; active = r.active; catches = r.catches })) (sym (append-nil r.items))

no_numbers : (q : Option Queue) → q ≡ option_map (with_numbers []) q
no_numbers None = refl
no_numbers (Some q) = ap {B = Option Queue} (λ ns. Some (record { numbers = ns; receiver = q.receiver })) (sym (append-nil q.numbers))

pub nothing_is_added : NothingIsAdded
nothing_is_added m = record {
  put = record { tree = record { nodes = refl; living = λ c. refl; child = λ c s. refl }; links = λ x. refl; queues = λ x d. refl; controls = λ c. no_items (m.controls c); bodies = λ c. refl };
  come = record { tree = record { nodes = refl; living = λ c. refl; child = λ c s. refl }; links = λ x. refl; queues = λ x d. no_numbers (m.queues x d); controls = λ c. refl; bodies = λ c. refl };
}

more_items : (us vs : List ControlItem) (r : Option ControlRow) → option_map (with_items vs) (option_map (with_items us) r) ≡ option_map (with_items (us ++ vs)) r
more_items us vs None = refl
more_items us vs (Some r) = ap {B = Option ControlRow} (λ is. Some (record { items = is; active = r.active; catches = r.catches })) (append_assoc r.items us vs)

more_numbers : (us vs : List EntryNo) (q : Option Queue) → option_map (with_numbers vs) (option_map (with_numbers us) q) ≡ option_map (with_numbers (us ++ vs)) q
more_numbers us vs None = refl
more_numbers us vs (Some q) = ap {B = Option Queue} (λ ns. Some (record { numbers = ns; receiver = q.receiver })) (append_assoc q.numbers us vs)

pub puts_add_up : PutsAddUp
puts_add_up before more all m k n e f g = record {
  tree = record { nodes = g.tree.nodes ∙ f.tree.nodes; living = λ c. g.tree.living c ∙ f.tree.living c; child = λ c s. g.tree.child c s ∙ f.tree.child c s };
  links = λ x. g.links x ∙ f.links x;
  queues = λ x d. g.queues x d ∙ f.queues x d;
  controls = λ c. g.controls c ∙ ap (option_map (with_items (more c))) (f.controls c) ∙ more_items (before c) (more c) (m.controls c) ∙ ap (λ is. option_map (with_items is) (m.controls c)) (sym (e c));
  bodies = λ c. g.bodies c ∙ f.bodies c;
}

pub comes_add_up : ComesAddUp
comes_add_up before more all m k n e f g = record {
  tree = record { nodes = g.tree.nodes ∙ f.tree.nodes; living = λ c. g.tree.living c ∙ f.tree.living c; child = λ c s. g.tree.child c s ∙ f.tree.child c s };
  links = λ x. g.links x ∙ f.links x;
  queues = λ x d. g.queues x d ∙ ap (option_map (with_numbers (more x d))) (f.queues x d) ∙ more_numbers (before x d) (more x d) (m.queues x d) ∙ ap (λ ns. option_map (with_numbers ns) (m.queues x d)) (sym (e x d));
  controls = λ c. g.controls c ∙ f.controls c;
  bodies = λ c. g.bodies c ∙ f.bodies c;
}

-- ---- at a point

pub puts_follow : PutsFollow
puts_follow S p more m n r s = items_follow S p m n more r s

pub comes_follow : ComesFollow
comes_follow S p more m n r s = numbers_follow S p m n more r s

pub ends_follow : EndsFollow
ends_follow S p w c took o to places m n r s = ended_follows S p m n w c took o to places r s

pub same_points_follow : SamePointsFollow
same_points_follow S p q m e s = same_point S p q m e.before e.mine e.ended e.put e.came s

-- ---- a handling

pub handlings_begin_fresh : HandlingsBeginFresh
handlings_begin_fresh S Z P w c took body effects to places l = fresh_before S Z P w c took body effects to places l

pub effects_are_by_created : EffectsAreByCreated
effects_are_by_created S Z P l = by_created S (acts P) (acts_by_born S Z P l)

pub handlings_begin : HandlingsBegin
handlings_begin S P w c took item body effects to places m put come at a b s =
    let base : ℕ → List ControlItem = λ d. option_map_or (put_by_item S P d c body) (item_at P took) [] in
    let same : ArePut base m put = record {
      tree = a.tree;
      links = a.links;
      queues = a.queues;
      bodies = a.bodies;
      controls = λ d. a.controls d ∙ ap (λ o. option_map (with_items (option_map_or (put_by_item S P d c body) o [])) (m.controls d)) (sym at);
    } in
    numbers_follow S (with_put (start_of P) base) put come (entering S P _) b (items_follow S (start_of P) m put base same s)

module _ (S : Declarations) where
  one_more : (p : Point) (c : ℕ) (item : Item) (before : List Effect) (e : Effect) → with_effects S p c item (before ++ e ∷ []) ≡ with_act S (with_effects S p c item before) (act_of c item e)
  one_more p c item [] e = refl
  one_more p c item (d ∷ ds) e = one_more (with_act S p (act_of c item d)) c item ds e

pub handlings_are_within : HandlingsAreWithin
handlings_are_within S Z P w c took item body effects to places before l b =
    let p = before_effects_of S P w c took body effects to places in
    record {
      record_is = before_effects S p c item before;
      acts_are = ap (λ mine. mine ++ acts (with_effects S p c item before).before) (mine_effects S p c item before ∙ append-nil (acts_for c (Some item) before))
          ∙ ap (λ B. acts_for c (Some item) before ++ acts B) (before_effects S p c item before);
      fresh = fresh_effects S p c item before (effects_are_by_created S Z P l) b (fresh_before S Z P w c took body effects to places l);
    }

pub handlings_go_on : HandlingsGoOn
handlings_go_on S Z P w c took item body effects to places before e m n l b h s =
    let p = before_effects_of S P w c took body effects to places in
    subst (λ q. StandsAt S q n) (sym (one_more S p c item before e))
    (effect_follows S (with_effects S p c item before) c item e m n (handlings_are_within S Z P w c took item body effects to places before l b).fresh h s)

pub handlings_end : HandlingsEnd
handlings_end S Z P w c took item body effects to places m n l at end s = done_at_end S Z P w c took item body effects to places m n l at end s
