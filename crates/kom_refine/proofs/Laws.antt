-- The laws of the crate, from those of each kind of step.
use Rattle.std.proofs.Common.{◌≡◌, ℕ, ◌<◌, Bool, true, false, ◌==◌, refl, sym, ap, ◌∙◌, subst, List, [], ◌∷◌, ◌++◌, length, Option, Some, None, if◌then◌else◌}
use Rattle.std.specs.Option.{option_map, option_map_or}
use Rattle.kom_lang.specs.Declarations.{Declarations}
use Rattle.kom_lang.specs.declared.body.Body.{Body}
use Rattle.kom_lang.specs.declared.body.Effect.{Effect}
use Rattle.kom_lang.specs.declared.body.Effect.TheVariants as effect
use Rattle.kom_record.specs.Model.{model}
use Rattle.kom_record.specs.declared.plan.Plan.{Plan}
use Rattle.kom_record.specs.declared.item.Control.{Control as ControlItem}
use Rattle.kom_record.specs.declared.item.Item.{Item}
use Rattle.kom_record.specs.declared.entry.Outcome.TheVariants as outcome
use Rattle.kom_record.specs.declared.entry.Entry.{Entry}
use Rattle.kom_record.specs.declared.entry.Entry.TheVariants.{Did}
use Rattle.kom_record.specs.Entries.{History, acts, item_at}
use Rattle.kom_record.specs.Instances.{born}
use Rattle.kom_record.specs.Queues.{entering}
use Rattle.kom_record.specs.Controls.{control_waiting, put_by_item}
use Rattle.kom_record.specs.Reaction.{body_after}
use Rattle.kom_record.specs.Bodies.{catches}
use Rattle.kom_record.specs.Legal.{IsLegal, IsAllowed}
use Rattle.kom_laws.proofs.ControlLaws.{body_born}
use Rattle.kom_laws.proofs.Escalations.{acts_by_born}
use Rattle.kom_refine.specs.States.{State, ControlRow}
use Rattle.kom_refine.specs.Points.{Point, acts_at, act_of, start_of, with_act, with_effects, with_put, before_effects_of, StandsAt, IsFresh, AreByCreated, living_body}
use Rattle.kom_refine.specs.Steps.{with_items, ArePut, AreEffects}
use Rattle.kom_refine.specs.Laws.{VoidFollows, EffectFollows, EffectsStayFresh, DoneFollows}
use Rattle.kom_refine.proofs.Kept.{keeps}
use Rattle.kom_refine.proofs.Creating.{by_created, create_follows}
use Rattle.kom_refine.proofs.Destroying.{destroy_follows}
use Rattle.kom_refine.proofs.Ending.{body_ended, did_sealed}
use Rattle.kom_refine.proofs.Entries.{done_at_end}
use Rattle.kom_refine.proofs.Fresh.{born_later, fresh_act, fresh_before}
use Rattle.kom_refine.proofs.Putting.{items_follow, numbers_follow, put_follows}
use Rattle.kom_refine.proofs.Relinking.{hold_follows, resume_follows, plug_follows, unplug_follows}

pub effect_follows : EffectFollows
effect_follows S p c item (effect.Hold k) m n f r s = hold_follows S p m n c item k r s
effect_follows S p c item (effect.Resume k) m n f r s = resume_follows S p m n c item k r s
effect_follows S p c item (effect.Plug k e q) m n f r s = plug_follows S p m n c item k e q r s
effect_follows S p c item (effect.Unplug k e) m n f r s = unplug_follows S p m n c item k e r s
effect_follows S p c item (effect.Create slot kind birth) m n f r s = create_follows S p c item slot kind birth m n f r s
effect_follows S p c item (effect.Destroy slot) m n f r s = destroy_follows S p m n c item slot r s
effect_follows S p c item (effect.Trigger port event) m n f r s = put_follows S p m n (act_of c item (effect.Trigger port event)) (keeps S (acts_at p) c item (effect.Trigger port event) refl refl) refl refl r s
effect_follows S p c item (effect.Answer event) m n f r s = put_follows S p m n (act_of c item (effect.Answer event)) (keeps S (acts_at p) c item (effect.Answer event) refl refl) refl refl r s
effect_follows S p c item (effect.Start slot) m n f r s = put_follows S p m n (act_of c item (effect.Start slot)) (keeps S (acts_at p) c item (effect.Start slot) refl refl) refl refl r s
effect_follows S p c item (effect.Stop slot) m n f r s = put_follows S p m n (act_of c item (effect.Stop slot)) (keeps S (acts_at p) c item (effect.Stop slot) refl refl) refl refl r s
effect_follows S p c item (effect.Dump slot) m n f r s = put_follows S p m n (act_of c item (effect.Dump slot)) (keeps S (acts_at p) c item (effect.Dump slot) refl refl) refl refl r s
effect_follows S p c item effect.Escalate m n f r s = put_follows S p m n (act_of c item effect.Escalate) (keeps S (acts_at p) c item effect.Escalate refl refl) refl refl r s

pub effects_stay_fresh : EffectsStayFresh
effects_stay_fresh S p c item e r b f = fresh_act S p c item e r b f

module _ (S : Declarations) where
  effects_follow : (p : Point) (c : ℕ) (item : Item) (es : List Effect) (m n : State) → AreByCreated S (acts p.before) → c < length (born S (acts_at p)) → IsFresh S p
      → AreEffects S p c item es m n → StandsAt S p m → StandsAt S (with_effects S p c item es) n
  effects_follow p c item [] m n r b f e s = subst (λ k. StandsAt S p k) e s
  effects_follow p c item (e ∷ es) m n r b f h s =
      effects_follow (with_act S p (act_of c item e)) c item es h.0 n r (born_later S p (act_of c item e) c b) (fresh_act S p c item e r b f) h.2
      (effect_follows S p c item e m h.0 f h.1 s)

  void_body : (t : Bool) (b : Option Body) → (if t then option_map (λ x. body_after x outcome.Void) b else b) ≡ b
  void_body true None = refl
  void_body true (Some b) = refl
  void_body false b = refl

legal_parts : (S : Declarations) (Z : Plan) (e : Entry) (P : History) → IsLegal S Z (e ∷ P) → IsLegal S Z P × IsAllowed S Z P e
unfolding IsLegal
legal_parts S Z e P l = l

pub void_follows : VoidFollows
unfolding model
void_follows S Z P w c took to places m l s =
    let body : (d : ℕ) → living_body S (start_of P) d ≡ living_body S (start_of (Did w c took outcome.Void to places ∷ P)) d =
    λ d. sym (void_body S (c == d) (living_body S (start_of P) d)) ∙ body_ended S (start_of P) w c took outcome.Void to places d in
    did_sealed S Z P w c took outcome.Void to places m l (record {
      nodes = s.nodes;
      living = s.living;
      child = s.child;
      links = s.links;
      queues = s.queues;
      controls = λ d. s.controls d ∙ ap (option_map {U = ControlRow} (λ b. record { items = control_waiting S P d ++ []; active = b.active; catches = catches S b })) (body d);
      bodies = λ d. s.bodies d ∙ body d;
    })

pub done_follows : DoneFollows
done_follows S Z P w c took item body effects to places m put come acted n l at a b e end s =
    let base : ℕ → List ControlItem = λ d. option_map_or (put_by_item S P d c body) (item_at P took) [] in
    let same : ArePut base m put = record {
      tree = a.tree;
      links = a.links;
      queues = a.queues;
      bodies = a.bodies;
      controls = λ d. a.controls d ∙ ap (λ o. option_map (with_items (option_map_or (put_by_item S P d c body) o [])) (m.controls d)) (sym at);
    } in
    let f = items_follow S (start_of P) m put base same s in
    let g = numbers_follow S (with_put (start_of P) base) put come (entering S P (Did w c took (outcome.Done body effects) to places)) b f in
    let h = effects_follow S (before_effects_of S P w c took body effects to places) c item effects come acted
    (by_created S (acts P) (acts_by_born S Z P (legal_parts S Z (Did w c took (outcome.Done body effects) to places) P l).0)) (body_born S P c (legal_parts S Z (Did w c took (outcome.Done body effects) to places) P l).1.body (legal_parts S Z (Did w c took (outcome.Done body effects) to places) P l).1.body_is)
    (fresh_before S Z P w c took body effects to places (legal_parts S Z (Did w c took (outcome.Done body effects) to places) P l).0) e g in
    done_at_end S Z P w c took item body effects to places acted n l at end h
