-- Nothing has come to what is created later: at the beginning of an entry, and after each effect.
use Rattle.std.proofs.Common.{◌≡◌, ℕ, ◌<◌, ◌≤◌, false, ap, ◌∙◌, List, [], ◌∷◌, ◌++◌, length, Option, arith}
use Rattle.std.specs.Prelude.{not, filter}
use Rattle.std.specs.Option.{option_map_or}
use Rattle.std.proofs.lemmas.List.{append-nil, length-append}
use Rattle.std.proofs.lemmas.Option.{slice_get_past}
use Rattle.kom_base.specs.declared.numbers.Dir.{Dir}
use Rattle.kom_lang.specs.Declarations.{Declarations}
use Rattle.kom_lang.specs.declared.body.Body.{Body}
use Rattle.kom_lang.specs.declared.body.Effect.{Effect}
use Rattle.kom_record.specs.Model.{model}
use Rattle.kom_record.specs.declared.plan.Plan.{Plan}
use Rattle.kom_record.specs.declared.item.Item.{Item}
use Rattle.kom_record.specs.declared.entry.Outcome.TheVariants as outcome
use Rattle.kom_record.specs.declared.entry.Entry.TheVariants.{Did}
use Rattle.kom_record.specs.Entries.{History, Act, acts, item_at}
use Rattle.kom_record.specs.Instances.{born}
use Rattle.kom_record.specs.Channels.{channels, channel_alive, is_living}
use Rattle.kom_record.specs.Queues.{waiting, received, is_among, entering}
use Rattle.kom_record.specs.Controls.{control_waiting, put_by_item}
use Rattle.kom_record.specs.Legal.{IsLegal}
use Rattle.kom_laws.proofs.InstanceLaws.{does, born_grows}
use Rattle.kom_laws.proofs.ChannelLaws.{channels_grow}
use Rattle.kom_laws.proofs.ControlLaws.{nothing_done}
use Rattle.kom_laws.proofs.QueueLaws.{nothing_entered, entering_dead}
use Rattle.kom_laws.proofs.Escalations.{acts_by_born}
use Rattle.kom_refine.specs.Points.{AreByCreated, IsFresh, Point, acts_at, with_act, with_effects, before_effects_of}
use Rattle.kom_refine.proofs.Creating.{by_born, by_created}
use Rattle.kom_refine.proofs.Unborn.{nothing_waits, by_item_unborn, effect_unborn}

module _ (S : Declarations) where
  born_more : (mine done : List Act) → length (born S done) ≤ length (born S (mine ++ done))
  born_more mine done = let g = born_grows S mine done in omega (arith, ap length g.1, length-append (born S done) g.0)

  chans_more : (mine done : List Act) → length (channels S done) ≤ length (channels S (mine ++ done))
  chans_more mine done = let g = channels_grow S mine done in omega (arith, ap length g.1, length-append (channels S done) g.0)

  pub born_later : (p : Point) (a : Act) (c : ℕ) → c < length (born S (acts_at p)) → c < length (born S (a ∷ acts_at p))
  born_later p a c b = omega (arith, b, born_more (a ∷ []) (acts_at p))

  -- one effect more
  pub fresh_act : (p : Point) (c : ℕ) (item : Item) (e : Effect) → AreByCreated S (acts p.before) → c < length (born S (acts_at p)) → IsFresh S p → IsFresh S (with_act S p (does c item e))
  fresh_act p c item e r b f =
      let a = does c item e in
      let more = born_more (a ∷ []) (acts_at p) in
      let all = born_more p.mine (acts p.before) in
      record {
        by_created = (f.by_created, b);
        nothing_put = λ d h.
            ap (λ w. control_waiting S p.before d ++ (p.put d ++ w)) (effect_unborn S p.before d (acts_at p) a (by_born S (acts p.before) r) (omega (arith, h, more, all)) (omega (arith, h, more)) h)
            ∙ ap (λ w. control_waiting S p.before d ++ w) (append-nil (p.put d))
            ∙ f.nothing_put d (omega (arith, h, more));
        nothing_done = λ d h. f.nothing_done d (omega (arith, h, more));
        nothing_came = λ x d h. f.nothing_came x d (omega (arith, h, chans_more (a ∷ []) (acts_at p)));
      }

  -- all effects of a handling
  pub fresh_effects : (p : Point) (c : ℕ) (item : Item) (es : List Effect) → AreByCreated S (acts p.before) → c < length (born S (acts_at p)) → IsFresh S p → IsFresh S (with_effects S p c item es)
  fresh_effects p c item [] r b f = f
  fresh_effects p c item (e ∷ es) r b f =
      fresh_effects (with_act S p (does c item e)) c item es r (omega (arith, b, born_more (does c item e ∷ []) (acts_at p))) (fresh_act p c item e r b f)

  not_there : (P : History) (x : ℕ) → length (channels S (acts P)) ≤ x → is_living S (acts P) x ≡ false
  unfolding model
  not_there P x h = ap (λ o. option_map_or (channel_alive S (acts P)) o false) (slice_get_past (channels S (acts P)) x h)

  none_waits : (P : History) (x : ℕ) (d : Dir) → length (channels S (acts P)) ≤ x → waiting S P x d ≡ []
  unfolding waiting
  none_waits P x d h = ap (filter (λ p. not (is_among S (received S P x d) p))) (nothing_entered S x d P h)

  -- the point before the effects of a handling
  pub fresh_before : (Z : Plan) (P : History) (w c took : ℕ) (body : Body) (effects : List Effect) (to : Option ℕ) (places : List ℕ) → IsLegal S Z P
      → IsFresh S (before_effects_of S P w c took body effects to places)
  fresh_before Z P w c took body effects to places l = record {
    by_created = by_created S (acts P) (acts_by_born S Z P l);
    nothing_put = λ d h. ap (λ k. k ++ option_map_or (put_by_item S P d c body) (item_at P took) []) (nothing_waits S Z d P l h) ∙ by_item_unborn S P d c body (item_at P took) (acts_by_born S Z P l) h;
    nothing_done = λ d h. nothing_done S Z P d l h;
    nothing_came = λ x d h. ap (λ k. k ++ entering S P (Did w c took (outcome.Done body effects) to places) x d) (none_waits P x d h)
        ∙ entering_dead S x d P (Did w c took (outcome.Done body effects) to places) (not_there P x h);
  }
