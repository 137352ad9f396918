-- A plain event enters the directions that the state says.
use Rattle.std.proofs.Common.{◌≡◌, ℕ, ◌+◌, ◌-◌, Bool, true, false, if◌then◌else◌, ◌&&◌, refl, sym, ap, ◌∙◌, [], length, Option, Some, None}
use Rattle.std.specs.Prelude.{is_some, nat_lt, slice_get}
use Rattle.std.specs.List.{filter_map}
use Rattle.std.specs.Option.{option_and_then, option_map, option_map_or}
use Rattle.kom_base.specs.declared.numbers.Dir.{Dir}
use Rattle.kom_base.specs.declared.numbers.Half.{Half}
use Rattle.kom_base.specs.declared.values.Event.{Event}
use Rattle.kom_events.specs.Selectors.{matches}
use Rattle.kom_lang.specs.Bodies.{first_body}
use Rattle.kom_lang.specs.Declarations.{Declarations, kind_of}
use Rattle.kom_lang.specs.declared.body.Body.{Body}
use Rattle.kom_lang.specs.declared.kind.ChannelDecl.{ChannelDecl}
use Rattle.kom_record.specs.declared.item.Back.TheVariants.{Plain}
use Rattle.kom_record.specs.Bodies.{body_after_all, body_at, outcome_of}
use Rattle.kom_record.specs.Entries.{History, acts}
use Rattle.kom_record.specs.Instances.{Instance, alive, born}
use Rattle.kom_record.specs.Channels.{Environment, Own, channel_alive, channel_selector, channels, decl_of, declared_selector, goes_out, is_living, selector}
use Rattle.kom_record.specs.Queues.{enters}
use Rattle.kom_handlings.specs.Laws.{BodiesKnowTheirPlace}
use Rattle.kom_numbers.specs.Numbering.{leads_out, wire_among}
use Rattle.kom_offered.specs.Laws.{OffersEnterByState, begins_at}
use Rattle.kom_refine.specs.States.{Link}
use Rattle.kom_state.specs.Laws.{AreNumbered, ChannelsAreNumbered}
use Rattle.kom_state.specs.Parts.{Parts, state_of}
use Rattle.kom_entering.specs.Lists.{offer_from}
use Rattle.kom_entering.specs.Standing.{StandsAfter}
use Rattle.kom_entering.specs.Ways.{enters_by, passes_by}

begins_there : (h : Half) (d : Dir) (l : Option Link) → begins_at h d l ≡ true → is_some l ≡ true
begins_there h d None e = absurd cc
begins_there h d (Some l) e = refl

living_link : (b : Bool) (l : Link) → is_some (if b then Some l else None) ≡ true → b ≡ true
living_link true l e = refl
living_link false l e = absurd cc

by_selector : (S : Declarations) (d : Dir) (event : Event) (o : Option ChannelDecl)
    → option_map_or (λ decl. matches S.events (declared_selector decl d) event) o true ≡ matches S.events (option_map_or (λ decl. declared_selector decl d) o []) event
by_selector S d event None = refl
by_selector S d event (Some decl) = refl

module _ (numbered : ChannelsAreNumbered) (know : BodiesKnowTheirPlace) (by_state : OffersEnterByState) (S : Declarations) (P : History) (v : Parts) (s : StandsAfter S P v) where
  numbers_are : AreNumbered S (acts P) v
  numbers_are = numbered S (acts P) v s.numbers s.state.nodes

  pub out_is : (x : ℕ) (d : Dir) → goes_out S x d ≡ leads_out v.numbers x d
  out_is x d = numbers_are.outer x d

  -- the declaration of a channel of a living instance, by the body of that
  decl_is : (c k : ℕ) → alive S (acts P) c ≡ true → decl_of S (acts P) c k ≡ option_and_then (λ (b : Body). slice_get (kind_of S b.kind).channels k) ((state_of v).bodies c)
  unfolding decl_of body_at
  decl_is c k lives =
      by_instance (slice_get (born S (acts P)) c) refl
      ∙ sym (ap (option_and_then (λ (b : Body). slice_get (kind_of S b.kind).channels k)) (s.state.bodies c ∙ ap (λ t. if t then body_at S P c else None) lives))
    where
      body_by : Instance → Body
      body_by i = body_after_all (first_body S i.kind i.birth (1 + length i.ancestry)) (filter_map (outcome_of c) P)

      by_instance : (o : Option Instance) → slice_get (born S (acts P)) c ≡ o
          → option_and_then (λ (i : Instance). slice_get (kind_of S i.kind).channels k) (slice_get (born S (acts P)) c) ≡ option_and_then (λ (b : Body). slice_get (kind_of S b.kind).channels k) (body_at S P c)
      by_instance None e =
          ap (option_and_then (λ (i : Instance). slice_get (kind_of S i.kind).channels k)) e
          ∙ sym (ap (λ o. option_and_then (λ (b : Body). slice_get (kind_of S b.kind).channels k) (option_map body_by o)) e)
      by_instance (Some i) e =
          let its = know S s.plan P c (body_by i) s.declared s.legal (ap (option_map body_by) e) in
          let same : Some its.instance ≡ Some i = sym its.at ∙ e in
          let kind : (body_by i).kind ≡ i.kind = its.kind ∙ ap (λ o. option_map_or (λ (j : Instance). j.kind) o 0) same in
          ap (option_and_then (λ (i : Instance). slice_get (kind_of S i.kind).channels k)) e
          ∙ sym (ap (λ q. slice_get (kind_of S q).channels k) kind)
          ∙ sym (ap (λ o. option_and_then (λ (b : Body). slice_get (kind_of S b.kind).channels k) (option_map body_by o)) e)

  by_wire : (x : ℕ) (d : Dir) (event : Event) (w : Option (ℕ × ℕ)) → option_map_or (channel_alive S (acts P)) (option_map (λ q. Own q.0 q.1) w) false ≡ true
      → option_map_or (λ decl. matches S.events (declared_selector decl d) event) (option_and_then (λ q. option_and_then (λ (b : Body). slice_get (kind_of S b.kind).channels q.1) ((state_of v).bodies q.0)) w) true
      ≡ matches S.events (option_map_or (channel_selector S (acts P) d) (option_map (λ q. Own q.0 q.1) w) []) event
  by_wire x d event None e = refl
  by_wire x d event (Some q) e =
      by_selector S d event (option_and_then (λ (b : Body). slice_get (kind_of S b.kind).channels q.1) ((state_of v).bodies q.0))
      ∙ ap (λ o. matches S.events (option_map_or (λ decl. declared_selector decl d) o []) event) (sym (decl_is q.0 q.1 e))

  by_number : (x : ℕ) (d : Dir) (event : Event) (b : Bool) → option_map_or (channel_alive S (acts P)) (if b then Some (Environment x) else option_map (λ q. Own q.0 q.1) (if b then None else wire_among 0 v.numbers.counts (x - length v.numbers.outs))) false ≡ true
      → option_map_or (λ decl. matches S.events (declared_selector decl d) event) (option_and_then (λ q. option_and_then (λ (b : Body). slice_get (kind_of S b.kind).channels q.1) ((state_of v).bodies q.0)) (if b then None else wire_among 0 v.numbers.counts (x - length v.numbers.outs))) true
      ≡ matches S.events (option_map_or (channel_selector S (acts P) d) (if b then Some (Environment x) else option_map (λ q. Own q.0 q.1) (if b then None else wire_among 0 v.numbers.counts (x - length v.numbers.outs))) []) event
  by_number x d event true e = refl
  by_number x d event false e = by_wire x d event (wire_among 0 v.numbers.counts (x - length v.numbers.outs)) e

  passes_is : (x : ℕ) (d : Dir) (event : Event) → is_some ((state_of v).links x) ≡ true → passes_by S v x d event ≡ matches S.events (selector S (acts P) x d) event
  unfolding selector is_living
  passes_is x d event there =
      let lives : option_map_or (channel_alive S (acts P)) (slice_get (channels S (acts P)) x) false ≡ true = living_link _ _ (sym (ap is_some (s.state.links x)) ∙ there) in
      by_number x d event (nat_lt x (length v.numbers.outs)) (sym (ap (λ o. option_map_or (channel_alive S (acts P)) o false) (numbers_are.channel x)) ∙ lives)
      ∙ sym (ap (λ o. matches S.events (option_map_or (channel_selector S (acts P) d) o []) event) (numbers_are.channel x))

  pub plain_enters : (x : ℕ) (d : Dir) (h : Half) (event : Event) → enters S P x d (offer_from h event Plain) ≡ enters_by S v h event x d
  plain_enters x d h event = (by_state S P (state_of v) x d h event s.state).plain ∙ go (begins_at h d ((state_of v).links x)) refl
    where
      go : (b : Bool) → begins_at h d ((state_of v).links x) ≡ b → (begins_at h d ((state_of v).links x) && matches S.events (selector S (acts P) x d) event) ≡ (begins_at h d ((state_of v).links x) && passes_by S v x d event)
      go false e = ap (λ b. b && matches S.events (selector S (acts P) x d) event) e ∙ sym (ap (λ b. b && passes_by S v x d event) e)
      go true e = ap (λ b. begins_at h d ((state_of v).links x) && b) (sym (passes_is x d event (begins_there h d ((state_of v).links x) e)))
