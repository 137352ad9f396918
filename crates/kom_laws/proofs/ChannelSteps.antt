-- What one act makes of the channels by their numbers.
use Rattle.std.proofs.Common.{◌≡◌, ℕ, ◌<◌, Bool, true, false, if◌then◌else◌, not, ◌&&◌, ◌==◌, refl, sym, ap, ◌∙◌, List, [], ◌∷◌, length, Option, Some, None}
use Rattle.std.specs.Prelude.{slice_get, nat_lt}
use Rattle.std.proofs.lemmas.Bool.{lt-ltb}
use Rattle.std.specs.List.{list_any}
use Rattle.std.specs.Option.{option_map_or, option_and_then}
use Rattle.kom_base.specs.declared.numbers.Dir.{Dir}
use Rattle.kom_base.specs.declared.numbers.Half.{Half}
use Rattle.kom_base.specs.Numbers.{same_dir}
use Rattle.kom_lang.specs.Declarations.{Declarations}
use Rattle.kom_lang.specs.declared.kind.Place.{Place}
use Rattle.kom_lang.specs.declared.body.Birth.{Birth}
use Rattle.kom_lang.specs.declared.body.Effect.TheVariants as effect
use Rattle.kom_record.specs.Model.{model}
use Rattle.kom_record.specs.declared.item.Item.{Item}
use Rattle.kom_record.specs.Entries.{Act}
use Rattle.kom_record.specs.Instances.{born, alive, ancestry_of}
use Rattle.kom_record.specs.Channels.{Channel, Environment, Own, channels, channel_end, channel_alive, channel_held, place, half_of, held, is_living, wire_end, declared_end, wire_held, declared_held}
use Rattle.kom_laws.proofs.InstanceLaws.{does}
use Rattle.kom_laws.proofs.ChannelLaws.{channel_stays, owner_born}

-- the channel is the wire k of c
abbrev pub is_wire : ℕ → ℕ → Channel → Bool
is_wire c k (Environment q) = false
is_wire c k (Own d j) = c == d && k == j

module _ (S : Declarations) (done : List Act) (c : ℕ) (item : Item) where
  abbrev pub names : ℕ → ℕ → Bool
  names k x = option_map_or (is_wire c k) (slice_get (channels S done) x) false

  hold_at : (k : ℕ) (o : Option Channel) → option_map_or (channel_held S (does c item (effect.Hold k) ∷ done)) o false ≡ (if option_map_or (is_wire c k) o false then true else option_map_or (channel_held S done) o false)
  unfolding model
  hold_at k None = refl
  hold_at k (Some (Environment q)) = refl
  hold_at k (Some (Own d j)) = refl

  -- a Hold holds the channel that it names
  pub held_hold : (k x : ℕ) → held S (does c item (effect.Hold k) ∷ done) x ≡ (if names k x then true else held S done x)
  unfolding model
  held_hold k x = hold_at k (slice_get (channels S done) x)

  resume_at : (k : ℕ) (o : Option Channel) → option_map_or (channel_held S (does c item (effect.Resume k) ∷ done)) o false ≡ (if option_map_or (is_wire c k) o false then false else option_map_or (channel_held S done) o false)
  unfolding model
  resume_at k None = refl
  resume_at k (Some (Environment q)) = refl
  resume_at k (Some (Own d j)) = refl

  -- a Resume frees the channel that it names
  pub held_resume : (k x : ℕ) → held S (does c item (effect.Resume k) ∷ done) x ≡ (if names k x then false else held S done x)
  unfolding model
  held_resume k x = resume_at k (slice_get (channels S done) x)

  own_half : (k d j : ℕ) (f e : Dir) (p : Place) (old : Option Half) (b : Bool) → (b ≡ true → c ≡ d) → (if b && same_dir f e then half_of S done d p else old) ≡ (if b && same_dir f e then half_of S done c p else old)
  unfolding model
  own_half k d j f e p old true h = ap (λ i. if same_dir f e then half_of S done i p else old) (sym (h refl))
  own_half k d j f e p old false h = refl

  plug_at : (k : ℕ) (f : Dir) (p : Place) (e : Dir) (o : Option Channel)
      → option_and_then (channel_end S (does c item (effect.Plug k f p) ∷ done) e) o ≡ (if option_map_or (is_wire c k) o false && same_dir f e then half_of S done c p else option_and_then (channel_end S done e) o)
  unfolding model
  plug_at k f p e None = refl
  plug_at k f p e (Some (Environment q)) = refl
  plug_at k f p e (Some (Own d j)) = own_half k d j f e p _ (c == d && k == j) (λ h. Rattle.std.proofs.lemmas.Bool.eqb-true c d ((Rattle.kom_laws.proofs.Unaffected.and_both (c == d) (k == j) h).0))

  -- a Plug moves the one end that it names
  pub place_plug : (k : ℕ) (f : Dir) (p : Place) (x : ℕ) (e : Dir) → place S (does c item (effect.Plug k f p) ∷ done) x e ≡ (if names k x && same_dir f e then half_of S done c p else place S done x e)
  unfolding model
  place_plug k f p x e = plug_at k f p e (slice_get (channels S done) x)

  unplug_at : (k : ℕ) (f e : Dir) (o : Option Channel)
      → option_and_then (channel_end S (does c item (effect.Unplug k f) ∷ done) e) o ≡ (if option_map_or (is_wire c k) o false && same_dir f e then None else option_and_then (channel_end S done e) o)
  unfolding model
  unplug_at k f e None = refl
  unplug_at k f e (Some (Environment q)) = refl
  unplug_at k f e (Some (Own d j)) = refl

  -- an Unplug frees the one end that it names
  pub place_unplug : (k : ℕ) (f : Dir) (x : ℕ) (e : Dir) → place S (does c item (effect.Unplug k f) ∷ done) x e ≡ (if names k x && same_dir f e then None else place S done x e)
  unfolding model
  place_unplug k f x e = unplug_at k f e (slice_get (channels S done) x)

  -- the instance lies in the slot
  abbrev pub is_below : ℕ → ℕ → Bool
  is_below slot d = list_any (λ q. c == q.0 && slot == q.1) (ancestry_of S (born S done) d)

  abbrev pub owner_below : ℕ → Channel → Bool
  owner_below slot (Environment q) = false
  owner_below slot (Own d j) = is_below slot d

  destroy_at : (slot : ℕ) (o : Option Channel) → option_map_or (channel_alive S (does c item (effect.Destroy slot) ∷ done)) o false ≡ (option_map_or (channel_alive S done) o false && not (option_map_or (owner_below slot) o false))
  unfolding model
  destroy_at slot None = refl
  destroy_at slot (Some (Environment q)) = refl
  destroy_at slot (Some (Own d j)) = refl

  -- a Destroy kills the channels of the instances in the slot
  pub living_destroy : (slot x : ℕ) → is_living S (does c item (effect.Destroy slot) ∷ done) x ≡ (is_living S done x && not (option_map_or (owner_below slot) (slice_get (channels S done) x) false))
  unfolding model
  living_destroy slot x = destroy_at slot (slice_get (channels S done) x)

  -- a Create leaves the channels that were there
  module _ (slot kind : ℕ) (birth : Birth) where
    abbrev pub creation : Act
    creation = does c item (effect.Create slot kind birth)

    end_at : (x : ℕ) (e : Dir) (o : Option Channel) → slice_get (channels S done) x ≡ o → option_and_then (channel_end S (creation ∷ done) e) o ≡ option_and_then (channel_end S done e) o
    unfolding model
    end_at x e None q = refl
    end_at x e (Some (Environment p)) q = refl
    end_at x e (Some (Own d j)) q = ap (λ t. if t then wire_end S done d j e else declared_end S (creation ∷ done) d j e) (lt-ltb d (length (born S done)) (owner_born S done x d j q))

    pub place_create : (x : ℕ) (e : Dir) → x < length (channels S done) → place S (creation ∷ done) x e ≡ place S done x e
    unfolding model
    place_create x e h = ap (option_and_then (channel_end S (creation ∷ done) e)) (channel_stays S (creation ∷ []) done x h) ∙ end_at x e (slice_get (channels S done) x) refl

    held_at : (x : ℕ) (o : Option Channel) → slice_get (channels S done) x ≡ o → option_map_or (channel_held S (creation ∷ done)) o false ≡ option_map_or (channel_held S done) o false
    unfolding model
    held_at x None q = refl
    held_at x (Some (Environment p)) q = refl
    held_at x (Some (Own d j)) q = ap (λ t. if t then wire_held S done d j else declared_held S (creation ∷ done) d j) (lt-ltb d (length (born S done)) (owner_born S done x d j q))

    pub held_create : (x : ℕ) → x < length (channels S done) → held S (creation ∷ done) x ≡ held S done x
    unfolding model
    held_create x h = ap (λ o. option_map_or (channel_held S (creation ∷ done)) o false) (channel_stays S (creation ∷ []) done x h) ∙ held_at x (slice_get (channels S done) x) refl

    living_at : (x : ℕ) (o : Option Channel) → slice_get (channels S done) x ≡ o → option_map_or (channel_alive S (creation ∷ done)) o false ≡ option_map_or (channel_alive S done) o false
    unfolding model
    living_at x None q = refl
    living_at x (Some (Environment p)) q = refl
    living_at x (Some (Own d j)) q = ap (λ t. if t then alive S done d else nat_lt d (length (born S (creation ∷ done)))) (lt-ltb d (length (born S done)) (owner_born S done x d j q))

    pub living_create : (x : ℕ) → x < length (channels S done) → is_living S (creation ∷ done) x ≡ is_living S done x
    unfolding model
    living_create x h = ap (λ o. option_map_or (channel_alive S (creation ∷ done)) o false) (channel_stays S (creation ∷ []) done x h) ∙ living_at x (slice_get (channels S done) x) refl
