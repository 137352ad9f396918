-- What effects that create and destroy nothing make of the channels.
use Rattle.std.proofs.Common.{◌≡◌, ℕ, Bool, true, false, ◌&&◌, refl, ap, ◌∙◌, List, ◌∷◌, ◌++◌, map, Option, Some, None, if◌then◌else◌}
use Rattle.std.specs.Prelude.{slice_get}
use Rattle.std.specs.List.{enumerate_from, flat_map}
use Rattle.std.specs.Option.{option_map, option_map_or, option_and_then}
use Rattle.kom_base.specs.declared.numbers.Dir.{Dir}
use Rattle.kom_base.specs.declared.numbers.Dir.TheVariants.{Plus, Minus}
use Rattle.kom_base.specs.declared.numbers.Half.{Half}
use Rattle.kom_base.specs.Numbers.{same_dir}
use Rattle.kom_lang.specs.Declarations.{Declarations, kind_of}
use Rattle.kom_lang.specs.declared.kind.Place.{Place}
use Rattle.kom_lang.specs.declared.body.Effect.{Effect}
use Rattle.kom_lang.specs.declared.body.Effect.TheVariants as effect
use Rattle.kom_record.specs.Model.{model}
use Rattle.kom_record.specs.declared.item.Item.{Item}
use Rattle.kom_record.specs.Entries.{Act}
use Rattle.kom_record.specs.Instances.{born, alive}
use Rattle.kom_record.specs.Channels.{Channel, Environment, Own, channels, channels_of, channel_end, channel_held, channel_alive, place, held, is_living, half_of, wire_held, held_after}
use Rattle.kom_laws.proofs.InstanceLaws.{does}
use Rattle.kom_laws.proofs.ChannelLaws.{moves_ends, end_other}
use Rattle.kom_laws.proofs.ChannelSteps.{held_hold, held_resume, place_plug, place_unplug}
use Rattle.kom_refine.specs.States.{Link}
use Rattle.kom_refine.specs.Points.{link_at}
use Rattle.kom_refine.specs.Steps.{names, with_held, with_end}
use Rattle.kom_refine.proofs.Kept.{KeepsInstances, keeps}

-- the effects that change holds
abbrev pub moves_holds : Effect → Bool
moves_holds (effect.Hold k) = true
moves_holds (effect.Resume k) = true
moves_holds (effect.Create s kind birth) = true
moves_holds e = false

module _ (S : Declarations) (done : List Act) (a : Act) (born_same : born S (a ∷ done) ≡ born S done) where
  pub channels_kept : channels S (a ∷ done) ≡ channels S done
  unfolding model
  channels_kept = ap (λ b. map (λ q. Environment q.0) (enumerate_from 0 (kind_of S S.root.kind).ports) ++ flat_map (channels_of S) (enumerate_from 0 b)) born_same

  life_by : ((d : ℕ) → alive S (a ∷ done) d ≡ alive S done d) → (o : Option Channel) → option_map_or (channel_alive S (a ∷ done)) o false ≡ option_map_or (channel_alive S done) o false
  life_by h None = refl
  life_by h (Some (Environment q)) = refl
  life_by h (Some (Own d j)) = h d

  pub living_kept : ((d : ℕ) → alive S (a ∷ done) d ≡ alive S done d) → (x : ℕ) → is_living S (a ∷ done) x ≡ is_living S done x
  unfolding model
  living_kept h x = ap (λ cs. option_map_or (channel_alive S (a ∷ done)) (slice_get cs x) false) channels_kept ∙ life_by h (slice_get (channels S done) x)

  ends_by : (e : Dir) (o : Option Channel) → moves_ends S a.effect ≡ false → option_and_then (channel_end S (a ∷ done) e) o ≡ option_and_then (channel_end S done e) o
  ends_by e None h = refl
  ends_by e (Some (Environment q)) h = refl
  ends_by e (Some (Own d j)) h = end_other S done a d j e h

  pub place_kept : (x : ℕ) (e : Dir) → moves_ends S a.effect ≡ false → place S (a ∷ done) x e ≡ place S done x e
  unfolding model
  place_kept x e h = ap (λ cs. option_and_then (channel_end S (a ∷ done) e) (slice_get cs x)) channels_kept ∙ ends_by e (slice_get (channels S done) x) h

  hold_by_effect : (d j : ℕ) (e : Effect) → moves_holds e ≡ false → held_after S done a d j e (wire_held S done d j) ≡ wire_held S done d j
  hold_by_effect d j (effect.Create slot kind birth) h = absurd cc
  hold_by_effect d j (effect.Destroy s) h = refl
  hold_by_effect d j (effect.Trigger p e) h = refl
  hold_by_effect d j (effect.Answer e) h = refl
  hold_by_effect d j (effect.Start s) h = refl
  hold_by_effect d j (effect.Stop s) h = refl
  hold_by_effect d j (effect.Dump s) h = refl
  hold_by_effect d j (effect.Hold i) h = absurd cc
  hold_by_effect d j (effect.Resume i) h = absurd cc
  hold_by_effect d j (effect.Unplug i f) h = refl
  hold_by_effect d j (effect.Plug i f p) h = refl
  hold_by_effect d j effect.Escalate h = refl

  hold_kept : (d j : ℕ) → moves_holds a.effect ≡ false → wire_held S (a ∷ done) d j ≡ wire_held S done d j
  unfolding model
  hold_kept d j h = hold_by_effect d j a.effect h

  holds_by : (o : Option Channel) → moves_holds a.effect ≡ false → option_map_or (channel_held S (a ∷ done)) o false ≡ option_map_or (channel_held S done) o false
  holds_by None h = refl
  holds_by (Some (Environment q)) h = refl
  holds_by (Some (Own d j)) h = hold_kept d j h

  pub held_kept : (x : ℕ) → moves_holds a.effect ≡ false → held S (a ∷ done) x ≡ held S done x
  unfolding model
  held_kept x h = ap (λ cs. option_map_or (channel_held S (a ∷ done)) (slice_get cs x) false) channels_kept ∙ holds_by (slice_get (channels S done) x) h

abbrev pub link_by : Bool → Option Half → Option Half → Bool → Option Link
link_by l p m h = if l then Some (record { plus = p; minus = m; held = h }) else None

-- a link is what its parts are
pub link_of_parts : (l l' h h' : Bool) (p p' m m' : Option Half) → l ≡ l' → p ≡ p' → m ≡ m' → h ≡ h' → link_by l p m h ≡ link_by l' p' m' h'
link_of_parts l l' h h' p p' m m' a b c d = ap (λ z. link_by z p m h) a ∙ ap (λ z. link_by l' z m h) b ∙ ap (λ z. link_by l' p' z h) c ∙ ap (link_by l' p' m') d

hold_link : (n l h to : Bool) (p m : Option Half) → link_by l p m (if n then to else h) ≡ (if n then option_map (with_held to) (link_by l p m h) else link_by l p m h)
hold_link true true h to p m = refl
hold_link true false h to p m = refl
hold_link false l h to p m = refl

end_link : (n l h : Bool) (f : Dir) (to p m : Option Half)
    → link_by l (if n && same_dir f Plus then to else p) (if n && same_dir f Minus then to else m) h ≡ (if n then option_map (with_end f to) (link_by l p m h) else link_by l p m h)
end_link true true h Plus to p m = refl
end_link true true h Minus to p m = refl
end_link true false h f to p m = refl
end_link false l h f to p m = refl

module _ (S : Declarations) (done : List Act) (c : ℕ) (item : Item) where
  -- the link of a channel after a change of the channel k of c
  abbrev pub changed : (Link → Link) → ℕ → ℕ → Option Link
  changed change k x = if names S done c k x then option_map change (link_at S done x) else link_at S done x

  by_hold : (e : Effect) (to : Bool) (k x : ℕ) → KeepsInstances S done (does c item e) → moves_ends S e ≡ false
      → held S (does c item e ∷ done) x ≡ (if names S done c k x then to else held S done x) → link_at S (does c item e ∷ done) x ≡ changed (with_held to) k x
  by_hold e to k x keep h q =
      link_of_parts _ _ _ _ _ _ _ _ (living_kept S done (does c item e) keep.born_same keep.alive_same x) (place_kept S done (does c item e) keep.born_same x Plus h) (place_kept S done (does c item e) keep.born_same x Minus h) q
      ∙ hold_link (names S done c k x) (is_living S done x) (held S done x) to (place S done x Plus) (place S done x Minus)

  by_end : (e : Effect) (f : Dir) (to : Option Half) (k x : ℕ) → KeepsInstances S done (does c item e) → moves_holds e ≡ false
      → ((d : Dir) → place S (does c item e ∷ done) x d ≡ (if names S done c k x && same_dir f d then to else place S done x d)) → link_at S (does c item e ∷ done) x ≡ changed (with_end f to) k x
  by_end e f to k x keep h q =
      link_of_parts _ _ _ _ _ _ _ _ (living_kept S done (does c item e) keep.born_same keep.alive_same x) (q Plus) (q Minus) (held_kept S done (does c item e) keep.born_same x h)
      ∙ end_link (names S done c k x) (is_living S done x) (held S done x) f to (place S done x Plus) (place S done x Minus)

  pub link_hold : (k x : ℕ) → link_at S (does c item (effect.Hold k) ∷ done) x ≡ changed (with_held true) k x
  link_hold k x = by_hold (effect.Hold k) true k x (keeps S done c item (effect.Hold k) refl refl) refl (held_hold S done c item k x)

  pub link_resume : (k x : ℕ) → link_at S (does c item (effect.Resume k) ∷ done) x ≡ changed (with_held false) k x
  link_resume k x = by_hold (effect.Resume k) false k x (keeps S done c item (effect.Resume k) refl refl) refl (held_resume S done c item k x)

  pub link_plug : (k : ℕ) (f : Dir) (p : Place) (x : ℕ) → link_at S (does c item (effect.Plug k f p) ∷ done) x ≡ changed (with_end f (half_of S done c p)) k x
  link_plug k f p x = by_end (effect.Plug k f p) f (half_of S done c p) k x (keeps S done c item (effect.Plug k f p) refl refl) refl (place_plug S done c item k f p x)

  pub link_unplug : (k : ℕ) (f : Dir) (x : ℕ) → link_at S (does c item (effect.Unplug k f) ∷ done) x ≡ changed (with_end f None) k x
  link_unplug k f x = by_end (effect.Unplug k f) f None k x (keeps S done c item (effect.Unplug k f) refl refl) refl (place_unplug S done c item k f x)

-- an effect that changes no channel
pub link_kept : (S : Declarations) (done : List Act) (a : Act) (x : ℕ) → KeepsInstances S done a → moves_ends S a.effect ≡ false → moves_holds a.effect ≡ false → link_at S (a ∷ done) x ≡ link_at S done x
link_kept S done a x keep e h = link_of_parts _ _ _ _ _ _ _ _ (living_kept S done a keep.born_same keep.alive_same x) (place_kept S done a keep.born_same x Plus e) (place_kept S done a keep.born_same x Minus e) (held_kept S done a keep.born_same x h)
