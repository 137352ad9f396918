-- What one act makes of the channels, their ends and holds.
use Rattle.std.proofs.Common.{◌≡◌, ℕ, zero, suc, ◌+◌, ◌-◌, ◌<◌, Bool, true, false, if◌then◌else◌, not, ◌&&◌, ◌==◌, refl, sym, ap, ◌∙◌, subst, List, [], ◌∷◌, ◌++◌, length, map, Option, Some, None, inl, inr, arith}
use Rattle.std.specs.Prelude.{slice_get, nat_lt, take}
use Rattle.std.proofs.lemmas.List.{length-map, append_assoc, append-nil}
use Rattle.std.proofs.lemmas.List.FromFn.{length-enumerate_from}
use Rattle.std.proofs.lemmas.Bool.{ltb-true, ltb-false}
use Rattle.std.specs.List.{enumerate_from, flat_map}
use Rattle.std.proofs.lemmas.Grind.{flat_map-append}
use Rattle.std.specs.Option.{option_map_or, option_and_then}
use Rattle.std.proofs.lemmas.Option.{slice_get_within}
use Rattle.kom_base.specs.declared.numbers.Dir.{Dir}
use Rattle.kom_base.specs.declared.numbers.Half.{Half}
use Rattle.kom_base.specs.declared.numbers.Side.TheVariants.{Outside}
use Rattle.kom_base.specs.Numbers.{same_dir, agree, is_plus}
use Rattle.kom_lang.specs.Declarations.{Declarations, kind_of}
use Rattle.kom_lang.specs.declared.kind.Place.{Place}
use Rattle.kom_lang.specs.declared.kind.ChannelDecl.{ChannelDecl}
use Rattle.kom_lang.specs.declared.kind.PortDecl.{PortDecl}
use Rattle.kom_lang.specs.declared.body.Birth.{Birth}
use Rattle.kom_lang.specs.declared.body.Effect.{Effect}
use Rattle.kom_lang.specs.declared.body.Effect.TheVariants as effect
use Rattle.kom_record.specs.Model.{model}
use Rattle.kom_record.specs.declared.item.Item.{Item}
use Rattle.kom_record.specs.Entries.{Act}
use Rattle.kom_record.specs.Instances.{Instance, born}
use Rattle.kom_record.specs.Channels.{Channel, Environment, Own, channels, channels_of, channel_end, place, half_of, wire_end, end_after, declared_end, wire_held, is_outer}
use Rattle.kom_laws.proofs.Members.{IsIn}
use Rattle.kom_laws.proofs.Rising.{in_append}
use Rattle.kom_laws.proofs.ListFacts.{flat_get, flat_split, number_at, get_numbered, in_cons, got_in, get_left, get_right, enumerate_append}
use Rattle.kom_laws.proofs.InstanceLaws.{does, born_by, born_act}

module _ (S : Declarations) where
  -- the channels of the instances that an act makes
  abbrev pub channels_by : List Act → Act → List Channel
  channels_by done a = flat_map (channels_of S) (enumerate_from (length (born S done)) (born_by S done a a.effect))

  -- the channels grow at the end
  pub channels_act : (done : List Act) (a : Act) → channels S (a ∷ done) ≡ channels S done ++ channels_by done a
  unfolding model
  channels_act done a =
      ap (λ r. map (λ q. Environment q.0) (enumerate_from 0 (kind_of S S.root.kind).ports) ++ r)
      (ap (λ b. flat_map (channels_of S) (enumerate_from 0 b)) (born_act S done a)
      ∙ ap (flat_map (channels_of S)) (enumerate_append 0 (born S done) (born_by S done a a.effect))
      ∙ flat_map-append (channels_of S) _ _
      ∙ ap (λ m. flat_map (channels_of S) (enumerate_from 0 (born S done)) ++ flat_map (channels_of S) (enumerate_from m (born_by S done a a.effect))) (omega arith))
      ∙ sym (append_assoc (map (λ q. Environment q.0) (enumerate_from 0 (kind_of S S.root.kind).ports)) _ _)

  -- more acts only add channels
  pub channels_grow : (mine done : List Act) → (more : List Channel) × (channels S (mine ++ done) ≡ channels S done ++ more)
  unfolding model
  channels_grow [] done = ([], sym (append-nil _))
  channels_grow (a ∷ mine) done =
      let r = channels_grow mine done in
      (r.0 ++ channels_by (mine ++ done) a, channels_act (mine ++ done) a ∙ ap (λ b. b ++ channels_by (mine ++ done) a) r.1 ∙ append_assoc _ r.0 _)

  -- a channel keeps its number
  pub channel_stays : (mine done : List Act) (x : ℕ) → x < length (channels S done) → slice_get (channels S (mine ++ done)) x ≡ slice_get (channels S done) x
  unfolding model
  channel_stays mine done x h = let r = channels_grow mine done in ap (λ b. slice_get b x) r.1 ∙ get_left _ r.0 x h

  -- the ends and the hold of one channel of an instance
  pub end_plug : (done : List Act) (d : ℕ) (item : Item) (k : ℕ) (f : Dir) (p : Place) (c j : ℕ) (e : Dir)
      → wire_end S (does d item (effect.Plug k f p) ∷ done) c j e ≡ (if (d == c && k == j) && same_dir f e then half_of S done c p else wire_end S done c j e)
  unfolding model
  end_plug done d item k f p c j e = refl

  pub end_unplug : (done : List Act) (d : ℕ) (item : Item) (k : ℕ) (f : Dir) (c j : ℕ) (e : Dir)
      → wire_end S (does d item (effect.Unplug k f) ∷ done) c j e ≡ (if (d == c && k == j) && same_dir f e then None else wire_end S done c j e)
  unfolding model
  end_unplug done d item k f c j e = refl

  pub end_create : (done : List Act) (d : ℕ) (item : Item) (slot kind : ℕ) (birth : Birth) (c j : ℕ) (e : Dir)
      → wire_end S (does d item (effect.Create slot kind birth) ∷ done) c j e
      ≡ (if nat_lt c (length (born S done)) then wire_end S done c j e else declared_end S (does d item (effect.Create slot kind birth) ∷ done) c j e)
  unfolding model
  end_create done d item slot kind birth c j e = refl

  pub held_hold : (done : List Act) (d : ℕ) (item : Item) (k c j : ℕ) → wire_held S (does d item (effect.Hold k) ∷ done) c j ≡ (if d == c && k == j then true else wire_held S done c j)
  unfolding model
  held_hold done d item k c j = refl

  pub held_resume : (done : List Act) (d : ℕ) (item : Item) (k c j : ℕ) → wire_held S (does d item (effect.Resume k) ∷ done) c j ≡ (if d == c && k == j then false else wire_held S done c j)
  unfolding model
  held_resume done d item k c j = refl

  -- the effects that speak of ends, and of holds
  abbrev pub moves_ends : Effect → Bool
  moves_ends (effect.Plug k f p) = true
  moves_ends (effect.Unplug k f) = true
  moves_ends (effect.Create s kind birth) = true
  moves_ends e = false

  end_by_effect : (done : List Act) (a : Act) (c j : ℕ) (d : Dir) (e : Effect) → moves_ends e ≡ false → end_after S done a c j d e (wire_end S done c j d) ≡ wire_end S done c j d
  unfolding model
  end_by_effect done a c j d (effect.Create slot kind birth) h = absurd cc
  end_by_effect done a c j d (effect.Destroy s) h = refl
  end_by_effect done a c j d (effect.Trigger p e) h = refl
  end_by_effect done a c j d (effect.Answer e) h = refl
  end_by_effect done a c j d (effect.Start s) h = refl
  end_by_effect done a c j d (effect.Stop s) h = refl
  end_by_effect done a c j d (effect.Dump s) h = refl
  end_by_effect done a c j d (effect.Hold k) h = refl
  end_by_effect done a c j d (effect.Resume k) h = refl
  end_by_effect done a c j d (effect.Unplug k f) h = absurd cc
  end_by_effect done a c j d (effect.Plug k f p) h = absurd cc
  end_by_effect done a c j d effect.Escalate h = refl

  pub end_other : (done : List Act) (a : Act) (c j : ℕ) (d : Dir) → moves_ends a.effect ≡ false → wire_end S (a ∷ done) c j d ≡ wire_end S done c j d
  unfolding model
  end_other done a c j d h = end_by_effect done a c j d a.effect h

  -- the owner of a channel was born
  own_of : (ns : List (ℕ × ChannelDecl)) (b c k : ℕ) → IsIn (Own c k) (map (λ j. Own b j.0) ns) → c ≡ b
  unfolding model
  own_of [] b c k h = elim h [ ]
  own_of (n ∷ ns) b c k h = elim (in_cons (Own c k) (Own b n.0) (map (λ j. Own b j.0) ns) h) [ inl e ↦ let f : c ≡ b = cc in f | inr m ↦ own_of ns b c k m ]

  in_owner : (n : ℕ) (is : List Instance) (c k : ℕ) → IsIn (Own c k) (flat_map (channels_of S) (enumerate_from n is)) → c < n + length is
  unfolding model
  in_owner n [] c k h = elim h [ ]
  in_owner n (i ∷ is) c k h = elim (in_append (Own c k) (channels_of S (n, i)) (flat_map (channels_of S) (enumerate_from (n + 1) is)) h) [
    | inl a ↦ let e = own_of (enumerate_from 0 (kind_of S i.kind).channels) n c k a in omega (arith, e)
    | inr b ↦ let r = in_owner (n + 1) is c k b in omega (arith, r)
  ]

  no_environment : (ns : List (ℕ × PortDecl)) (c k : ℕ) → IsIn (Own c k) (map (λ q. Environment q.0) ns) → ⊥
  unfolding model
  no_environment [] c k h = elim h [ ]
  no_environment (n ∷ ns) c k h = elim (in_cons (Own c k) (Environment n.0) (map (λ q. Environment q.0) ns) h) [ inl e ↦ absurd cc | inr m ↦ no_environment ns c k m ]

  pub owner_born : (done : List Act) (x c k : ℕ) → slice_get (channels S done) x ≡ Some (Own c k) → c < length (born S done)
  unfolding model
  owner_born done x c k e =
      elim (in_append (Own c k) (map (λ q. Environment q.0) (enumerate_from 0 (kind_of S S.root.kind).ports)) (flat_map (channels_of S) (enumerate_from 0 (born S done))) (got_in (channels S done) x (Own c k) e)) [
        | inl a ↦ absurd (no_environment (enumerate_from 0 (kind_of S S.root.kind).ports) c k a)
        | inr b ↦ let r = in_owner 0 (born S done) c k b in omega (arith, r)
      ]

  -- channel k of the instance c has one number, which is base c + k
  abbrev pub base : List Act → ℕ → ℕ
  base done c = length (kind_of S S.root.kind).ports + length (flat_map (channels_of S) (take c (enumerate_from 0 (born S done))))

  wire_list : (c : ℕ) (n : ℕ) (ds : List ChannelDecl) (k : ℕ) → k < length ds → slice_get (map (λ j. Own c j.0) (enumerate_from n ds)) k ≡ Some (Own c (n + k))
  unfolding model
  wire_list c n [] k h = absurd (omega (arith, h))
  wire_list c n (d ∷ ds) zero h = ap (λ m. Some (Own c m)) (let e : n ≡ n + 0 = omega arith in e)
  wire_list c n (d ∷ ds) (suc k) h = wire_list c (n + 1) ds k (omega (arith, h)) ∙ ap (λ m. Some (Own c m)) (let e : (n + 1) + k ≡ n + suc k = omega arith in e)

  pub number_of_wire : (done : List Act) (c k : ℕ) (i : Instance) → slice_get (born S done) c ≡ Some i → k < length (kind_of S i.kind).channels
      → slice_get (channels S done) (base done c + k) ≡ Some (Own c k)
  unfolding model
  number_of_wire done c k i e h =
      let es = map (λ q. Environment q.0) (enumerate_from 0 (kind_of S S.root.kind).ports) in
      let rest = flat_map (channels_of S) (enumerate_from 0 (born S done)) in
      let before = length (flat_map (channels_of S) (take c (enumerate_from 0 (born S done)))) in
      ap (slice_get (channels S done)) (let f : base done c + k ≡ length es + (before + k) = omega (arith, length-map (enumerate_from 0 (kind_of S S.root.kind).ports) (λ q. Environment q.0), length-enumerate_from 0 (kind_of S S.root.kind).ports) in f)
      ∙ get_right es rest (before + k)
      ∙ flat_get (channels_of S) (enumerate_from 0 (born S done)) c (c, i) k (get_numbered 0 (born S done) c i e ∙ ap (λ m. Some (m, i)) (let g : 0 + c ≡ c = omega arith in g)) (omega (arith, h, length-map (enumerate_from 0 (kind_of S i.kind).channels) (λ j. Own c j.0), length-enumerate_from 0 (kind_of S i.kind).channels))
      ∙ wire_list c 0 (kind_of S i.kind).channels k h
      ∙ ap (λ m. Some (Own c m)) (let f : 0 + k ≡ k = omega arith in f)

  abbrev env_part : List Channel
  env_part = map (λ q. Environment q.0) (enumerate_from 0 (kind_of S S.root.kind).ports)

  abbrev own_part : List Act → List Channel
  own_part done = flat_map (channels_of S) (enumerate_from 0 (born S done))

  own_at : (b n : ℕ) (ds : List ChannelDecl) (j c k : ℕ) → slice_get (map (λ j. Own b j.0) (enumerate_from n ds)) j ≡ Some (Own c k) → (c ≡ b) × (k ≡ n + j)
  unfolding model
  own_at b n [] j c k e = absurd cc
  own_at b n (d ∷ ds) zero c k e = let x : b ≡ c = cc in let y : n ≡ k = cc in (sym x, omega (arith, y))
  own_at b n (d ∷ ds) (suc j) c k e = let r = own_at b (n + 1) ds j c k e in (r.0, omega (arith, r.1))

  -- and no other number has that channel
  pub wire_number : (done : List Act) (x c k : ℕ) → slice_get (channels S done) x ≡ Some (Own c k) → x ≡ base done c + k
  unfolding model
  wire_number done x c k e = go (nat_lt x (length env_part)) refl
    where
      go : (t : Bool) → nat_lt x (length env_part) ≡ t → x ≡ base done c + k
      go true q = absurd (no_environment (enumerate_from 0 (kind_of S S.root.kind).ports) c k (got_in env_part x (Own c k) (sym (get_left env_part (own_part done) x (ltb-true x (length env_part) q)) ∙ e)))
      go false q =
          let h = ltb-false x (length env_part) q in
          let s : x ≡ length env_part + (x - length env_part) = omega (arith, h) in
          let r = flat_split (channels_of S) (enumerate_from 0 (born S done)) (x - length env_part) (Own c k) (sym (get_right env_part (own_part done) (x - length env_part)) ∙ ap (slice_get (channels S done)) (sym s) ∙ e) in
          let n = number_at 0 (born S done) r.0 r.1 r.3 in
          let o = own_at r.1.0 0 (kind_of S r.1.1.kind).channels r.2 c k r.4 in
          let j : r.0 ≡ c = omega (arith, n, o.0) in
          let p : x - length env_part ≡ length (flat_map (channels_of S) (take c (enumerate_from 0 (born S done)))) + r.2 = subst (λ z. x - length env_part ≡ length (flat_map (channels_of S) (take z (enumerate_from 0 (born S done)))) + r.2) j r.5 in
          omega (arith, s, p, o.1, length-map (enumerate_from 0 (kind_of S S.root.kind).ports) (λ q. Environment q.0), length-enumerate_from 0 (kind_of S S.root.kind).ports)

  env_list : (n : ℕ) (ps : List PortDecl) (i : ℕ) (p : PortDecl) → slice_get ps i ≡ Some p → slice_get (map (λ q. Environment q.0) (enumerate_from n ps)) i ≡ Some (Environment (n + i))
  unfolding model
  env_list n [] i p e = absurd cc
  env_list n (d ∷ ps) zero p e = ap (λ m. Some (Environment m)) (let f : n ≡ n + 0 = omega arith in f)
  env_list n (d ∷ ps) (suc i) p e = env_list (n + 1) ps i p e ∙ ap (λ m. Some (Environment m)) (let f : (n + 1) + i ≡ n + suc i = omega arith in f)

  no_end : (q : ℕ) (b : Bool) → not b ≡ true → if◌then◌else◌ {A = Option Half} b (Some (record { comp = 0; port = q; side = Outside })) None ≡ None
  unfolding model
  no_end q true e = absurd cc
  no_end q false e = refl

  -- the environment's own end is at no half
  pub outer_no_end : (done : List Act) (x : ℕ) (e : Dir) → is_outer S x e ≡ true → place S done x e ≡ None
  unfolding model
  outer_no_end done x e h = go (slice_get (kind_of S S.root.kind).ports x) refl h
    where
      go : (o : Option PortDecl) → slice_get (kind_of S S.root.kind).ports x ≡ o → option_map_or (λ p. not (agree p.provided (is_plus e))) o false ≡ true → place S done x e ≡ None
      go None q k = absurd cc
      go (Some p) q k =
          let at : slice_get (channels S done) x ≡ Some (Environment x) =
          get_left (map (λ q. Environment q.0) (enumerate_from 0 (kind_of S S.root.kind).ports)) (flat_map (channels_of S) (enumerate_from 0 (born S done))) x (slice_get_within (map (λ q. Environment q.0) (enumerate_from 0 (kind_of S S.root.kind).ports)) x (Environment (0 + x)) (env_list 0 (kind_of S S.root.kind).ports x p q))
          ∙ env_list 0 (kind_of S S.root.kind).ports x p q
          ∙ ap (λ m. Some (Environment m)) (let f : 0 + x ≡ x = omega arith in f) in
          ap (option_and_then (channel_end S done e)) at
          ∙ ap (option_and_then (λ d. if◌then◌else◌ {A = Option Half} (agree d.provided (is_plus e)) (Some (record { comp = 0; port = x; side = Outside })) None)) q
          ∙ no_end x (agree p.provided (is_plus e)) k
