-- A half at which a channel is plugged is at a port of the component there.
use Rattle.std.proofs.Common.{◌≡◌, ℕ, ◌<◌, Bool, true, false, if◌then◌else◌, refl, sym, ap, ◌∙◌, subst, List, [], ◌∷◌, length, map, Option, Some, None, inl, inr, arith}
use Rattle.std.specs.Prelude.{slice_get, nat_lt}
use Rattle.std.specs.List.{enumerate_from, flat_map}
use Rattle.std.specs.Option.{option_map, option_and_then}
use Rattle.std.proofs.lemmas.Bool.{lt-ltb}
use Rattle.std.proofs.lemmas.Option.{slice_get_within}
use Rattle.kom_base.specs.declared.numbers.Dir.{Dir}
use Rattle.kom_base.specs.declared.numbers.Half.{Half}
use Rattle.kom_base.specs.declared.numbers.Side.TheVariants.{Outside}
use Rattle.kom_base.specs.Numbers.{agree, is_plus}
use Rattle.kom_lang.specs.Declarations.{Declarations, kind_of}
use Rattle.kom_lang.specs.Steps.{child_in, end_of, wire_of}
use Rattle.kom_lang.specs.declared.body.Body.{Body}
use Rattle.kom_lang.specs.declared.body.Birth.TheVariants.{Args}
use Rattle.kom_system.specs.WellFormed.{IsDeclared}
use Rattle.kom_record.specs.Model.{model}
use Rattle.kom_record.specs.declared.plan.Plan.{Plan}
use Rattle.kom_record.specs.Entries.{History, Act, acts}
use Rattle.kom_record.specs.Instances.{Instance, born, depth_limit, occupant}
use Rattle.kom_record.specs.Channels.{Channel, Environment, Own, channels, channels_of, channel_end, half_of, place, root_end, wire_end}
use Rattle.kom_record.specs.Legal.{IsLegal}
use Rattle.kom_record.specs.Plans.{is_place_in}
use Rattle.kom_laws.proofs.Members.{IsIn, here, there, Some-injective}
use Rattle.kom_laws.proofs.Rising.{in_append}
use Rattle.kom_laws.proofs.ListFacts.{got_at, got_in, in_flat, numbered}
use Rattle.kom_laws.proofs.InstanceLaws.{instance_stays, occupant_born}
use Rattle.kom_laws.proofs.ChannelLaws.{owner_born}
use Rattle.kom_agree.specs.Agrees.{Agrees}
use Rattle.kom_agree.proofs.Trees.{tree_head}
use Rattle.kom_agree.proofs.Born.{some_of}
use Rattle.kom_agree.proofs.Acts.{end_fits_at, outer_half, place_at, wire_fits}
use Rattle.kom_agree.proofs.Records.{body_of, good}

pub bound_of : {X Y : Type 0} (f : X → Option Y) (o : Option X) (y : Y) → option_and_then f o ≡ Some y → (x : X) × (o ≡ Some x) × (f x ≡ Some y)
bound_of f None y e = absurd cc
bound_of f (Some x) y e = (x, refl, e)

pub mapped_of : {X Y : Type 0} (f : X → Y) (o : Option X) (y : Y) → option_map f o ≡ Some y → (x : X) × (o ≡ Some x) × (f x ≡ y)
mapped_of f None y e = absurd cc
mapped_of f (Some x) y e = (x, refl, Some-injective e)

pub from_map : {X Y : Type 0} (f : X → Y) (xs : List X) (y : Y) → IsIn y (map f xs) → (x : X) × IsIn x xs × (f x ≡ y)
from_map f [] y h = elim h [ ]
from_map f (x ∷ xs) y' here = (x, here, refl)
from_map f (x ∷ xs) y (there h) = let r = from_map f xs y h in (r.0, there r.1, r.2)

pub chosen_true : {X : Type 0} (b : Bool) (o : Option X) (y : X) → (if b then o else None) ≡ Some y → (b ≡ true) × (o ≡ Some y)
chosen_true true o y e = (refl, e)
chosen_true false o y e = absurd cc

module _ (S : Declarations) where
  -- the half is at a port of an instance
  pub record IsAtPort (done : List Act) (h : Half) : Type 0 where
    pub instance : Instance
    pub at : slice_get (born S done) h.comp ≡ Some instance
    pub port : nat_lt h.port (length (kind_of S instance.kind).ports) ≡ true

  abbrev pub root : Instance
  root = record { kind = S.root.kind; birth = Args S.root.args; ancestry = [] }

  pub root_born : (done : List Act) → slice_get (born S done) 0 ≡ Some root
  unfolding model
  root_born [] = tree_head S depth_limit 0 root
  root_born (a ∷ done) = let r = root_born done in instance_stays S (a ∷ []) done 0 (slice_get_within (born S done) 0 root r) ∙ r

  at_root : (done : List Act) (q : ℕ) (e : Dir) (h : Half) → root_end S q e ≡ Some h → IsAtPort done h
  unfolding model
  at_root done q e h f =
      let b = bound_of (λ d. if agree d.provided (is_plus e) then Some (record { comp = 0; port = q; side = Outside }) else None) (slice_get (kind_of S S.root.kind).ports q) h f in
      let c = chosen_true (agree b.0.provided (is_plus e)) (Some (record { comp = 0; port = q; side = Outside })) h b.2 in
      subst (IsAtPort done) (Some-injective c.1)
      (record { instance = root; at = root_born done; port = lt-ltb q (length (kind_of S S.root.kind).ports) (slice_get_within (kind_of S S.root.kind).ports q b.0 b.1) })

  -- a channel of an instance is one that its type declares
  pub wire_declared : (done : List Act) (x c k : ℕ) (i : Instance) → slice_get (channels S done) x ≡ Some (Own c k) → slice_get (born S done) c ≡ Some i → k < length (kind_of S i.kind).channels
  unfolding model
  wire_declared done x c k i e at =
      elim (in_append (Own c k) (map (λ q. Environment q.0) (enumerate_from 0 (kind_of S S.root.kind).ports)) (flat_map (channels_of S) (enumerate_from 0 (born S done))) (got_in (channels S done) x (Own c k) e)) [
        | inl m ↦ let r = from_map (λ q. Environment q.0) (enumerate_from 0 (kind_of S S.root.kind).ports) (Own c k) m in absurd (let f = r.2 in cc)
        | inr m ↦
            let f = in_flat (channels_of S) (enumerate_from 0 (born S done)) (Own c k) m in
            let n = numbered 0 (born S done) f.0 f.1 in
            let r = from_map (λ j. Own f.0.0 j.0) (enumerate_from 0 (kind_of S f.0.1.kind).channels) (Own c k) f.2 in
            let s = r.2 in
            let owner : f.0.0 ≡ c = cc in
            let number : r.0.0 ≡ k = cc in
            let same : c ≡ n.0 = omega (arith, n.1, owner) in
            let inst : f.0.1 ≡ i = Some-injective (sym n.2 ∙ ap (slice_get (born S done)) (sym same) ∙ at) in
            let d = numbered 0 (kind_of S f.0.1.kind).channels r.0 r.1 in
            let low = slice_get_within (kind_of S f.0.1.kind).channels d.0 r.0.1 d.2 in
            subst (λ z. k < length (kind_of S z.kind).channels) inst (omega (arith, d.1, number, low))
      ]

  at_place : (done : List Act) (c : ℕ) (i : Instance) (b : Body) (port : ℕ) (sl : Option ℕ) (h : Half) → slice_get (born S done) c ≡ Some i → b.kind ≡ i.kind → Agrees S done c b
      → is_place_in S b (record { slot = sl; port = port }) ≡ true → half_of S done c (record { slot = sl; port = port }) ≡ Some h → IsAtPort done h
  unfolding half_of
  at_place done c i b port None h at k a p e =
      subst (IsAtPort done) (Some-injective e) (record { instance = i; at = at; port = subst (λ z. nat_lt port (length (kind_of S z).ports) ≡ true) k p })
  at_place done c i b port (Some s) h at k a p e =
      let m = mapped_of (outer_half port) (occupant S done c s) h e in
      let o = occupant_born S done c s m.0 m.1 in
      let r = some_of (λ k. nat_lt port (length (kind_of S k).ports)) (child_in b s) p in
      let kind : Some o.0.kind ≡ Some r.0 =
      sym (ap (λ q. option_map (λ i. i.kind) (option_and_then (slice_get (born S done)) q)) m.1 ∙ ap (option_map (λ i. i.kind)) o.1) ∙ a.slots s ∙ r.1 in
      subst (IsAtPort done) m.2 (record { instance = o.0; at = o.1; port = subst (λ z. nat_lt port (length (kind_of S z).ports) ≡ true) (sym (Some-injective kind)) r.2 })

  at_wire : (Z : Plan) → IsDeclared S → (P : History) → IsLegal S Z P → (x c k : ℕ) (e : Dir) (h : Half) → slice_get (channels S (acts P)) x ≡ Some (Own c k) → wire_end S (acts P) c k e ≡ Some h → IsAtPort (acts P) h
  at_wire Z D P l x c k e h q f =
      let g = got_at (born S (acts P)) c (owner_born S (acts P) x c k q) in
      let b = body_of S P c g.0 in
      let r = good S Z D P l c g.0 g.1 in
      let low = wire_declared (acts P) x c k g.0 q g.1 in
      let wires = r.fits.wires in
      let same : length (kind_of S b.kind).channels ≡ length (kind_of S g.0.kind).channels = ap (λ z. length (kind_of S z).channels) r.kind in
      let lt : k < length b.wires = omega (arith, low, wires, same) in
      let m = bound_of (half_of S (acts P) c) (end_of (wire_of b k) e) h (sym (r.agrees.ends k e lt) ∙ f) in
      at_place (acts P) c g.0 b m.0.port m.0.slot h g.1 r.kind r.agrees (place_at S b (end_of (wire_of b k) e) m.0 (end_fits_at S b (wire_of b k) e (wire_fits S b k r.fits lt)) m.1) m.2

  pub at_port : (Z : Plan) → IsDeclared S → (P : History) → IsLegal S Z P → (x : ℕ) (e : Dir) (h : Half) → place S (acts P) x e ≡ Some h → IsAtPort (acts P) h
  unfolding place
  at_port Z D P l x e h f = go (slice_get (channels S (acts P)) x) refl f
    where
      go : (o : Option Channel) → slice_get (channels S (acts P)) x ≡ o → option_and_then (channel_end S (acts P) e) o ≡ Some h → IsAtPort (acts P) h
      go None q f = absurd cc
      go (Some (Environment p)) q f = at_root (acts P) p e h f
      go (Some (Own c k)) q f = at_wire Z D P l x c k e h q f
