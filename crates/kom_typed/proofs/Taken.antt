-- The half at an end of a channel is at a port that takes the end.
use Rattle.std.proofs.Common.{◌≡◌, ℕ, ◌<◌, Bool, true, false, if◌then◌else◌, ◌==◌, refl, sym, ap, ◌∙◌, subst, List, [], ◌++◌, length, Option, Some, None, arith, eq-eqb}
use Rattle.std.specs.Prelude.{slice_get}
use Rattle.std.specs.Option.{option_map, option_map_or, option_and_then}
use Rattle.std.proofs.lemmas.Bool.{eqb-true}
use Rattle.std.proofs.lemmas.Option.{slice_get_within}
use Rattle.kom_base.specs.declared.numbers.Dir.{Dir}
use Rattle.kom_base.specs.declared.numbers.Dir.TheVariants.{Plus, Minus}
use Rattle.kom_base.specs.declared.numbers.Half.{Half}
use Rattle.kom_base.specs.declared.numbers.Side.{Side}
use Rattle.kom_base.specs.declared.numbers.Side.TheVariants.{Outside, Inside}
use Rattle.kom_base.specs.Numbers.{agree, is_plus, opposite, other_side, same_half, same_side}
use Rattle.kom_events.specs.Ports.{passes}
use Rattle.kom_lang.specs.Declarations.{Declarations, kind_of}
use Rattle.kom_lang.specs.Steps.{child_in, end_of, port_of_channel, wire_of}
use Rattle.kom_lang.specs.declared.kind.PortDecl.{PortDecl}
use Rattle.kom_lang.specs.declared.body.Body.{Body}
use Rattle.kom_lang.specs.declared.body.Birth.TheVariants.{Args}
use Rattle.kom_system.specs.Fitting.{takes_at}
use Rattle.kom_system.specs.WellFormed.{IsDeclared}
use Rattle.kom_record.specs.declared.plan.Plan.{Plan}
use Rattle.kom_record.specs.Entries.{History, Act, acts}
use Rattle.kom_record.specs.Instances.{Instance, born, occupant}
use Rattle.kom_record.specs.Channels.{Channel, Environment, Own, channel_end, channels, decl_of, half_of, place, root_end, wire_end}
use Rattle.kom_record.specs.Legal.{IsLegal}
use Rattle.kom_laws.proofs.Members.{Some-injective}
use Rattle.kom_laws.proofs.ListFacts.{got_at}
use Rattle.kom_laws.proofs.InstanceLaws.{instance_stays, occupant_born}
use Rattle.kom_laws.proofs.ChannelLaws.{channel_stays, owner_born}
use Rattle.kom_agree.specs.Agrees.{Agrees}
use Rattle.kom_agree.specs.Bodies.{place_takes}
use Rattle.kom_agree.proofs.Born.{both, both_of, some_of}
use Rattle.kom_agree.proofs.Acts.{outer_half}
use Rattle.kom_agree.proofs.Records.{body_of, good}
use Rattle.kom_typed.specs.Types.{PassesChannel, port_type, port_type_of}
use Rattle.kom_typed.proofs.Ends.{bound_of, chosen_true, mapped_of, root_born, wire_declared}

abbrev pub is_outside : Side → Bool
is_outside Outside = true
is_outside Inside = false

-- the direction of channels that begin at that side of a port
abbrev pub away : PortDecl → Side → Dir
away p side = if agree p.provided (is_outside side) then Plus else Minus

agree_is : (a b : Bool) → agree a b ≡ true → a ≡ b
agree_is true true e = refl
agree_is true false e = absurd cc
agree_is false true e = absurd cc
agree_is false false e = refl

plus_is : (d : Dir) → (if is_plus d then Plus else Minus) ≡ d
plus_is Plus = refl
plus_is Minus = refl

-- an end that a port takes on a side is that of the direction away from it
pub taken_away : (t : ℕ) (d : Dir) (side : Side) (p : PortDecl) → takes_at t d (is_outside side) p ≡ true → (p.port ≡ t) × (away p side ≡ d)
taken_away t d side p h =
    let a = both _ _ h in
    (eqb-true p.port t a.0, ap {A = Bool} {B = Dir} (λ b. if b then Plus else Minus) (agree_is (agree p.provided (is_outside side)) (is_plus d) a.1) ∙ plus_is d)

swap_sides : (b : Bool) (side : Side) (d : Dir) → agree b (is_outside side) ≡ is_plus (opposite d) → agree b (is_outside (other_side side)) ≡ is_plus d
swap_sides true Outside Plus e = absurd cc
swap_sides true Outside Minus e = refl
swap_sides true Inside Plus e = refl
swap_sides true Inside Minus e = absurd cc
swap_sides false Outside Plus e = refl
swap_sides false Outside Minus e = absurd cc
swap_sides false Inside Plus e = absurd cc
swap_sides false Inside Minus e = refl

-- what arrives at one side of a port goes on from the other in the same direction
pub goes_on : (t : ℕ) (d : Dir) (side : Side) (p : PortDecl) → takes_at t (opposite d) (is_outside side) p ≡ true → away p (other_side side) ≡ d
goes_on t d side p h =
    let a = both _ _ h in
    ap {A = Bool} {B = Dir} (λ b. if b then Plus else Minus) (swap_sides p.provided side d (agree_is (agree p.provided (is_outside side)) (is_plus (opposite d)) a.1)) ∙ plus_is d

module _ (S : Declarations) where
  -- the half is at a port that takes the end of channel x
  pub record IsTaken (done : List Act) (x : ℕ) (e : Dir) (h : Half) : Type 0 where
    pub type : ℕ
    pub type_is : port_type_of S done x ≡ Some type
    pub instance : Instance
    pub at : slice_get (born S done) h.comp ≡ Some instance
    pub port : PortDecl
    pub port_is : slice_get (kind_of S instance.kind).ports h.port ≡ Some port
    pub takes : takes_at type e (is_outside h.side) port ≡ true

  agree_true : (b : Bool) → agree b true ≡ b
  agree_true true = refl
  agree_true false = refl

  same_port : (p : PortDecl) → (p.port == p.port) ≡ true
  same_port p = eq-eqb p.port p.port refl

  taken_root : (done : List Act) (x q : ℕ) (e : Dir) (h : Half) → slice_get (channels S done) x ≡ Some (Environment q) → root_end S q e ≡ Some h → IsTaken done x e h
  unfolding root_end
  taken_root done x q e h c f =
      let b = bound_of (λ d. if agree d.provided (is_plus e) then Some (record { comp = 0; port = q; side = Outside }) else None) (slice_get (kind_of S S.root.kind).ports q) h f in
      let k = chosen_true (agree b.0.provided (is_plus e)) (Some (record { comp = 0; port = q; side = Outside })) h b.2 in
      subst (IsTaken done x e) (Some-injective k.1)
      (record {
        type = b.0.port;
        type_is = ap (option_map (port_type S done)) c ∙ ap (λ o. Some (option_map_or (λ p. p.port) o 0)) b.1;
        instance = record { kind = S.root.kind; birth = Args S.root.args; ancestry = [] };
        at = root_born S done;
        port = b.0;
        port_is = b.1;
        takes = both_of _ _ (same_port b.0) (ap (λ z. agree z (is_plus e)) (agree_true b.0.provided) ∙ k.0);
      })

  taken_place : (done : List Act) (x c : ℕ) (i : Instance) (b : Body) (type : ℕ) (e : Dir) (port : ℕ) (sl : Option ℕ) (h : Half) → port_type_of S done x ≡ Some type → slice_get (born S done) c ≡ Some i → b.kind ≡ i.kind → Agrees S done c b
      → place_takes S b type e (record { slot = sl; port = port }) ≡ true → half_of S done c (record { slot = sl; port = port }) ≡ Some h → IsTaken done x e h
  unfolding half_of
  taken_place done x c i b type e port None h t at k a p f =
      let r = some_of (takes_at type e false) (slice_get (kind_of S b.kind).ports port) p in
      subst (IsTaken done x e) (Some-injective f)
      (record { type = type; type_is = t; instance = i; at = at; port = r.0; port_is = ap (λ z. slice_get (kind_of S z).ports port) (sym k) ∙ r.1; takes = r.2 })
  taken_place done x c i b type e port (Some s) h t at k a p f =
      let m = mapped_of (outer_half port) (occupant S done c s) h f in
      let o = occupant_born S done c s m.0 m.1 in
      let r = some_of (λ k. option_map_or (takes_at type e true) (slice_get (kind_of S k).ports port) false) (child_in b s) p in
      let q = some_of (takes_at type e true) (slice_get (kind_of S r.0).ports port) r.2 in
      let kind : Some o.0.kind ≡ Some r.0 =
      sym (ap (λ q. option_map (λ i. i.kind) (option_and_then (slice_get (born S done)) q)) m.1 ∙ ap (option_map (λ i. i.kind)) o.1) ∙ a.slots s ∙ r.1 in
      subst (IsTaken done x e) m.2
      (record { type = type; type_is = t; instance = o.0; at = o.1; port = q.0; port_is = ap (λ z. slice_get (kind_of S z).ports port) (Some-injective kind) ∙ q.1; takes = q.2 })

  taken_wire : (Z : Plan) → IsDeclared S → (P : History) → IsLegal S Z P → (x c k : ℕ) (e : Dir) (h : Half) → slice_get (channels S (acts P)) x ≡ Some (Own c k) → wire_end S (acts P) c k e ≡ Some h → IsTaken (acts P) x e h
  unfolding decl_of
  taken_wire Z D P l x c k e h q f =
      let g = got_at (born S (acts P)) c (owner_born S (acts P) x c k q) in
      let b = body_of S P c g.0 in
      let r = good S Z D P l c g.0 g.1 in
      let low = wire_declared S (acts P) x c k g.0 q g.1 in
      let wires = r.fits.wires in
      let same : length (kind_of S b.kind).channels ≡ length (kind_of S g.0.kind).channels = ap (λ z. length (kind_of S z).channels) r.kind in
      let lt : k < length b.wires = omega (arith, low, wires, same) in
      let m = bound_of (half_of S (acts P) c) (end_of (wire_of b k) e) h (sym (r.agrees.ends k e lt) ∙ f) in
      let type : port_type_of S (acts P) x ≡ Some (port_of_channel S b k) =
      ap (option_map (port_type S (acts P))) q
      ∙ ap (λ o. Some (option_map_or (λ d. d.port) (option_and_then (λ i. slice_get (kind_of S i.kind).channels k) o) 0)) g.1
      ∙ ap (λ z. Some (option_map_or (λ d. d.port) (slice_get (kind_of S z).channels k) 0)) (sym r.kind) in
      taken_place (acts P) x c g.0 b (port_of_channel S b k) e m.0.port m.0.slot h type g.1 r.kind r.agrees (r.takes.ends k e m.0 lt m.1) m.2

  pub taken : (Z : Plan) → IsDeclared S → (P : History) → IsLegal S Z P → (x : ℕ) (e : Dir) (h : Half) → place S (acts P) x e ≡ Some h → IsTaken (acts P) x e h
  unfolding place
  taken Z D P l x e h f = go (slice_get (channels S (acts P)) x) refl f
    where
      go : (o : Option Channel) → slice_get (channels S (acts P)) x ≡ o → option_and_then (channel_end S (acts P) e) o ≡ Some h → IsTaken (acts P) x e h
      go None q f = absurd cc
      go (Some (Environment p)) q f = taken_root (acts P) x p e h q f
      go (Some (Own c k)) q f = taken_wire Z D P l x c k e h q f

  -- ---- where an offer passes

  -- events of the type may leave from the half
  pub record HalfPasses (done : List Act) (h : Half) (kind : ℕ) : Type 0 where
    pub instance : Instance
    pub at : slice_get (born S done) h.comp ≡ Some instance
    pub port : PortDecl
    pub port_is : slice_get (kind_of S instance.kind).ports h.port ≡ Some port
    pub passes : passes S.events S.ports port.port (away port h.side) kind ≡ true

  same_side_is : (a b : Side) → same_side a b ≡ true → a ≡ b
  same_side_is Outside Outside e = refl
  same_side_is Outside Inside e = absurd cc
  same_side_is Inside Outside e = absurd cc
  same_side_is Inside Inside e = refl

  pub half_is : (h k : Half) → same_half h k ≡ true → h ≡ k
  half_is h k e =
      let a = both _ _ e in
      let b = both _ _ a.0 in
      let x : h.comp ≡ k.comp = eqb-true h.comp k.comp b.0 in
      let y : h.port ≡ k.port = eqb-true h.port k.port b.1 in
      let z : h.side ≡ k.side = same_side_is h.side k.side a.1 in
      ap {A = ℕ} {B = Half} (λ t. record { comp = t; port = h.port; side = h.side }) x
      ∙ ap {A = ℕ} {B = Half} (λ t. record { comp = k.comp; port = t; side = h.side }) y
      ∙ ap {A = Side} {B = Half} (λ t. record { comp = k.comp; port = k.port; side = t }) z

  -- what passes at the half passes the channels that begin there
  pub passes_there : (done : List Act) (x : ℕ) (d : Dir) (h : Half) (kind : ℕ) → IsTaken done x d h → HalfPasses done h kind → PassesChannel S done x d kind
  passes_there done x d h kind t p =
      let i : p.instance ≡ t.instance = Some-injective (sym p.at ∙ t.at) in
      let q : p.port ≡ t.port = Some-injective (sym p.port_is ∙ ap (λ z. slice_get (kind_of S z.kind).ports h.port) i ∙ t.port_is) in
      let a = taken_away t.type d h.side t.port t.takes in
      (t.type, t.type_is, subst (λ z. passes S.events S.ports z d kind ≡ true) a.0 (subst (λ z. passes S.events S.ports t.port.port z kind ≡ true) a.1 (subst (λ z. passes S.events S.ports z.port (away z h.side) kind ≡ true) q p.passes)))

  -- ---- later

  pub type_stays : (mine done : List Act) (x t : ℕ) → port_type_of S done x ≡ Some t → port_type_of S (mine ++ done) x ≡ Some t
  unfolding decl_of
  type_stays mine done x t e = go (slice_get (channels S done) x) refl e
    where
      go : (o : Option Channel) → slice_get (channels S done) x ≡ o → option_map (port_type S done) o ≡ Some t → port_type_of S (mine ++ done) x ≡ Some t
      go None q e = absurd cc
      go (Some (Environment p)) q e = ap (option_map (port_type S (mine ++ done))) (channel_stays S mine done x (slice_get_within (channels S done) x (Environment p) q) ∙ q) ∙ e
      go (Some (Own c k)) q e =
          ap (option_map (port_type S (mine ++ done))) (channel_stays S mine done x (slice_get_within (channels S done) x (Own c k) q) ∙ q)
          ∙ ap (λ o. Some (option_map_or (λ d. d.port) (option_and_then (λ i. slice_get (kind_of S i.kind).channels k) o) 0)) (instance_stays S mine done c (owner_born S done x c k q)) ∙ e

  pub passes_stay : (mine done : List Act) (x : ℕ) (d : Dir) (kind : ℕ) → PassesChannel S done x d kind → PassesChannel S (mine ++ done) x d kind
  passes_stay mine done x d kind p = (p.0, type_stays mine done x p.0 p.1, p.2)

  pub half_stays : (mine done : List Act) (h : Half) (kind : ℕ) → HalfPasses done h kind → HalfPasses (mine ++ done) h kind
  half_stays mine done h kind p =
      record { instance = p.instance; at = instance_stays S mine done h.comp (slice_get_within (born S done) h.comp p.instance p.at) ∙ p.at; port = p.port; port_is = p.port_is; passes = p.passes }
