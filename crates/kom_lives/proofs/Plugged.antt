-- A living channel is plugged at living components alone.
use Rattle.std.proofs.Common.{◌≡◌, ℕ, ◌<◌, true, false, if◌then◌else◌, not, ◌&&◌, ◌==◌, refl, sym, ap, ◌∙◌, subst, List, [], ◌∷◌, length, Option, Some, None, arith}
use Rattle.std.specs.Prelude.{nat_lt, slice_get}
use Rattle.std.specs.Option.{option_and_then, option_map_or}
use Rattle.std.proofs.lemmas.Bool.{lt-ltb}
use Rattle.kom_base.specs.declared.numbers.Dir.{Dir}
use Rattle.kom_base.specs.declared.numbers.Half.{Half}
use Rattle.kom_base.specs.declared.numbers.Side.TheVariants.{Outside}
use Rattle.kom_base.specs.Numbers.{agree, is_plus}
use Rattle.kom_lang.specs.Declarations.{Declarations, kind_of}
use Rattle.kom_lang.specs.Steps.{end_of, wire_of}
use Rattle.kom_lang.specs.declared.body.Effect.{Effect}
use Rattle.kom_lang.specs.declared.body.Effect.TheVariants as effect
use Rattle.kom_system.specs.WellFormed.{IsDeclared}
use Rattle.kom_record.specs.declared.plan.Plan.{Plan}
use Rattle.kom_record.specs.declared.item.Item.{Item}
use Rattle.kom_record.specs.Entries.{History, Act, acts}
use Rattle.kom_record.specs.Instances.{alive, ancestry_of, born, occupant, root_tree}
use Rattle.kom_record.specs.Channels.{Channel, Environment, Own, channel_alive, channel_end, channels, half_of, is_living, place, root_end, wire_end}
use Rattle.kom_record.specs.Legal.{IsLegal}
use Rattle.kom_laws.proofs.Members.{Some-injective}
use Rattle.kom_laws.proofs.ListFacts.{got_at}
use Rattle.kom_laws.proofs.InstanceLaws.{ActsByBorn, alive_born, ancestor_born}
use Rattle.kom_laws.proofs.ChannelLaws.{owner_born}
use Rattle.kom_agree.proofs.Acts.{outer_half}
use Rattle.kom_agree.proofs.Records.{body_of, good}
use Rattle.kom_typed.proofs.Ends.{bound_of, chosen_true, mapped_of, wire_declared}
use Rattle.kom_lives.specs.Living.{AreByLiving}
use Rattle.kom_lives.proofs.Lives.{both_of, by_born, by_living, none_any, occupants}

module _ (S : Declarations) where
  -- the root is never destroyed
  root_after : (done : List Act) (p : ℕ) (item : Item) (e : Effect) → ActsByBorn S done → alive S done 0 ≡ true → alive S (record { by = p; item = item; effect = e } ∷ done) 0 ≡ true
  unfolding alive
  root_after done p item (effect.Create slot kind birth) by h =
      ap (λ b. if b then alive S done 0 else nat_lt 0 (length (born S (record { by = p; item = item; effect = effect.Create slot kind birth } ∷ done)))) (lt-ltb 0 (length (born S done)) (alive_born S done 0 h)) ∙ h
  root_after done p item (effect.Destroy t) by h =
      both_of _ _ h (ap not (none_any (λ q. p == q.0 && t == q.1) (ancestry_of S (born S done) 0) (λ q m. let l = ancestor_born S done 0 q by m in absurd (omega (arith, l)))))
  root_after done p item (effect.Trigger x e) by h = h
  root_after done p item (effect.Answer e) by h = h
  root_after done p item (effect.Start s) by h = h
  root_after done p item (effect.Stop s) by h = h
  root_after done p item (effect.Dump s) by h = h
  root_after done p item (effect.Hold k) by h = h
  root_after done p item (effect.Resume k) by h = h
  root_after done p item (effect.Unplug k f) by h = h
  root_after done p item (effect.Plug k f x) by h = h
  root_after done p item effect.Escalate by h = h

  root_first : alive S [] 0 ≡ true
  unfolding alive root_tree
  root_first = lt-ltb 0 (length (root_tree S)) (omega arith)

  root_lives : (done : List Act) → ActsByBorn S done → alive S done 0 ≡ true
  root_lives [] by = root_first
  root_lives (a ∷ done) by = root_after done a.by a.item a.effect by.0 (root_lives done by.0)

  at_half : (done : List Act) (c port : ℕ) (sl : Option ℕ) (h : Half) → AreByLiving S done → alive S done c ≡ true → half_of S done c (record { slot = sl; port = port }) ≡ Some h → alive S done h.comp ≡ true
  unfolding half_of
  at_half done c port None h by k e = subst (λ z. alive S done z.comp ≡ true) (Some-injective e) k
  at_half done c port (Some s) h by k e =
      let m = mapped_of (outer_half port) (occupant S done c s) h e in
      subst (λ z. alive S done z.comp ≡ true) m.2 (occupants S done by c s m.0 k m.1)

  at_root : (done : List Act) (q : ℕ) (e : Dir) (h : Half) → ActsByBorn S done → root_end S q e ≡ Some h → alive S done h.comp ≡ true
  unfolding root_end
  at_root done q e h by f =
      let b = bound_of (λ d. if agree d.provided (is_plus e) then Some (record { comp = 0; port = q; side = Outside }) else None) (slice_get (kind_of S S.root.kind).ports q) h f in
      let c = chosen_true (agree b.0.provided (is_plus e)) (Some (record { comp = 0; port = q; side = Outside })) h b.2 in
      subst (λ z. alive S done z.comp ≡ true) (Some-injective c.1) (root_lives done by)

  at_wire : (Z : Plan) → IsDeclared S → (P : History) → IsLegal S Z P → (x c k : ℕ) (e : Dir) (h : Half) → slice_get (channels S (acts P)) x ≡ Some (Own c k) → alive S (acts P) c ≡ true → wire_end S (acts P) c k e ≡ Some h → alive S (acts P) h.comp ≡ true
  at_wire Z D P l x c k e h q a f =
      let g = got_at (born S (acts P)) c (owner_born S (acts P) x c k q) in
      let b = body_of S P c g.0 in
      let r = good S Z D P l c g.0 g.1 in
      let low = wire_declared S (acts P) x c k g.0 q g.1 in
      let wires = r.fits.wires in
      let same : length (kind_of S b.kind).channels ≡ length (kind_of S g.0.kind).channels = ap (λ z. length (kind_of S z).channels) r.kind in
      let lt : k < length b.wires = omega (arith, low, wires, same) in
      let m = bound_of (half_of S (acts P) c) (end_of (wire_of b k) e) h (sym (r.agrees.ends k e lt) ∙ f) in
      at_half (acts P) c m.0.port m.0.slot h (by_living S Z P l) a m.2

  pub ends_live : (Z : Plan) → IsDeclared S → (P : History) → IsLegal S Z P → (x : ℕ) (e : Dir) (h : Half) → is_living S (acts P) x ≡ true → place S (acts P) x e ≡ Some h → alive S (acts P) h.comp ≡ true
  unfolding place is_living
  ends_live Z D P l x e h k f = go (slice_get (channels S (acts P)) x) refl k f
    where
      go : (o : Option Channel) → slice_get (channels S (acts P)) x ≡ o → option_map_or (channel_alive S (acts P)) o false ≡ true → option_and_then (channel_end S (acts P) e) o ≡ Some h → alive S (acts P) h.comp ≡ true
      go None q k f = absurd cc
      go (Some (Environment p)) q k f = at_root (acts P) p e h (by_born S (acts P) (by_living S Z P l)) f
      go (Some (Own c j)) q k f = at_wire Z D P l x c j e h q k f
