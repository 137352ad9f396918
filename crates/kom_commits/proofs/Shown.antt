-- What is shown by something that is only known to be there.
use Rattle.std.proofs.Common.{◌≡◌, ◌==◌, ℕ, ◌+◌, ◌⊎◌, inl, inr, Bool, true, false, refl, sym, ap, ◌∙◌, subst, List, [], ◌∷◌, length, Option, Some, None, arith}
use Rattle.std.specs.Prelude.{is_some}
use Rattle.std.specs.Option.{option_map_or}
use Rattle.std.specs.Coded.{coded_option, coded_ℕ}
use Rattle.std.proofs.Math.Logic.{∥∥₁_elim}
use base.Stored.{Coded-set}
use Rattle.std.proofs.lemmas.Bool.{eq-eqb, eqb-true}
use Rattle.kom_base.specs.Lists.{first}
use Rattle.kom_lang.specs.Declarations.{Declarations}
use Rattle.kom_lang.specs.declared.body.Effect.{Effect}
use Rattle.kom_lang.specs.declared.body.Effect.TheVariants as effect
use Rattle.kom_record.specs.declared.item.Control.{Control as ControlItem}
use Rattle.kom_record.specs.declared.item.Item.{Item}
use Rattle.kom_numbers.specs.Numbering.{total}
use Rattle.kom_coming.specs.Directions.{AreThere}
use Rattle.kom_entering.specs.declared.lists.Coming.{Coming}
use Rattle.kom_refine.specs.States.{Node, State}
use Rattle.kom_state.specs.Facts.{HoldsTogether}
use Rattle.kom_state.specs.Parts.{Parts, channel_spare, control_spare, has_queues, has_row, instance_spare, state_of}
use Rattle.kom_state.specs.Plantings.{MayPlant}
use Rattle.kom_state.specs.Readings.{ancestry_at}
use Rattle.kom_turns.proofs.Standing.{at_most, below, said, same_number}
use Rattle.kom_births.specs.declared.seed.Seed.{Seed}
use Rattle.kom_births.specs.Seeds.{links_of}
use Rattle.kom_births.specs.Sowing.{HasRooms, items_for}
use Rattle.kom_nursery.specs.Nurseries.{all_of}
use Rattle.kom_nursery.specs.Tops.{TopsHaveRoom}
use Rattle.kom_puts.specs.Puts.{HasRoomFor, put_in}
use Rattle.kom_changes.specs.Ends.{EndsAreMade}
use Rattle.kom_changes.specs.Sown.{MaySowFirst}
use Rattle.kom_doing.specs.Effects.{IsDoable, MayDestroy, first_of}
use Rattle.kom_doing.specs.Rooms.{HasRoomLeft, PutsHaveRoom}
use Rattle.kom_losses.specs.Owned.{WiresAreCounted}

module _ {A : Type 0} (known : ∥ A ∥₁) where
  pub never : (A → ⊥) → ⊥
  never f = let e : false ≡ true = said false known (λ a. absurd (f a)) in cc

  -- ---- room

  has_by : (n : ℕ) (o : Option (ℕ × ControlItem)) (v : Parts) → (A → HasRoomFor n o v) → HasRoomFor n o v
  has_by n None v f = tt
  has_by n (Some q) v f = at_most n (control_spare v q.0) known f

  puts_by : (n c : ℕ) (item : Item) (told : Option (ℕ × ℕ)) (es : List Effect) (v : Parts) → (A → PutsHaveRoom n c item told es v) → PutsHaveRoom n c item told es v
  puts_by n c item told [] v f = tt
  puts_by n c item told (e ∷ es) v f = (has_by n (put_in (state_of v) c item told e) v (λ a. (f a).0), puts_by n c item told es v (λ a. (f a).1))

  tops_by : (n : ℕ) (bs : List (List Seed)) (count : ℕ) (v : Parts) → (A → TopsHaveRoom n bs count v) → TopsHaveRoom n bs count v
  tops_by n [] count v f = tt
  tops_by n (b ∷ bs) count v f = (at_most (n + items_for count count b) (control_spare v count) known (λ a. (f a).0), tops_by n bs (count + length b) v (λ a. (f a).1))

  rooms_by : (seeds : List Seed) (count chans : ℕ) (v : Parts) → (A → HasRooms seeds count chans v) → HasRooms seeds count chans v
  rooms_by seeds count chans v f = record {
    instances = at_most (length seeds) (instance_spare v) known (λ a. (f a).instances);
    channels = at_most (length (links_of seeds)) (channel_spare v) known (λ a. (f a).channels);
    each = record {
      own = record {
        rows = λ d l h. said (has_row v d) known (λ a. (f a).each.own.rows d l h);
        controls = λ d. at_most (items_for d count seeds) (control_spare v d) known (λ a. (f a).each.own.controls d);
      };
      queues = λ x l h. said (has_queues v x) known (λ a. (f a).each.queues x l h);
    };
  }

  pub left_by : (c : ℕ) (item : Item) (told : Option (ℕ × ℕ)) (es : List Effect) (broods : List (List Seed)) (bound : ℕ) (v : Parts) → (A → HasRoomLeft c item told es broods bound v) → HasRoomLeft c item told es broods bound v
  left_by c item told es broods bound v f = record {
    broods_fit = rooms_by (all_of broods) (length (state_of v).nodes) (total v.numbers) v (λ a. (f a).broods_fit);
    few = at_most _ _ known (λ a. (f a).few);
    few_channels = below _ _ known (λ a. (f a).few_channels);
    marks = at_most _ _ known (λ a. (f a).marks);
    puts = puts_by (length es) c item told es v (λ a. (f a).puts);
    tops = tops_by (length es) broods (length (state_of v).nodes) v (λ a. (f a).tops);
  }

  -- ---- where an instance may be created

  no_nodes : (ns : List Node) → (A → ns ≡ []) → ns ≡ []
  no_nodes [] f = refl
  no_nodes (n ∷ ns) f = absurd (never (λ a. let e = f a in cc))

  no_child : (o : Option ℕ) → (A → o ≡ None) → o ≡ None
  no_child None f = refl
  no_child (Some d) f = absurd (never (λ a. let e = f a in cc))

  plant_by : (m : State) (place : Option (ℕ × ℕ)) → (A → MayPlant m place) → MayPlant m place
  plant_by m None f = no_nodes m.nodes f
  plant_by m (Some q) f = (said (m.living q.0) known (λ a. (f a).0), no_child (m.child q.0 q.1) (λ a. (f a).1))

  sow_by : (S : Declarations) (broods : List (List Seed)) (bound : ℕ) (v : Parts) → (A → MaySowFirst S broods bound v) → MaySowFirst S broods bound v
  sow_by S [] bound v f = absurd (never (λ a. let e = (f a).first_is in cc))
  sow_by S (b ∷ bs) bound v f =
      let same : (a : A) → (f a).brood ≡ b = λ a. ap first_of (sym (f a).first_is) in
      record {
        brood = b;
        rest = bs;
        first_is = refl;
        may = λ before s after k e sown. plant_by k s.place (λ a. (f a).may before s after k (same a ∙ e) sown);
        few = at_most _ _ known (λ a. let x = (f a).few in let y = ap length (same a) in omega (arith, x, y));
        few_channels = below _ _ known (λ a. let x = (f a).few_channels in let y = ap (λ l. length (links_of l)) (same a) in omega (arith, x, y));
        room = rooms_by b (length (state_of v).nodes) (total v.numbers) v (λ a. subst (λ l. HasRooms l (length (state_of v).nodes) (total v.numbers) v) (same a) (f a).room);
        marks = at_most _ _ known (λ a. let x = (f a).marks in let y = ap length (same a) in omega (arith, x, y));
      }

  -- ---- what a Destroy asks

  module _ (v : Parts) (h : HoldsTogether v) (d e : ℕ) (f : A → (e ≡ d) ⊎ ((s : ℕ) × ((state_of v).child d s ≡ Some e))) where
    seat : (line : List (ℕ × ℕ)) → ancestry_at (state_of v) e ≡ line → (e == d) ≡ false → (s : ℕ) × ((state_of v).child d s ≡ Some e)
    seat [] is apart = absurd (never (λ a. elim (f a) [
      | inl z ↦ (let y = eq-eqb e d z in cc (y, apart))
      | inr z ↦ (let o = (h.occupant d z.0 e z.1).1 in let y = sym is ∙ o.1 in cc)
    ]))
    seat (q ∷ line) is apart = (
      q.1,
      ∥∥₁_elim known (Coded-set (coded_option coded_ℕ) _ _) (λ a. elim (f a) [
        | inl z ↦ absurd (let y = eq-eqb e d z in cc (y, apart))
        | inr z ↦ (
            let o = (h.occupant d z.0 e z.1).1 in
            let y : ◌≡◌ {A = List (ℕ × ℕ)} (q ∷ line) ((d, z.0) ∷ o.0) = sym is ∙ o.1 in
            let s : q.1 ≡ z.0 = ap {A = List (ℕ × ℕ)} (λ l. option_map_or (λ (z : ℕ × ℕ). z.1) (first l) 0) y in
            ap ((state_of v).child d) s ∙ z.1)
      ]),
    )

    owner : (e ≡ d) ⊎ ((s : ℕ) × ((state_of v).child d s ≡ Some e))
    owner = go (e == d) refl
      where
        go : (b : Bool) → (e == d) ≡ b → (e ≡ d) ⊎ ((s : ℕ) × ((state_of v).child d s ≡ Some e))
        go true t = inl (eqb-true e d t)
        go false t = inr (seat (ancestry_at (state_of v) e) refl t)

  destroy_by : (v : Parts) (c : ℕ) → HoldsTogether v → (A → MayDestroy v c) → MayDestroy v c
  destroy_by v c h f = record {
    ends = λ x d k e half w apart at. owner v h d half.comp (λ a. (f a).ends x d k e half w apart at);
    children = λ d s e b apart body at. (
      below _ _ known (λ a. ((f a).children d s e b apart body at).0),
      below _ _ known (λ a. ((f a).children d s e b apart body at).1),
    );
  }

  -- ---- the next effect

  pub doable_by : (S : Declarations) (c : ℕ) (item : Item) (told : Option (ℕ × ℕ)) (e : Effect) (broods : List (List Seed)) (bound : ℕ) (v : Parts) → HoldsTogether v
      → (A → IsDoable S c item told e broods bound v) → IsDoable S c item told e broods bound v
  doable_by S c item told (effect.Hold k) broods bound v h f = record { living = said _ known (λ a. (f a).living); declared = below _ _ known (λ a. (f a).declared) }
  doable_by S c item told (effect.Resume k) broods bound v h f = record { living = said _ known (λ a. (f a).living); declared = below _ _ known (λ a. (f a).declared) }
  doable_by S c item told (effect.Unplug k d) broods bound v h f = record {
    channel = record { living = said _ known (λ a. (f a).channel.living); declared = below _ _ known (λ a. (f a).channel.declared) };
    held = λ y w. said _ known (λ a. (f a).held y w);
  }
  doable_by S c item told (effect.Plug k d p) broods bound v h f = record {
    channel = record {
      channel = record { living = said _ known (λ a. (f a).channel.channel.living); declared = below _ _ known (λ a. (f a).channel.channel.declared) };
      held = λ y w. said _ known (λ a. (f a).channel.held y w);
    };
    half = said _ known (λ a. (f a).half);
  }
  doable_by S c item told (effect.Create slot kind birth) broods bound v h f = sow_by S broods bound v f
  doable_by S c item told (effect.Destroy slot) broods bound v h f = destroy_by v c h f
  doable_by S c item told (effect.Trigger p x) broods bound v h f = has_by 1 (put_in (state_of v) c item told (effect.Trigger p x)) v f
  doable_by S c item told (effect.Answer x) broods bound v h f = has_by 1 (put_in (state_of v) c item told (effect.Answer x)) v f
  doable_by S c item told (effect.Start s) broods bound v h f = has_by 1 (put_in (state_of v) c item told (effect.Start s)) v f
  doable_by S c item told (effect.Stop s) broods bound v h f = has_by 1 (put_in (state_of v) c item told (effect.Stop s)) v f
  doable_by S c item told (effect.Dump s) broods bound v h f = has_by 1 (put_in (state_of v) c item told (effect.Dump s)) v f
  doable_by S c item told effect.Escalate broods bound v h f = has_by 1 (put_in (state_of v) c item told effect.Escalate) v f

  pub ends_by : (m : State) → (A → EndsAreMade m) → EndsAreMade m
  ends_by m f x e half at = below half.comp (length m.nodes) known (λ a. f a x e half at)

  pub wires_by : (v : Parts) → (A → WiresAreCounted v) → WiresAreCounted v
  wires_by v f d b at = (same_number _ _ known (λ a. (f a d b at).0), at_most _ _ known (λ a. (f a d b at).1))

  pub there_by : (comings : List Coming) (m : State) → (A → AreThere comings m) → AreThere comings m
  there_by [] m f = tt
  there_by (q ∷ qs) m f = (said (is_some (m.queues q.chan q.dir)) known (λ a. (f a).0), there_by qs m (λ a. (f a).1))
