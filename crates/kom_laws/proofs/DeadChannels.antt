-- After a channel is dead nothing enters it and nothing is taken from it.
use Rattle.std.proofs.Common.{◌≡◌, ℕ, ◌<◌, Bool, true, false, cond, not, ◌&&◌, ◌==◌, refl, sym, ap, ◌∙◌, subst, List, [], ◌∷◌, ◌++◌, length, Option, Some, None, ◌⊎◌, inl, inr, arith, if◌then◌else◌}
use Rattle.std.specs.Prelude.{slice_get}
use Rattle.std.specs.Option.{option_map_or, option_map}
use Rattle.std.proofs.lemmas.List.{append-nil, length-append}
use Rattle.kom_base.specs.declared.numbers.Dir.{Dir}
use Rattle.kom_base.specs.declared.numbers.Side.{Side}
use Rattle.kom_base.specs.declared.numbers.EntryNo.{EntryNo}
use Rattle.kom_base.specs.declared.values.Event.{Event}
use Rattle.kom_base.specs.Lists.{first, least}
use Rattle.kom_base.specs.Numbers.{is_earlier, same_dir}
use Rattle.kom_lang.specs.Declarations.{Declarations}
use Rattle.kom_record.specs.declared.plan.Plan.{Plan}
use Rattle.kom_record.specs.declared.item.Back.{Back}
use Rattle.kom_record.specs.declared.item.Item.TheVariants.{Control, Arrival}
use Rattle.kom_record.specs.declared.entry.Entry.{Entry}
use Rattle.kom_record.specs.declared.entry.Entry.TheVariants.{Took, Did, Moved}
use Rattle.kom_record.specs.Entries.{History, acts, acts_of, Act}
use Rattle.kom_record.specs.Channels.{Channel, Environment, Own, channels, channel_alive, is_living, destination, held}
use Rattle.kom_record.specs.Queues.{Envelope, entering, entered, taken, taken_from}
use Rattle.kom_record.specs.Handed.{IsBefore}
use Rattle.kom_record.specs.Legal.{IsLegal, IsAllowed}
use Rattle.kom_record.specs.declared.item.Control.{Control as ControlItem}
use Rattle.kom_record.specs.Controls.{control_waiting}
use Rattle.kom_record.specs.Ready.{Candidate, arriving, candidate, candidates, directions, next}
use Rattle.kom_laws.proofs.Members.{made_by, least_in}
use Rattle.kom_laws.proofs.NextItem.{bound, mapped, way_of, from_control, candidate_gives}
use Rattle.kom_laws.proofs.InOrder.{same_way}
use Rattle.kom_laws.proofs.QueueLaws.{entering_dead, entering_took}
use Rattle.kom_laws.proofs.InstanceLaws.{alive_all_before}
use Rattle.kom_laws.proofs.ChannelLaws.{channels_grow, channel_stays, owner_born}

pub and_first : (a b : Bool) → (a && b) ≡ true → a ≡ true
and_first true b e = refl
and_first false b e = absurd cc

and_second : (a b : Bool) → (a && b) ≡ true → b ≡ true
and_second true b e = e
and_second false b e = absurd cc

-- a choice that gives something was made by a test that holds
pub tested : {A : Type 0} (b : Bool) (o : Option A) (y : A) → cond b o None ≡ Some y → b ≡ true
tested true o y e = refl
tested false o y e = absurd cc

not_so : (b : Bool) → (b ≡ true → ⊥) → b ≡ false
not_so true h = absurd (h refl)
not_so false h = refl

module _ (S : Declarations) where
  candidate_lives : (P : History) (c : ℕ) (w : ℕ × Dir) (a : Candidate) → candidate S P c w ≡ Some a → is_living S (acts P) w.0 ≡ true
  unfolding candidate
  candidate_lives P c w a e =
      let b = bound _ (destination S (acts P) w.0 w.1) a e in
      let t = tested (b.0.comp == c && is_living S (acts P) w.0 && not (held S (acts P) w.0)) _ a b.1 in
      and_second (b.0.comp == c) _ (and_first _ _ t)

  -- what a component takes next from a channel comes from one that is alive
  pub next_lives : (P : History) (c x : ℕ) (d : Dir) (n : EntryNo) (port : ℕ) (side : Side) (event : Event) (back : Back)
      → next S P c ≡ Some (Arrival x d n port side event back) → is_living S (acts P) x ≡ true
  unfolding next candidates
  next_lives P c x d n port side event back e = go (from_control S P c (first (control_waiting S P c)) _ _ e)
    where
      go : ((k : ControlItem) × (Arrival x d n port side event back ≡ Control k)) ⊎ (option_map (λ a. a.item) (least (λ a b. is_earlier a.no b.no) (candidates S P c)) ≡ Some (Arrival x d n port side event back)) → is_living S (acts P) x ≡ true
      go (inl q) = absurd (let f = q.1 in cc)
      go (inr q) =
          let m = mapped (λ a. a.item) (least (λ a b. is_earlier a.no b.no) (candidates S P c)) _ q in
          let f = made_by (candidate S P c) (directions S P) m.0 (least_in _ _ _ m.1) in
          let g = candidate_gives S P c f.0 m.0 f.1 in
          let same : (arriving S f.0.0 f.0.1 g.0 g.1).item ≡ Arrival x d n port side event back = ap (λ a. a.item) g.3 ∙ m.2 in
          let way : f.0 ≡ (x, d) = ap (way_of (x, d)) same in
          subst (λ w. is_living S (acts P) w.0 ≡ true) way (candidate_lives P c f.0 m.0 f.1)

  -- a channel that is dead stays dead
  stays_dead : (mine done : List Act) (x : ℕ) → x < length (channels S done) → is_living S done x ≡ false → is_living S (mine ++ done) x ≡ false
  unfolding is_living
  stays_dead mine done x h e = ap (λ o. option_map_or (channel_alive S (mine ++ done)) o false) (channel_stays S mine done x h) ∙ by_channel (slice_get (channels S done) x) refl
    where
      by_channel : (o : Option Channel) → slice_get (channels S done) x ≡ o → option_map_or (channel_alive S (mine ++ done)) o false ≡ false
      by_channel None f = refl
      by_channel (Some (Environment q)) f = absurd (let g : true ≡ false = sym (ap (λ o. option_map_or (channel_alive S done) o false) f) ∙ e in cc)
      by_channel (Some (Own c k)) f =
          not_so _ (λ t. let g : true ≡ false = sym (alive_all_before S mine done c (owner_born S done x c k f) t) ∙ sym (ap (λ o. option_map_or (channel_alive S done) o false) f) ∙ e in cc)

  module _ (Z : Plan) (x : ℕ) (d : Dir) where
    pub entered_more : (e : Entry) (P : History) → entered S (e ∷ P) x d ≡ entered S P x d ++ entering S P e x d
    unfolding entered
    entered_more (Took w c item) P = sym (ap (λ l. entered S P x d ++ l) (entering_took S x d P w c item) ∙ append-nil _)
    entered_more (Did w c took o to places) P = refl
    entered_more (Moved w t released) P = refl

    taken_here : (P : History) (c y : ℕ) (f : Dir) (n : EntryNo) (port : ℕ) (side : Side) (event : Event) (back : Back) (p : Envelope) (b : Bool) → (y == x && same_dir f d) ≡ b
        → next S P c ≡ Some (Arrival y f n port side event back) → is_living S (acts P) x ≡ false → (if b then p ∷ [] else []) ≡ []
    taken_here P c y f n port side event back p true t e h =
        let w = same_way y x f d t in
        let l = next_lives P c y f n port side event back e in
        absurd (let q : true ≡ false = sym (subst (λ w. is_living S (acts P) w.0 ≡ true) w l) ∙ h in cc)
    taken_here P c y f n port side event back p false t e h = refl

    taken_dead : (P : History) (e : Entry) → IsAllowed S Z P e → is_living S (acts P) x ≡ false → taken S e x d ≡ []
    unfolding taken
    taken_dead P (Took w c (Control k)) a h = refl
    taken_dead P (Took w c (Arrival y f n port side event back)) a h = taken_here P c y f n port side event back (record { no = n; event = event; back = back }) _ refl a.next h
    taken_dead P (Did w c took o to places) a h = refl
    taken_dead P (Moved w t released) a h = refl

    pub record Rests (P R : History) : Type 0 where
      pub entered : entered S R x d ≡ entered S P x d
      pub taken : taken_from S R x d ≡ taken_from S P x d
      pub there : x < length (channels S (acts R))
      pub dead : is_living S (acts R) x ≡ false

    one_more : (P Q : History) (e : Entry) → IsAllowed S Z Q e → Rests P Q → Rests P (e ∷ Q)
    unfolding acts taken_from
    one_more P Q e a r = record {
      entered = entered_more e Q ∙ ap (λ l. entered S Q x d ++ l) (entering_dead S x d Q e r.dead) ∙ append-nil _ ∙ r.entered;
      taken = ap (λ l. taken_from S Q x d ++ l) (taken_dead Q e a r.dead) ∙ append-nil _ ∙ r.taken;
      there = (let g = channels_grow S (acts_of Q e) (acts Q) in subst (λ l. x < length l) (sym g.1) (omega (arith, length-append (channels S (acts Q)) g.0, r.there)));
      dead = stays_dead (acts_of Q e) (acts Q) x r.there r.dead;
    }

    all_more : (P : History) (more : List Entry) → IsLegal S Z (more ++ P) → x < length (channels S (acts P)) → is_living S (acts P) x ≡ false → Rests P (more ++ P)
    unfolding IsLegal
    all_more P [] l h e = record { entered = refl; taken = refl; there = h; dead = e }
    all_more P (f ∷ more) l h e = one_more P (more ++ P) f l.1 (all_more P more l.0 h e)

    pub dead_rests : (R P : History) → IsLegal S Z R → IsBefore P R → x < length (channels S (acts P)) → is_living S (acts P) x ≡ false
        → (entered S R x d ≡ entered S P x d) × (taken_from S R x d ≡ taken_from S P x d)
    dead_rests R P l b h e =
        let r = all_more P b.0 (subst (IsLegal S Z) b.1 l) h e in
        subst (λ Q. (entered S Q x d ≡ entered S P x d) × (taken_from S Q x d ≡ taken_from S P x d)) (sym b.1) (r.entered, r.taken)
