-- Each item that was taken fits its component, so each job in hand is well formed.
use Rattle.std.proofs.Common.{◌≡◌, ℕ, zero, suc, ◌≤◌, true, if◌then◌else◌, not, ◌&&◌, ◌==◌, refl, sym, ap, ◌∙◌, subst, List, [], ◌∷◌, length, Option, Some, None, ◌⊎◌, inl, inr, arith}
use Rattle.std.specs.Prelude.{drop, nat_lt, slice_get}
use Rattle.std.specs.Option.{option_map}
use Rattle.std.proofs.lemmas.Bool.{eqb-true}
use Rattle.std.proofs.lemmas.Option.{slice_get_within}
use Rattle.kom_base.specs.declared.numbers.Dir.{Dir}
use Rattle.kom_base.specs.declared.numbers.EntryNo.{EntryNo}
use Rattle.kom_base.specs.declared.numbers.Half.{Half}
use Rattle.kom_base.specs.declared.numbers.Side.{Side}
use Rattle.kom_base.specs.declared.values.Event.{Event}
use Rattle.kom_base.specs.Lists.{either, first, least}
use Rattle.kom_base.specs.Numbers.{is_earlier, opposite}
use Rattle.kom_lang.specs.Declarations.{Declarations, kind_of}
use Rattle.kom_lang.specs.declared.body.Body.{Body}
use Rattle.kom_system.specs.WellFormed.{IsDeclared}
use Rattle.kom_record.specs.declared.plan.Plan.{Plan}
use Rattle.kom_record.specs.declared.item.Back.{Back}
use Rattle.kom_record.specs.declared.item.Control.{Control as ControlItem}
use Rattle.kom_record.specs.declared.item.Control.TheVariants.{Init, Start, Stop, Fault, Dump, Dumped}
use Rattle.kom_record.specs.declared.item.Item.{Item}
use Rattle.kom_record.specs.declared.item.Item.TheVariants.{Control, Arrival}
use Rattle.kom_record.specs.declared.entry.Entry.{Entry}
use Rattle.kom_record.specs.declared.entry.Entry.TheVariants.{Took, Did, Moved}
use Rattle.kom_record.specs.Entries.{History, TakenJob, acts, acts_of, in_hand}
use Rattle.kom_record.specs.Instances.{Instance, born}
use Rattle.kom_record.specs.Bodies.{body_at}
use Rattle.kom_record.specs.Channels.{destination, held, is_living}
use Rattle.kom_record.specs.Controls.{control_got, control_put, control_waiting}
use Rattle.kom_record.specs.Legal.{IsLegal, MayTake}
use Rattle.kom_record.specs.Plans.{PlanFits, IsWellFormedJob, item_fits}
use Rattle.kom_record.specs.Queues.{waiting}
use Rattle.kom_record.specs.Ready.{arriving, candidate, candidates, directions, next, ready, runnable}
use Rattle.kom_laws.proofs.Members.{IsIn, there, least_in, made_by, Some-injective}
use Rattle.kom_laws.proofs.ListFacts.{got_at, in_cons}
use Rattle.kom_laws.proofs.ActLaws.{job_entry}
use Rattle.kom_laws.proofs.InstanceLaws.{alive_born, instance_stays}
use Rattle.kom_laws.proofs.NextItem.{from_control}
use Rattle.kom_agree.proofs.Born.{both, both_of}
use Rattle.kom_agree.proofs.Records.{body_good, good}
use Rattle.kom_agree.proofs.Trees.{height_some}
use Rattle.kom_typed.proofs.Inits.{init_fits, own_init}
use Rattle.kom_typed.proofs.Ends.{at_port, bound_of, chosen_true, mapped_of}
use Rattle.kom_typed.proofs.Events.{entry_in, first_in, later_did, later_moved, taken_typed, typed}

drop_in : {X : Type 0} (n : ℕ) (xs : List X) (x : X) → IsIn x (drop n xs) → IsIn x xs
drop_in zero xs x h = h
drop_in (suc n) [] x h = elim h [ ]
drop_in (suc n) (y ∷ xs) x h = there (drop_in n xs x h)

-- where an arrival comes from, and the port at which it arrives
abbrev way_of : ℕ × Dir → Item → ℕ × Dir
way_of w (Control k) = w
way_of w (Arrival x d n port side event back) = (x, d)

abbrev port_of : ℕ → Item → ℕ
port_of p (Control k) = p
port_of p (Arrival x d n port side event back) = port

abbrev side_of : Side → Item → Side
side_of s (Control k) = s
side_of s (Arrival x d n port side event back) = side

module _ (S : Declarations) where
  -- the half at which the next arrival arrives
  pub half_of_next : (P : History) (c x : ℕ) (d : Dir) (n : EntryNo) (port : ℕ) (side : Side) (event : Event) (back : Back) → next S P c ≡ Some (Arrival x d n port side event back)
      → (h : Half) × (destination S (acts P) x d ≡ Some h) × (h.comp ≡ c) × (h.port ≡ port) × (h.side ≡ side)
  unfolding next candidate candidates
  half_of_next P c x d n port side event back e = go (from_control S P c (first (control_waiting S P c)) (option_map (λ a. a.item) (least (λ a b. is_earlier a.no b.no) (candidates S P c))) (Arrival x d n port side event back) e)
    where
      go : ((k : ControlItem) × (Arrival x d n port side event back ≡ Control k)) ⊎ (option_map (λ a. a.item) (least (λ a b. is_earlier a.no b.no) (candidates S P c)) ≡ Some (Arrival x d n port side event back))
          → (h : Half) × (destination S (acts P) x d ≡ Some h) × (h.comp ≡ c) × (h.port ≡ port) × (h.side ≡ side)
      go (inl q) = absurd (let f = q.1 in cc)
      go (inr q) =
          let m = mapped_of (λ a. a.item) (least (λ a b. is_earlier a.no b.no) (candidates S P c)) (Arrival x d n port side event back) q in
          let f = made_by (candidate S P c) (directions S P) m.0 (least_in (λ a b. is_earlier a.no b.no) (candidates S P c) m.0 m.1) in
          let w = f.0 in
          let b = bound_of (λ h. if h.comp == c && is_living S (acts P) w.0 && not (held S (acts P) w.0) then option_map (arriving S w.0 w.1 h) (first (waiting S P w.0 w.1)) else None) (destination S (acts P) w.0 w.1) m.0 f.1 in
          let t = chosen_true (b.0.comp == c && is_living S (acts P) w.0 && not (held S (acts P) w.0)) (option_map (arriving S w.0 w.1 b.0) (first (waiting S P w.0 w.1))) m.0 b.2 in
          let p = mapped_of (arriving S w.0 w.1 b.0) (first (waiting S P w.0 w.1)) m.0 t.1 in
          let same : (arriving S w.0 w.1 b.0 p.0).item ≡ Arrival x d n port side event back = ap (λ a. a.item) p.2 ∙ m.2 in
          let way : w ≡ (x, d) = ap (way_of (x, d)) same in
          let at : b.0.port ≡ port = ap (port_of port) same in
          let on : b.0.side ≡ side = ap (side_of side) same in (
            b.0,
            subst (λ v. destination S (acts P) v.0 v.1 ≡ Some b.0) way b.1,
            eqb-true b.0.comp c (both _ _ (both _ _ t.0).0).0,
            at,
            on,
          )

  module _ (Z : Plan) (D : IsDeclared S) (F : PlanFits S Z) where
    -- a control item that a component takes fits it
    control_fits : (P : History) (c : ℕ) (i : Instance) (k : ControlItem) → IsLegal S Z P → slice_get (born S (acts P)) c ≡ Some i → IsIn k (control_put S P c) → item_fits S i.kind (Control k) ≡ true
    control_fits P c i (Init vs) l e h =
        let o = own_init S P c vs h in
        let same : o.0 ≡ i = Some-injective (sym o.1 ∙ e) in
        let fits = (good S Z D P l c o.0 o.1).instance in
        subst (λ z. item_fits S z.kind (Control (Init vs)) ≡ true) same (init_fits S o.0 vs fits o.2)
    control_fits P c i Start l e h = refl
    control_fits P c i Stop l e h = refl
    control_fits P c i Dump l e h = refl
    control_fits P c i (Fault s n) l e h = refl
    control_fits P c i (Dumped s vs) l e h = refl

    -- a control item that comes next is one that was put
    next_control : (P : History) (c : ℕ) (k : ControlItem) → next S P c ≡ Some (Control k) → IsIn k (control_put S P c)
    unfolding next control_waiting candidate candidates
    next_control P c k q = go (first (control_waiting S P c)) refl q
      where
        not_arrived : option_map (λ a. a.item) (least (λ a b. is_earlier a.no b.no) (candidates S P c)) ≡ Some (Control k) → ⊥
        not_arrived q =
            let m = mapped_of (λ a. a.item) (least (λ a b. is_earlier a.no b.no) (candidates S P c)) (Control k) q in
            let f = made_by (candidate S P c) (directions S P) m.0 (least_in (λ a b. is_earlier a.no b.no) (candidates S P c) m.0 m.1) in
            let w = f.0 in
            let b = bound_of (λ h. if h.comp == c && is_living S (acts P) w.0 && not (held S (acts P) w.0) then option_map (arriving S w.0 w.1 h) (first (waiting S P w.0 w.1)) else None) (destination S (acts P) w.0 w.1) m.0 f.1 in
            let t = chosen_true (b.0.comp == c && is_living S (acts P) w.0 && not (held S (acts P) w.0)) (option_map (arriving S w.0 w.1 b.0) (first (waiting S P w.0 w.1))) m.0 b.2 in
            let p = mapped_of (arriving S w.0 w.1 b.0) (first (waiting S P w.0 w.1)) m.0 t.1 in
            let same : (arriving S w.0 w.1 b.0 p.0).item ≡ Control k = ap (λ a. a.item) p.2 ∙ m.2 in
            cc

        go : (o : Option ControlItem) → first (control_waiting S P c) ≡ o → either (option_map Control o) (option_map (λ a. a.item) (least (λ a b. is_earlier a.no b.no) (candidates S P c))) ≡ Some (Control k) → IsIn k (control_put S P c)
        go (Some j) e q =
            let same : j ≡ k = cc in
            drop_in (length (control_got S P c)) (control_put S P c) k (subst (λ z. IsIn z (control_waiting S P c)) same (first_in (control_waiting S P c) j e))
        go None e q = absurd (not_arrived q)

    next_fits : (P : History) (c : ℕ) (i : Instance) (item : Item) → IsLegal S Z P → slice_get (born S (acts P)) c ≡ Some i → next S P c ≡ Some item → item_fits S i.kind item ≡ true
    unfolding destination
    next_fits P c i (Control k) l e q = control_fits P c i k l e (next_control P c k q)
    next_fits P c i (Arrival x d n port side event back) l e q =
        let h = half_of_next P c x d n port side event back q in
        let p = at_port S Z D P l x (opposite d) h.0 h.1 in
        let same : p.instance ≡ i = Some-injective (sym p.at ∙ ap (slice_get (born S (acts P))) h.2 ∙ e) in
        both_of _ _
        (subst (λ z. nat_lt port (length (kind_of S z.kind).ports) ≡ true) same (subst (λ z. nat_lt z (length (kind_of S p.instance.kind).ports) ≡ true) h.3 p.port))
        (taken_typed S P c (Arrival x d n port side event back) (typed S Z D F P l) q)

    -- each item that was taken fits the instance that took it
    IsFitting : History → ℕ → Item → Type 0
    IsFitting P c item = (i : Instance) × (slice_get (born S (acts P)) c ≡ Some i) × (item_fits S i.kind item ≡ true)

    grows : (P : History) (e : Entry) (c : ℕ) (item : Item) → IsFitting P c item → IsFitting (e ∷ P) c item
    unfolding acts IsFitting
    grows P e c item r = (r.0, instance_stays S (acts_of P e) (acts P) c (slice_get_within (born S (acts P)) c r.0 r.1) ∙ r.1, r.2)

    took_fits : (P : History) (w c : ℕ) (item : Item) → IsLegal S Z P → MayTake S Z P w c item → IsFitting P c item
    unfolding ready runnable IsFitting
    took_fits P w c item l t =
        let a = (both _ _ (both _ _ (both _ _ t.ready).0).0).0 in
        let g = got_at (born S (acts P)) c (alive_born S (acts P) c a) in
        (g.0, g.1, next_fits P c g.0 item l g.1 t.next)

    items_fit : (P : History) (w c : ℕ) (item : Item) → IsLegal S Z P → IsIn (Took w c item) P → IsFitting P c item
    unfolding IsLegal
    items_fit [] w c item l m = elim m [ ]
    items_fit (Took v e i ∷ P) w c item l m = elim (in_cons (Took w c item) (Took v e i) P m) [
      | inl q ↦
          let same_c : c ≡ e = cc in
          let same_item : item ≡ i = cc in
          grows P (Took v e i) c item (subst (λ z. IsFitting P z item) (sym same_c) (subst (IsFitting P e) (sym same_item) (took_fits P v e i l.0 l.1)))
      | inr k ↦ grows P (Took v e i) c item (items_fit P w c item l.0 k)
    ]
    items_fit (Did v d took o to places ∷ P) w c item l m = grows P (Did v d took o to places) c item (items_fit P w c item l.0 (later_did S P w c v d took o to places item m))
    items_fit (Moved v t rs ∷ P) w c item l m = grows P (Moved v t rs) c item (items_fit P w c item l.0 (later_moved S P w c v t rs item m))

    pub job_fits : (P : History) (job : TakenJob) (b : Body) → IsLegal S Z P → IsIn job (in_hand P) → body_at S P job.c ≡ Some b → IsWellFormedJob S b job.item
    unfolding IsFitting
    job_fits P job b l m e =
        let f = items_fit P job.w job.c job.item l (entry_in P job.took (Took job.w job.c job.item) (job_entry P job m).1) in
        let g = body_good S Z D P job.c b l e in
        let same : f.0 ≡ g.0 = Some-injective (sym f.1 ∙ g.1) in
        let kind : f.0.kind ≡ b.kind = ap (λ i. i.kind) same ∙ sym g.2.kind in
        let fits = g.2.fits in
        let tall = height_some S b.kind fits.kind in
        let deep = fits.depth in
        let low : b.depth ≤ 16 = omega (arith, tall, deep) in
        record {
          kind = fits.kind;
          vars = fits.vars;
          slots = fits.slots;
          wires = fits.wires;
          subs = fits.subs;
          children = fits.children;
          places = fits.places;
          some_depth = fits.some_depth;
          depth = low;
          fitting = subst (λ k. item_fits S k job.item ≡ true) kind f.2;
        }
