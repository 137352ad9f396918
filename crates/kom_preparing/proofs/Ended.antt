-- What is known of a handling whose job is in hand.
use Rattle.std.proofs.Common.{◌≡◌, ◌==◌, ℕ, ◌+◌, ◌<◌, ◌≤◌, ◌^◌, true, refl, sym, ap, ◌∙◌, subst, List, [], ◌∷◌, length, Option, Some, None, arith}
use Rattle.std.proofs.lemmas.Bool.{eqb-true, leb-true}
use Rattle.std.proofs.lemmas.List.{length-map}
use Rattle.std.specs.Prelude.{nat_le}
use Rattle.kom_lang.specs.Declarations.{Declarations, kind_of}
use Rattle.kom_lang.specs.declared.body.Body.{Body}
use Rattle.kom_lang.specs.declared.body.Effect.{Effect}
use Rattle.kom_system.specs.WellFormed.{IsDeclared}
use Rattle.kom_system.specs.Fitting.{has_at_most, numbers_fit}
use Rattle.kom_record.specs.declared.plan.Plan.{Plan}
use Rattle.kom_record.specs.declared.item.Item.{Item}
use Rattle.kom_record.specs.declared.entry.Outcome.{Outcome}
use Rattle.kom_record.specs.declared.entry.Outcome.TheVariants as outcome
use Rattle.kom_record.specs.declared.entry.Entry.TheVariants.{Did}
use Rattle.kom_record.specs.Answers.{job_of}
use Rattle.kom_record.specs.Bodies.{body_at}
use Rattle.kom_record.specs.Channels.{channels}
use Rattle.kom_record.specs.Controls.{raised, told}
use Rattle.kom_record.specs.Entries.{History, acts, in_hand, item_at}
use Rattle.kom_record.specs.Instances.{alive, born}
use Rattle.kom_record.specs.Legal.{IsLegal, MayDo, MayEnd}
use Rattle.kom_record.specs.Offers.{offers}
use Rattle.kom_record.specs.Queues.{unreached}
use Rattle.kom_laws.proofs.ActLaws.{job_item}
use Rattle.kom_laws.proofs.Handlings.{found_in}
use Rattle.kom_laws.proofs.Members.{IsIn}
use Rattle.kom_agree.specs.Bodies.{BodyFits}
use Rattle.kom_agree.proofs.Records.{body_good, good, handled}
use Rattle.kom_lives.proofs.Lives.{both}
use Rattle.kom_limits.specs.Laws.{HasNumbers, NumbersAreEnough}
use Rattle.kom_numbers.specs.Numbering.{total}
use Rattle.kom_refine.specs.Points.{node_of}
use Rattle.kom_state.specs.Laws.{ChannelsAreNumbered}
use Rattle.kom_state.specs.Parts.{state_of}
use Rattle.kom_endings.proofs.Hands.{by_took}
use Rattle.kom_entering.specs.Standing.{StandsAfter}
use Rattle.kom_nursery.specs.Laws.{HandlingsArePrepared, IsPrepared}
use Rattle.kom_nursery.specs.Nurseries.{IsNext}
use Rattle.kom_coming.specs.Laws.{PlacesFit}
use Rattle.kom_turns.specs.declared.run.Run.{Run}
use Rattle.kom_turns.specs.Runs.{Stands, history_of, system_of}
use Rattle.kom_turns.proofs.Standing.{body_is as body_kept, few, is_made}
use Rattle.kom_preparing.specs.Preparing.{WasReacted}

-- a body that fits has few slots
few_slots : (S : Declarations) (b : Body) → IsDeclared S → BodyFits S b → length b.slots ≤ 256
few_slots S b D f =
    let kind = kind_of S b.kind in
    let fits = (both (has_at_most 16 64 32 64 64 kind) (numbers_fit S kind) (D.kinds b.kind f.kind).parts).0 in
    let vars = (both (nat_le (length kind.ports) 16) _ fits).1 in
    let slots = (both (nat_le (length kind.vars) 64) _ vars).1 in
    let count = leb-true (length kind.slots) 32 (both (nat_le (length kind.slots) 32) _ slots).0 in
    let same = f.slots in
    omega (arith, count, same)

module _ (w c took : ℕ) (item : Item) (body : Body) (effects : List Effect) (v : Run) (s : Stands v) (r : WasReacted w c took item body effects v) where
  abbrev S : Declarations
  S = system_of v

  abbrev Z : Plan
  Z = v.env.plan

  abbrev P : History
  P = history_of v

  abbrev o : Outcome
  o = outcome.Done body effects

  -- whom the entry tells, and its answers that reach nothing
  abbrev pub to : Option ℕ
  to = told S P (Did w c took o None []) c

  abbrev pub places : List ℕ
  places = unreached S P (Did w c took o None [])

  held : IsIn r.hand (in_hand P) × (r.hand.w == w) ≡ true
  unfolding job_of
  held = found_in (λ j. j.w == w) (in_hand P) r.hand r.reacted.found

  pub taken : item_at P took ≡ Some item
  taken = subst (λ t. item_at P t ≡ Some item) r.took_is (job_item P r.hand held.0 ∙ ap Some r.item_is)

  may : MayDo S Z P w c r.hand.took o (told S P (Did w c r.hand.took o None []) c) (unreached S P (Did w c r.hand.took o None []))
  unfolding MayEnd told raised unreached offers
  may = record {
    job = r.hand;
    body = r.old;
    in_hand = by_took P w r.hand r.reacted.found;
    worker = eqb-true r.hand.w w held.1;
    component = r.reacted.component;
    body_is = r.reacted.body_is;
    outcome = subst (λ t. MayEnd S Z t r.old r.hand.item o) (sym r.reacted.lives) r.reacted.reacts;
    told = refl;
    unreached = refl;
  }

  -- the job may end so
  pub legal : IsLegal S Z (Did w c took o to places ∷ P)
  unfolding IsLegal
  legal = subst (λ t. IsLegal S Z (Did w c t o (told S P (Did w c t o None []) c) (unreached S P (Did w c t o None [])) ∷ P)) r.took_is (s.legal, may)

  pub made : c < length (state_of v.state).nodes
  made = is_made S P (state_of v.state) s.state c r.reacted.lives

  pub living : (state_of v.state).living c ≡ true
  living = s.state.living c ∙ r.reacted.lives

  pub body_there : (state_of v.state).bodies c ≡ Some r.old
  body_there = body_kept S P (state_of v.state) s.state c r.reacted.lives ∙ r.reacted.body_is

  pub short : length P < 2 ^ 32
  short = few S Z P v.counts s.fits s.counts_are

  -- the instances that were created
  pub as_many : length (state_of v.state).nodes ≡ length (born S (acts P))
  as_many = ap length s.state.nodes ∙ length-map (born S (acts P)) node_of

  module _ (D : IsDeclared S) where
    pub after : StandsAfter S P v.state
    after = record { plan = Z; declared = D; legal = s.legal; state = s.state; numbers = s.numbers }

    pub fits : BodyFits S body
    unfolding IsLegal
    fits =
        let b = body_good S Z D P c r.old s.legal r.reacted.body_is in
        (handled S Z D P w c r.hand.took body effects _ _ (good S Z D P s.legal) may b.0 b.1).fits

    pub slots : length body.slots ≤ 256
    slots = few_slots S body D fits

    pub small : PlacesFit → length effects + 2 < 2 ^ 32
    small law = (law S Z P w c took item body effects to places s.fits legal taken).0

    pub prepared : HandlingsArePrepared → IsPrepared S P c r.old effects
    prepared law = law S Z P w c took item body r.old effects to places D s.fits legal taken r.reacted.body_is

    -- where its body is as deep as the one before, and the instances are counted
    pub next : HandlingsArePrepared → IsNext S (acts P) c r.old.depth (length (state_of v.state).nodes)
    next law = subst (λ n. IsNext S (acts P) c r.old.depth n) (sym as_many) (prepared law).next

    pub few_instances : HandlingsArePrepared → length (state_of v.state).nodes ≤ 3200001000
    few_instances law = let a = as_many in let b = (prepared law).number in omega (arith, a, b)

    pub numbers : NumbersAreEnough → HasNumbers S (acts P)
    numbers law = law S Z P [] D s.fits s.legal (omega arith)

    pub few_channels : NumbersAreEnough → ChannelsAreNumbered → total v.state.numbers ≤ 3200001016
    few_channels enough law =
        let a = (numbers enough).channels_few in
        let b = (law S (acts P) v.state s.numbers s.state.nodes).counted in
        omega (arith, a, b)
