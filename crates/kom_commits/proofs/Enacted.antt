-- All of a handling is done, and its body is in force.
use Rattle.std.proofs.Common.{◌≡◌, ℕ, true, sym, ap, ◌∙◌, subst, List, [], ◌∷◌, ◌++◌, map, Option, Some}
use Rattle.std.specs.Prelude.{reverse}
use Rattle.std.proofs.lemmas.List.{append-nil, append_assoc, reverse-append}
use Rattle.kom_lang.specs.Declarations.{Declarations}
use Rattle.kom_lang.specs.declared.body.Body.{Body}
use Rattle.kom_lang.specs.declared.body.Effect.{Effect}
use Rattle.kom_record.specs.declared.item.Item.{Item}
use Rattle.kom_record.specs.declared.entry.Outcome.TheVariants as outcome
use Rattle.kom_record.specs.Entries.{Act, History, acts, acts_for}
use Rattle.kom_record.specs.Bodies.{catches}
use Rattle.kom_record.specs.Instances.{alive}
use Rattle.kom_record.specs.Legal.{IsLegal}
use Rattle.kom_record.specs.Ready.{queued}
use Rattle.kom_laws.proofs.InstanceLaws.{alive_born}
use Rattle.kom_numbers.specs.Numbering.{total}
use Rattle.kom_lives.specs.Laws.{HandlersLive}
use Rattle.kom_lives.specs.Living.{StaysAlive}
use Rattle.kom_entering.specs.declared.lists.Entering.{Entering}
use Rattle.kom_refine.specs.Points.{StandsAt, act_of, before_effects_of, start_of, with_effects}
use Rattle.kom_refine.specs.Steps.{IsEnded}
use Rattle.kom_refine.specs.Within.{HandlingsAreWithin, HandlingsEnd}
use Rattle.kom_state.specs.Laws.{ChannelsAreNumbered, NumbersStay}
use Rattle.kom_state.specs.Parts.{Parts, IsOf, state_of}
use Rattle.kom_state.specs.Rooms.{KeepsRoom}
use Rattle.kom_births.specs.declared.seed.Seed.{Seed}
use Rattle.kom_doing.specs.Laws.{Ending, IsAmid}
use Rattle.kom_waits.specs.Laws.{QueuedIsBelow, SameQueuesCount}
use Rattle.kom_waits.specs.Waits.{waits_below}
use Rattle.kom_commits.specs.Acting.{IsEnacted, StartsAt, entry_of}
use Rattle.kom_commits.specs.Counted.{waits_in_all}
use Rattle.kom_commits.proofs.Beginning.{stays_first}

first_act : (c : ℕ) (item : Item) (done : List Act) (e : Effect) (es : List Effect) → acts_for c (Some item) es ++ act_of c item e ∷ done ≡ acts_for c (Some item) (e ∷ es) ++ done
first_act c item done e es =
    sym (append_assoc (reverse (map (act_of c item) es)) (act_of c item e ∷ []) done)
    ∙ ap (λ r. r ++ done) (sym (reverse-append (act_of c item e ∷ []) (map (act_of c item) es)))

stays_last : (S : Declarations) (done : List Act) (c : ℕ) (item : Item) (es : List Effect) → StaysAlive S done c item es → alive S (acts_for c (Some item) es ++ done) c ≡ true
stays_last S done c item [] h = h
stays_last S done c item (e ∷ es) h = ap (λ a. alive S a c) (sym (first_act c item done e es)) ∙ stays_last S (act_of c item e ∷ done) c item es h.1

module _ (S : Declarations) (c : ℕ) (item : Item) (told : Option (ℕ × ℕ)) (body : Body) (es : List Effect) (entering : Entering) (broods left : List (List Seed)) (v k : Parts) (x : Ending)
    (s : StartsAt S c item told body es entering broods v x) (a : IsAmid S c item told es [] x left k) where
  abbrev P : History
  P = x.before

  abbrev Q : History
  Q = entry_of c es x ∷ P

  legal : IsLegal S x.plan P
  unfolding IsLegal
  legal = s.legal.0

  stays : HandlersLive → StaysAlive S (acts P) c item es
  stays law = law S x.plan P x.worker c x.took x.body es x.to x.places item s.legal

  acted : StandsAt S (with_effects S (before_effects_of S P x.worker c x.took x.body es x.to x.places) c item es) (state_of k)
  acted = subst (λ l. StandsAt S (with_effects S (before_effects_of S P x.worker c x.took x.body l x.to x.places) c item es) (state_of k)) (append-nil es) a.stands

  pub lives_on : HandlersLive → HandlingsAreWithin → (state_of k).living c ≡ true
  lives_on law within =
      let w = within S x.plan P x.worker c x.took item x.body es x.to x.places es legal (alive_born S (acts P) c (stays_first S (acts P) c item es (stays law))) in
      acted.living c ∙ ap (λ l. alive S l c) w.acts_are ∙ stays_last S (acts P) c item es (stays law)

  module _ (w : Parts) (ended : IsEnded (catches S) c (outcome.Done body es) (state_of k) (state_of w)) (room : KeepsRoom k w) where
    numbers : NumbersStay → IsOf S w
    numbers stay = stay S k w a.numbers ended.tree.nodes (ap (λ n. n.outs) room.numbers) (ap (λ n. n.counts) room.numbers)

    pub enacted : NumbersStay → IsEnacted S c item body es x w
    enacted stay = record { between = state_of k; acted = acted; ended = ended; numbers = numbers stay }

    stands : HandlingsEnd → StandsAt S (start_of Q) (state_of w)
    stands law =
        law S x.plan P x.worker c x.took item x.body es x.to x.places (state_of k) (state_of w) s.legal s.taken
        (subst (λ (b : Body). IsEnded (catches S) c (outcome.Done b es) (state_of k) (state_of w)) (sym s.body_is) ended) acted

    pub queued_now : HandlingsEnd → NumbersStay → ChannelsAreNumbered → QueuedIsBelow → SameQueuesCount → (n : ℕ) → n ≡ waits_in_all k → n ≡ queued S Q
    queued_now law stay numbered below quiet n e =
        let there = stands law in
        let many = (numbered S (acts Q) w (numbers stay) there.nodes).counted in
        e ∙ sym (quiet (state_of k) (state_of w) (total k.numbers) ended.queues)
        ∙ ap (waits_below (state_of w)) (ap total (sym room.numbers) ∙ sym many)
        ∙ sym (below S Q (state_of w) there)
