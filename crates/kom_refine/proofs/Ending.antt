-- The end of a handling: the body that its outcome leaves, and the record with the entry.
use Rattle.std.proofs.Common.{◌≡◌, ℕ, ◌+◌, Bool, true, false, ◌==◌, refl, sym, ap, ◌∙◌, List, [], ◌∷◌, ◌++◌, length, map, Option, Some, None, if◌then◌else◌}
use Rattle.std.specs.Prelude.{slice_get}
use Rattle.std.specs.List.{filter_map, cons_option}
use Rattle.std.specs.Option.{option_map, option_and_then}
use Rattle.std.proofs.lemmas.List.{append-nil}
use Rattle.kom_base.specs.declared.numbers.Dir.{Dir}
use Rattle.kom_lang.specs.Declarations.{Declarations}
use Rattle.kom_lang.specs.Bodies.{first_body}
use Rattle.kom_lang.specs.declared.body.Body.{Body}
use Rattle.kom_record.specs.Model.{model}
use Rattle.kom_record.specs.declared.plan.Plan.{Plan}
use Rattle.kom_record.specs.declared.item.Control.{Control as ControlItem}
use Rattle.kom_record.specs.declared.entry.Outcome.{Outcome}
use Rattle.kom_record.specs.declared.entry.Release.{Release}
use Rattle.kom_record.specs.declared.entry.Entry.{Entry}
use Rattle.kom_record.specs.declared.entry.Entry.TheVariants.{Did, Moved}
use Rattle.kom_record.specs.Entries.{History, acts}
use Rattle.kom_record.specs.Instances.{Instance, born, alive}
use Rattle.kom_record.specs.Channels.{goes_out}
use Rattle.kom_record.specs.Queues.{waiting, entering}
use Rattle.kom_record.specs.Controls.{control_waiting, getting}
use Rattle.kom_record.specs.Reaction.{body_after}
use Rattle.kom_record.specs.Bodies.{body_after_all, outcome_of, catches}
use Rattle.kom_record.specs.Legal.{IsLegal}
use Rattle.kom_laws.proofs.ControlLaws.{control_more, got_within}
use Rattle.kom_laws.proofs.QueueLaws.{waiting_did, waiting_moved}
use Rattle.kom_refine.specs.States.{State, ControlRow}
use Rattle.kom_refine.specs.Points.{Point, acts_at, start_of, done_with, with_entry, StandsAt, living_body, queue_at, link_at}
use Rattle.kom_refine.specs.Steps.{IsEnded, flagged}
use Rattle.kom_refine.proofs.Relinking.{queued}

module _ (S : Declarations) where
  -- the body after one outcome more
  one_more : (b : Bool) (o : Outcome) (os : List Outcome) (first : Body)
      → body_after_all first (cons_option (if b then Some o else None) os) ≡ (if b then body_after (body_after_all first os) o else body_after_all first os)
  one_more true o os first = refl
  one_more false o os first = refl

  pushed : (b l : Bool) (o : Outcome) (os : List Outcome) (first : Instance → Body) (i : Option Instance)
      → (if b then option_map (λ x. body_after x o) (if l then option_map (λ j. body_after_all (first j) os) i else None) else (if l then option_map (λ j. body_after_all (first j) os) i else None))
      ≡ (if l then option_map (λ j. body_after_all (first j) (cons_option (if b then Some o else None) os)) i else None)
  pushed true true o os first None = refl
  pushed true true o os first (Some i) = refl
  pushed true false o os first i = refl
  pushed false l o os first i = refl

  pub body_ended : (p : Point) (w c took : ℕ) (o : Outcome) (to : Option ℕ) (places : List ℕ) (d : ℕ)
      → (if c == d then option_map (λ b. body_after b o) (living_body S p d) else living_body S p d) ≡ living_body S (with_entry p (Did w c took o to places)) d
  body_ended p w c took o to places d =
      pushed (c == d) (alive S (acts_at p) d) o (filter_map (outcome_of d) (p.ended ++ p.before)) (λ i. first_body S i.kind i.birth (1 + length i.ancestry)) (slice_get (born S (acts_at p)) d)

  abbrev row_of : List ControlItem → Option Body → Option ControlRow
  row_of items b = option_map (λ b. record { items = items; active = b.active; catches = catches S b }) b

  row_ended : (t : Bool) (o : Outcome) (items : List ControlItem) (b : Option Body)
      → (if t then option_and_then (flagged (catches S) (row_of items b)) (if t then option_map (λ x. body_after x o) b else b) else row_of items b) ≡ row_of items (if t then option_map (λ x. body_after x o) b else b)
  row_ended true o items None = refl
  row_ended true o items (Some b) = refl
  row_ended false o items b = refl

  -- the body of the handling is in force
  pub ended_follows : (p : Point) (m n : State) (w c took : ℕ) (o : Outcome) (to : Option ℕ) (places : List ℕ)
      → IsEnded (catches S) c o m n → StandsAt S p m → StandsAt S (with_entry p (Did w c took o to places)) n
  ended_follows p m n w c took o to places r s =
      let bodies : (d : ℕ) → n.bodies d ≡ (if c == d then option_map (λ b. body_after b o) (living_body S p d) else living_body S p d) =
      λ d. r.bodies d ∙ ap (λ b. if c == d then option_map (λ x. body_after x o) b else b) (s.bodies d) in
      let items : ℕ → List ControlItem = λ d. control_waiting S p.before d ++ p.put d in
      record {
        nodes = r.tree.nodes ∙ s.nodes;
        living = λ d. r.tree.living d ∙ s.living d;
        child = λ d q l. r.tree.child d q ∙ s.child d q l;
        links = λ x. r.links x ∙ s.links x;
        queues = λ x d. r.queues x d ∙ s.queues x d;
        controls = λ d.
            r.controls d
            ∙ ap (λ k. if c == d then option_and_then (flagged (catches S) k) (n.bodies d) else k) (s.controls d)
            ∙ ap (λ b. if c == d then option_and_then (flagged (catches S) (row_of (items d) (living_body S p d))) b else row_of (items d) (living_body S p d)) (bodies d)
            ∙ row_ended (c == d) o (items d) (living_body S p d)
            ∙ ap (row_of (items d)) (body_ended p w c took o to places d);
        bodies = λ d. bodies d ∙ body_ended p w c took o to places d;
      }

  -- the queues and rows of the record with the entry
  queue_sealed : (P : History) (e : Entry) (x : ℕ) (d : Dir)
      → (goes_out S x d ≡ false → waiting S (e ∷ P) x d ≡ waiting S P x d ++ entering S P e x d) → queue_at S (done_with S P e) x d ≡ queue_at S (start_of (e ∷ P)) x d
  unfolding model
  queue_sealed P e x d h = go (goes_out S x d) h
    where
      go : (g : Bool) → (g ≡ false → waiting S (e ∷ P) x d ≡ waiting S P x d ++ entering S P e x d)
          → queued g (map (λ q. q.no) (waiting S P x d ++ entering S P e x d)) d (link_at S (acts (e ∷ P)) x) ≡ queued g (map (λ q. q.no) (waiting S (e ∷ P) x d ++ [])) d (link_at S (acts (e ∷ P)) x)
      go true f = refl
      go false f = ap (λ w. queued false (map (λ q. q.no) w) d (link_at S (acts (e ∷ P)) x)) (sym (f refl) ∙ sym (append-nil (waiting S (e ∷ P) x d)))

  -- all of an entry is done
  pub sealed : (Z : Plan) (P : History) (e : Entry) (m : State) → IsLegal S Z (e ∷ P)
      → ((x : ℕ) (d : Dir) → goes_out S x d ≡ false → waiting S (e ∷ P) x d ≡ waiting S P x d ++ entering S P e x d)
      → ((c : ℕ) → getting S e c ≡ [])
      → StandsAt S (done_with S P e) m → StandsAt S (start_of (e ∷ P)) m
  unfolding model
  sealed Z P e m l q g s = record {
    nodes = s.nodes;
    living = s.living;
    child = s.child;
    links = s.links;
    queues = λ x d. s.queues x d ∙ queue_sealed P e x d (q x d);
    controls = λ c. s.controls c
        ∙ ap (λ w. row_of w (living_body S (start_of (e ∷ P)) c)) (sym (control_more S P e c (g c) (got_within S Z P c l.0)) ∙ sym (append-nil (control_waiting S (e ∷ P) c)));
    bodies = s.bodies;
  }

  pub did_sealed : (Z : Plan) (P : History) (w c took : ℕ) (o : Outcome) (to : Option ℕ) (places : List ℕ) (m : State) → IsLegal S Z (Did w c took o to places ∷ P)
      → StandsAt S (done_with S P (Did w c took o to places)) m → StandsAt S (start_of (Did w c took o to places ∷ P)) m
  unfolding model
  did_sealed Z P w c took o to places m l s = sealed Z P (Did w c took o to places) m l (λ x d h. waiting_did S x d Z P w c took o to places h l) (λ d. refl) s

  pub moved_sealed : (Z : Plan) (P : History) (w t : ℕ) (rs : List Release) (m : State) → IsLegal S Z (Moved w t rs ∷ P)
      → StandsAt S (done_with S P (Moved w t rs)) m → StandsAt S (start_of (Moved w t rs ∷ P)) m
  unfolding model
  moved_sealed Z P w t rs m l s = sealed Z P (Moved w t rs) m l (λ x d h. waiting_moved S x d Z P w t rs h l) (λ d. refl) s
