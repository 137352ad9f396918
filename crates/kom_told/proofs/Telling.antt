-- Who is told of a fault.
use Rattle.std.proofs.Common.{◌≡◌, ℕ, ◌+◌, Bool, true, false, cond, if◌then◌else◌, refl, sym, ap, ◌∙◌, List, [], ◌∷◌, ◌++◌, length, Option, Some, None}
use Rattle.std.specs.Prelude.{is_some, slice_get}
use Rattle.std.specs.List.{find, filter_map}
use Rattle.std.specs.Option.{option_map, option_map_or}
use Rattle.std.proofs.lemmas.Option.{slice_get-map}
use Rattle.kom_lang.specs.Bodies.{first_body}
use Rattle.kom_lang.specs.Declarations.{Declarations}
use Rattle.kom_lang.specs.declared.body.Body.{Body}
use Rattle.kom_record.specs.declared.plan.Plan.{Plan}
use Rattle.kom_record.specs.Entries.{History, acts}
use Rattle.kom_record.specs.Instances.{Instance, alive, ancestry_of, born}
use Rattle.kom_record.specs.Bodies.{body_after_all, body_at, catches, catches_at, nearest, outcome_of}
use Rattle.kom_record.specs.Controls.{control_waiting}
use Rattle.kom_record.specs.Legal.{IsLegal}
use Rattle.kom_laws.proofs.Members.{IsIn, here, there}
use Rattle.kom_laws.proofs.ListFacts.{got_at}
use Rattle.kom_laws.proofs.InstanceLaws.{alive_born}
use Rattle.kom_refine.specs.Points.{Point, StandsAt, acts_at, body_of, living_body, node_of, start_of}
use Rattle.kom_refine.specs.States.{ControlRow, State}
use Rattle.kom_lives.proofs.Lives.{ancestors, by_living}
use Rattle.kom_told.specs.Laws.{IsThere, catches_by, line_of}

find_same : {X : Type 0} (f g : X → Bool) (xs : List X) → ((x : X) → IsIn x xs → f x ≡ g x) → find f xs ≡ find g xs
find_same f g [] h = refl
find_same f g (x ∷ xs) h = ap (λ b. cond b (Some x) (find f xs)) (h x here) ∙ ap (λ r. cond (g x) (Some x) r) (find_same f g xs (λ y m. h y (there m)))

still_some : {X Y : Type 0} (f : X → Y) (o : Option X) → is_some o ≡ true → is_some (option_map f o) ≡ true
still_some f None e = absurd cc
still_some f (Some x) e = refl

lined_up : (o : Option Instance) → option_map_or (λ i. i.ancestry) o [] ≡ option_map_or (λ n. n.ancestry) (option_map node_of o) []
lined_up None = refl
lined_up (Some i) = refl

module _ (S : Declarations) where
  body_there : (p : Point) (c : ℕ) → alive S (acts_at p) c ≡ true → is_some (living_body S p c) ≡ true
  body_there p c h =
      let g = got_at (born S (acts_at p)) c (alive_born S (acts_at p) c h) in
      ap (λ b. is_some (if b then body_of S p c else None)) h
      ∙ ap (λ o. is_some (option_map (λ i. body_after_all (first_body S i.kind i.birth (1 + length i.ancestry)) (filter_map (outcome_of c) (p.ended ++ p.before))) o)) g.1

  pub there_is : (p : Point) (m : State) (c : ℕ) → StandsAt S p m → alive S (acts_at p) c ≡ true → IsThere S p m c
  there_is p m c s h = record {
    row = ap is_some (s.controls c) ∙ still_some (λ b. record { items = control_waiting S p.before c ++ p.put c; active = b.active; catches = catches S b }) (living_body S p c) (body_there p c h);
    body = ap is_some (s.bodies c) ∙ body_there p c h;
  }

  pub lines : (p : Point) (m : State) (c : ℕ) → StandsAt S p m → ancestry_of S (born S (acts_at p)) c ≡ line_of m c
  unfolding ancestry_of
  lines p m c s = lined_up (slice_get (born S (acts_at p)) c) ∙ sym (ap (λ o. option_map_or (λ n. n.ancestry) o []) (ap (λ l. slice_get l c) s.nodes ∙ slice_get-map node_of (born S (acts_at p)) c))

  -- the row of a living component catches faults where its body does
  row_catches : (P : History) (m : State) (c : ℕ) → StandsAt S (start_of P) m → alive S (acts P) c ≡ true → catches_at S P c ≡ catches_by m c
  unfolding catches_at body_at
  row_catches P m c s h =
      go (body_of S (start_of P) c)
      ∙ sym (ap (λ o. option_map_or (λ r. r.catches) o false) (s.controls c ∙ ap (λ b. option_map {U = ControlRow} (λ b. record { items = control_waiting S P c ++ []; active = b.active; catches = catches S b }) (if b then body_of S (start_of P) c else None)) h))
    where
      go : (o : Option Body) → option_map_or (catches S) o false ≡ option_map_or (λ r. r.catches) (option_map {U = ControlRow} (λ b. record { items = control_waiting S P c ++ []; active = b.active; catches = catches S b }) o) false
      go None = refl
      go (Some b) = refl

  pub nearest_is : (Z : Plan) (P : History) (m : State) (c : ℕ) → IsLegal S Z P → StandsAt S (start_of P) m → alive S (acts P) c ≡ true → nearest S P c ≡ find (λ q. catches_by m q.0) (line_of m c)
  unfolding nearest
  nearest_is Z P m c l s h =
      find_same (λ q. catches_at S P q.0) (λ q. catches_by m q.0) (ancestry_of S (born S (acts P)) c) (λ q k. row_catches P m q.0 s (ancestors S (acts P) (by_living S Z P l) c q h k))
      ∙ ap (find (λ q. catches_by m q.0)) (lines (start_of P) m c s)
