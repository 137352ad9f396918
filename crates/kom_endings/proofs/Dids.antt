-- A run whose job has ended, whatever came of it.
use Rattle.std.proofs.Common.{◌≡◌, ℕ, zero, suc, ◌<◌, Bool, true, false, if◌then◌else◌, ◌==◌, refl, sym, ap, ◌∙◌, List, [], ◌∷◌, length, map, Option, Some, None, arith}
use Rattle.std.specs.Prelude.{is_some, slice_get}
use Rattle.std.specs.Option.{option_map}
use Rattle.std.specs.Ordering.{nat_cmp, is_eq}
use Rattle.std.specs.Cmp.{unsigned_tied}
use Rattle.std.proofs.lemmas.Bool.{eqb-true}
use Rattle.kom_lang.specs.Declarations.{Declarations}
use Rattle.kom_lang.specs.declared.body.Body.{Body}
use Rattle.kom_record.specs.declared.plan.Plan.{Plan}
use Rattle.kom_record.specs.declared.entry.Outcome.{Outcome}
use Rattle.kom_record.specs.declared.entry.Entry.{Entry}
use Rattle.kom_record.specs.declared.entry.Entry.TheVariants.{Did}
use Rattle.kom_record.specs.Answers.{job_of}
use Rattle.kom_record.specs.Bodies.{body_at}
use Rattle.kom_record.specs.Entries.{History, TakenJob, acts, in_hand}
use Rattle.kom_record.specs.Instances.{born}
use Rattle.kom_record.specs.Legal.{IsLegal}
use Rattle.kom_record.specs.Ready.{is_busy}
use Rattle.kom_comps.specs.Members.{Members, has}
use Rattle.kom_index.specs.Entries.{value_of}
use Rattle.kom_index.specs.Stock.{entries}
use Rattle.kom_laws.proofs.Handlings.{found_in}
use Rattle.kom_refine.specs.Points.{node_of}
use Rattle.kom_wakes.specs.Laws.{BusyGoesOn}
use Rattle.kom_turns.specs.declared.run.Held.{Held}
use Rattle.kom_turns.specs.declared.run.Run.{Run}
use Rattle.kom_turns.specs.Runs.{IsButForRoom, Stands, held_of, history_of, system_of}
use Rattle.kom_turns.proofs.Taking.{turned}
use Rattle.kom_endings.specs.Ended.{IsJobEnded}
use Rattle.kom_endings.proofs.Hands.{own_gone, other_stays}

-- the job of a worker as it is kept
pub job_there : (v : Run) (w : ℕ) (hand : TakenJob) → Stands v → job_of (history_of v) w ≡ Some hand → value_of nat_cmp w (entries v.jobs) ≡ Some (held_of hand)
job_there v w hand s found = s.jobs w ∙ ap (option_map held_of) found

got_below : {X : Type 0} (xs : List X) (i : ℕ) → is_some (slice_get xs i) ≡ true → i < length xs
got_below [] i h = absurd cc
got_below (x ∷ xs) zero h = omega arith
got_below (x ∷ xs) (suc i) h = let k = got_below xs i h in omega (arith, k)

some_of : {X Y : Type 0} (f : X → Y) (o : Option X) (y : Y) → option_map f o ≡ Some y → is_some o ≡ true
some_of f None y e = absurd cc
some_of f (Some x) y e = refl

long_map : {X Y : Type 0} (f : X → Y) (xs : List X) → length (map f xs) ≡ length xs
long_map f [] = refl
long_map f (x ∷ xs) = ap suc (long_map f xs)

-- who has a body was created
pub made_there : (v : Run) (c : ℕ) (b : Body) → Stands v → body_at (system_of v) (history_of v) c ≡ Some b → c < v.busy.bound
unfolding body_at
made_there v c b s e =
    let made = got_below (born (system_of v) (acts (history_of v))) c (some_of _ (slice_get (born (system_of v) (acts (history_of v))) c) b e) in
    let long = ap length s.state.nodes ∙ long_map node_of (born (system_of v) (acts (history_of v))) in
    let h = s.busy_bound in
    omega (arith, made, long, h)

-- the same with more room before
pub ended_after : (v k n : Run) (w c : ℕ) (e : Entry) → IsButForRoom v k → IsJobEnded w c e k n → IsJobEnded w c e v n
ended_after v k n w c e r t = record {
  system = t.system ∙ r.system;
  history = t.history ∙ ap (λ R. e ∷ R) r.history;
  state = t.state ∙ r.state;
  env = t.env ∙ r.env;
  jobs = λ q. t.jobs q ∙ ap (λ js. if is_eq (nat_cmp q w) then None else value_of nat_cmp q js) r.jobs;
  busy = λ d. t.busy d ∙ ap (λ m. if d == c then false else has m d) r.busy;
  busy_bound = t.busy_bound ∙ ap (λ m. m.bound) r.busy;
  runnable = t.runnable ∙ r.runnable;
  marks = t.marks ∙ r.marks;
  counts = t.counts ∙ r.counts;
}

pub hand_by : (R : History) (w : ℕ) (hand : TakenJob) → job_of R w ≡ Some hand → hand.w ≡ w
unfolding job_of
hand_by R w hand found = eqb-true hand.w w (found_in (λ j. j.w == w) (in_hand R) hand found).1

-- the jobs are those of the record with the Did
pub jobs_after : (S : Declarations) (Z : Plan) (P : History) (w c : ℕ) (hand : TakenJob) (o : Outcome) (to : Option ℕ) (places : List ℕ) → IsLegal S Z P → job_of P w ≡ Some hand → (old new : List (ℕ × Held))
    → ((q : ℕ) → value_of nat_cmp q old ≡ option_map held_of (job_of P q)) → ((q : ℕ) → value_of nat_cmp q new ≡ (if is_eq (nat_cmp q w) then None else value_of nat_cmp q old))
    → (q : ℕ) → value_of nat_cmp q new ≡ option_map held_of (job_of (Did w c hand.took o to places ∷ P) q)
jobs_after S Z P w c hand o to places legal found old new were are q = are q ∙ ap (λ b. if b then None else value_of nat_cmp q old) (unsigned_tied q w) ∙ go (q == w) refl
  where
    go : (b : Bool) → (q == w) ≡ b → (if q == w then None else value_of nat_cmp q old) ≡ option_map held_of (job_of (Did w c hand.took o to places ∷ P) q)
    go true e =
        ap (λ b. if b then None else value_of nat_cmp q old) e
        ∙ sym (ap (λ x. option_map held_of (job_of (Did w c hand.took o to places ∷ P) x)) (eqb-true q w e) ∙ ap (option_map held_of) (own_gone S Z P w c hand o to places legal found))
    go false e =
        ap (λ b. if b then None else value_of nat_cmp q old) e ∙ were q
        ∙ sym (ap (option_map held_of) (other_stays S Z P w c hand o to places legal found q (turned w q ∙ e)))

-- and so are the busy components
pub no_more_busy : (S : Declarations) (Z : Plan) (P : History) (w c took : ℕ) (o : Outcome) (to : Option ℕ) (places : List ℕ) (old new : Members) → BusyGoesOn → IsLegal S Z (Did w c took o to places ∷ P)
    → ((d : ℕ) → has old d ≡ is_busy S P d) → ((d : ℕ) → has new d ≡ (if d == c then false else has old d)) → (d : ℕ) → has new d ≡ is_busy S (Did w c took o to places ∷ P) d
no_more_busy S Z P w c took o to places old new law legal were are d =
    are d ∙ ap (λ b. if d == c then false else b) (were d) ∙ ap (λ b. if b then false else is_busy S P d) (turned d c) ∙ sym ((law S P d).did Z w c took o to places legal)
