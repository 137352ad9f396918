-- A whole handling keeps its body in agreement with its effects.
use Rattle.std.proofs.Common.{◌≡◌, ℕ, ℤ, ◌+◌, ◌<◌, Bool, true, false, cond, if◌then◌else◌, refl, sym, ap, ◌∙◌, subst, List, [], ◌∷◌, length, filter, Option, Some, None, inl, inr, arith}
use Rattle.std.specs.Prelude.{map, not, slice_get}
use Rattle.std.specs.List.{cons_option, enumerate_from, filter_map, flat_map, list_all}
use Rattle.std.specs.Option.{option_map, option_map_or}
use Rattle.kom_lang.specs.Declarations.{Declarations, first_subs, kind_of, handler_of, is_init, numbers_of}
use Rattle.kom_lang.specs.declared.stmt.Handler.{Handler}
use Rattle.kom_lang.specs.declared.stmt.On.{On}
use Rattle.kom_lang.specs.declared.stmt.Stmt.{Stmt}
use Rattle.kom_lang.specs.declared.body.Body.{Body}
use Rattle.kom_lang.specs.declared.body.Effect.{Effect}
use Rattle.kom_lang.specs.Steps.{Do, BeginHandler, Running}
use Rattle.kom_system.specs.Statements.{Within, StatementFits}
use Rattle.kom_system.specs.WellFormed.{IsDeclared}
use Rattle.kom_record.specs.declared.item.Item.{Item}
use Rattle.kom_record.specs.declared.item.Item.TheVariants.{Control, Arrival}
use Rattle.kom_record.specs.declared.item.Control.TheVariants.{Init, Start, Stop, Fault, Dump, Dumped}
use Rattle.kom_record.specs.declared.entry.Outcome.TheVariants as outcome
use Rattle.kom_record.specs.Entries.{Act}
use Rattle.kom_record.specs.Instances.{born, ancestry_of}
use Rattle.kom_record.specs.Reaction.{Reacts, blocks, first_config, handlers, handles, parameters, prepared, with_status}
use Rattle.kom_laws.proofs.Members.{IsIn, here, there, Some-injective}
use Rattle.kom_laws.proofs.ListFacts.{numbered, got_in}
use Rattle.kom_laws.proofs.DumpsAlone.{in_contains}
use Rattle.kom_agree.specs.Agrees.{Agrees}
use Rattle.kom_agree.specs.Bodies.{BodyFits, EndsTake}
use Rattle.kom_agree.proofs.Takes.{status_takes}
use Rattle.kom_agree.proofs.Born.{first_subs_fit}
use Rattle.kom_agree.proofs.Handling.{AreFit, IsFor, IsGood, IsKept, IsSound, HandlingAt, after_good, fit_append, fit_block}

-- ---- the blocks that run

kept_by_at : {X : Type 0} (test : X → Bool) (y x : X) (xs : List X) (b : Bool) → test y ≡ b → (IsIn x (filter test xs) → test x ≡ true) → IsIn x (cond b (y ∷ filter test xs) (filter test xs)) → test x ≡ true
kept_by_at test x' x xs true e rest here = e
kept_by_at test y x xs true e rest (there h) = rest h
kept_by_at test y x xs false e rest h = rest h

kept_by : {X : Type 0} (test : X → Bool) (x : X) (xs : List X) → IsIn x (filter test xs) → test x ≡ true
kept_by test x [] h = elim h [ ]
kept_by test x (y ∷ xs) h = kept_by_at test y x xs (test y) refl (kept_by test x xs) h

made_from_or : {X Y : Type 0} (f : X → Option Y) (x : X) (xs : List X) (y : Y) (o : Option Y) → f x ≡ o → (IsIn y (filter_map f xs) → (z : X) × IsIn z xs × (f z ≡ Some y)) → IsIn y (cons_option o (filter_map f xs)) → (z : X) × IsIn z (x ∷ xs) × (f z ≡ Some y)
made_from_or f x xs y None e rest h = let r = rest h in (r.0, there r.1, r.2)
made_from_or f x xs y' (Some y) e rest here = (x, here, e)
made_from_or f x xs y (Some z) e rest (there h) = let r = rest h in (r.0, there r.1, r.2)

pub made_from : {X Y : Type 0} (f : X → Option Y) (xs : List X) (y : Y) → IsIn y (filter_map f xs) → (x : X) × IsIn x xs × (f x ≡ Some y)
made_from f [] y h = elim h [ ]
made_from f (x ∷ xs) y h = made_from_or f x xs y (f x) refl (made_from f xs y) h

subscribed : (S : Declarations) (item : Item) (x : Handler) (o : Option Handler) → o ≡ Some x → option_map_or (λ x. handles S item x.on) o false ≡ true → handles S item x.on ≡ true
subscribed S item x None e t = absurd cc
subscribed S item x (Some y) e t = subst (λ y. handles S item y.on ≡ true) (Some-injective e) t

init_at : (b : Bool) (p : ℕ × Handler) (h : ℕ) → is_init p.1.on ≡ b → (if b then Some p.0 else None) ≡ Some h → (p.0 ≡ h) × (is_init p.1.on ≡ true)
init_at true p h q e = (Some-injective e, q)
init_at false p h q e = absurd cc

same_handler : (hs : List Handler) (n m k : ℕ) (x y : Handler) → slice_get hs n ≡ Some x → slice_get hs m ≡ Some y → m ≡ k → k ≡ n → is_init y.on ≡ true → is_init x.on ≡ true
same_handler hs n m k x y a b e f t =
    let same : Some y ≡ Some x = sym b ∙ ap (slice_get hs) (e ∙ f) ∙ a in
    subst (λ z. is_init z.on ≡ true) (Some-injective same) t

first_of : (hs : List Handler) (h : ℕ) (x : Handler) → slice_get hs h ≡ Some x → IsIn h (numbers_of (λ h. is_init h.on) hs) → is_init x.on ≡ true
first_of hs h x e i =
    let r = made_from (λ p. if is_init p.1.on then Some p.0 else None) (enumerate_from 0 hs) h i in
    let n = numbered 0 hs r.0 r.1 in
    let t = init_at (is_init r.0.1.on) r.0 h refl r.2 in
    same_handler hs h n.0 r.0.0 x r.0.1 e n.2 (omega (arith, n.1)) t.0 t.1

block_at : (o : Option Handler) (block : List Stmt) → option_map (λ x. x.block) o ≡ Some block → (x : Handler) × (o ≡ Some x) × (x.block ≡ block)
block_at None block e = absurd cc
block_at (Some x) block e = (x, refl, Some-injective e)

module _ (S : Declarations) where
  by_subs : (b : Body) (item : Item) (h : ℕ) (x : Handler) → handler_of (kind_of S b.kind) h ≡ Some x → IsIn h (filter (λ h. option_map_or (λ x. handles S item x.on) (handler_of (kind_of S b.kind) h) false) b.subs) → IsFor S item x.on
  by_subs b item h x e i = inl (subscribed S item x (handler_of (kind_of S b.kind) h) e (kept_by (λ h. option_map_or (λ x. handles S item x.on) (handler_of (kind_of S b.kind) h) false) h b.subs i))

  -- the handlers that run are for the item
  runs_for : (b : Body) (item : Item) (h : ℕ) (x : Handler) → handler_of (kind_of S b.kind) h ≡ Some x → IsIn h (handlers S b item) → IsFor S item x.on
  unfolding handlers
  runs_for b (Control (Init vs)) h x e i = inr (first_of (kind_of S b.kind).handlers h x e i)
  runs_for b (Control Start) h x e i = by_subs b (Control Start) h x e i
  runs_for b (Control Stop) h x e i = by_subs b (Control Stop) h x e i
  runs_for b (Control Dump) h x e i = by_subs b (Control Dump) h x e i
  runs_for b (Control (Fault slot n)) h x e i = by_subs b (Control (Fault slot n)) h x e i
  runs_for b (Control (Dumped slot vs)) h x e i = by_subs b (Control (Dumped slot vs)) h x e i
  runs_for b (Arrival c d m port side event back) h x e i = by_subs b (Arrival c d m port side event back) h x e i

  prepared_kind : (b : Body) (item : Item) → ((prepared S b item).kind ≡ b.kind) × ((prepared S b item).depth ≡ b.depth)
  unfolding prepared
  prepared_kind b (Control (Init vs)) = (refl, refl)
  prepared_kind b (Control Start) = (refl, refl)
  prepared_kind b (Control Stop) = (refl, refl)
  prepared_kind b (Control Dump) = (refl, refl)
  prepared_kind b (Control (Fault slot n)) = (refl, refl)
  prepared_kind b (Control (Dumped slot vs)) = (refl, refl)
  prepared_kind b (Arrival c d m port side event back) = (refl, refl)

  pub status_fits : (b : Body) (subs : List ℕ) (active initialised : Bool) → list_all (λ h. option_map_or (λ x. not (is_init x.on)) (handler_of (kind_of S b.kind) h) false) subs ≡ true → BodyFits S b → BodyFits S (with_status b subs active initialised)
  status_fits b subs active initialised e h =
      record { kind = h.kind; vars = h.vars; slots = h.slots; wires = h.wires; subs = e; children = h.children; places = h.places; some_depth = h.some_depth; depth = h.depth }

  pub status_agrees : (done : List Act) (c : ℕ) (b : Body) (subs : List ℕ) (active initialised : Bool) → Agrees S done c b → Agrees S done c (with_status b subs active initialised)
  status_agrees done c b subs active initialised h = record { slots = h.slots; holds = h.holds; ends = h.ends }

  prepared_fits : (b : Body) (item : Item) → BodyFits S b → BodyFits S (prepared S b item)
  unfolding prepared
  prepared_fits b (Control (Init vs)) h = status_fits b (first_subs (kind_of S b.kind)) b.active true (first_subs_fit S (kind_of S b.kind)) h
  prepared_fits b (Control Start) h = status_fits b b.subs b.initialised b.initialised h.subs h
  prepared_fits b (Control Stop) h = status_fits b b.subs false b.initialised h.subs h
  prepared_fits b (Control Dump) h = h
  prepared_fits b (Control (Fault slot n)) h = h
  prepared_fits b (Control (Dumped slot vs)) h = h
  prepared_fits b (Arrival c d m port side event back) h = h

  prepared_agrees : (done : List Act) (c : ℕ) (b : Body) (item : Item) → Agrees S done c b → Agrees S done c (prepared S b item)
  unfolding prepared
  prepared_agrees done c b (Control (Init vs)) h = status_agrees done c b (first_subs (kind_of S b.kind)) b.active true h
  prepared_agrees done c b (Control Start) h = status_agrees done c b b.subs b.initialised b.initialised h
  prepared_agrees done c b (Control Stop) h = status_agrees done c b b.subs false b.initialised h
  prepared_agrees done c b (Control Dump) h = h
  prepared_agrees done c b (Control (Fault slot n)) h = h
  prepared_agrees done c b (Control (Dumped slot vs)) h = h
  prepared_agrees done c b (Arrival x d m port side event back) h = h

  prepared_takes : (b : Body) (item : Item) → EndsTake S b → EndsTake S (prepared S b item)
  unfolding prepared
  prepared_takes b (Control (Init vs)) h = status_takes S b (first_subs (kind_of S b.kind)) b.active true h
  prepared_takes b (Control Start) h = status_takes S b b.subs b.initialised b.initialised h
  prepared_takes b (Control Stop) h = status_takes S b b.subs false b.initialised h
  prepared_takes b (Control Dump) h = h
  prepared_takes b (Control (Fault slot n)) h = h
  prepared_takes b (Control (Dumped slot vs)) h = h
  prepared_takes b (Arrival c d m port side event back) h = h

  tasks_fit : (at : HandlingAt) (ps : List ℤ) (bs : List (List Stmt)) → ((block : List Stmt) → IsIn block bs → (o : On) × IsFor S at.item o × ((x : Stmt) → Within x block → StatementFits S (kind_of S at.kind) o x))
      → AreFit S at (flat_map (λ b. BeginHandler ps ∷ map Do b) bs)
  tasks_fit at ps [] h = tt
  tasks_fit at ps (b ∷ bs) h =
      let r = h b here in
      (tt, fit_append S at (map Do b) (flat_map (λ b. BeginHandler ps ∷ map Do b) bs) (fit_block S at r.0 b r.1 r.2) (tasks_fit at ps bs (λ block i. h block (there i))))

  block_fits : IsDeclared S → (at : HandlingAt) (b : Body) → BodyFits S b → b.kind ≡ at.kind → (block : List Stmt) → IsIn block (blocks S b at.item) → (o : On) × IsFor S at.item o × ((x : Stmt) → Within x block → StatementFits S (kind_of S at.kind) o x)
  block_fits D at b f k block i =
      let r = made_from (λ h. option_map (λ x. x.block) (handler_of (kind_of S b.kind) h)) (handlers S b at.item) block i in
      let q = block_at (handler_of (kind_of S b.kind) r.0) block r.2 in (
        q.0.on,
        runs_for b at.item r.0 q.0 q.1 r.1,
        λ x w. subst (λ z. StatementFits S (kind_of S z) q.0.on x) k
            ((D.kinds b.kind f.kind).statements q.0 x (in_contains q.0 (kind_of S b.kind).handlers (got_in (kind_of S b.kind).handlers r.0 q.0 q.1)) (subst (Within x) (sym q.2) w)),
      )

  -- the outcome of a handling agrees with its effects
  pub reaction_kept : IsDeclared S → (at : HandlingAt) (b body : Body) (effects : List Effect) → at.c < length (born S at.done) → at.depth ≡ 1 + length (ancestry_of S (born S at.done) at.c)
      → BodyFits S b → EndsTake S b → b.kind ≡ at.kind → b.depth ≡ at.depth → Agrees S at.done at.c b → Reacts S b at.item (outcome.Done body effects) → IsKept S at body effects
  unfolding Reacts first_config
  reaction_kept D at b body effects lt level f t k d a r =
      let fits = prepared_fits b at.item f in
      let kinds = prepared_kind b at.item in
      let start : IsSound S at (first_config S b at.item) = record {
        todo = tasks_fit at (parameters at.item) (blocks S (prepared S b at.item) at.item) (λ block i. block_fits D at (prepared S b at.item) fits (kinds.0 ∙ k) block i);
        kept = record { fits = fits; takes = prepared_takes b at.item t; kind = kinds.0 ∙ k; depth = kinds.1 ∙ d; agrees = prepared_agrees at.done at.c b at.item a; met = tt; agreed = tt };
      } in
      subst (IsGood S at) r.1 (after_good S at lt level r.0 (Running (first_config S b at.item)) start)
