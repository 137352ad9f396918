-- Handlers that run one after another.
use Rattle.std.proofs.Common.{◌≡◌, ℕ, zero, suc, ◌+◌, ◌<◌, ◌≤◌, ℤ, true, false, filter, List, [], ◌∷◌, ◌++◌, length, map, drop, get_or, slice_get, Some, None, Option, refl, sym, ap, subst, append_assoc, append-nil, arith}
use Rattle.std.specs.List.{Contains, flat_map, filter_map, cons_option}
use Rattle.std.specs.Option.{option_map, option_map_or}
use Rattle.std.proofs.lemmas.List.{drop_more}
use Rattle.kom_lang.specs.declared.kind.Kind.{Kind}
use Rattle.kom_lang.specs.declared.stmt.Handler.{Handler}
use Rattle.kom_lang.specs.declared.stmt.Stmt.{Stmt}
use Rattle.kom_lang.specs.declared.body.Body.{Body}
use Rattle.kom_lang.specs.Declarations.{Declarations, kind_of, handler_of, is_init, numbers_of}
use Rattle.kom_lang.specs.Steps.{Task, Do, BeginHandler, Config, Context, Running, Ended, Faulted, Runs}
use Rattle.kom_record.specs.declared.item.Control.TheVariants.{Init, Start, Stop, Dump, Fault, Dumped}
use Rattle.kom_record.specs.declared.item.Item.{Item}
use Rattle.kom_record.specs.declared.item.Item.TheVariants.{Control, Arrival}
use Rattle.kom_record.specs.declared.entry.Outcome.TheVariants as outcome
use Rattle.kom_record.specs.Reaction.{prepared, handlers, handles, parameters, context, first_config, Reacts}
use Rattle.kom_steps.specs.declared.handling.Handling.{Handling}
use Rattle.kom_steps.specs.Handlings.{config}
use Rattle.kom_steps.proofs.Steps.{then_runs}
use Rattle.kom_eval.specs.Handlers.{tasks}
use Rattle.kom_eval.specs.Selected.{is_init_item}

pub one_task : (kind : Kind) (ps : List ℤ) (h : ℕ) (x : Handler) (rest : List Task) → Some x ≡ handler_of kind h → tasks kind ps (h ∷ []) ++ rest ≡ BeginHandler ps ∷ (map Do x.block ++ rest)
one_task kind ps h x rest e = rw (← e) (ap (λ ts. BeginHandler ps ∷ (ts ++ rest)) (append-nil (map Do x.block)))

pub no_task : (kind : Kind) (ps : List ℤ) (h : ℕ) (rest : List Task) → None ≡ handler_of kind h → tasks kind ps (h ∷ []) ++ rest ≡ rest
no_task kind ps h rest e = rw (← e) refl

first_tasks : (ps : List ℤ) (o : Option (List Stmt)) (blocks : List (List Stmt)) → flat_map (λ b. BeginHandler ps ∷ map Do b) (cons_option o blocks) ≡ flat_map (λ b. BeginHandler ps ∷ map Do b) (cons_option o []) ++ flat_map (λ b. BeginHandler ps ∷ map Do b) blocks
first_tasks ps None blocks = refl
first_tasks ps (Some b) blocks = ap (λ (ts : List Task). ts ++ flat_map (λ b. BeginHandler ps ∷ map Do b) blocks) (sym (append-nil (BeginHandler ps ∷ map Do b)))

-- the first handler, and those after it
tasks_first : (kind : Kind) (ps : List ℤ) (h : ℕ) (hs : List ℕ) → tasks kind ps (h ∷ hs) ≡ tasks kind ps (h ∷ []) ++ tasks kind ps hs
tasks_first kind ps h hs = first_tasks ps (option_map (λ (x : Handler). x.block) (handler_of kind h)) (filter_map (λ h. option_map (λ x. x.block) (handler_of kind h)) hs)

-- what is to do from the i-th handler on
pub next_tasks : (kind : Kind) (ps : List ℤ) (hs : List ℕ) (i : ℕ) (rest : List Task) → i < length hs → tasks kind ps (drop i hs) ++ rest ≡ tasks kind ps (get_or hs i 0 ∷ []) ++ (tasks kind ps (drop (i + 1) hs) ++ rest)
next_tasks kind ps hs i rest lt =
    rw (drop_more hs i 0 lt) (rw (tasks_first kind ps (get_or hs i 0) (drop (i + 1) hs)) (append_assoc (tasks kind ps (get_or hs i 0 ∷ [])) (tasks kind ps (drop (i + 1) hs)) rest))

pub drop_end : {X : Type 0} (xs : List X) (i : ℕ) → length xs ≤ i → drop i xs ≡ []
drop_end [] zero h = refl
drop_end [] (suc i) h = refl
drop_end (x ∷ xs) zero h = absurd (omega (arith, h))
drop_end (x ∷ xs) (suc i) h = drop_end xs i (omega (arith, h))

-- a handler that is read by number is one of the type
pub got : (xs : List Handler) (i : ℕ) (x : Handler) → Some x ≡ slice_get xs i → Contains xs x
got [] i x e = absurd (cc)
got (y ∷ ys) zero x e = (0, omega arith, (let same : y ≡ x = cc in same))
got (y ∷ ys) (suc i) x e = let r = got ys i x e in (suc r.0, omega (arith, r.1), r.2)

-- a body that is prepared for an item is of the same type
pub prepared_kind : (S : Declarations) (b : Body) (item : Item) → (prepared S b item).kind ≡ b.kind
unfolding prepared
prepared_kind S b (Control (Init vs)) = refl
prepared_kind S b (Control Start) = refl
prepared_kind S b (Control Stop) = refl
prepared_kind S b (Control (Fault slot number)) = refl
prepared_kind S b (Control Dump) = refl
prepared_kind S b (Control (Dumped slot vs)) = refl
prepared_kind S b (Arrival x d n port side event back) = refl

-- ---- which handlers run

pub init_handlers : (S : Declarations) (b : Body) (item : Item) → is_init_item item ≡ true → handlers S b item ≡ numbers_of (λ h. is_init h.on) (kind_of S b.kind).handlers
unfolding handlers
init_handlers S b (Control (Init vs)) e = refl
init_handlers S b (Control Start) e = absurd (cc)
init_handlers S b (Control Stop) e = absurd (cc)
init_handlers S b (Control (Fault slot number)) e = absurd (cc)
init_handlers S b (Control Dump) e = absurd (cc)
init_handlers S b (Control (Dumped slot vs)) e = absurd (cc)
init_handlers S b (Arrival x d n port side event back) e = absurd (cc)

pub other_handlers : (S : Declarations) (b : Body) (item : Item) → is_init_item item ≡ false → handlers S b item ≡ filter (λ h. option_map_or (λ x. handles S item x.on) (handler_of (kind_of S b.kind) h) false) b.subs
unfolding handlers
other_handlers S b (Control (Init vs)) e = absurd (cc)
other_handlers S b (Control Start) e = refl
other_handlers S b (Control Stop) e = refl
other_handlers S b (Control (Fault slot number)) e = refl
other_handlers S b (Control Dump) e = refl
other_handlers S b (Control (Dumped slot vs)) e = refl
other_handlers S b (Arrival x d n port side event back) e = refl

-- ---- the begin of a handler

pub begun : (g : Context) (ps : List ℤ) (rest : List Task) (h : Handling) → Runs g (config (BeginHandler ps ∷ rest) h) (Running (config rest (record { body = h.body; scope = ps; effects = h.effects; turns = h.turns })))
begun g ps rest h = (1, refl)

-- ---- what comes of it

-- the handling with which the handlers begin
abbrev pub start : Declarations → Body → Item → Handling
start S b item = record { body = prepared S b item; scope = []; effects = []; turns = 0 }

-- the tasks with which they begin
abbrev pub all_tasks : Declarations → Body → Item → List Task
all_tasks S b item = tasks (kind_of S (prepared S b item).kind) (parameters item) (handlers S (prepared S b item) item)

first_is : (S : Declarations) (b : Body) (item : Item) → config (all_tasks S b item ++ []) (start S b item) ≡ first_config S b item
unfolding first_config
first_is S b item = ap (λ (ts : List Task). config ts (start S b item)) (append-nil (all_tasks S b item))

pub done : (S : Declarations) (b : Body) (item : Item) (h : Handling) → Runs (context S item) (config (all_tasks S b item ++ []) (start S b item)) (Running (config [] h)) → Reacts S b item (outcome.Done h.body h.effects)
unfolding Reacts
done S b item h p = subst (λ (c : Config). Runs (context S item) c (Ended h.body h.effects)) (first_is S b item) (then_runs p (1, refl))

pub faulted : (S : Declarations) (b : Body) (item : Item) (n : ℕ) → Runs (context S item) (config (all_tasks S b item ++ []) (start S b item)) (Faulted n) → Reacts S b item (outcome.Fault n)
unfolding Reacts
faulted S b item n p = subst (λ (c : Config). Runs (context S item) c (Faulted n)) (first_is S b item) p
