-- Steps compose, and one step is some.
use Rattle.std.proofs.Common.{◌≡◌, ℕ, zero, suc, ◌<◌, ◌≤◌, ◌+◌, ℤ, Bool, true, false, not, nat_le, List, [], ◌∷◌, ◌++◌, length, map, take, drop, get_or, Option, Some, None, Result, Ok, Err, refl, sym, ap, ◌∙◌, subst, arith}
use Rattle.std.proofs.lemmas.List.{drop_more}
use Rattle.std.specs.Result.{IsErrAnd}
use Rattle.kom_base.specs.Lists.{on_ok}
use Rattle.kom_lang.specs.declared.expr.Expr.{Expr}
use Rattle.kom_lang.specs.declared.stmt.Stmt.{Stmt, Stmt-F, out-Stmt}
use Rattle.kom_lang.specs.declared.stmt.Stmt.TheVariants as stmt
use Rattle.kom_lang.specs.declared.stmt.Stmt.TheOpen.{If, While}
use Rattle.kom_lang.specs.Values.{value, is_zero}
use Rattle.kom_lang.specs.Steps.{Task, Do, EndBlock, Config, Context, Progress, Running, Faulted, valuation, with_value, branches, loops, statement_step, step, after, Runs}
use Rattle.kom_values.specs.declared.stop.Stop.{Stop}
use Rattle.kom_values.specs.declared.stop.Stop.TheVariants.{Fault, Memory}
use Rattle.kom_steps.specs.declared.handling.Handling.{Handling}
use Rattle.kom_steps.specs.Handlings.{config, Tells, Does, Comes}

after-add : (n m : ℕ) (g : Context) (x : Progress) → (k : ℕ) × (after k g x ≡ after m g (after n g x))
after-add zero m g x = (m, refl)
after-add (suc n) m g x = let r = after-add n m g (step g x) in (suc r.0, r.1)

-- steps and then more steps are steps
pub then : {g : Context} {c d : Config} (rest : List Task) (h : Handling) (answer : Result (Unit {0}) Stop) → Runs g c (Running d) → Comes g d rest h answer → Comes g c rest h answer
then {g} {c} {d} rest h answer p q =
    let r = after-add p.0 q.0 g (Running c) in
    let e : after r.0 g (Running c) ≡ after q.0 g (Running d) = r.1 ∙ ap (after q.0 g) p.1 in
    (r.0, subst (λ (x : Progress). Tells x rest h answer) (sym e) q.1)

pub then_runs : {g : Context} {c d : Config} {p : Progress} → Runs g c (Running d) → Runs g d p → Runs g c p
then_runs {g} {c} {d} {p = x} p q =
    let r = after-add p.0 q.0 g (Running c) in
    (r.0, r.1 ∙ ap (after q.0 g) p.1 ∙ q.1)

pub none : (g : Context) (c : Config) → Runs g c (Running c)
none g c = (0, refl)

-- the step of a statement, by its one level
one : (g : Context) (s : Stmt) (o : Stmt-F Stmt) (rest : List Task) (h : Handling) (p : Progress) → out-Stmt s ≡ o → statement_step g (config rest h) s o ≡ p → Runs g (config (Do s ∷ rest) h) p
one g s o rest h p e q = (1, subst (λ (x : Stmt-F Stmt). statement_step g (config rest h) s x ≡ p) (sym e) q)

-- what a statement does is some number of steps: one
pub does : (g : Context) (s : Stmt) (o : Stmt-F Stmt) (rest : List Task) (old new : Handling) (answer : Result (Unit {0}) Stop) → out-Stmt s ≡ o → Does g o old new answer → Comes g (config (Do s ∷ rest) old) rest new answer
does g s o rest old new answer e d = (1, subst (λ (x : Stmt-F Stmt). Tells (statement_step g (config rest old) s x) rest new answer) (sym e) (d rest s))

-- ---- conditions

-- whether a condition holds, or its fault
abbrev pub test_of : Context → Handling → Expr → Result Bool ℕ
test_of g h e = on_ok (value e (valuation g (config [] h))) (λ v. Ok (not (is_zero v)))

tested : (r : Result ℤ ℕ) (b : Bool) (f : Bool → Progress) → Ok b ≡ on_ok r (λ v. Ok (not (is_zero v))) → with_value r (λ v. f (not (is_zero v))) ≡ f b
tested (Ok v) b f e = let same : not (is_zero v) ≡ b = cc in ap f same
tested (Err n) b f e = absurd (cc)

untested : (r : Result ℤ ℕ) (n : ℕ) (f : Bool → Progress) → Err n ≡ on_ok r (λ v. Ok (not (is_zero v))) → with_value r (λ v. f (not (is_zero v))) ≡ Faulted n
untested (Ok v) n f e = absurd (cc)
untested (Err m) n f e = let same : m ≡ n = cc in ap Faulted same

-- a condition that faults

pub if_faults : (g : Context) (s : Stmt) (e : Expr) (block : List Stmt) (other : Option (List Stmt)) (rest : List Task) (h : Handling) (n : ℕ) → s ≡ stmt.If e block other → Err n ≡ test_of g h e → Runs g (config (Do s ∷ rest) h) (Faulted n)
if_faults g s e block other rest h n is q =
    one g s (If e block other) rest h (Faulted n) (ap out-Stmt is ∙ stmt.outs-If e block other)
    (untested (value e (valuation g (config [] h))) n (λ b. branches (config rest h) b block other) q)

pub while_faults : (g : Context) (s : Stmt) (e : Expr) (block : List Stmt) (rest : List Task) (h : Handling) (n : ℕ) → s ≡ stmt.While e block → Err n ≡ test_of g h e → Runs g (config (Do s ∷ rest) h) (Faulted n)
while_faults g s e block rest h n is q =
    one g s (While e block) rest h (Faulted n) (ap out-Stmt is ∙ stmt.outs-While e block)
    (untested (value e (valuation g (config [] h))) n (λ b. loops (config rest h) b s block) q)

-- into a block of an `if`, or past both

pub if_then : (g : Context) (s : Stmt) (e : Expr) (block : List Stmt) (other : Option (List Stmt)) (rest : List Task) (h : Handling) → s ≡ stmt.If e block other → Ok true ≡ test_of g h e → Runs g (config (Do s ∷ rest) h) (Running (config (map Do block ++ EndBlock (length h.scope) ∷ rest) h))
if_then g s e block other rest h is q =
    one g s (If e block other) rest h _ (ap out-Stmt is ∙ stmt.outs-If e block other)
    (tested (value e (valuation g (config [] h))) true (λ b. branches (config rest h) b block other) q)

pub if_else : (g : Context) (s : Stmt) (e : Expr) (block other : List Stmt) (rest : List Task) (h : Handling) → s ≡ stmt.If e block (Some other) → Ok false ≡ test_of g h e → Runs g (config (Do s ∷ rest) h) (Running (config (map Do other ++ EndBlock (length h.scope) ∷ rest) h))
if_else g s e block other rest h is q =
    one g s (If e block (Some other)) rest h _ (ap out-Stmt is ∙ stmt.outs-If e block (Some other))
    (tested (value e (valuation g (config [] h))) false (λ b. branches (config rest h) b block (Some other)) q)

pub if_past : (g : Context) (s : Stmt) (e : Expr) (block : List Stmt) (rest : List Task) (h : Handling) → s ≡ stmt.If e block None → Ok false ≡ test_of g h e → Runs g (config (Do s ∷ rest) h) (Running (config rest h))
if_past g s e block rest h is q =
    one g s (If e block None) rest h _ (ap out-Stmt is ∙ stmt.outs-If e block None)
    (tested (value e (valuation g (config [] h))) false (λ b. branches (config rest h) b block None) q)

-- past a loop, into one turn of it, and into the turn that is one too many

pub loop_past : (g : Context) (s : Stmt) (e : Expr) (block : List Stmt) (rest : List Task) (h : Handling) → s ≡ stmt.While e block → Ok false ≡ test_of g h e → Runs g (config (Do s ∷ rest) h) (Running (config rest h))
loop_past g s e block rest h is q =
    one g s (While e block) rest h _ (ap out-Stmt is ∙ stmt.outs-While e block)
    (tested (value e (valuation g (config [] h))) false (λ b. loops (config rest h) b s block) q)

-- one turn more
abbrev pub turned : Handling → Handling
turned h = record { body = h.body; scope = h.scope; effects = h.effects; turns = h.turns + 1 }

pub loop_turn : (g : Context) (s : Stmt) (e : Expr) (block : List Stmt) (rest : List Task) (h : Handling) → s ≡ stmt.While e block → Ok true ≡ test_of g h e → nat_le 10000 h.turns ≡ false → Runs g (config (Do s ∷ rest) h) (Running (config (map Do block ++ EndBlock (length h.scope) ∷ Do s ∷ rest) (turned h)))
loop_turn g s e block rest h is q few =
    one g s (While e block) rest h _ (ap out-Stmt is ∙ stmt.outs-While e block)
    (tested (value e (valuation g (config [] h))) true (λ b. loops (config rest h) b s block) q ∙ rw few refl)

pub loop_ends : (g : Context) (s : Stmt) (e : Expr) (block : List Stmt) (rest : List Task) (h : Handling) → s ≡ stmt.While e block → Ok true ≡ test_of g h e → nat_le 10000 h.turns ≡ true → Runs g (config (Do s ∷ rest) h) (Faulted 3)
loop_ends g s e block rest h is q many =
    one g s (While e block) rest h _ (ap out-Stmt is ∙ stmt.outs-While e block)
    (tested (value e (valuation g (config [] h))) true (λ b. loops (config rest h) b s block) q ∙ rw many refl)

-- ---- blocks

-- the names of a block leave the scope
pub left : (g : Context) (names : ℕ) (rest : List Task) (h : Handling) → Runs g (config (EndBlock names ∷ rest) h) (Running (config rest (record { body = h.body; scope = take names h.scope; effects = h.effects; turns = h.turns })))
left g names rest h = (1, refl)

pub drop_next : {X : Type 0} (xs : List X) (i : ℕ) (x : X) → i < length xs → x ≡ get_or xs i x → drop i xs ≡ x ∷ drop (i + 1) xs
drop_next xs i x h e = drop_more xs i x h ∙ ap (λ y. y ∷ drop (i + 1) xs) (sym e)

pub drop_end : {X : Type 0} (xs : List X) (i : ℕ) → length xs ≤ i → drop i xs ≡ []
drop_end [] zero h = refl
drop_end [] (suc i) h = refl
drop_end (x ∷ xs) zero h = absurd (omega (arith, h))
drop_end (x ∷ xs) (suc i) h = drop_end xs i (omega (arith, h))

-- ---- errors

erred : (answer : Result (Unit {0}) Stop) (stop : Stop) → IsErrAnd answer (λ s. s ≡ stop) → answer ≡ Err stop
erred (Ok v) stop h = absurd h
erred (Err s) stop h = ap Err h

-- an answer that is this error tells what the error told, whatever comes after it
pub stops : (g : Context) (c : Config) (later rest : List Task) (mid new : Handling) (answer : Result (Unit {0}) Stop) (stop : Stop) → IsErrAnd answer (λ s. s ≡ stop) → Comes g c later mid (Err stop) → Comes g c rest new answer
stops g c later rest mid new answer stop is p = subst (λ (a : Result (Unit {0}) Stop). Comes g c rest new a) (sym (erred answer stop is)) (told stop p)
  where
    told : (stop : Stop) → Comes g c later mid (Err stop) → Comes g c rest new (Err stop)
    told (Fault n) p = p
    told Memory p = (0, tt)
