-- What a handling is in the small steps, and what the answer of a call says of them.
use Rattle.std.specs.Prelude.{◌≡◌, ℕ, nat_le, if◌then◌else◌, List, [], ◌∷◌, ◌++◌, length, Option, Some, None, Result, Ok, Err}
use Rattle.kom_base.specs.Lists.{either}
use Rattle.kom_lang.specs.declared.stmt.Stmt.{Stmt, Stmt-F}
use Rattle.kom_lang.specs.declared.body.Effect.{Effect}
use Rattle.kom_lang.specs.Steps.{Task, Config, Context, Progress, Running, Faulted, statement_step, after}
use Rattle.kom_values.specs.declared.stop.Stop.{Stop}
use Rattle.kom_values.specs.declared.stop.Stop.TheVariants.{Fault, Memory}
use Rattle.kom_steps.specs.declared.handling.Handling.{Handling}
use Rattle.kom_steps.specs.declared.handling.Setting.{Setting}

-- what the steps read and never change
abbrev pub context_of : Setting → Context
context_of s = record { declarations = s.system.now.declarations; it = s.it.now; state = s.state.now }

-- the configuration of a handling that has these tasks still to do
abbrev pub config : List Task → Handling → Config
config todo h = record { todo = todo; scope = h.scope; body = h.body; effects = h.effects; turns = h.turns }

-- the answer of a call tells this progress, where those tasks come after it; want of memory tells
-- nothing
abbrev pub Tells : Progress → List Task → Handling → Result (Unit {0}) Stop → Type 0
Tells p rest h (Ok v) = p ≡ Running (config rest h)
Tells p rest h (Err (Fault n)) = p ≡ Faulted n
Tells p rest h (Err Memory) = Unit {0}

-- the answer tells the step of a statement, whatever comes after it
abbrev pub Does : Context → Stmt-F Stmt → Handling → Handling → Result (Unit {0}) Stop → Type 0
Does g o old new answer = (rest : List Task) (s : Stmt) → Tells (statement_step g (config rest old) s o) rest new answer

-- some number of steps leads from the configuration to what the answer tells
abbrev pub Comes : Context → Config → List Task → Handling → Result (Unit {0}) Stop → Type 0
Comes g c rest h answer = (n : ℕ) × Tells (after n g (Running c)) rest h answer

-- the fault that keeps an effect from being added: that the handling has 32 already, or else that
-- of the effect's own checks
abbrev pub fault_before : Handling → Option ℕ → Option ℕ
fault_before h failed = either (if nat_le 32 (length h.effects) then Some 4 else None) failed

-- one effect more
abbrev pub with_effect : Handling → Effect → Handling
with_effect h e = record { body = h.body; scope = h.scope; effects = h.effects ++ e ∷ []; turns = h.turns }

-- an effect was added where there is no such fault
abbrev pub Takes : Option ℕ → Handling → Effect → Handling → Result (Unit {0}) Stop → Type 0
Takes fault old e new (Ok v) = (fault ≡ None) × (new ≡ with_effect old e)
Takes fault old e new (Err (Fault n)) = fault ≡ Some n
Takes fault old e new (Err Memory) = Unit {0}
