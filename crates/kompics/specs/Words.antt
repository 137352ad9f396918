-- The words of the commands.
use Rattle.std.specs.Prelude.{◌≡◌, ◌≢◌, ◌≤◌, ◌++◌, ℕ, List, [], ◌∷◌, codes, decimal}
use Rattle.kompics.specs.declared.command.Form.{Form}
use Rattle.kompics.specs.declared.command.Form.TheVariants.{AsItIs, Upgraded}
use Rattle.kompics.specs.declared.command.Command.{Command}
use Rattle.kompics.specs.declared.command.Command.TheVariants as command
use Rattle.kompics.specs.declared.command.Crewed.{Crewed}

-- of the command that writes the system of a file in a form
abbrev pub print : Form → List ℕ → List (List ℕ)
print AsItIs s = codes "check" ∷ s ∷ []
print Upgraded s = codes "upgrade" ∷ s ∷ []

-- of the command that simulates the system of one file under the scenario of another
abbrev pub sim : List ℕ → List ℕ → List (List ℕ)
sim s z = codes "sim" ∷ s ∷ z ∷ []

-- of the command that runs the system of one file under the scenario of another with workers
abbrev pub run : List ℕ → List ℕ → ℕ → List (List ℕ)
run s z n = codes "run" ∷ s ∷ z ∷ decimal n ∷ []

-- of a command that writes a generated text of a number
abbrev pub make : ℕ → List ℕ → List (List ℕ)
make n what = codes "make" ∷ decimal n ∷ what ∷ []

-- of the command that simulates the generated texts of a number
abbrev pub drill : ℕ → List (List ℕ)
drill n = codes "drill" ∷ decimal n ∷ []

abbrev pub usage_line : List ℕ
usage_line = codes "usage: kompics check S | sim S Z | run S Z WORKERS | make N system|scenario | drill N | upgrade S" ++ 10 ∷ []

-- the words are of no run with 1 to 64 workers
abbrev pub IsNoRun : List (List ℕ) → Type 0
IsNoRun words = (s z : List ℕ) (n : ℕ) → 1 ≤ n → n ≤ 64 → words ≢ run s z n

-- the words are no command that needs no workers
pub record IsNoCommand (words : List (List ℕ)) : Type 0 where
  pub no_print : (form : Form) (s : List ℕ) → words ≢ print form s
  pub no_sim : (s z : List ℕ) → words ≢ sim s z
  pub no_system : (n : ℕ) → 1 ≤ n → n ≤ 30 → words ≢ make n (codes "system")
  pub no_scenario : (n : ℕ) → 1 ≤ n → n ≤ 30 → words ≢ make n (codes "scenario")
  pub no_drill : (n : ℕ) → 1 ≤ n → n ≤ 30 → words ≢ drill n

-- the words are those of the command
abbrev pub IsCommand : Command → List (List ℕ) → Type 0
IsCommand (command.Print form s) words = words ≡ print form s.now
IsCommand (command.Sim s z) words = words ≡ sim s.now z.now
IsCommand (command.MakeSystem n) words = (1 ≤ n) × (n ≤ 30) × (words ≡ make n (codes "system"))
IsCommand (command.MakeScenario n) words = (1 ≤ n) × (n ≤ 30) × (words ≡ make n (codes "scenario"))
IsCommand (command.Drill n) words = (1 ≤ n) × (n ≤ 30) × (words ≡ drill n)

-- the words are those of the run with workers
abbrev pub IsCrewed : Crewed → List (List ℕ) → Type 0
IsCrewed r words = (1 ≤ r.workers) × (r.workers ≤ 64) × (words ≡ run r.system.now r.scenario.now r.workers)
