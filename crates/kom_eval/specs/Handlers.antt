-- The tasks of handlers that run one after another.
use Rattle.std.specs.Prelude.{ℕ, ℤ, List, ◌∷◌, map}
use Rattle.std.specs.List.{filter_map, flat_map}
use Rattle.std.specs.Option.{option_map}
use Rattle.kom_lang.specs.declared.kind.Kind.{Kind}
use Rattle.kom_lang.specs.Declarations.{handler_of}
use Rattle.kom_lang.specs.Steps.{Task, Do, BeginHandler}

-- the tasks of the handlers with these numbers, each with the same parameters
abbrev pub tasks : Kind → List ℤ → List ℕ → List Task
tasks kind parameters numbers = flat_map (λ b. BeginHandler parameters ∷ map Do b) (filter_map (λ h. option_map (λ x. x.block) (handler_of kind h)) numbers)
