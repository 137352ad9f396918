-- What an answer says of a value or a fault.
use Rattle.std.specs.Prelude.{◌≡◌, ℕ, Result, Ok, Err}
use Rattle.kom_values.specs.declared.stop.Stop.{Stop}
use Rattle.kom_values.specs.declared.stop.Stop.TheVariants.{Fault, Memory}

-- the answer is the value or the fault; want of memory may always come
abbrev pub Gives : {A : Type 0} → Result A ℕ → Result A Stop → Type 0
Gives r (Ok x) = r ≡ Ok x
Gives r (Err (Fault n)) = r ≡ Err n
Gives r (Err Memory) = Unit {0}
