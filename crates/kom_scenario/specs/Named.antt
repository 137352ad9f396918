-- What the names of a scenario stand for.
use Rattle.std.specs.Prelude.{ℕ, suc, Bool, false, List, [], ◌∷◌, Option, Some, None, bytes_eq, if◌then◌else◌}
use Rattle.kom_lang.specs.Declarations.{kind_of}
use Rattle.kom_lang.specs.declared.kind.PortDecl.{PortDecl}
use Rattle.kom_system.specs.Contents.{Contents}
use Rattle.kom_scengram.specs.declared.parts.SourcePart.{SourcePart}
use Rattle.kom_scengram.specs.declared.parts.SourcePart.TheVariants.{At, Process}

-- the number of the first that passes the test; that of the first of all is n
abbrev pub number_from : {A : Type 0} → (A → Bool) → ℕ → List A → Option ℕ
number_from test n [] = None
number_from test n (x ∷ xs) = if test x then Some n else number_from test (suc n) xs

-- the event type of a name
unfoldable pub kind_number : Contents → List ℕ → Option ℕ
kind_number c name = number_from (bytes_eq name) 0 c.event_names

abbrev pub root_ports : Contents → List PortDecl
root_ports c = (kind_of c.declarations c.declarations.root.kind).ports

-- the port of the root of a name
unfoldable pub port_number : Contents → List ℕ → Option ℕ
port_number c name = number_from (λ p. bytes_eq name p.name) 0 (root_ports c)

abbrev pub is_process : List ℕ → SourcePart → Bool
is_process name (At at time raise) = false
is_process name (Process p) = bytes_eq name p.name.name

-- the process of a name among these sources
unfoldable pub process_number : List SourcePart → List ℕ → Option ℕ
process_number sources name = number_from (is_process name) 0 sources
