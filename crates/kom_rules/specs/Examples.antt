-- Syntax trees, each with the text that it stands for.
use Rattle.std.specs.Prelude.{pos, false, [], ◌∷◌, Some, None, codes}
use Rattle.kom_system.specs.declared.parts.ExprPart.TheVariants as ex
use Rattle.kom_system.specs.declared.parts.StmtPart.TheVariants as st
use Rattle.kom_system.specs.declared.parts.OnPart.TheVariants as on
use Rattle.kom_system.specs.declared.parts.EndPart.TheVariants as end
use Rattle.kom_system.specs.declared.parts.Parts.{Parts}

-- a variable declared after a `let` of its name:
-- `system 1; component M { on start as h { let x = 1; } var x; } root M();`
abbrev pub later_variable : Parts
later_variable = record { version = 1; events = ([]); ports = ([]); components = ((record { name = (record { name = (codes "M"); at = 20 }); ports = ([]); vars = ((record { name = (record { name = (codes "x"); at = 57 }); first = (pos 0) }) ∷ []); slots = ([]); channels = ([]); handlers = ((record { name = (record { name = (codes "h"); at = 36 }); on = on.Start; off = false; block = ((st.Let (record { name = (codes "x"); at = 44 }) (ex.Number (pos 1))) ∷ []) }) ∷ []) }) ∷ []); roots = ((record { at = 62; child = (record { kind = (record { name = (codes "M"); at = 67 }); args = ([]) }) }) ∷ []); end = 71 }

-- a port that the type in a slot does not have:
-- `system 1; component N { } component M { slot s : N(); channel k : Timer from s.q to free; } root M();`
abbrev pub unknown_port : Parts
unknown_port = record { version = 1; events = ([]); ports = ([]); components = ((record { name = (record { name = (codes "N"); at = 20 }); ports = ([]); vars = ([]); slots = ([]); channels = ([]); handlers = ([]) }) ∷ (record { name = (record { name = (codes "M"); at = 36 }); ports = ([]); vars = ([]); slots = ((record { name = (record { name = (codes "s"); at = 45 }); child = (Some (record { kind = (record { name = (codes "N"); at = 49 }); args = ([]) })) }) ∷ []); channels = ((record { name = (record { name = (codes "k"); at = 62 }); port = (record { name = (codes "Timer"); at = 66 }); plus = (end.Child (record { name = (codes "s"); at = 77 }) (record { name = (codes "q"); at = 79 })); minus = end.Free; plus_when = []; minus_when = [] }) ∷ []); handlers = ([]) }) ∷ []); roots = ((record { at = 92; child = (record { kind = (record { name = (codes "M"); at = 97 }); args = ([]) }) }) ∷ []); end = 101 }

-- two types that contain each other, and one above them:
-- `system 1; component M { slot s : N(); } component N { slot s : L(); } component L { slot s : N(); } root M();`
abbrev pub own_container : Parts
own_container = record { version = 1; events = ([]); ports = ([]); components = ((record { name = (record { name = (codes "M"); at = 20 }); ports = ([]); vars = ([]); slots = ((record { name = (record { name = (codes "s"); at = 29 }); child = (Some (record { kind = (record { name = (codes "N"); at = 33 }); args = ([]) })) }) ∷ []); channels = ([]); handlers = ([]) }) ∷ (record { name = (record { name = (codes "N"); at = 50 }); ports = ([]); vars = ([]); slots = ((record { name = (record { name = (codes "s"); at = 59 }); child = (Some (record { kind = (record { name = (codes "L"); at = 63 }); args = ([]) })) }) ∷ []); channels = ([]); handlers = ([]) }) ∷ (record { name = (record { name = (codes "L"); at = 80 }); ports = ([]); vars = ([]); slots = ((record { name = (record { name = (codes "s"); at = 89 }); child = (Some (record { kind = (record { name = (codes "N"); at = 93 }); args = ([]) })) }) ∷ []); channels = ([]); handlers = ([]) }) ∷ []); roots = ((record { at = 100; child = (record { kind = (record { name = (codes "M"); at = 105 }); args = ([]) }) }) ∷ []); end = 109 }

-- an answer without its value, in a handler that has nothing to answer:
-- `system 1; component M { on start as h { if 1 { answer Timeout(); } } } root M();`
abbrev pub short_answer : Parts
short_answer = record { version = 1; events = ([]); ports = ([]); components = ((record { name = (record { name = (codes "M"); at = 20 }); ports = ([]); vars = ([]); slots = ([]); channels = ([]); handlers = ((record { name = (record { name = (codes "h"); at = 36 }); on = on.Start; off = false; block = ((st.If (ex.Number (pos 1)) ((st.Answer 47 (record { name = (codes "Timeout"); at = 54 }) ([])) ∷ []) None) ∷ []) }) ∷ []) }) ∷ []); roots = ((record { at = 71; child = (record { kind = (record { name = (codes "M"); at = 76 }); args = ([]) }) }) ∷ []); end = 80 }

-- an answer in an event handler:
-- `system 1; component M { requires t : Timer; on Timeout at t as h { answer CancelTimer(it.id); } } root M();`
abbrev pub nothing_broken : Parts
nothing_broken = record { version = 1; events = ([]); ports = ([]); components = ((record { name = (record { name = (codes "M"); at = 20 }); ports = ((record { name = (record { name = (codes "t"); at = 33 }); port = (record { name = (codes "Timer"); at = 37 }); provided = false }) ∷ []); vars = ([]); slots = ([]); channels = ([]); handlers = ((record { name = (record { name = (codes "h"); at = 63 }); on = (on.Event (record { name = (codes "Timeout"); at = 47 }) (record { name = (codes "t"); at = 58 })); off = false; block = ((st.Answer 67 (record { name = (codes "CancelTimer"); at = 74 }) ((ex.It 86 (record { name = (codes "id"); at = 89 })) ∷ [])) ∷ []) }) ∷ []) }) ∷ []); roots = ((record { at = 98; child = (record { kind = (record { name = (codes "M"); at = 103 }); args = ([]) }) }) ∷ []); end = 107 }
