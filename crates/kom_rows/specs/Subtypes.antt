-- An event runs the handlers of its type and of the types above it, in the order in which they were subscribed.
use Rattle.std.specs.Prelude.{pos, true, false, List, [], ◌∷◌, Some, None, codes}
use Rattle.kom_base.specs.declared.numbers.Dir.TheVariants.{Minus}
use Rattle.kom_base.specs.declared.numbers.Side.TheVariants.{Outside}
use Rattle.kom_lang.specs.Declarations.{Declarations}
use Rattle.kom_lang.specs.declared.kind.Kind.{Kind}
use Rattle.kom_lang.specs.declared.stmt.On.TheVariants as on
use Rattle.kom_lang.specs.declared.stmt.Stmt.TheVariants as stmt
use Rattle.kom_lang.specs.declared.expr.Expr.TheVariants as expr
use Rattle.kom_lang.specs.declared.expr.Binary.TheVariants as binary
use Rattle.kom_record.specs.declared.plan.Plan.{Plan}
use Rattle.kom_record.specs.declared.item.Control.TheVariants.{Start}
use Rattle.kom_record.specs.declared.item.Item.TheVariants.{Control, Arrival}
use Rattle.kom_record.specs.declared.item.Back.TheVariants.{Plain}
use Rattle.kom_record.specs.declared.entry.Outcome.TheVariants as outcome
use Rattle.kom_record.specs.declared.entry.Entry.{Entry}
use Rattle.kom_record.specs.declared.entry.Entry.TheVariants.{Took, Did, Moved}
use Rattle.kom_record.specs.Entries.{History}
use Rattle.kom_record.specs.Trace.{Text}
use Rattle.kom_rows.specs.Worked.{IsSimulation}

abbrev pub kind0 : Kind
kind0 = record { name = (77 ∷ 97 ∷ 105 ∷ 110 ∷ []); ports = (record { name = (112 ∷ []); port = 2; provided = true } ∷ []); vars = (record { name = (120 ∷ []); first = pos 0 } ∷ []); slots = ([]); channels = ([]); handlers = (record { name = (104 ∷ 97 ∷ []); on = on.Event 4 0; off = true; block = (stmt.SetVar 0 (expr.Pair binary.Add (expr.Pair binary.Mul (expr.Var 0) (expr.Number (pos 10))) (expr.Number (pos 1))) ∷ []) } ∷ record { name = (104 ∷ 98 ∷ []); on = on.Event 5 0; off = false; block = (stmt.SetVar 0 (expr.Pair binary.Add (expr.Pair binary.Mul (expr.Var 0) (expr.Number (pos 10))) (expr.Number (pos 2))) ∷ []) } ∷ record { name = (103 ∷ 111 ∷ []); on = on.Start; off = false; block = (stmt.Subscribe 0 ∷ []) } ∷ []) }

abbrev pub S : Declarations
S = record { events = (record { parent = None; own = 2 } ∷ record { parent = None; own = 1 } ∷ record { parent = None; own = 1 } ∷ record { parent = None; own = 2 } ∷ record { parent = None; own = 1 } ∷ record { parent = (Some 4); own = 1 } ∷ []); ports = (record { plus = (2 ∷ []); minus = (0 ∷ 1 ∷ []) } ∷ record { plus = (3 ∷ []); minus = (3 ∷ []) } ∷ record { plus = ([]); minus = (4 ∷ []) } ∷ []); kinds = (kind0 ∷ []); root = record { kind = 0; args = ([]) } }

abbrev pub names : List Text
names = ((83 ∷ 101 ∷ 116 ∷ 84 ∷ 105 ∷ 109 ∷ 101 ∷ 114 ∷ []) ∷ (67 ∷ 97 ∷ 110 ∷ 99 ∷ 101 ∷ 108 ∷ 84 ∷ 105 ∷ 109 ∷ 101 ∷ 114 ∷ []) ∷ (84 ∷ 105 ∷ 109 ∷ 101 ∷ 111 ∷ 117 ∷ 116 ∷ []) ∷ (77 ∷ 101 ∷ 115 ∷ 115 ∷ 97 ∷ 103 ∷ 101 ∷ []) ∷ (65 ∷ []) ∷ (66 ∷ []) ∷ [])

abbrev pub Z : Plan
Z = record { seed = 0; steps = 100000; instants = 100000; lo = 1; hi = 1; raises = (record { time = 5; chan = 0; event = (record { kind = 5; values = ((pos 7) ∷ (pos 8) ∷ []) }) } ∷ []) }

abbrev pub e0 : Entry
e0 = Took 0 0 (Control Start)

abbrev pub e1 : Entry
e1 = Did 0 0 0 (outcome.Done (record { kind = 0; vars = ((pos 0) ∷ []); subs = (1 ∷ 2 ∷ 0 ∷ []); slots = ([]); wires = ([]); depth = 1; active = true; initialised = true }) ([])) None ([])

abbrev pub e2 : Entry
e2 = Moved 0 5 (record { chan = 0; event = (record { kind = 5; values = ((pos 7) ∷ (pos 8) ∷ []) }) } ∷ [])

abbrev pub e3 : Entry
e3 = Took 0 0 (Arrival 0 Minus (record { position = 2; place = 0 }) 0 Outside (record { kind = 5; values = ((pos 7) ∷ (pos 8) ∷ []) }) Plain)

abbrev pub e4 : Entry
e4 = Did 0 0 3 (outcome.Done (record { kind = 0; vars = ((pos 21) ∷ []); subs = (1 ∷ 2 ∷ 0 ∷ []); slots = ([]); wires = ([]); depth = 1; active = true; initialised = true }) ([])) None ([])

abbrev pub h0 : History
h0 = []

abbrev pub h1 : History
h1 = e0 ∷ h0

abbrev pub h2 : History
h2 = e1 ∷ h1

abbrev pub h3 : History
h3 = e2 ∷ h2

abbrev pub h4 : History
h4 = e3 ∷ h3

abbrev pub h5 : History
h5 = e4 ∷ h4

abbrev pub text : List Text
text =
    codes "trace 1"
    ∷ codes "0 0 took 0 start"
    ∷ codes "1 0 did 0 done active 0"
    ∷ codes "2 0 moved 5"
    ∷ codes "  release 0 0 B 7 8"
    ∷ codes "3 0 took 0 event 0 minus 2.0 p outside B 7 8"
    ∷ codes "4 0 did 0 done active 21"
    ∷ codes "end quiet"
    ∷ codes "took 2 did 2 moved 1 queued 0 out 0"
    ∷ []

abbrev pub Subtypes : Type 0
Subtypes = IsSimulation names S Z h5 text
