-- A component whose Init faults stays without subscriptions, and Start leaves it passive.
use Rattle.std.specs.Prelude.{pos, true, false, List, [], ◌∷◌, Some, None, codes}
use Rattle.kom_lang.specs.Declarations.{Declarations}
use Rattle.kom_lang.specs.declared.kind.Kind.{Kind}
use Rattle.kom_lang.specs.declared.stmt.On.TheVariants as on
use Rattle.kom_lang.specs.declared.stmt.Stmt.TheVariants as stmt
use Rattle.kom_lang.specs.declared.expr.Expr.TheVariants as expr
use Rattle.kom_lang.specs.declared.expr.Binary.TheVariants as binary
use Rattle.kom_record.specs.declared.plan.Plan.{Plan}
use Rattle.kom_record.specs.declared.item.Control.TheVariants.{Init, Start, Fault}
use Rattle.kom_record.specs.declared.item.Item.TheVariants.{Control}
use Rattle.kom_record.specs.declared.entry.Outcome.TheVariants as outcome
use Rattle.kom_record.specs.declared.entry.Entry.{Entry}
use Rattle.kom_record.specs.declared.entry.Entry.TheVariants.{Took, Did}
use Rattle.kom_record.specs.Entries.{History}
use Rattle.kom_record.specs.Trace.{Text}
use Rattle.kom_rows.specs.Worked.{IsSimulation}

abbrev pub kind0 : Kind
kind0 = record { name = (75 ∷ 105 ∷ 100 ∷ []); ports = ([]); vars = (record { name = (120 ∷ []); first = pos 7 } ∷ []); slots = ([]); channels = ([]); handlers = (record { name = (98 ∷ 111 ∷ 114 ∷ 110 ∷ []); on = on.Init ((97 ∷ []) ∷ []); off = false; block = (stmt.SetVar 0 (expr.Pair binary.Div (expr.Number (pos 1)) (expr.Local 0)) ∷ []) } ∷ []) }

abbrev pub kind1 : Kind
kind1 = record { name = (77 ∷ 97 ∷ 105 ∷ 110 ∷ []); ports = ([]); vars = (record { name = (108 ∷ 97 ∷ 115 ∷ 116 ∷ []); first = pos 0 } ∷ []); slots = (record { name = (107 ∷ []); child = Some (record { kind = 0; args = ((pos 0) ∷ []) }) } ∷ []); channels = ([]); handlers = (record { name = (102 ∷ []); on = on.Fault (115 ∷ []) (110 ∷ []); off = false; block = (stmt.SetVar 0 (expr.Local 1) ∷ []) } ∷ []) }

abbrev pub S : Declarations
S = record { events = (record { parent = None; own = 2 } ∷ record { parent = None; own = 1 } ∷ record { parent = None; own = 1 } ∷ record { parent = None; own = 2 } ∷ []); ports = (record { plus = (2 ∷ []); minus = (0 ∷ 1 ∷ []) } ∷ record { plus = (3 ∷ []); minus = (3 ∷ []) } ∷ []); kinds = (kind0 ∷ kind1 ∷ []); root = record { kind = 1; args = ([]) } }

abbrev pub names : List Text
names = ((83 ∷ 101 ∷ 116 ∷ 84 ∷ 105 ∷ 109 ∷ 101 ∷ 114 ∷ []) ∷ (67 ∷ 97 ∷ 110 ∷ 99 ∷ 101 ∷ 108 ∷ 84 ∷ 105 ∷ 109 ∷ 101 ∷ 114 ∷ []) ∷ (84 ∷ 105 ∷ 109 ∷ 101 ∷ 111 ∷ 117 ∷ 116 ∷ []) ∷ (77 ∷ 101 ∷ 115 ∷ 115 ∷ 97 ∷ 103 ∷ 101 ∷ []) ∷ [])

abbrev pub Z : Plan
Z = record { seed = 0; steps = 100000; instants = 100000; lo = 1; hi = 1; raises = ([]) }

abbrev pub e0 : Entry
e0 = Took 0 0 (Control Start)

abbrev pub e1 : Entry
e1 = Did 0 0 0 (outcome.Done (record { kind = 1; vars = ((pos 0) ∷ []); subs = (0 ∷ []); slots = ((Some 0) ∷ []); wires = ([]); depth = 1; active = true; initialised = true }) ([])) None ([])

abbrev pub e2 : Entry
e2 = Took 0 1 (Control (Init ((pos 0) ∷ [])))

abbrev pub e3 : Entry
e3 = Did 0 1 2 (outcome.Fault 1) (Some 0) ([])

abbrev pub e4 : Entry
e4 = Took 0 0 (Control (Fault 0 1))

abbrev pub e5 : Entry
e5 = Did 0 0 4 (outcome.Done (record { kind = 1; vars = ((pos 1) ∷ []); subs = (0 ∷ []); slots = ((Some 0) ∷ []); wires = ([]); depth = 1; active = true; initialised = true }) ([])) None ([])

abbrev pub e6 : Entry
e6 = Took 0 1 (Control Start)

abbrev pub e7 : Entry
e7 = Did 0 1 6 (outcome.Done (record { kind = 0; vars = ((pos 7) ∷ []); subs = ([]); slots = ([]); wires = ([]); depth = 2; active = false; initialised = false }) ([])) None ([])

abbrev pub h0 : History
h0 = []

abbrev pub h1 : History
h1 = e0 ∷ h0

abbrev pub h2 : History
h2 = e1 ∷ h1

abbrev pub h3 : History
h3 = e2 ∷ h2

abbrev pub h4 : History
h4 = e3 ∷ h3

abbrev pub h5 : History
h5 = e4 ∷ h4

abbrev pub h6 : History
h6 = e5 ∷ h5

abbrev pub h7 : History
h7 = e6 ∷ h6

abbrev pub h8 : History
h8 = e7 ∷ h7

abbrev pub text : List Text
text =
    codes "trace 1"
    ∷ codes "0 0 took 0 start"
    ∷ codes "1 0 did 0 done active 0"
    ∷ codes "2 0 took 1 init 0"
    ∷ codes "3 0 did 1 fault 1 to 0"
    ∷ codes "4 0 took 0 fault 0 1"
    ∷ codes "5 0 did 0 done active 1"
    ∷ codes "6 0 took 1 start"
    ∷ codes "7 0 did 1 done passive 7"
    ∷ codes "end quiet"
    ∷ codes "took 4 did 4 moved 0 queued 0 out 0"
    ∷ []

abbrev pub FaultInInit : Type 0
FaultInInit = IsSimulation names S Z h8 text
