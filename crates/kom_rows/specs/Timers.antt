-- Timers go off in order of their times, and one that has gone off cannot be cancelled.
use Rattle.std.specs.Prelude.{pos, true, false, List, [], ◌∷◌, None, codes}
use Rattle.kom_base.specs.declared.numbers.Dir.TheVariants.{Plus}
use Rattle.kom_base.specs.declared.numbers.Side.TheVariants.{Outside}
use Rattle.kom_lang.specs.Declarations.{Declarations}
use Rattle.kom_lang.specs.declared.kind.Kind.{Kind}
use Rattle.kom_lang.specs.declared.stmt.On.TheVariants as on
use Rattle.kom_lang.specs.declared.stmt.Stmt.TheVariants as stmt
use Rattle.kom_lang.specs.declared.expr.Expr.TheVariants as expr
use Rattle.kom_lang.specs.declared.expr.Binary.TheVariants as binary
use Rattle.kom_lang.specs.declared.body.Effect.TheVariants as effect
use Rattle.kom_record.specs.declared.plan.Plan.{Plan}
use Rattle.kom_record.specs.declared.item.Control.TheVariants.{Start}
use Rattle.kom_record.specs.declared.item.Item.TheVariants.{Control, Arrival}
use Rattle.kom_record.specs.declared.item.Back.TheVariants.{Plain}
use Rattle.kom_record.specs.declared.entry.Outcome.TheVariants as outcome
use Rattle.kom_record.specs.declared.entry.Entry.{Entry}
use Rattle.kom_record.specs.declared.entry.Entry.TheVariants.{Took, Did, Moved}
use Rattle.kom_record.specs.Entries.{History}
use Rattle.kom_record.specs.Trace.{Text}
use Rattle.kom_rows.specs.Worked.{IsSimulation}

abbrev pub kind0 : Kind
kind0 = record { name = (77 ∷ 97 ∷ 105 ∷ 110 ∷ []); ports = (record { name = (116 ∷ []); port = 0; provided = false } ∷ []); vars = (record { name = (108 ∷ 111 ∷ 103 ∷ []); first = pos 0 } ∷ []); slots = ([]); channels = ([]); handlers = (record { name = (103 ∷ 111 ∷ []); on = on.Start; off = false; block = (stmt.Trigger 0 ((expr.Number (pos 1)) ∷ (expr.Number (pos 0)) ∷ []) 0 ∷ stmt.Trigger 0 ((expr.Number (pos 2)) ∷ (expr.Number (pos 5)) ∷ []) 0 ∷ stmt.Trigger 0 ((expr.Number (pos 3)) ∷ (expr.Number (pos 5)) ∷ []) 0 ∷ []) } ∷ record { name = (104 ∷ []); on = on.Event 2 0; off = false; block = (stmt.SetVar 0 (expr.Pair binary.Add (expr.Pair binary.Mul (expr.Var 0) (expr.Number (pos 10))) (expr.It 0)) ∷ stmt.If (expr.Pair binary.Eq (expr.It 0) (expr.Number (pos 2))) (stmt.Trigger 1 ((expr.Number (pos 1)) ∷ []) 0 ∷ []) None ∷ []) } ∷ []) }

abbrev pub S : Declarations
S = record { events = (record { parent = None; own = 2 } ∷ record { parent = None; own = 1 } ∷ record { parent = None; own = 1 } ∷ record { parent = None; own = 2 } ∷ []); ports = (record { plus = (2 ∷ []); minus = (0 ∷ 1 ∷ []) } ∷ record { plus = (3 ∷ []); minus = (3 ∷ []) } ∷ []); kinds = (kind0 ∷ []); root = record { kind = 0; args = ([]) } }

abbrev pub names : List Text
names = ((83 ∷ 101 ∷ 116 ∷ 84 ∷ 105 ∷ 109 ∷ 101 ∷ 114 ∷ []) ∷ (67 ∷ 97 ∷ 110 ∷ 99 ∷ 101 ∷ 108 ∷ 84 ∷ 105 ∷ 109 ∷ 101 ∷ 114 ∷ []) ∷ (84 ∷ 105 ∷ 109 ∷ 101 ∷ 111 ∷ 117 ∷ 116 ∷ []) ∷ (77 ∷ 101 ∷ 115 ∷ 115 ∷ 97 ∷ 103 ∷ 101 ∷ []) ∷ [])

abbrev pub Z : Plan
Z = record { seed = 0; steps = 100000; instants = 100000; lo = 1; hi = 1; raises = ([]) }

abbrev pub e0 : Entry
e0 = Took 0 0 (Control Start)

abbrev pub e1 : Entry
e1 = Did 0 0 0 (outcome.Done (record { kind = 0; vars = ((pos 0) ∷ []); subs = (0 ∷ 1 ∷ []); slots = ([]); wires = ([]); depth = 1; active = true; initialised = true }) (effect.Trigger 0 (record { kind = 0; values = ((pos 1) ∷ (pos 0) ∷ []) }) ∷ effect.Trigger 0 (record { kind = 0; values = ((pos 2) ∷ (pos 5) ∷ []) }) ∷ effect.Trigger 0 (record { kind = 0; values = ((pos 3) ∷ (pos 5) ∷ []) }) ∷ [])) None ([])

abbrev pub e2 : Entry
e2 = Moved 0 0 (record { chan = 0; event = (record { kind = 2; values = ((pos 1) ∷ []) }) } ∷ [])

abbrev pub e3 : Entry
e3 = Took 0 0 (Arrival 0 Plus (record { position = 2; place = 0 }) 0 Outside (record { kind = 2; values = ((pos 1) ∷ []) }) Plain)

abbrev pub e4 : Entry
e4 = Did 0 0 3 (outcome.Done (record { kind = 0; vars = ((pos 1) ∷ []); subs = (0 ∷ 1 ∷ []); slots = ([]); wires = ([]); depth = 1; active = true; initialised = true }) ([])) None ([])

abbrev pub e5 : Entry
e5 = Moved 0 5 (record { chan = 0; event = (record { kind = 2; values = ((pos 2) ∷ []) }) } ∷ record { chan = 0; event = (record { kind = 2; values = ((pos 3) ∷ []) }) } ∷ [])

abbrev pub e6 : Entry
e6 = Took 0 0 (Arrival 0 Plus (record { position = 5; place = 0 }) 0 Outside (record { kind = 2; values = ((pos 2) ∷ []) }) Plain)

abbrev pub e7 : Entry
e7 = Did 0 0 6 (outcome.Done (record { kind = 0; vars = ((pos 12) ∷ []); subs = (0 ∷ 1 ∷ []); slots = ([]); wires = ([]); depth = 1; active = true; initialised = true }) (effect.Trigger 0 (record { kind = 1; values = ((pos 1) ∷ []) }) ∷ [])) None ([])

abbrev pub e8 : Entry
e8 = Took 0 0 (Arrival 0 Plus (record { position = 5; place = 1 }) 0 Outside (record { kind = 2; values = ((pos 3) ∷ []) }) Plain)

abbrev pub e9 : Entry
e9 = Did 0 0 8 (outcome.Done (record { kind = 0; vars = ((pos 123) ∷ []); subs = (0 ∷ 1 ∷ []); slots = ([]); wires = ([]); depth = 1; active = true; initialised = true }) ([])) None ([])

abbrev pub h0 : History
h0 = []

abbrev pub h1 : History
h1 = e0 ∷ h0

abbrev pub h2 : History
h2 = e1 ∷ h1

abbrev pub h3 : History
h3 = e2 ∷ h2

abbrev pub h4 : History
h4 = e3 ∷ h3

abbrev pub h5 : History
h5 = e4 ∷ h4

abbrev pub h6 : History
h6 = e5 ∷ h5

abbrev pub h7 : History
h7 = e6 ∷ h6

abbrev pub h8 : History
h8 = e7 ∷ h7

abbrev pub h9 : History
h9 = e8 ∷ h8

abbrev pub h10 : History
h10 = e9 ∷ h9

abbrev pub text : List Text
text =
    codes "trace 1"
    ∷ codes "0 0 took 0 start"
    ∷ codes "1 0 did 0 done active 0"
    ∷ codes "  trigger t SetTimer 1 0"
    ∷ codes "  trigger t SetTimer 2 5"
    ∷ codes "  trigger t SetTimer 3 5"
    ∷ codes "2 0 moved 0"
    ∷ codes "  release 0 0 Timeout 1"
    ∷ codes "3 0 took 0 event 0 plus 2.0 t outside Timeout 1"
    ∷ codes "4 0 did 0 done active 1"
    ∷ codes "5 0 moved 5"
    ∷ codes "  release 0 0 Timeout 2"
    ∷ codes "  release 0 1 Timeout 3"
    ∷ codes "6 0 took 0 event 0 plus 5.0 t outside Timeout 2"
    ∷ codes "7 0 did 0 done active 12"
    ∷ codes "  trigger t CancelTimer 1"
    ∷ codes "8 0 took 0 event 0 plus 5.1 t outside Timeout 3"
    ∷ codes "9 0 did 0 done active 123"
    ∷ codes "end quiet"
    ∷ codes "took 4 did 4 moved 2 queued 0 out 4"
    ∷ []

abbrev pub Timers : Type 0
Timers = IsSimulation names S Z h10 text
