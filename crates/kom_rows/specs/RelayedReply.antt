-- An answer goes back through the component that had passed the question on.
use Rattle.std.specs.Prelude.{pos, true, false, List, [], ◌∷◌, Some, None, codes}
use Rattle.kom_base.specs.declared.numbers.Dir.TheVariants.{Plus, Minus}
use Rattle.kom_base.specs.declared.numbers.Side.TheVariants.{Outside, Inside}
use Rattle.kom_lang.specs.Declarations.{Declarations}
use Rattle.kom_lang.specs.declared.kind.Kind.{Kind}
use Rattle.kom_lang.specs.declared.stmt.On.TheVariants as on
use Rattle.kom_lang.specs.declared.stmt.Stmt.TheVariants as stmt
use Rattle.kom_lang.specs.declared.expr.Expr.TheVariants as expr
use Rattle.kom_lang.specs.declared.expr.Binary.TheVariants as binary
use Rattle.kom_lang.specs.declared.body.Effect.TheVariants as effect
use Rattle.kom_record.specs.declared.plan.Plan.{Plan}
use Rattle.kom_record.specs.declared.item.Control.TheVariants.{Init, Start}
use Rattle.kom_record.specs.declared.item.Item.TheVariants.{Control, Arrival}
use Rattle.kom_record.specs.declared.item.Back.TheVariants.{Plain, To}
use Rattle.kom_record.specs.declared.entry.Outcome.TheVariants as outcome
use Rattle.kom_record.specs.declared.entry.Entry.{Entry}
use Rattle.kom_record.specs.declared.entry.Entry.TheVariants.{Took, Did}
use Rattle.kom_record.specs.Entries.{History}
use Rattle.kom_record.specs.Trace.{Text}
use Rattle.kom_rows.specs.Worked.{IsSimulation}

abbrev pub kind0 : Kind
kind0 = record { name = (83 ∷ 101 ∷ 114 ∷ 118 ∷ 101 ∷ 114 ∷ []); ports = (record { name = (113 ∷ []); port = 2; provided = true } ∷ []); vars = ([]); slots = ([]); channels = ([]); handlers = (record { name = (104 ∷ []); on = on.Event 4 0; off = false; block = (stmt.Answer 5 ((expr.Pair binary.Add (expr.It 0) (expr.Number (pos 1))) ∷ []) ∷ []) } ∷ []) }

abbrev pub kind1 : Kind
kind1 = record { name = (67 ∷ 108 ∷ 105 ∷ 101 ∷ 110 ∷ 116 ∷ []); ports = (record { name = (113 ∷ []); port = 2; provided = false } ∷ []); vars = (record { name = (103 ∷ 111 ∷ 116 ∷ []); first = pos 0 } ∷ []); slots = ([]); channels = ([]); handlers = (record { name = (98 ∷ 111 ∷ 114 ∷ 110 ∷ []); on = on.Init ((110 ∷ []) ∷ []); off = false; block = (stmt.SetVar 0 (expr.Local 0) ∷ []) } ∷ record { name = (103 ∷ 111 ∷ []); on = on.Start; off = false; block = (stmt.Trigger 4 ((expr.Var 0) ∷ []) 0 ∷ []) } ∷ record { name = (104 ∷ []); on = on.Event 5 0; off = false; block = (stmt.SetVar 0 (expr.It 0) ∷ []) } ∷ []) }

abbrev pub kind2 : Kind
kind2 = record { name = (87 ∷ 114 ∷ 97 ∷ 112 ∷ []); ports = (record { name = (113 ∷ []); port = 2; provided = true } ∷ []); vars = ([]); slots = (record { name = (105 ∷ 110 ∷ 110 ∷ 101 ∷ 114 ∷ []); child = Some (record { kind = 0; args = ([]) }) } ∷ []); channels = (record { name = (119 ∷ []); port = 2; plus = (Some (record { slot = (Some 0); port = 0 })); minus = (Some (record { slot = None; port = 0 })); plus_when = []; minus_when = [] } ∷ []); handlers = ([]) }

abbrev pub kind3 : Kind
kind3 = record { name = (77 ∷ 97 ∷ 105 ∷ 110 ∷ []); ports = ([]); vars = ([]); slots = (record { name = (115 ∷ []); child = Some (record { kind = 2; args = ([]) }) } ∷ record { name = (97 ∷ []); child = Some (record { kind = 1; args = ((pos 10) ∷ []) }) } ∷ []); channels = (record { name = (107 ∷ []); port = 2; plus = (Some (record { slot = (Some 0); port = 0 })); minus = (Some (record { slot = (Some 1); port = 0 })); plus_when = []; minus_when = [] } ∷ []); handlers = ([]) }

abbrev pub S : Declarations
S = record { events = (record { parent = None; own = 2 } ∷ record { parent = None; own = 1 } ∷ record { parent = None; own = 1 } ∷ record { parent = None; own = 2 } ∷ record { parent = None; own = 1 } ∷ record { parent = None; own = 1 } ∷ []); ports = (record { plus = (2 ∷ []); minus = (0 ∷ 1 ∷ []) } ∷ record { plus = (3 ∷ []); minus = (3 ∷ []) } ∷ record { plus = (5 ∷ []); minus = (4 ∷ []) } ∷ []); kinds = (kind0 ∷ kind1 ∷ kind2 ∷ kind3 ∷ []); root = record { kind = 3; args = ([]) } }

abbrev pub names : List Text
names = ((83 ∷ 101 ∷ 116 ∷ 84 ∷ 105 ∷ 109 ∷ 101 ∷ 114 ∷ []) ∷ (67 ∷ 97 ∷ 110 ∷ 99 ∷ 101 ∷ 108 ∷ 84 ∷ 105 ∷ 109 ∷ 101 ∷ 114 ∷ []) ∷ (84 ∷ 105 ∷ 109 ∷ 101 ∷ 111 ∷ 117 ∷ 116 ∷ []) ∷ (77 ∷ 101 ∷ 115 ∷ 115 ∷ 97 ∷ 103 ∷ 101 ∷ []) ∷ (65 ∷ 115 ∷ 107 ∷ []) ∷ (83 ∷ 97 ∷ 121 ∷ []) ∷ [])

abbrev pub Z : Plan
Z = record { seed = 0; steps = 100000; instants = 100000; lo = 1; hi = 1; raises = ([]) }

abbrev pub e0 : Entry
e0 = Took 0 0 (Control Start)

abbrev pub e1 : Entry
e1 = Did 0 0 0 (outcome.Done (record { kind = 3; vars = ([]); subs = ([]); slots = ((Some 2) ∷ (Some 1) ∷ []); wires = (record { held = false; plus = (Some (record { slot = (Some 0); port = 0 })); minus = (Some (record { slot = (Some 1); port = 0 })) } ∷ []); depth = 1; active = true; initialised = true }) ([])) None ([])

abbrev pub e2 : Entry
e2 = Took 0 3 (Control (Init ((pos 10) ∷ [])))

abbrev pub e3 : Entry
e3 = Did 0 3 2 (outcome.Done (record { kind = 1; vars = ((pos 10) ∷ []); subs = (1 ∷ 2 ∷ []); slots = ([]); wires = ([]); depth = 2; active = false; initialised = true }) ([])) None ([])

abbrev pub e4 : Entry
e4 = Took 0 1 (Control Start)

abbrev pub e5 : Entry
e5 = Did 0 1 4 (outcome.Done (record { kind = 2; vars = ([]); subs = ([]); slots = ((Some 0) ∷ []); wires = (record { held = false; plus = (Some (record { slot = (Some 0); port = 0 })); minus = (Some (record { slot = None; port = 0 })) } ∷ []); depth = 2; active = true; initialised = true }) ([])) None ([])

abbrev pub e6 : Entry
e6 = Took 0 3 (Control Start)

abbrev pub e7 : Entry
e7 = Did 0 3 6 (outcome.Done (record { kind = 1; vars = ((pos 10) ∷ []); subs = (1 ∷ 2 ∷ []); slots = ([]); wires = ([]); depth = 2; active = true; initialised = true }) (effect.Trigger 0 (record { kind = 4; values = ((pos 10) ∷ []) }) ∷ [])) None ([])

abbrev pub e8 : Entry
e8 = Took 0 2 (Control Start)

abbrev pub e9 : Entry
e9 = Did 0 2 8 (outcome.Done (record { kind = 0; vars = ([]); subs = (0 ∷ []); slots = ([]); wires = ([]); depth = 3; active = true; initialised = true }) ([])) None ([])

abbrev pub e10 : Entry
e10 = Took 0 1 (Arrival 0 Minus (record { position = 7; place = 0 }) 0 Outside (record { kind = 4; values = ((pos 10) ∷ []) }) Plain)

abbrev pub e11 : Entry
e11 = Did 0 1 10 (outcome.Done (record { kind = 2; vars = ([]); subs = ([]); slots = ((Some 0) ∷ []); wires = (record { held = false; plus = (Some (record { slot = (Some 0); port = 0 })); minus = (Some (record { slot = None; port = 0 })) } ∷ []); depth = 2; active = true; initialised = true }) ([])) None ([])

abbrev pub e12 : Entry
e12 = Took 0 2 (Arrival 1 Minus (record { position = 11; place = 0 }) 0 Outside (record { kind = 4; values = ((pos 10) ∷ []) }) Plain)

abbrev pub e13 : Entry
e13 = Did 0 2 12 (outcome.Done (record { kind = 0; vars = ([]); subs = (0 ∷ []); slots = ([]); wires = ([]); depth = 3; active = true; initialised = true }) (effect.Answer (record { kind = 5; values = ((pos 11) ∷ []) }) ∷ [])) None ([])

abbrev pub e14 : Entry
e14 = Took 0 1 (Arrival 1 Plus (record { position = 13; place = 1 }) 0 Inside (record { kind = 5; values = ((pos 11) ∷ []) }) (To 12))

abbrev pub e15 : Entry
e15 = Did 0 1 14 (outcome.Done (record { kind = 2; vars = ([]); subs = ([]); slots = ((Some 0) ∷ []); wires = (record { held = false; plus = (Some (record { slot = (Some 0); port = 0 })); minus = (Some (record { slot = None; port = 0 })) } ∷ []); depth = 2; active = true; initialised = true }) ([])) None ([])

abbrev pub e16 : Entry
e16 = Took 0 3 (Arrival 0 Plus (record { position = 15; place = 0 }) 0 Outside (record { kind = 5; values = ((pos 11) ∷ []) }) (To 10))

abbrev pub e17 : Entry
e17 = Did 0 3 16 (outcome.Done (record { kind = 1; vars = ((pos 11) ∷ []); subs = (1 ∷ 2 ∷ []); slots = ([]); wires = ([]); depth = 2; active = true; initialised = true }) ([])) None ([])

abbrev pub h0 : History
h0 = []

abbrev pub h1 : History
h1 = e0 ∷ h0

abbrev pub h2 : History
h2 = e1 ∷ h1

abbrev pub h3 : History
h3 = e2 ∷ h2

abbrev pub h4 : History
h4 = e3 ∷ h3

abbrev pub h5 : History
h5 = e4 ∷ h4

abbrev pub h6 : History
h6 = e5 ∷ h5

abbrev pub h7 : History
h7 = e6 ∷ h6

abbrev pub h8 : History
h8 = e7 ∷ h7

abbrev pub h9 : History
h9 = e8 ∷ h8

abbrev pub h10 : History
h10 = e9 ∷ h9

abbrev pub h11 : History
h11 = e10 ∷ h10

abbrev pub h12 : History
h12 = e11 ∷ h11

abbrev pub h13 : History
h13 = e12 ∷ h12

abbrev pub h14 : History
h14 = e13 ∷ h13

abbrev pub h15 : History
h15 = e14 ∷ h14

abbrev pub h16 : History
h16 = e15 ∷ h15

abbrev pub h17 : History
h17 = e16 ∷ h16

abbrev pub h18 : History
h18 = e17 ∷ h17

abbrev pub text : List Text
text =
    codes "trace 1"
    ∷ codes "0 0 took 0 start"
    ∷ codes "1 0 did 0 done active"
    ∷ codes "2 0 took 3 init 10"
    ∷ codes "3 0 did 3 done passive 10"
    ∷ codes "4 0 took 1 start"
    ∷ codes "5 0 did 1 done active"
    ∷ codes "6 0 took 3 start"
    ∷ codes "7 0 did 3 done active 10"
    ∷ codes "  trigger q Ask 10"
    ∷ codes "8 0 took 2 start"
    ∷ codes "9 0 did 2 done active"
    ∷ codes "10 0 took 1 event 0 minus 7.0 q outside Ask 10"
    ∷ codes "11 0 did 1 done active"
    ∷ codes "12 0 took 2 event 1 minus 11.0 q outside Ask 10"
    ∷ codes "13 0 did 2 done active"
    ∷ codes "  answer Say 11"
    ∷ codes "14 0 took 1 reply 1 plus 13.1 q inside Say 11"
    ∷ codes "15 0 did 1 done active"
    ∷ codes "16 0 took 3 reply 0 plus 15.0 q outside Say 11"
    ∷ codes "17 0 did 3 done active 11"
    ∷ codes "end quiet"
    ∷ codes "took 9 did 9 moved 0 queued 0 out 0"
    ∷ []

abbrev pub RelayedReply : Type 0
RelayedReply = IsSimulation names S Z h18 text
