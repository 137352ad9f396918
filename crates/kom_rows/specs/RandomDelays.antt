-- Messages with random delays: the one that was sent later comes first.
use Rattle.std.specs.Prelude.{pos, true, false, List, [], ◌∷◌, Some, None, codes}
use Rattle.kom_base.specs.declared.numbers.Dir.TheVariants.{Plus, Minus}
use Rattle.kom_base.specs.declared.numbers.Side.TheVariants.{Outside, Inside}
use Rattle.kom_events.specs.declared.selector.Op.TheVariants as op
use Rattle.kom_lang.specs.Declarations.{Declarations}
use Rattle.kom_lang.specs.declared.kind.Kind.{Kind}
use Rattle.kom_lang.specs.declared.stmt.On.TheVariants as on
use Rattle.kom_lang.specs.declared.stmt.Stmt.TheVariants as stmt
use Rattle.kom_lang.specs.declared.expr.Expr.TheVariants as expr
use Rattle.kom_lang.specs.declared.expr.Binary.TheVariants as binary
use Rattle.kom_lang.specs.declared.body.Effect.TheVariants as effect
use Rattle.kom_record.specs.declared.plan.Plan.{Plan}
use Rattle.kom_record.specs.declared.item.Control.TheVariants.{Init, Start}
use Rattle.kom_record.specs.declared.item.Item.TheVariants.{Control, Arrival}
use Rattle.kom_record.specs.declared.item.Back.TheVariants.{Plain}
use Rattle.kom_record.specs.declared.entry.Outcome.TheVariants as outcome
use Rattle.kom_record.specs.declared.entry.Entry.{Entry}
use Rattle.kom_record.specs.declared.entry.Entry.TheVariants.{Took, Did, Moved}
use Rattle.kom_record.specs.Entries.{History}
use Rattle.kom_record.specs.Trace.{Text}
use Rattle.kom_rows.specs.Worked.{IsSimulation}

abbrev pub kind0 : Kind
kind0 = record { name = (78 ∷ 111 ∷ 100 ∷ 101 ∷ []); ports = (record { name = (110 ∷ 101 ∷ 116 ∷ []); port = 1; provided = false } ∷ []); vars = (record { name = (109 ∷ 101 ∷ []); first = pos 0 } ∷ record { name = (103 ∷ 111 ∷ 116 ∷ []); first = pos 0 } ∷ []); slots = ([]); channels = ([]); handlers = (record { name = (98 ∷ 111 ∷ 114 ∷ 110 ∷ []); on = on.Init ((105 ∷ 100 ∷ []) ∷ []); off = false; block = (stmt.SetVar 0 (expr.Local 0) ∷ []) } ∷ record { name = (103 ∷ 111 ∷ []); on = on.Start; off = false; block = (stmt.Trigger 4 ((expr.Var 0) ∷ (expr.Pair binary.Sub (expr.Number (pos 3)) (expr.Var 0)) ∷ (expr.Var 0) ∷ []) 0 ∷ []) } ∷ record { name = (104 ∷ []); on = on.Event 4 0; off = false; block = (stmt.SetVar 1 (expr.Pair binary.Add (expr.Var 1) (expr.It 2)) ∷ []) } ∷ []) }

abbrev pub kind1 : Kind
kind1 = record { name = (77 ∷ 97 ∷ 105 ∷ 110 ∷ []); ports = (record { name = (110 ∷ 101 ∷ 116 ∷ []); port = 1; provided = false } ∷ []); vars = ([]); slots = (record { name = (97 ∷ []); child = Some (record { kind = 0; args = ((pos 1) ∷ []) }) } ∷ record { name = (98 ∷ []); child = Some (record { kind = 0; args = ((pos 2) ∷ []) }) } ∷ []); channels = (record { name = (107 ∷ []); port = 1; plus = (Some (record { slot = None; port = 0 })); minus = (Some (record { slot = (Some 0); port = 0 })); plus_when = (record { kind = 3; attr = 1; op = op.Eq; number = pos 1 } ∷ []); minus_when = [] } ∷ record { name = (108 ∷ []); port = 1; plus = (Some (record { slot = None; port = 0 })); minus = (Some (record { slot = (Some 1); port = 0 })); plus_when = (record { kind = 3; attr = 1; op = op.Eq; number = pos 2 } ∷ []); minus_when = [] } ∷ []); handlers = ([]) }

abbrev pub S : Declarations
S = record { events = (record { parent = None; own = 2 } ∷ record { parent = None; own = 1 } ∷ record { parent = None; own = 1 } ∷ record { parent = None; own = 2 } ∷ record { parent = (Some 3); own = 1 } ∷ []); ports = (record { plus = (2 ∷ []); minus = (0 ∷ 1 ∷ []) } ∷ record { plus = (3 ∷ []); minus = (3 ∷ []) } ∷ []); kinds = (kind0 ∷ kind1 ∷ []); root = record { kind = 1; args = ([]) } }

abbrev pub names : List Text
names = ((83 ∷ 101 ∷ 116 ∷ 84 ∷ 105 ∷ 109 ∷ 101 ∷ 114 ∷ []) ∷ (67 ∷ 97 ∷ 110 ∷ 99 ∷ 101 ∷ 108 ∷ 84 ∷ 105 ∷ 109 ∷ 101 ∷ 114 ∷ []) ∷ (84 ∷ 105 ∷ 109 ∷ 101 ∷ 111 ∷ 117 ∷ 116 ∷ []) ∷ (77 ∷ 101 ∷ 115 ∷ 115 ∷ 97 ∷ 103 ∷ 101 ∷ []) ∷ (72 ∷ 105 ∷ []) ∷ [])

abbrev pub Z : Plan
Z = record { seed = 42; steps = 100000; instants = 100000; lo = 5; hi = 20; raises = ([]) }

abbrev pub e0 : Entry
e0 = Took 0 0 (Control Start)

abbrev pub e1 : Entry
e1 = Did 0 0 0 (outcome.Done (record { kind = 1; vars = ([]); subs = ([]); slots = ((Some 0) ∷ (Some 0) ∷ []); wires = (record { held = false; plus = (Some (record { slot = None; port = 0 })); minus = (Some (record { slot = (Some 0); port = 0 })) } ∷ record { held = false; plus = (Some (record { slot = None; port = 0 })); minus = (Some (record { slot = (Some 1); port = 0 })) } ∷ []); depth = 1; active = true; initialised = true }) ([])) None ([])

abbrev pub e2 : Entry
e2 = Took 0 1 (Control (Init ((pos 1) ∷ [])))

abbrev pub e3 : Entry
e3 = Did 0 1 2 (outcome.Done (record { kind = 0; vars = ((pos 1) ∷ (pos 0) ∷ []); subs = (1 ∷ 2 ∷ []); slots = ([]); wires = ([]); depth = 2; active = false; initialised = true }) ([])) None ([])

abbrev pub e4 : Entry
e4 = Took 0 2 (Control (Init ((pos 2) ∷ [])))

abbrev pub e5 : Entry
e5 = Did 0 2 4 (outcome.Done (record { kind = 0; vars = ((pos 2) ∷ (pos 0) ∷ []); subs = (1 ∷ 2 ∷ []); slots = ([]); wires = ([]); depth = 2; active = false; initialised = true }) ([])) None ([])

abbrev pub e6 : Entry
e6 = Took 0 1 (Control Start)

abbrev pub e7 : Entry
e7 = Did 0 1 6 (outcome.Done (record { kind = 0; vars = ((pos 1) ∷ (pos 0) ∷ []); subs = (1 ∷ 2 ∷ []); slots = ([]); wires = ([]); depth = 2; active = true; initialised = true }) (effect.Trigger 0 (record { kind = 4; values = ((pos 1) ∷ (pos 2) ∷ (pos 1) ∷ []) }) ∷ [])) None ([])

abbrev pub e8 : Entry
e8 = Took 0 2 (Control Start)

abbrev pub e9 : Entry
e9 = Did 0 2 8 (outcome.Done (record { kind = 0; vars = ((pos 2) ∷ (pos 0) ∷ []); subs = (1 ∷ 2 ∷ []); slots = ([]); wires = ([]); depth = 2; active = true; initialised = true }) (effect.Trigger 0 (record { kind = 4; values = ((pos 2) ∷ (pos 1) ∷ (pos 2) ∷ []) }) ∷ [])) None ([])

abbrev pub e10 : Entry
e10 = Took 0 0 (Arrival 1 Minus (record { position = 7; place = 0 }) 0 Inside (record { kind = 4; values = ((pos 1) ∷ (pos 2) ∷ (pos 1) ∷ []) }) Plain)

abbrev pub e11 : Entry
e11 = Did 0 0 10 (outcome.Done (record { kind = 1; vars = ([]); subs = ([]); slots = ((Some 0) ∷ (Some 0) ∷ []); wires = (record { held = false; plus = (Some (record { slot = None; port = 0 })); minus = (Some (record { slot = (Some 0); port = 0 })) } ∷ record { held = false; plus = (Some (record { slot = None; port = 0 })); minus = (Some (record { slot = (Some 1); port = 0 })) } ∷ []); depth = 1; active = true; initialised = true }) ([])) None ([])

abbrev pub e12 : Entry
e12 = Took 0 0 (Arrival 2 Minus (record { position = 9; place = 0 }) 0 Inside (record { kind = 4; values = ((pos 2) ∷ (pos 1) ∷ (pos 2) ∷ []) }) Plain)

abbrev pub e13 : Entry
e13 = Did 0 0 12 (outcome.Done (record { kind = 1; vars = ([]); subs = ([]); slots = ((Some 0) ∷ (Some 0) ∷ []); wires = (record { held = false; plus = (Some (record { slot = None; port = 0 })); minus = (Some (record { slot = (Some 0); port = 0 })) } ∷ record { held = false; plus = (Some (record { slot = None; port = 0 })); minus = (Some (record { slot = (Some 1); port = 0 })) } ∷ []); depth = 1; active = true; initialised = true }) ([])) None ([])

abbrev pub e14 : Entry
e14 = Moved 0 11 (record { chan = 0; event = (record { kind = 4; values = ((pos 2) ∷ (pos 1) ∷ (pos 2) ∷ []) }) } ∷ [])

abbrev pub e15 : Entry
e15 = Took 0 0 (Arrival 0 Plus (record { position = 14; place = 0 }) 0 Outside (record { kind = 4; values = ((pos 2) ∷ (pos 1) ∷ (pos 2) ∷ []) }) Plain)

abbrev pub e16 : Entry
e16 = Did 0 0 15 (outcome.Done (record { kind = 1; vars = ([]); subs = ([]); slots = ((Some 0) ∷ (Some 0) ∷ []); wires = (record { held = false; plus = (Some (record { slot = None; port = 0 })); minus = (Some (record { slot = (Some 0); port = 0 })) } ∷ record { held = false; plus = (Some (record { slot = None; port = 0 })); minus = (Some (record { slot = (Some 1); port = 0 })) } ∷ []); depth = 1; active = true; initialised = true }) ([])) None ([])

abbrev pub e17 : Entry
e17 = Took 0 1 (Arrival 1 Plus (record { position = 16; place = 0 }) 0 Outside (record { kind = 4; values = ((pos 2) ∷ (pos 1) ∷ (pos 2) ∷ []) }) Plain)

abbrev pub e18 : Entry
e18 = Did 0 1 17 (outcome.Done (record { kind = 0; vars = ((pos 1) ∷ (pos 2) ∷ []); subs = (1 ∷ 2 ∷ []); slots = ([]); wires = ([]); depth = 2; active = true; initialised = true }) ([])) None ([])

abbrev pub e19 : Entry
e19 = Moved 0 14 (record { chan = 0; event = (record { kind = 4; values = ((pos 1) ∷ (pos 2) ∷ (pos 1) ∷ []) }) } ∷ [])

abbrev pub e20 : Entry
e20 = Took 0 0 (Arrival 0 Plus (record { position = 19; place = 0 }) 0 Outside (record { kind = 4; values = ((pos 1) ∷ (pos 2) ∷ (pos 1) ∷ []) }) Plain)

abbrev pub e21 : Entry
e21 = Did 0 0 20 (outcome.Done (record { kind = 1; vars = ([]); subs = ([]); slots = ((Some 0) ∷ (Some 0) ∷ []); wires = (record { held = false; plus = (Some (record { slot = None; port = 0 })); minus = (Some (record { slot = (Some 0); port = 0 })) } ∷ record { held = false; plus = (Some (record { slot = None; port = 0 })); minus = (Some (record { slot = (Some 1); port = 0 })) } ∷ []); depth = 1; active = true; initialised = true }) ([])) None ([])

abbrev pub e22 : Entry
e22 = Took 0 2 (Arrival 2 Plus (record { position = 21; place = 0 }) 0 Outside (record { kind = 4; values = ((pos 1) ∷ (pos 2) ∷ (pos 1) ∷ []) }) Plain)

abbrev pub e23 : Entry
e23 = Did 0 2 22 (outcome.Done (record { kind = 0; vars = ((pos 2) ∷ (pos 1) ∷ []); subs = (1 ∷ 2 ∷ []); slots = ([]); wires = ([]); depth = 2; active = true; initialised = true }) ([])) None ([])

abbrev pub h0 : History
h0 = []

abbrev pub h1 : History
h1 = e0 ∷ h0

abbrev pub h2 : History
h2 = e1 ∷ h1

abbrev pub h3 : History
h3 = e2 ∷ h2

abbrev pub h4 : History
h4 = e3 ∷ h3

abbrev pub h5 : History
h5 = e4 ∷ h4

abbrev pub h6 : History
h6 = e5 ∷ h5

abbrev pub h7 : History
h7 = e6 ∷ h6

abbrev pub h8 : History
h8 = e7 ∷ h7

abbrev pub h9 : History
h9 = e8 ∷ h8

abbrev pub h10 : History
h10 = e9 ∷ h9

abbrev pub h11 : History
h11 = e10 ∷ h10

abbrev pub h12 : History
h12 = e11 ∷ h11

abbrev pub h13 : History
h13 = e12 ∷ h12

abbrev pub h14 : History
h14 = e13 ∷ h13

abbrev pub h15 : History
h15 = e14 ∷ h14

abbrev pub h16 : History
h16 = e15 ∷ h15

abbrev pub h17 : History
h17 = e16 ∷ h16

abbrev pub h18 : History
h18 = e17 ∷ h17

abbrev pub h19 : History
h19 = e18 ∷ h18

abbrev pub h20 : History
h20 = e19 ∷ h19

abbrev pub h21 : History
h21 = e20 ∷ h20

abbrev pub h22 : History
h22 = e21 ∷ h21

abbrev pub h23 : History
h23 = e22 ∷ h22

abbrev pub h24 : History
h24 = e23 ∷ h23

abbrev pub text : List Text
text =
    codes "trace 1"
    ∷ codes "0 0 took 0 start"
    ∷ codes "1 0 did 0 done active"
    ∷ codes "2 0 took 1 init 1"
    ∷ codes "3 0 did 1 done passive 1 0"
    ∷ codes "4 0 took 2 init 2"
    ∷ codes "5 0 did 2 done passive 2 0"
    ∷ codes "6 0 took 1 start"
    ∷ codes "7 0 did 1 done active 1 0"
    ∷ codes "  trigger net Hi 1 2 1"
    ∷ codes "8 0 took 2 start"
    ∷ codes "9 0 did 2 done active 2 0"
    ∷ codes "  trigger net Hi 2 1 2"
    ∷ codes "10 0 took 0 event 1 minus 7.0 net inside Hi 1 2 1"
    ∷ codes "11 0 did 0 done active"
    ∷ codes "12 0 took 0 event 2 minus 9.0 net inside Hi 2 1 2"
    ∷ codes "13 0 did 0 done active"
    ∷ codes "14 0 moved 11"
    ∷ codes "  release 0 0 Hi 2 1 2"
    ∷ codes "15 0 took 0 event 0 plus 14.0 net outside Hi 2 1 2"
    ∷ codes "16 0 did 0 done active"
    ∷ codes "17 0 took 1 event 1 plus 16.0 net outside Hi 2 1 2"
    ∷ codes "18 0 did 1 done active 1 2"
    ∷ codes "19 0 moved 14"
    ∷ codes "  release 0 0 Hi 1 2 1"
    ∷ codes "20 0 took 0 event 0 plus 19.0 net outside Hi 1 2 1"
    ∷ codes "21 0 did 0 done active"
    ∷ codes "22 0 took 2 event 2 plus 21.0 net outside Hi 1 2 1"
    ∷ codes "23 0 did 2 done active 2 1"
    ∷ codes "end quiet"
    ∷ codes "took 11 did 11 moved 2 queued 0 out 2"
    ∷ []

abbrev pub RandomDelays : Type 0
RandomDelays = IsSimulation names S Z h24 text
