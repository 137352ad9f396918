-- A component is replaced by one that goes on from its state, and no event is lost.
use Rattle.std.specs.Prelude.{pos, true, false, List, [], ◌∷◌, Some, None, codes}
use Rattle.kom_base.specs.declared.numbers.Dir.TheVariants.{Plus, Minus}
use Rattle.kom_base.specs.declared.numbers.Side.TheVariants.{Outside}
use Rattle.kom_lang.specs.Declarations.{Declarations}
use Rattle.kom_lang.specs.declared.kind.Kind.{Kind}
use Rattle.kom_lang.specs.declared.stmt.On.TheVariants as on
use Rattle.kom_lang.specs.declared.stmt.Stmt.TheVariants as stmt
use Rattle.kom_lang.specs.declared.stmt.Target.TheVariants as target
use Rattle.kom_lang.specs.declared.expr.Expr.TheVariants as expr
use Rattle.kom_lang.specs.declared.expr.Binary.TheVariants as binary
use Rattle.kom_lang.specs.declared.body.Birth.TheVariants.{State}
use Rattle.kom_lang.specs.declared.body.Effect.TheVariants as effect
use Rattle.kom_record.specs.declared.plan.Plan.{Plan}
use Rattle.kom_record.specs.declared.item.Control.TheVariants.{Start, Stop, Dump, Dumped}
use Rattle.kom_record.specs.declared.item.Item.TheVariants.{Control, Arrival}
use Rattle.kom_record.specs.declared.item.Back.TheVariants.{Plain}
use Rattle.kom_record.specs.declared.entry.Outcome.TheVariants as outcome
use Rattle.kom_record.specs.declared.entry.Entry.{Entry}
use Rattle.kom_record.specs.declared.entry.Entry.TheVariants.{Took, Did, Moved}
use Rattle.kom_record.specs.Entries.{History}
use Rattle.kom_record.specs.Trace.{Text}
use Rattle.kom_rows.specs.Worked.{IsSimulation}

abbrev pub kind0 : Kind
kind0 = record { name = (83 ∷ 117 ∷ 109 ∷ []); ports = (record { name = (112 ∷ []); port = 2; provided = false } ∷ []); vars = (record { name = (103 ∷ 111 ∷ 116 ∷ []); first = pos 0 } ∷ []); slots = ([]); channels = ([]); handlers = (record { name = (104 ∷ []); on = on.Event 4 0; off = false; block = (stmt.SetVar 0 (expr.Pair binary.Add (expr.Pair binary.Mul (expr.Var 0) (expr.Number (pos 10))) (expr.It 0)) ∷ []) } ∷ []) }

abbrev pub kind1 : Kind
kind1 = record { name = (77 ∷ 97 ∷ 105 ∷ 110 ∷ []); ports = (record { name = (112 ∷ []); port = 2; provided = false } ∷ record { name = (99 ∷ []); port = 3; provided = true } ∷ []); vars = ([]); slots = (record { name = (97 ∷ []); child = Some (record { kind = 0; args = ([]) }) } ∷ record { name = (98 ∷ []); child = None } ∷ []); channels = (record { name = (107 ∷ []); port = 2; plus = (Some (record { slot = None; port = 0 })); minus = (Some (record { slot = (Some 0); port = 0 })); plus_when = []; minus_when = [] } ∷ []); handlers = (record { name = (103 ∷ 111 ∷ []); on = on.Event 5 1; off = false; block = (stmt.Hold 0 ∷ stmt.Stop 0 ∷ stmt.Dump 0 ∷ []) } ∷ record { name = (111 ∷ 118 ∷ 101 ∷ 114 ∷ []); on = on.Dumped (115 ∷ []); off = false; block = (stmt.Unplug 0 Minus ∷ stmt.CreateFromState 1 0 ∷ stmt.Plug 0 Minus (target.Child 1 (112 ∷ [])) ∷ stmt.Resume 0 ∷ stmt.Start 1 ∷ stmt.Destroy 0 ∷ []) } ∷ []) }

abbrev pub S : Declarations
S = record { events = (record { parent = None; own = 2 } ∷ record { parent = None; own = 1 } ∷ record { parent = None; own = 1 } ∷ record { parent = None; own = 2 } ∷ record { parent = None; own = 1 } ∷ record { parent = None; own = 0 } ∷ []); ports = (record { plus = (2 ∷ []); minus = (0 ∷ 1 ∷ []) } ∷ record { plus = (3 ∷ []); minus = (3 ∷ []) } ∷ record { plus = (4 ∷ []); minus = ([]) } ∷ record { plus = ([]); minus = (5 ∷ []) } ∷ []); kinds = (kind0 ∷ kind1 ∷ []); root = record { kind = 1; args = ([]) } }

abbrev pub names : List Text
names = ((83 ∷ 101 ∷ 116 ∷ 84 ∷ 105 ∷ 109 ∷ 101 ∷ 114 ∷ []) ∷ (67 ∷ 97 ∷ 110 ∷ 99 ∷ 101 ∷ 108 ∷ 84 ∷ 105 ∷ 109 ∷ 101 ∷ 114 ∷ []) ∷ (84 ∷ 105 ∷ 109 ∷ 101 ∷ 111 ∷ 117 ∷ 116 ∷ []) ∷ (77 ∷ 101 ∷ 115 ∷ 115 ∷ 97 ∷ 103 ∷ 101 ∷ []) ∷ (78 ∷ []) ∷ (83 ∷ 119 ∷ 97 ∷ 112 ∷ []) ∷ [])

abbrev pub Z : Plan
Z = record { seed = 0; steps = 100000; instants = 100000; lo = 1; hi = 1; raises = (record { time = 1; chan = 0; event = (record { kind = 4; values = ((pos 1) ∷ []) }) } ∷ record { time = 2; chan = 1; event = (record { kind = 5; values = ([]) }) } ∷ record { time = 2; chan = 0; event = (record { kind = 4; values = ((pos 2) ∷ []) }) } ∷ record { time = 3; chan = 0; event = (record { kind = 4; values = ((pos 3) ∷ []) }) } ∷ []) }

abbrev pub e0 : Entry
e0 = Took 0 0 (Control Start)

abbrev pub e1 : Entry
e1 = Did 0 0 0 (outcome.Done (record { kind = 1; vars = ([]); subs = (0 ∷ 1 ∷ []); slots = ((Some 0) ∷ None ∷ []); wires = (record { held = false; plus = (Some (record { slot = None; port = 0 })); minus = (Some (record { slot = (Some 0); port = 0 })) } ∷ []); depth = 1; active = true; initialised = true }) ([])) None ([])

abbrev pub e2 : Entry
e2 = Took 0 1 (Control Start)

abbrev pub e3 : Entry
e3 = Did 0 1 2 (outcome.Done (record { kind = 0; vars = ((pos 0) ∷ []); subs = (0 ∷ []); slots = ([]); wires = ([]); depth = 2; active = true; initialised = true }) ([])) None ([])

abbrev pub e4 : Entry
e4 = Moved 0 1 (record { chan = 0; event = (record { kind = 4; values = ((pos 1) ∷ []) }) } ∷ [])

abbrev pub e5 : Entry
e5 = Took 0 0 (Arrival 0 Plus (record { position = 4; place = 0 }) 0 Outside (record { kind = 4; values = ((pos 1) ∷ []) }) Plain)

abbrev pub e6 : Entry
e6 = Did 0 0 5 (outcome.Done (record { kind = 1; vars = ([]); subs = (0 ∷ 1 ∷ []); slots = ((Some 0) ∷ None ∷ []); wires = (record { held = false; plus = (Some (record { slot = None; port = 0 })); minus = (Some (record { slot = (Some 0); port = 0 })) } ∷ []); depth = 1; active = true; initialised = true }) ([])) None ([])

abbrev pub e7 : Entry
e7 = Took 0 1 (Arrival 2 Plus (record { position = 6; place = 0 }) 0 Outside (record { kind = 4; values = ((pos 1) ∷ []) }) Plain)

abbrev pub e8 : Entry
e8 = Did 0 1 7 (outcome.Done (record { kind = 0; vars = ((pos 1) ∷ []); subs = (0 ∷ []); slots = ([]); wires = ([]); depth = 2; active = true; initialised = true }) ([])) None ([])

abbrev pub e9 : Entry
e9 = Moved 0 2 (record { chan = 1; event = (record { kind = 5; values = ([]) }) } ∷ record { chan = 0; event = (record { kind = 4; values = ((pos 2) ∷ []) }) } ∷ [])

abbrev pub e10 : Entry
e10 = Took 0 0 (Arrival 1 Minus (record { position = 9; place = 0 }) 1 Outside (record { kind = 5; values = ([]) }) Plain)

abbrev pub e11 : Entry
e11 = Did 0 0 10 (outcome.Done (record { kind = 1; vars = ([]); subs = (0 ∷ 1 ∷ []); slots = ((Some 0) ∷ None ∷ []); wires = (record { held = true; plus = (Some (record { slot = None; port = 0 })); minus = (Some (record { slot = (Some 0); port = 0 })) } ∷ []); depth = 1; active = true; initialised = true }) (effect.Hold 0 ∷ effect.Stop 0 ∷ effect.Dump 0 ∷ [])) None ([])

abbrev pub e12 : Entry
e12 = Took 0 0 (Arrival 0 Plus (record { position = 9; place = 1 }) 0 Outside (record { kind = 4; values = ((pos 2) ∷ []) }) Plain)

abbrev pub e13 : Entry
e13 = Did 0 0 12 (outcome.Done (record { kind = 1; vars = ([]); subs = (0 ∷ 1 ∷ []); slots = ((Some 0) ∷ None ∷ []); wires = (record { held = true; plus = (Some (record { slot = None; port = 0 })); minus = (Some (record { slot = (Some 0); port = 0 })) } ∷ []); depth = 1; active = true; initialised = true }) ([])) None ([])

abbrev pub e14 : Entry
e14 = Took 0 1 (Control Stop)

abbrev pub e15 : Entry
e15 = Did 0 1 14 (outcome.Done (record { kind = 0; vars = ((pos 1) ∷ []); subs = (0 ∷ []); slots = ([]); wires = ([]); depth = 2; active = false; initialised = true }) ([])) None ([])

abbrev pub e16 : Entry
e16 = Took 0 1 (Control Dump)

abbrev pub e17 : Entry
e17 = Did 0 1 16 (outcome.Done (record { kind = 0; vars = ((pos 1) ∷ []); subs = (0 ∷ []); slots = ([]); wires = ([]); depth = 2; active = false; initialised = true }) ([])) None ([])

abbrev pub e18 : Entry
e18 = Took 0 0 (Control (Dumped 0 ((pos 1) ∷ [])))

abbrev pub e19 : Entry
e19 = Did 0 0 18 (outcome.Done (record { kind = 1; vars = ([]); subs = (0 ∷ 1 ∷ []); slots = (None ∷ (Some 0) ∷ []); wires = (record { held = false; plus = (Some (record { slot = None; port = 0 })); minus = (Some (record { slot = (Some 1); port = 0 })) } ∷ []); depth = 1; active = true; initialised = true }) (effect.Unplug 0 Minus ∷ effect.Create 1 0 (State ((pos 1) ∷ [])) ∷ effect.Plug 0 Minus (record { slot = (Some 1); port = 0 }) ∷ effect.Resume 0 ∷ effect.Start 1 ∷ effect.Destroy 0 ∷ [])) None ([])

abbrev pub e20 : Entry
e20 = Took 0 2 (Control Start)

abbrev pub e21 : Entry
e21 = Did 0 2 20 (outcome.Done (record { kind = 0; vars = ((pos 1) ∷ []); subs = (0 ∷ []); slots = ([]); wires = ([]); depth = 2; active = true; initialised = true }) ([])) None ([])

abbrev pub e22 : Entry
e22 = Took 0 2 (Arrival 2 Plus (record { position = 13; place = 0 }) 0 Outside (record { kind = 4; values = ((pos 2) ∷ []) }) Plain)

abbrev pub e23 : Entry
e23 = Did 0 2 22 (outcome.Done (record { kind = 0; vars = ((pos 12) ∷ []); subs = (0 ∷ []); slots = ([]); wires = ([]); depth = 2; active = true; initialised = true }) ([])) None ([])

abbrev pub e24 : Entry
e24 = Moved 0 3 (record { chan = 0; event = (record { kind = 4; values = ((pos 3) ∷ []) }) } ∷ [])

abbrev pub e25 : Entry
e25 = Took 0 0 (Arrival 0 Plus (record { position = 24; place = 0 }) 0 Outside (record { kind = 4; values = ((pos 3) ∷ []) }) Plain)

abbrev pub e26 : Entry
e26 = Did 0 0 25 (outcome.Done (record { kind = 1; vars = ([]); subs = (0 ∷ 1 ∷ []); slots = (None ∷ (Some 0) ∷ []); wires = (record { held = false; plus = (Some (record { slot = None; port = 0 })); minus = (Some (record { slot = (Some 1); port = 0 })) } ∷ []); depth = 1; active = true; initialised = true }) ([])) None ([])

abbrev pub e27 : Entry
e27 = Took 0 2 (Arrival 2 Plus (record { position = 26; place = 0 }) 0 Outside (record { kind = 4; values = ((pos 3) ∷ []) }) Plain)

abbrev pub e28 : Entry
e28 = Did 0 2 27 (outcome.Done (record { kind = 0; vars = ((pos 123) ∷ []); subs = (0 ∷ []); slots = ([]); wires = ([]); depth = 2; active = true; initialised = true }) ([])) None ([])

abbrev pub h0 : History
h0 = []

abbrev pub h1 : History
h1 = e0 ∷ h0

abbrev pub h2 : History
h2 = e1 ∷ h1

abbrev pub h3 : History
h3 = e2 ∷ h2

abbrev pub h4 : History
h4 = e3 ∷ h3

abbrev pub h5 : History
h5 = e4 ∷ h4

abbrev pub h6 : History
h6 = e5 ∷ h5

abbrev pub h7 : History
h7 = e6 ∷ h6

abbrev pub h8 : History
h8 = e7 ∷ h7

abbrev pub h9 : History
h9 = e8 ∷ h8

abbrev pub h10 : History
h10 = e9 ∷ h9

abbrev pub h11 : History
h11 = e10 ∷ h10

abbrev pub h12 : History
h12 = e11 ∷ h11

abbrev pub h13 : History
h13 = e12 ∷ h12

abbrev pub h14 : History
h14 = e13 ∷ h13

abbrev pub h15 : History
h15 = e14 ∷ h14

abbrev pub h16 : History
h16 = e15 ∷ h15

abbrev pub h17 : History
h17 = e16 ∷ h16

abbrev pub h18 : History
h18 = e17 ∷ h17

abbrev pub h19 : History
h19 = e18 ∷ h18

abbrev pub h20 : History
h20 = e19 ∷ h19

abbrev pub h21 : History
h21 = e20 ∷ h20

abbrev pub h22 : History
h22 = e21 ∷ h21

abbrev pub h23 : History
h23 = e22 ∷ h22

abbrev pub h24 : History
h24 = e23 ∷ h23

abbrev pub h25 : History
h25 = e24 ∷ h24

abbrev pub h26 : History
h26 = e25 ∷ h25

abbrev pub h27 : History
h27 = e26 ∷ h26

abbrev pub h28 : History
h28 = e27 ∷ h27

abbrev pub h29 : History
h29 = e28 ∷ h28

abbrev pub text : List Text
text =
    codes "trace 1"
    ∷ codes "0 0 took 0 start"
    ∷ codes "1 0 did 0 done active"
    ∷ codes "2 0 took 1 start"
    ∷ codes "3 0 did 1 done active 0"
    ∷ codes "4 0 moved 1"
    ∷ codes "  release 0 0 N 1"
    ∷ codes "5 0 took 0 event 0 plus 4.0 p outside N 1"
    ∷ codes "6 0 did 0 done active"
    ∷ codes "7 0 took 1 event 2 plus 6.0 p outside N 1"
    ∷ codes "8 0 did 1 done active 1"
    ∷ codes "9 0 moved 2"
    ∷ codes "  release 1 0 Swap"
    ∷ codes "  release 0 1 N 2"
    ∷ codes "10 0 took 0 event 1 minus 9.0 c outside Swap"
    ∷ codes "11 0 did 0 done active"
    ∷ codes "  hold k"
    ∷ codes "  stop a"
    ∷ codes "  dump a"
    ∷ codes "12 0 took 0 event 0 plus 9.1 p outside N 2"
    ∷ codes "13 0 did 0 done active"
    ∷ codes "14 0 took 1 stop"
    ∷ codes "15 0 did 1 done passive 1"
    ∷ codes "16 0 took 1 dump"
    ∷ codes "17 0 did 1 done passive 1"
    ∷ codes "18 0 took 0 dumped 0 1"
    ∷ codes "19 0 did 0 done active"
    ∷ codes "  unplug k.minus"
    ∷ codes "  create b Sum 2 state 1"
    ∷ codes "  plug k.minus b.p"
    ∷ codes "  resume k"
    ∷ codes "  start b"
    ∷ codes "  destroy a"
    ∷ codes "20 0 took 2 start"
    ∷ codes "21 0 did 2 done active 1"
    ∷ codes "22 0 took 2 event 2 plus 13.0 p outside N 2"
    ∷ codes "23 0 did 2 done active 12"
    ∷ codes "24 0 moved 3"
    ∷ codes "  release 0 0 N 3"
    ∷ codes "25 0 took 0 event 0 plus 24.0 p outside N 3"
    ∷ codes "26 0 did 0 done active"
    ∷ codes "27 0 took 2 event 2 plus 26.0 p outside N 3"
    ∷ codes "28 0 did 2 done active 123"
    ∷ codes "end quiet"
    ∷ codes "took 13 did 13 moved 3 queued 0 out 0"
    ∷ []

abbrev pub Replacement : Type 0
Replacement = IsSimulation names S Z h29 text
