-- A component that is destroyed while a worker handles an item of it ends that job with nothing. Two workers.
use Rattle.std.specs.Prelude.{pos, true, false, List, [], ◌∷◌, Some, None, codes}
use Rattle.kom_base.specs.declared.numbers.Dir.TheVariants.{Plus, Minus}
use Rattle.kom_base.specs.declared.numbers.Side.TheVariants.{Outside}
use Rattle.kom_lang.specs.Declarations.{Declarations}
use Rattle.kom_lang.specs.declared.kind.Kind.{Kind}
use Rattle.kom_lang.specs.declared.stmt.On.TheVariants as on
use Rattle.kom_lang.specs.declared.stmt.Stmt.TheVariants as stmt
use Rattle.kom_lang.specs.declared.expr.Expr.TheVariants as expr
use Rattle.kom_lang.specs.declared.expr.Binary.TheVariants as binary
use Rattle.kom_lang.specs.declared.body.Effect.TheVariants as effect
use Rattle.kom_record.specs.declared.plan.Plan.{Plan}
use Rattle.kom_record.specs.declared.item.Control.TheVariants.{Start}
use Rattle.kom_record.specs.declared.item.Item.TheVariants.{Control, Arrival}
use Rattle.kom_record.specs.declared.item.Back.TheVariants.{Plain}
use Rattle.kom_record.specs.declared.entry.Outcome.TheVariants as outcome
use Rattle.kom_record.specs.declared.entry.Entry.{Entry}
use Rattle.kom_record.specs.declared.entry.Entry.TheVariants.{Took, Did, Moved}
use Rattle.kom_record.specs.Entries.{History}
use Rattle.kom_record.specs.Trace.{Text}
use Rattle.kom_rows.specs.Worked.{IsRecord}

abbrev pub kind0 : Kind
kind0 = record { name = (83 ∷ 117 ∷ 109 ∷ []); ports = (record { name = (112 ∷ []); port = 2; provided = false } ∷ []); vars = (record { name = (103 ∷ 111 ∷ 116 ∷ []); first = pos 0 } ∷ []); slots = ([]); channels = ([]); handlers = (record { name = (104 ∷ []); on = on.Event 4 0; off = false; block = (stmt.SetVar 0 (expr.Pair binary.Add (expr.Pair binary.Mul (expr.Var 0) (expr.Number (pos 10))) (expr.It 0)) ∷ []) } ∷ []) }

abbrev pub kind1 : Kind
kind1 = record { name = (77 ∷ 97 ∷ 105 ∷ 110 ∷ []); ports = (record { name = (112 ∷ []); port = 2; provided = false } ∷ record { name = (99 ∷ []); port = 3; provided = true } ∷ []); vars = ([]); slots = (record { name = (97 ∷ []); child = Some (record { kind = 0; args = ([]) }) } ∷ record { name = (98 ∷ []); child = None } ∷ []); channels = (record { name = (107 ∷ []); port = 2; plus = (Some (record { slot = None; port = 0 })); minus = (Some (record { slot = (Some 0); port = 0 })); plus_when = []; minus_when = [] } ∷ []); handlers = (record { name = (103 ∷ 111 ∷ []); on = on.Event 5 1; off = false; block = (stmt.Hold 0 ∷ stmt.Unplug 0 Minus ∷ stmt.Destroy 0 ∷ []) } ∷ []) }

abbrev pub S : Declarations
S = record { events = (record { parent = None; own = 2 } ∷ record { parent = None; own = 1 } ∷ record { parent = None; own = 1 } ∷ record { parent = None; own = 2 } ∷ record { parent = None; own = 1 } ∷ record { parent = None; own = 0 } ∷ []); ports = (record { plus = (2 ∷ []); minus = (0 ∷ 1 ∷ []) } ∷ record { plus = (3 ∷ []); minus = (3 ∷ []) } ∷ record { plus = (4 ∷ []); minus = ([]) } ∷ record { plus = ([]); minus = (5 ∷ []) } ∷ []); kinds = (kind0 ∷ kind1 ∷ []); root = record { kind = 1; args = ([]) } }

abbrev pub names : List Text
names = ((83 ∷ 101 ∷ 116 ∷ 84 ∷ 105 ∷ 109 ∷ 101 ∷ 114 ∷ []) ∷ (67 ∷ 97 ∷ 110 ∷ 99 ∷ 101 ∷ 108 ∷ 84 ∷ 105 ∷ 109 ∷ 101 ∷ 114 ∷ []) ∷ (84 ∷ 105 ∷ 109 ∷ 101 ∷ 111 ∷ 117 ∷ 116 ∷ []) ∷ (77 ∷ 101 ∷ 115 ∷ 115 ∷ 97 ∷ 103 ∷ 101 ∷ []) ∷ (78 ∷ []) ∷ (83 ∷ 119 ∷ 97 ∷ 112 ∷ []) ∷ [])

abbrev pub Z : Plan
Z = record { seed = 0; steps = 100000; instants = 100000; lo = 1; hi = 1; raises = (record { time = 1; chan = 0; event = (record { kind = 4; values = ((pos 1) ∷ []) }) } ∷ record { time = 1; chan = 1; event = (record { kind = 5; values = ([]) }) } ∷ record { time = 1; chan = 0; event = (record { kind = 4; values = ((pos 2) ∷ []) }) } ∷ []) }

abbrev pub e0 : Entry
e0 = Took 0 0 (Control Start)

abbrev pub e1 : Entry
e1 = Did 0 0 0 (outcome.Done (record { kind = 1; vars = ([]); subs = (0 ∷ []); slots = ((Some 0) ∷ None ∷ []); wires = (record { held = false; plus = (Some (record { slot = None; port = 0 })); minus = (Some (record { slot = (Some 0); port = 0 })) } ∷ []); depth = 1; active = true; initialised = true }) ([])) None ([])

abbrev pub e2 : Entry
e2 = Took 0 1 (Control Start)

abbrev pub e3 : Entry
e3 = Did 0 1 2 (outcome.Done (record { kind = 0; vars = ((pos 0) ∷ []); subs = (0 ∷ []); slots = ([]); wires = ([]); depth = 2; active = true; initialised = true }) ([])) None ([])

abbrev pub e4 : Entry
e4 = Moved 0 1 (record { chan = 0; event = (record { kind = 4; values = ((pos 1) ∷ []) }) } ∷ record { chan = 1; event = (record { kind = 5; values = ([]) }) } ∷ record { chan = 0; event = (record { kind = 4; values = ((pos 2) ∷ []) }) } ∷ [])

abbrev pub e5 : Entry
e5 = Took 0 0 (Arrival 0 Plus (record { position = 4; place = 0 }) 0 Outside (record { kind = 4; values = ((pos 1) ∷ []) }) Plain)

abbrev pub e6 : Entry
e6 = Did 0 0 5 (outcome.Done (record { kind = 1; vars = ([]); subs = (0 ∷ []); slots = ((Some 0) ∷ None ∷ []); wires = (record { held = false; plus = (Some (record { slot = None; port = 0 })); minus = (Some (record { slot = (Some 0); port = 0 })) } ∷ []); depth = 1; active = true; initialised = true }) ([])) None ([])

abbrev pub e7 : Entry
e7 = Took 0 1 (Arrival 2 Plus (record { position = 6; place = 0 }) 0 Outside (record { kind = 4; values = ((pos 1) ∷ []) }) Plain)

abbrev pub e8 : Entry
e8 = Took 1 0 (Arrival 1 Minus (record { position = 4; place = 1 }) 1 Outside (record { kind = 5; values = ([]) }) Plain)

abbrev pub e9 : Entry
e9 = Did 1 0 8 (outcome.Done (record { kind = 1; vars = ([]); subs = (0 ∷ []); slots = (None ∷ None ∷ []); wires = (record { held = true; plus = (Some (record { slot = None; port = 0 })); minus = None } ∷ []); depth = 1; active = true; initialised = true }) (effect.Hold 0 ∷ effect.Unplug 0 Minus ∷ effect.Destroy 0 ∷ [])) None ([])

abbrev pub e10 : Entry
e10 = Did 0 1 7 outcome.Void None ([])

abbrev pub e11 : Entry
e11 = Took 1 0 (Arrival 0 Plus (record { position = 4; place = 2 }) 0 Outside (record { kind = 4; values = ((pos 2) ∷ []) }) Plain)

abbrev pub e12 : Entry
e12 = Did 1 0 11 (outcome.Done (record { kind = 1; vars = ([]); subs = (0 ∷ []); slots = (None ∷ None ∷ []); wires = (record { held = true; plus = (Some (record { slot = None; port = 0 })); minus = None } ∷ []); depth = 1; active = true; initialised = true }) ([])) None ([])

abbrev pub h0 : History
h0 = []

abbrev pub h1 : History
h1 = e0 ∷ h0

abbrev pub h2 : History
h2 = e1 ∷ h1

abbrev pub h3 : History
h3 = e2 ∷ h2

abbrev pub h4 : History
h4 = e3 ∷ h3

abbrev pub h5 : History
h5 = e4 ∷ h4

abbrev pub h6 : History
h6 = e5 ∷ h5

abbrev pub h7 : History
h7 = e6 ∷ h6

abbrev pub h8 : History
h8 = e7 ∷ h7

abbrev pub h9 : History
h9 = e8 ∷ h8

abbrev pub h10 : History
h10 = e9 ∷ h9

abbrev pub h11 : History
h11 = e10 ∷ h10

abbrev pub h12 : History
h12 = e11 ∷ h11

abbrev pub h13 : History
h13 = e12 ∷ h12

abbrev pub text : List Text
text =
    codes "trace 1"
    ∷ codes "0 0 took 0 start"
    ∷ codes "1 0 did 0 done active"
    ∷ codes "2 0 took 1 start"
    ∷ codes "3 0 did 1 done active 0"
    ∷ codes "4 0 moved 1"
    ∷ codes "  release 0 0 N 1"
    ∷ codes "  release 1 1 Swap"
    ∷ codes "  release 0 2 N 2"
    ∷ codes "5 0 took 0 event 0 plus 4.0 p outside N 1"
    ∷ codes "6 0 did 0 done active"
    ∷ codes "7 0 took 1 event 2 plus 6.0 p outside N 1"
    ∷ codes "8 1 took 0 event 1 minus 4.1 c outside Swap"
    ∷ codes "9 1 did 0 done active"
    ∷ codes "  hold k"
    ∷ codes "  unplug k.minus"
    ∷ codes "  destroy a"
    ∷ codes "10 0 did 1 void"
    ∷ codes "11 1 took 0 event 0 plus 4.2 p outside N 2"
    ∷ codes "12 1 did 0 done active"
    ∷ codes "end quiet"
    ∷ codes "took 6 did 6 moved 1 queued 1 out 0"
    ∷ []

abbrev pub DestroyedAtWork : Type 0
DestroyedAtWork = IsRecord names S Z h13 text
