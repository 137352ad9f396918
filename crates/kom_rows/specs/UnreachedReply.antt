-- An answer whose way back was unplugged reaches nothing. Two workers.
use Rattle.std.specs.Prelude.{pos, true, false, List, [], ◌∷◌, Some, None, codes}
use Rattle.kom_base.specs.declared.numbers.Dir.TheVariants.{Plus, Minus}
use Rattle.kom_base.specs.declared.numbers.Side.TheVariants.{Outside}
use Rattle.kom_lang.specs.Declarations.{Declarations}
use Rattle.kom_lang.specs.declared.kind.Kind.{Kind}
use Rattle.kom_lang.specs.declared.stmt.On.TheVariants as on
use Rattle.kom_lang.specs.declared.stmt.Stmt.TheVariants as stmt
use Rattle.kom_lang.specs.declared.expr.Expr.TheVariants as expr
use Rattle.kom_lang.specs.declared.expr.Binary.TheVariants as binary
use Rattle.kom_lang.specs.declared.body.Effect.TheVariants as effect
use Rattle.kom_record.specs.declared.plan.Plan.{Plan}
use Rattle.kom_record.specs.declared.item.Control.TheVariants.{Init, Start, Dump, Dumped}
use Rattle.kom_record.specs.declared.item.Item.TheVariants.{Control, Arrival}
use Rattle.kom_record.specs.declared.item.Back.TheVariants.{Plain}
use Rattle.kom_record.specs.declared.entry.Outcome.TheVariants as outcome
use Rattle.kom_record.specs.declared.entry.Entry.{Entry}
use Rattle.kom_record.specs.declared.entry.Entry.TheVariants.{Took, Did}
use Rattle.kom_record.specs.Entries.{History}
use Rattle.kom_record.specs.Trace.{Text}
use Rattle.kom_rows.specs.Worked.{IsRecord}

abbrev pub kind0 : Kind
kind0 = record { name = (83 ∷ 101 ∷ 114 ∷ 118 ∷ 101 ∷ 114 ∷ []); ports = (record { name = (113 ∷ []); port = 2; provided = true } ∷ []); vars = ([]); slots = ([]); channels = ([]); handlers = (record { name = (104 ∷ []); on = on.Event 4 0; off = false; block = (stmt.Answer 5 ((expr.Pair binary.Add (expr.It 0) (expr.Number (pos 1))) ∷ []) ∷ []) } ∷ []) }

abbrev pub kind1 : Kind
kind1 = record { name = (67 ∷ 108 ∷ 105 ∷ 101 ∷ 110 ∷ 116 ∷ []); ports = (record { name = (113 ∷ []); port = 2; provided = false } ∷ []); vars = (record { name = (103 ∷ 111 ∷ 116 ∷ []); first = pos 0 } ∷ []); slots = ([]); channels = ([]); handlers = (record { name = (98 ∷ 111 ∷ 114 ∷ 110 ∷ []); on = on.Init ((110 ∷ []) ∷ []); off = false; block = (stmt.SetVar 0 (expr.Local 0) ∷ []) } ∷ record { name = (103 ∷ 111 ∷ []); on = on.Start; off = false; block = (stmt.Trigger 4 ((expr.Var 0) ∷ []) 0 ∷ []) } ∷ record { name = (104 ∷ []); on = on.Event 5 0; off = false; block = (stmt.SetVar 0 (expr.It 0) ∷ []) } ∷ []) }

abbrev pub kind2 : Kind
kind2 = record { name = (77 ∷ 97 ∷ 105 ∷ 110 ∷ []); ports = ([]); vars = ([]); slots = (record { name = (115 ∷ []); child = Some (record { kind = 0; args = ([]) }) } ∷ record { name = (97 ∷ []); child = Some (record { kind = 1; args = ((pos 10) ∷ []) }) } ∷ []); channels = (record { name = (107 ∷ []); port = 2; plus = (Some (record { slot = (Some 0); port = 0 })); minus = (Some (record { slot = (Some 1); port = 0 })); plus_when = []; minus_when = [] } ∷ []); handlers = (record { name = (103 ∷ 111 ∷ []); on = on.Start; off = false; block = (stmt.Dump 1 ∷ []) } ∷ record { name = (99 ∷ 117 ∷ 116 ∷ []); on = on.Dumped (122 ∷ []); off = false; block = (stmt.Hold 0 ∷ stmt.Unplug 0 Plus ∷ []) } ∷ []) }

abbrev pub S : Declarations
S = record { events = (record { parent = None; own = 2 } ∷ record { parent = None; own = 1 } ∷ record { parent = None; own = 1 } ∷ record { parent = None; own = 2 } ∷ record { parent = None; own = 1 } ∷ record { parent = None; own = 1 } ∷ []); ports = (record { plus = (2 ∷ []); minus = (0 ∷ 1 ∷ []) } ∷ record { plus = (3 ∷ []); minus = (3 ∷ []) } ∷ record { plus = (5 ∷ []); minus = (4 ∷ []) } ∷ []); kinds = (kind0 ∷ kind1 ∷ kind2 ∷ []); root = record { kind = 2; args = ([]) } }

abbrev pub names : List Text
names = ((83 ∷ 101 ∷ 116 ∷ 84 ∷ 105 ∷ 109 ∷ 101 ∷ 114 ∷ []) ∷ (67 ∷ 97 ∷ 110 ∷ 99 ∷ 101 ∷ 108 ∷ 84 ∷ 105 ∷ 109 ∷ 101 ∷ 114 ∷ []) ∷ (84 ∷ 105 ∷ 109 ∷ 101 ∷ 111 ∷ 117 ∷ 116 ∷ []) ∷ (77 ∷ 101 ∷ 115 ∷ 115 ∷ 97 ∷ 103 ∷ 101 ∷ []) ∷ (65 ∷ 115 ∷ 107 ∷ []) ∷ (83 ∷ 97 ∷ 121 ∷ []) ∷ [])

abbrev pub Z : Plan
Z = record { seed = 0; steps = 100000; instants = 100000; lo = 1; hi = 1; raises = ([]) }

abbrev pub e0 : Entry
e0 = Took 0 0 (Control Start)

abbrev pub e1 : Entry
e1 = Did 0 0 0 (outcome.Done (record { kind = 2; vars = ([]); subs = (0 ∷ 1 ∷ []); slots = ((Some 0) ∷ (Some 1) ∷ []); wires = (record { held = false; plus = (Some (record { slot = (Some 0); port = 0 })); minus = (Some (record { slot = (Some 1); port = 0 })) } ∷ []); depth = 1; active = true; initialised = true }) (effect.Dump 1 ∷ [])) None ([])

abbrev pub e2 : Entry
e2 = Took 0 2 (Control (Init ((pos 10) ∷ [])))

abbrev pub e3 : Entry
e3 = Did 0 2 2 (outcome.Done (record { kind = 1; vars = ((pos 10) ∷ []); subs = (1 ∷ 2 ∷ []); slots = ([]); wires = ([]); depth = 2; active = false; initialised = true }) ([])) None ([])

abbrev pub e4 : Entry
e4 = Took 0 1 (Control Start)

abbrev pub e5 : Entry
e5 = Did 0 1 4 (outcome.Done (record { kind = 0; vars = ([]); subs = (0 ∷ []); slots = ([]); wires = ([]); depth = 2; active = true; initialised = true }) ([])) None ([])

abbrev pub e6 : Entry
e6 = Took 0 2 (Control Start)

abbrev pub e7 : Entry
e7 = Did 0 2 6 (outcome.Done (record { kind = 1; vars = ((pos 10) ∷ []); subs = (1 ∷ 2 ∷ []); slots = ([]); wires = ([]); depth = 2; active = true; initialised = true }) (effect.Trigger 0 (record { kind = 4; values = ((pos 10) ∷ []) }) ∷ [])) None ([])

abbrev pub e8 : Entry
e8 = Took 0 1 (Arrival 0 Minus (record { position = 7; place = 0 }) 0 Outside (record { kind = 4; values = ((pos 10) ∷ []) }) Plain)

abbrev pub e9 : Entry
e9 = Took 1 2 (Control Dump)

abbrev pub e10 : Entry
e10 = Did 1 2 9 (outcome.Done (record { kind = 1; vars = ((pos 10) ∷ []); subs = (1 ∷ 2 ∷ []); slots = ([]); wires = ([]); depth = 2; active = true; initialised = true }) ([])) None ([])

abbrev pub e11 : Entry
e11 = Took 1 0 (Control (Dumped 1 ((pos 10) ∷ [])))

abbrev pub e12 : Entry
e12 = Did 1 0 11 (outcome.Done (record { kind = 2; vars = ([]); subs = (0 ∷ 1 ∷ []); slots = ((Some 0) ∷ (Some 1) ∷ []); wires = (record { held = true; plus = None; minus = (Some (record { slot = (Some 1); port = 0 })) } ∷ []); depth = 1; active = true; initialised = true }) (effect.Hold 0 ∷ effect.Unplug 0 Plus ∷ [])) None ([])

abbrev pub e13 : Entry
e13 = Did 0 1 8 (outcome.Done (record { kind = 0; vars = ([]); subs = (0 ∷ []); slots = ([]); wires = ([]); depth = 2; active = true; initialised = true }) (effect.Answer (record { kind = 5; values = ((pos 11) ∷ []) }) ∷ [])) None (1 ∷ [])

abbrev pub h0 : History
h0 = []

abbrev pub h1 : History
h1 = e0 ∷ h0

abbrev pub h2 : History
h2 = e1 ∷ h1

abbrev pub h3 : History
h3 = e2 ∷ h2

abbrev pub h4 : History
h4 = e3 ∷ h3

abbrev pub h5 : History
h5 = e4 ∷ h4

abbrev pub h6 : History
h6 = e5 ∷ h5

abbrev pub h7 : History
h7 = e6 ∷ h6

abbrev pub h8 : History
h8 = e7 ∷ h7

abbrev pub h9 : History
h9 = e8 ∷ h8

abbrev pub h10 : History
h10 = e9 ∷ h9

abbrev pub h11 : History
h11 = e10 ∷ h10

abbrev pub h12 : History
h12 = e11 ∷ h11

abbrev pub h13 : History
h13 = e12 ∷ h12

abbrev pub h14 : History
h14 = e13 ∷ h13

abbrev pub text : List Text
text =
    codes "trace 1"
    ∷ codes "0 0 took 0 start"
    ∷ codes "1 0 did 0 done active"
    ∷ codes "  dump a"
    ∷ codes "2 0 took 2 init 10"
    ∷ codes "3 0 did 2 done passive 10"
    ∷ codes "4 0 took 1 start"
    ∷ codes "5 0 did 1 done active"
    ∷ codes "6 0 took 2 start"
    ∷ codes "7 0 did 2 done active 10"
    ∷ codes "  trigger q Ask 10"
    ∷ codes "8 0 took 1 event 0 minus 7.0 q outside Ask 10"
    ∷ codes "9 1 took 2 dump"
    ∷ codes "10 1 did 2 done active 10"
    ∷ codes "11 1 took 0 dumped 1 10"
    ∷ codes "12 1 did 0 done active"
    ∷ codes "  hold k"
    ∷ codes "  unplug k.plus"
    ∷ codes "13 0 did 1 done active"
    ∷ codes "  answer Say 11"
    ∷ codes "  unreached 1"
    ∷ codes "end quiet"
    ∷ codes "took 7 did 7 moved 0 queued 0 out 0"
    ∷ []

abbrev pub UnreachedReply : Type 0
UnreachedReply = IsRecord names S Z h14 text
