-- Systems with the texts that are expected of them.
use Rattle.std.specs.Prelude.{◌≡◌, ℕ, pos, negsuc, true, false, List, [], ◌∷◌, ◌++◌, Some, None, codes}
use Rattle.std.specs.List.{flat_map}
use Rattle.kom_base.specs.declared.numbers.Dir.TheVariants.{Plus, Minus}
use Rattle.kom_events.specs.declared.selector.Op.TheVariants as op
use Rattle.kom_lang.specs.Declarations.{Declarations}
use Rattle.kom_lang.specs.declared.kind.Kind.{Kind}
use Rattle.kom_lang.specs.declared.stmt.Stmt.{Stmt}
use Rattle.kom_lang.specs.declared.stmt.On.TheVariants as on
use Rattle.kom_lang.specs.declared.stmt.Stmt.TheVariants as stmt
use Rattle.kom_lang.specs.declared.stmt.Target.TheVariants as target
use Rattle.kom_lang.specs.declared.expr.Expr.TheVariants as expr
use Rattle.kom_lang.specs.declared.expr.Binary.TheVariants as binary
use Rattle.kom_record.specs.Trace.{Text}
use Rattle.kom_system.specs.Contents.{Contents, upgraded}
use Rattle.kom_system.specs.Fitting.{built_in_events, built_in_ports}
use Rattle.kom_sysprint.specs.Canonical.{canonical_text}

-- lines, each ended by a newline
abbrev pub lines : List Text → Text
lines ts = flat_map (λ t. t ++ 10 ∷ []) ts

-- ---- the smallest system

abbrev pub smallest : Contents
smallest = record {
  declarations = record { events = built_in_events; ports = built_in_ports; kinds = record { name = codes "Main"; ports = []; vars = []; slots = []; channels = []; handlers = [] } ∷ []; root = record { kind = 0; args = [] } };
  event_names = [] ∷ [] ∷ [] ∷ [] ∷ [];
  attr_names = [] ∷ [] ∷ [] ∷ [] ∷ [];
  port_names = [] ∷ [] ∷ [];
  version = 1;
}

abbrev pub Smallest : Type 0
Smallest = canonical_text smallest ≡ lines (codes "system 1 ;" ∷ codes "component Main {" ∷ codes "}" ∷ codes "root Main ( ) ;" ∷ [])

abbrev pub SmallestUpgraded : Type 0
SmallestUpgraded = canonical_text (upgraded smallest) ≡ lines (codes "system 2 ;" ∷ codes "component Main {" ∷ codes "}" ∷ codes "root Main ( ) ;" ∷ [])

-- ---- a system with each form of declaration, statement and expression

abbrev pub hear : List Stmt
hear =
    stmt.Let (codes "x") (expr.Pair binary.Add (expr.It 0) (expr.Pair binary.Mul (expr.It 2) (expr.Number (pos 3))))
    ∷ stmt.If (expr.Pair binary.And (expr.Not (expr.Local 0)) (expr.Var 0)) (stmt.Let (codes "y") (expr.Neg (expr.Number (pos 5))) ∷ stmt.SetLocal 1 (expr.Local 0) ∷ []) (Some (stmt.Answer 4 (expr.Local 0 ∷ expr.Number (pos 1) ∷ []) ∷ []))
    ∷ stmt.While (expr.Pair binary.Le (expr.Local 0) (expr.Number (pos 2))) (stmt.SetLocal 0 (expr.Pair binary.Sub (expr.Local 0) (expr.Number (pos 1))) ∷ [])
    ∷ stmt.If (expr.Var 1) [] None
    ∷ stmt.Trigger 5 (expr.Var 0 ∷ expr.Var 1 ∷ expr.It 1 ∷ []) 0
    ∷ stmt.Subscribe 1 ∷ stmt.Unsubscribe 2 ∷ []

abbrev pub low : Kind
low = record {
  name = codes "Low";
  ports = record { name = codes "p"; port = 2; provided = true } ∷ record { name = codes "n"; port = 1; provided = false } ∷ [];
  vars = record { name = codes "v"; first = negsuc 2 } ∷ record { name = codes "w"; first = pos 0 } ∷ [];
  slots = [];
  channels = [];
  handlers =
      record { name = codes "born"; on = on.Init (codes "a" ∷ codes "b" ∷ []); off = false; block = stmt.SetVar 0 (expr.Local 1) ∷ [] }
      ∷ record { name = codes "go"; on = on.Start; off = true; block = stmt.Fail 7 ∷ [] }
      ∷ record { name = codes "end"; on = on.Stop; off = false; block = [] }
      ∷ record { name = codes "hear"; on = on.Event 5 0; off = false; block = hear }
      ∷ [];
}

abbrev pub over : List Stmt
over =
    stmt.Unplug 1 Plus ∷ stmt.Plug 1 Minus (target.Child 1 (codes "p")) ∷ stmt.Plug 0 Plus (target.Own 0) ∷ stmt.CreateFromState 1 0 ∷ stmt.Create 0 0 (expr.Local 0 ∷ expr.Number (pos 4) ∷ [])
    ∷ stmt.Start 0 ∷ stmt.Stop 0 ∷ stmt.Destroy 1 ∷ stmt.Dump 0 ∷ stmt.Hold 0 ∷ stmt.Resume 1 ∷ []

abbrev pub main : Kind
main = record {
  name = codes "Main";
  ports = record { name = codes "out"; port = 2; provided = true } ∷ [];
  vars = [];
  slots = record { name = codes "a"; child = Some (record { kind = 0; args = pos 1 ∷ negsuc 1 ∷ [] }) } ∷ record { name = codes "b"; child = None } ∷ [];
  channels =
      record {
        name = codes "k";
        port = 2;
        plus = Some (record { slot = Some 0; port = 0 });
        minus = Some (record { slot = None; port = 0 });
        plus_when = record { kind = 4; attr = 0; op = op.Ge; number = pos 1 } ∷ record { kind = 5; attr = 2; op = op.Lt; number = negsuc 3 } ∷ [];
        minus_when = record { kind = 5; attr = 1; op = op.Ne; number = pos 0 } ∷ [];
      }
      ∷ record { name = codes "l"; port = 2; plus = None; minus = None; plus_when = []; minus_when = [] } ∷ [];
  handlers =
      record { name = codes "caught"; on = on.Fault (codes "s") (codes "n"); off = true; block = stmt.Escalate ∷ [] }
      ∷ record { name = codes "over"; on = on.Dumped (codes "s"); off = false; block = over }
      ∷ [];
}

abbrev pub each_form : Contents
each_form = record {
  declarations = record {
    events = built_in_events ++ (record { parent = None; own = 2 } ∷ record { parent = Some 4; own = 1 } ∷ []);
    ports = built_in_ports ++ (record { plus = 4 ∷ 5 ∷ []; minus = 5 ∷ [] } ∷ []);
    kinds = low ∷ main ∷ [];
    root = record { kind = 1; args = [] };
  };
  event_names = codes "SetTimer" ∷ codes "CancelTimer" ∷ codes "Timeout" ∷ codes "Message" ∷ codes "N" ∷ codes "M" ∷ [];
  attr_names = [] ∷ [] ∷ [] ∷ [] ∷ (codes "n" ∷ codes "m" ∷ []) ∷ (codes "n" ∷ codes "m" ∷ codes "k" ∷ []) ∷ [];
  port_names = codes "Timer" ∷ codes "Network" ∷ codes "P" ∷ [];
  version = 2;
}

abbrev pub EachForm : Type 0
EachForm = canonical_text each_form ≡ lines (
    codes "system 2 ;"
    ∷ codes "event N ( n , m ) ;"
    ∷ codes "event M : N ( k ) ;"
    ∷ codes "port P {"
    ∷ codes "plus N ;"
    ∷ codes "plus M ;"
    ∷ codes "minus M ;"
    ∷ codes "}"
    ∷ codes "component Low {"
    ∷ codes "provides p : P ;"
    ∷ codes "requires n : Network ;"
    ∷ codes "var v = - 3 ;"
    ∷ codes "var w = 0 ;"
    ∷ codes "on init ( a , b ) as born {"
    ∷ codes "v = b ;"
    ∷ codes "}"
    ∷ codes "on start as go off {"
    ∷ codes "fail 7 ;"
    ∷ codes "}"
    ∷ codes "on stop as end {"
    ∷ codes "}"
    ∷ codes "on M at p as hear {"
    ∷ codes "let x = ( it . n + ( it . k * 3 ) ) ;"
    ∷ codes "if ( ( ! x ) && v ) {"
    ∷ codes "let y = ( - 5 ) ;"
    ∷ codes "y = x ;"
    ∷ codes "}"
    ∷ codes "else {"
    ∷ codes "answer N ( x , 1 ) ;"
    ∷ codes "}"
    ∷ codes "while ( x <= 2 ) {"
    ∷ codes "x = ( x - 1 ) ;"
    ∷ codes "}"
    ∷ codes "if w {"
    ∷ codes "}"
    ∷ codes "trigger M ( v , w , it . m ) at p ;"
    ∷ codes "subscribe go ;"
    ∷ codes "unsubscribe end ;"
    ∷ codes "}"
    ∷ codes "}"
    ∷ codes "component Main {"
    ∷ codes "provides out : P ;"
    ∷ codes "slot a : Low ( 1 , - 2 ) ;"
    ∷ codes "slot b ;"
    ∷ codes "channel k : P from a . p to self . out plus when N . n >= 1 && M . k < - 4 minus when M . m != 0 ;"
    ∷ codes "channel l : P from free to free ;"
    ∷ codes "on fault ( s , n ) as caught off {"
    ∷ codes "escalate ;"
    ∷ codes "}"
    ∷ codes "on dumped ( s ) as over {"
    ∷ codes "unplug l . plus ;"
    ∷ codes "plug l . minus at b . p ;"
    ∷ codes "plug k . plus at self . out ;"
    ∷ codes "create b : Low from state ;"
    ∷ codes "create a : Low ( s , 4 ) ;"
    ∷ codes "start a ;"
    ∷ codes "stop a ;"
    ∷ codes "destroy b ;"
    ∷ codes "dump a ;"
    ∷ codes "hold k ;"
    ∷ codes "resume l ;"
    ∷ codes "}"
    ∷ codes "}"
    ∷ codes "root Main ( ) ;"
    ∷ []
    )
