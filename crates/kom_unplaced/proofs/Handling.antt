-- The rules on statements, without places.
use Rattle.std.proofs.Common.{◌≡◌, ℕ, ◌==◌, false, not, List, [], map, length, Option, Some, None, refl, ap, ◌∙◌}
use Rattle.std.specs.Option.{option_map, option_map_or}
use Rattle.std.proofs.lemmas.List.{length-map}
use Rattle.kom_base.specs.declared.numbers.Dir.{Dir}
use Rattle.kom_system.specs.declared.parts.Spot.{Spot}
use Rattle.kom_system.specs.declared.parts.StmtPart.{StmtPart}
use Rattle.kom_system.specs.declared.parts.StmtPart.TheOpen.{Trigger, Answer, CreateFromState, Plug, Subscribe, Unsubscribe, Fail, Escalate}
use Rattle.kom_system.specs.declared.parts.TargetPart.{TargetPart}
use Rattle.kom_system.specs.declared.parts.TargetPart.TheVariants as to
use Rattle.kom_system.specs.declared.parts.OnPart.{OnPart}
use Rattle.kom_system.specs.declared.parts.OnPart.TheVariants as on
use Rattle.kom_system.specs.declared.parts.HandlerPart.{HandlerPart}
use Rattle.kom_system.specs.declared.parts.ComponentPart.{ComponentPart}
use Rattle.kom_system.specs.declared.parts.Parts.{Parts}
use Rattle.kom_rules.specs.Names.{is_among, at_if}
use Rattle.kom_rules.specs.Walks.{One, of_statements}
use Rattle.kom_written.specs.Unplaced.{spot, expr_part, target_part, on_part, handler_part, port_part, test_part, channel_part, component_part, unplaced}
use Rattle.kom_unplaced.proofs.Lists.{AsMany, nothing, one, both, each, maybe}
use Rattle.kom_unplaced.proofs.Exprs.{one_part, in_expressions_same}
use Rattle.kom_events.specs.Kin.{attributes}
use Rattle.kom_events.specs.Ports.{passes}
use Rattle.kom_system.specs.Statements.{outwards}
use Rattle.kom_rules.specs.Spaces.{event_number, port_type_number, event_rows, port_rows, attribute_names, handler_named, is_init}
use Rattle.kom_rules.specs.Handling.{init_named, subscribed_init, stays, answer_stays, kept_inside, wrong_values, miscounted, is_event, is_dumped, is_fault, no_state, no_event, no_question, no_fault, large_fault, misplugged_at, misplugged_target, misplugged, lacks, it_lacks, lacked_by_it, lacked_by_tests, lacked}
use Rattle.kom_unplaced.proofs.Names.{port_named_same, channel_named_same, handler_named_same, event_rows_same, port_rows_same, event_number_same, port_type_number_same, attribute_names_same, is_init_same}
use Rattle.kom_unplaced.proofs.Declaring.{of_statements_same}

event_kept : (o : OnPart) → is_event (on_part o) ≡ is_event o
event_kept (on.Event kind port) = refl
event_kept (on.Init ns) = refl
event_kept on.Start = refl
event_kept on.Stop = refl
event_kept (on.Fault slot n) = refl
event_kept (on.Dumped slot) = refl

dumped_kept : (o : OnPart) → is_dumped (on_part o) ≡ is_dumped o
dumped_kept (on.Event kind port) = refl
dumped_kept (on.Init ns) = refl
dumped_kept on.Start = refl
dumped_kept on.Stop = refl
dumped_kept (on.Fault slot n) = refl
dumped_kept (on.Dumped slot) = refl

fault_kept : (o : OnPart) → is_fault (on_part o) ≡ is_fault o
fault_kept (on.Event kind port) = refl
fault_kept (on.Init ns) = refl
fault_kept on.Start = refl
fault_kept on.Stop = refl
fault_kept (on.Fault slot n) = refl
fault_kept (on.Dumped slot) = refl

init_same : (c : ComponentPart) (h : Spot) → AsMany (init_named (component_part c) (spot h)) (init_named c h)
init_same c h = one _ _ (ap (λ o. option_map_or (λ (x : HandlerPart). is_init x.on) o false) (handler_named_same c h) ∙ by (handler_named c h)) where
  by : (o : Option HandlerPart) → option_map_or (λ (x : HandlerPart). is_init x.on) (option_map handler_part o) false ≡ option_map_or (λ (x : HandlerPart). is_init x.on) o false
  by None = refl
  by (Some x) = is_init_same x.on

module _ (P : Parts) where
  -- what a rule says of a statement
  abbrev Says : (Parts → ComponentPart → OnPart → One → List ℕ) → Type 0
  Says says = (c : ComponentPart) (o : OnPart) (below : List StmtPart → List StmtPart) (s : One) → AsMany (says (unplaced P) (component_part c) (on_part o) (one_part below s)) (says P c o s)

  subscribed : Says subscribed_init
  subscribed c o below (Subscribe h) = init_same c h
  subscribed c o below (Unsubscribe h) = init_same c h
  subscribed c o below _ = nothing

  stays_same : (c : ComponentPart) (port kind : Spot) → AsMany (stays (unplaced P) (component_part c) (spot port) (spot kind)) (stays P c port kind)
  stays_same c port kind =
      maybe _ _ port_part _ _ (port_named_same c port) (λ p. one _ _
      (ap (λ rs. not (passes rs (port_rows (unplaced P)) (port_type_number (unplaced P) (spot p.port)) (outwards p.provided) (event_number (unplaced P) (spot kind)))) (event_rows_same P)
      ∙ ap (λ rs. not (passes (event_rows P) rs (port_type_number (unplaced P) (spot p.port)) (outwards p.provided) (event_number (unplaced P) (spot kind)))) (port_rows_same P)
      ∙ ap (λ n. not (passes (event_rows P) (port_rows P) n (outwards p.provided) (event_number (unplaced P) (spot kind)))) (port_type_number_same P p.port)
      ∙ ap (λ n. not (passes (event_rows P) (port_rows P) (port_type_number P p.port) (outwards p.provided) n)) (event_number_same P kind)))

  answer_same : (c : ComponentPart) (o : OnPart) (kind : Spot) → AsMany (answer_stays (unplaced P) (component_part c) (on_part o) (spot kind)) (answer_stays P c o kind)
  answer_same c (on.Event handled port) kind = stays_same c port kind
  answer_same c (on.Init ns) kind = nothing
  answer_same c on.Start kind = nothing
  answer_same c on.Stop kind = nothing
  answer_same c (on.Fault slot n) kind = nothing
  answer_same c (on.Dumped slot) kind = nothing

  kept : Says kept_inside
  kept c o below (Trigger kind es port) = stays_same c port kind
  kept c o below (Answer a kind es) = answer_same c o kind
  kept c o below _ = nothing

  values_same : (kind : Spot) (n m : ℕ) → n ≡ m → AsMany (wrong_values (unplaced P) (spot kind) n) (wrong_values P kind m)
  values_same kind n m e =
      one _ _ (ap (λ k. not (k == attributes (event_rows (unplaced P)) (event_number (unplaced P) (spot kind)))) e ∙ ap (λ rs. not (m == attributes rs (event_number (unplaced P) (spot kind)))) (event_rows_same P)
      ∙ ap (λ k. not (m == attributes (event_rows P) k)) (event_number_same P kind))

  counted : Says miscounted
  counted c o below (Trigger kind es port) = values_same kind (length (map expr_part es)) (length es) (length-map es expr_part)
  counted c o below (Answer a kind es) = values_same kind (length (map expr_part es)) (length es) (length-map es expr_part)
  counted c o below _ = nothing

  stated : Says no_state
  stated c o below (CreateFromState slot kind a) = one _ _ (ap not (dumped_kept o))
  stated c o below _ = nothing

  evented : Says no_event
  evented c o below s = in_expressions_same (λ n. []) (λ n. []) (λ a n. at_if (not (is_event o)) a) (λ a n. at_if (not (is_event (on_part o))) a) (λ n. nothing) (λ a n. one _ _ (ap not (event_kept o))) below s

  questioned : Says no_question
  questioned c o below (Answer a kind es) = one _ _ (ap not (event_kept o))
  questioned c o below _ = nothing

  faulted : Says no_fault
  faulted c o below (Escalate a) = one _ _ (ap not (fault_kept o))
  faulted c o below _ = nothing

  small : Says large_fault
  small c o below (Fail n a) = one _ _ refl
  small c o below _ = nothing

  at_self : (c : ComponentPart) (wire : Spot) (d : Dir) (port : Spot) → AsMany (misplugged_at (unplaced P) (component_part c) (spot wire) d (spot port)) (misplugged_at P c wire d port)
  at_self c wire d port = maybe _ _ channel_part _ _ (channel_named_same c wire) (λ k. maybe _ _ port_part _ _ (port_named_same c port) (λ p. one _ _ refl))

  target_same : (c : ComponentPart) (wire : Spot) (d : Dir) (t : TargetPart) → AsMany (misplugged_target (unplaced P) (component_part c) (spot wire) d (target_part t)) (misplugged_target P c wire d t)
  target_same c wire d (to.Own port) = at_self c wire d port
  target_same c wire d (to.Child slot port) = nothing

  plugged : Says misplugged
  plugged c o below (Plug wire d t) = target_same c wire d t
  plugged c o below _ = nothing

  lacks_same : (kind attr : Spot) → AsMany (lacks (unplaced P) (spot kind) (spot attr)) (lacks P kind attr)
  lacks_same kind attr =
      one _ _ (ap (λ n. not (is_among (attribute_names (unplaced P) n) attr.name)) (event_number_same P kind) ∙ ap (λ ns. not (is_among ns attr.name)) (attribute_names_same P (event_number P kind)))

  it_same : (o : OnPart) (attr : Spot) → AsMany (it_lacks (unplaced P) (on_part o) (spot attr)) (it_lacks P o attr)
  it_same (on.Event kind port) attr = lacks_same kind attr
  it_same (on.Init ns) attr = nothing
  it_same on.Start attr = nothing
  it_same on.Stop attr = nothing
  it_same (on.Fault slot n) attr = nothing
  it_same (on.Dumped slot) attr = nothing

  by_it : Says lacked_by_it
  by_it c o below s = in_expressions_same (λ n. []) (λ n. []) (λ a n. it_lacks P o n) (λ a n. it_lacks (unplaced P) (on_part o) n) (λ n. nothing) (λ a n. it_same o n) below s

  by_tests : AsMany (lacked_by_tests (unplaced P)) (lacked_by_tests P)
  by_tests = each _ _ component_part P.components (λ c. each _ _ channel_part c.channels (λ k. both (each _ _ test_part k.plus_when (λ t. lacks_same t.kind t.attr)) (each _ _ test_part k.minus_when (λ t. lacks_same t.kind t.attr))))

  pub subscribed_same : AsMany (of_statements subscribed_init (unplaced P)) (of_statements subscribed_init P)
  subscribed_same = of_statements_same P subscribed_init subscribed

  pub kept_same : AsMany (of_statements kept_inside (unplaced P)) (of_statements kept_inside P)
  kept_same = of_statements_same P kept_inside kept

  pub counted_same : AsMany (of_statements miscounted (unplaced P)) (of_statements miscounted P)
  counted_same = of_statements_same P miscounted counted

  pub stated_same : AsMany (of_statements no_state (unplaced P)) (of_statements no_state P)
  stated_same = of_statements_same P no_state stated

  pub evented_same : AsMany (of_statements no_event (unplaced P)) (of_statements no_event P)
  evented_same = of_statements_same P no_event evented

  pub questioned_same : AsMany (of_statements no_question (unplaced P)) (of_statements no_question P)
  questioned_same = of_statements_same P no_question questioned

  pub faulted_same : AsMany (of_statements no_fault (unplaced P)) (of_statements no_fault P)
  faulted_same = of_statements_same P no_fault faulted

  pub small_same : AsMany (of_statements large_fault (unplaced P)) (of_statements large_fault P)
  small_same = of_statements_same P large_fault small

  pub plugged_same : AsMany (of_statements misplugged (unplaced P)) (of_statements misplugged P)
  plugged_same = of_statements_same P misplugged plugged

  pub lacked_same : AsMany (lacked (unplaced P)) (lacked P)
  lacked_same = both (of_statements_same P lacked_by_it by_it) by_tests
