use Rattle.std.proofs.Common.{◌∙◌, sym, ap}
use Rattle.std.specs.Option.{option_map, option_and_then}
use Rattle.kom_base.specs.declared.numbers.Half.{Half}
use Rattle.kom_wiring.specs.declared.link.Link.{Link}
use Rattle.kom_wiring.specs.Wires.{link_of, place_at}
use Rattle.kom_state.proofs.Aiming.{end_aim}
use Rattle.kom_state.proofs.aims.aim_of.Goals as goal

pub returns-else-held : goal.returns-else-held
returns-else-held c =
    let links = c.args.wiring.now.links in
    c.component_of.ensures
    ∙ ap (option_map (λ (h : Half). h.comp)) (c.end.ensures ∙ ap (λ d. option_and_then (λ (l : Link). place_at l d) (link_of links c.args.x)) c.opposite.ensures)
    ∙ end_aim c.args.numbers.now links c.args.x c.args.d (sym c.leads_out.ensures ∙ c.if-leads_out.false) (sym c.held.ensures ∙ c.if-held.false)
