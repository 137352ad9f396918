-- Opens every notion of the model at once, for proofs that compute with them.
use Rattle.kom_record.specs.Entries.{entry_at, before, item_at, in_hand, acts_of, acts}
use Rattle.kom_record.specs.Instances.{root_tree, ancestry_of, created, born, child_among, occupant, alive}
use Rattle.kom_record.specs.Channels.{channels, decl_of, half_of, declared_end, wire_end, root_end, place, source, destination, declared_held, wire_held, held, is_living, selector, is_outer, comes_in, goes_out}
use Rattle.kom_record.specs.Reaction.{prepared, handlers, first_config, Reacts}
use Rattle.kom_record.specs.Bodies.{body_at, catches, catches_at, nearest}
use Rattle.kom_record.specs.Offers.{relayed_from, relayed_back, offers, offer_at}
use Rattle.kom_record.specs.Queues.{fits, starts_at, enters, entering, entered, reaches_a_channel, unreached, taken, taken_from, before_moved, received, is_among, waiting}
use Rattle.kom_record.specs.Controls.{raised, inits_for, to_child, to_nearest, put_by_effect, put_by_acts, to_children, to_parent, put_by_item, putting, control_put, getting, control_got, control_waiting, told}
use Rattle.kom_record.specs.Time.{times, clock, times_after, nth_word, draw, outgoing_of, outgoing, is_message, is_set_timer, is_cancel_timer, timer, message, is_cancelled, scheduled, is_still_due, is_unraised, pending, due, batch}
use Rattle.kom_record.specs.Ready.{directions, candidate, candidates, next, is_active, is_busy, runnable, is_unhandled, has_unhandled, is_closed, ready, instance_numbers, ready_list, is_idle, is_finished, queued, out, has_more}
use Rattle.kom_record.specs.Legal.{MayEnd, IsLegal}
use Rattle.kom_record.specs.Simulated.{ready_since, longest_ready, IsInOrder}
use Rattle.kom_record.specs.Views.{positions}

unfoldable pub model : Unit {0}
unfolding entry_at before item_at in_hand acts_of acts root_tree ancestry_of created born child_among occupant alive channels decl_of half_of declared_end wire_end root_end place source destination declared_held wire_held held is_living selector is_outer comes_in goes_out prepared handlers first_config Reacts body_at catches catches_at nearest relayed_from relayed_back offers offer_at fits starts_at enters entering entered reaches_a_channel unreached taken taken_from before_moved received is_among waiting raised inits_for to_child to_nearest put_by_effect put_by_acts to_children to_parent put_by_item putting control_put getting control_got control_waiting told times clock times_after nth_word draw outgoing_of outgoing is_message is_set_timer is_cancel_timer timer message is_cancelled scheduled is_still_due is_unraised pending due batch directions candidate candidates next is_active is_busy runnable is_unhandled has_unhandled is_closed ready instance_numbers ready_list is_idle is_finished queued out has_more MayEnd IsLegal ready_since longest_ready IsInOrder positions
model = tt
