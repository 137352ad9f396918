use Rattle.std.proofs.Common.{◌≡◌, ◌≢◌, true, false, Option, Some, None, Bor, refl, sym, ap, ◌∙◌}
use Rattle.std.specs.Option.{option_map, option_copied}
use Rattle.std.specs.Ordering.{is_lt}
use Rattle.kom_index.specs.Entries.{first_from}
use Rattle.kom_index.specs.Shape.{entries_of}
use Rattle.kom_index.proofs.Order.{first_right, first_key_here, first_key_left, lt_less}
use Rattle.kom_index.proofs.Shapes.{at_fork}
use Rattle.kom_index.proofs.tree.Tree.+first_from.Goals as goal

pub returns-then-is_lt-clause-key : goal.returns-then-is_lt-clause-key
returns-then-is_lt-clause-key g t c =
    let f = at_fork g.K.Ord.cmp c.args.self.now c.in-Fork.l.value c.in-Fork.k c.in-Fork.field-2 c.in-Fork.r.value _ c.self.view_is c.self.invariant (ap entries_of c.in-Fork.is) in
    let lt : is_lt (g.K.Ord.cmp c.in-Fork.k c.args.low.now) ≡ true = cc in
    let less = lt_less _ lt in
    c.first_from.ensures.key ∙ ap (λ d. option_map (λ e. e.0) (first_from g.K.Ord.cmp c.args.low.now d)) c.deref.ensures
    ∙ sym (ap (λ d. option_map (λ e. e.0) (first_from g.K.Ord.cmp c.args.low.now d)) f.is ∙ ap (option_map (λ e. e.0)) (first_right g.K.Ord.cmp g.met.K.Ord.total c.args.low.now c.in-Fork.l.value (c.in-Fork.k, c.in-Fork.field-2) c.in-Fork.r.value f.rises less))

pub returns-in-None-clause-key : goal.returns-in-None-clause-key
returns-in-None-clause-key g t c =
    let f = at_fork g.K.Ord.cmp c.args.self.now c.in-Fork.l.value c.in-Fork.k c.in-Fork.field-2 c.in-Fork.r.value _ c.self.view_is c.self.invariant (ap entries_of c.in-Fork.is) in
    let not_lt : is_lt (g.K.Ord.cmp c.in-Fork.k c.args.low.now) ≡ false = cc in
    let none = ap option_copied (sym c.in-None.is) ∙ c.first_from-in-Fork.ensures.key ∙ ap (λ d. option_map (λ e. e.0) (first_from g.K.Ord.cmp c.args.low.now d)) c.deref-in-Fork.ensures in
    first_key_here g.K.Ord.cmp g.met.K.Ord.total c.args.low.now c.in-Fork.l.value (c.in-Fork.k, c.in-Fork.field-2) c.in-Fork.r.value not_lt none
    ∙ sym (ap (λ d. option_map (λ e. e.0) (first_from g.K.Ord.cmp c.args.low.now d)) f.is)

copied : {X : Type 0} (o : Option (Bor X)) → o ≢ None → option_copied o ≢ None
copied None n e = n refl
copied (Some x) n e = cc

pub returns-in_default-clause-key : goal.returns-in_default-clause-key
returns-in_default-clause-key g t c =
    let f = at_fork g.K.Ord.cmp c.args.self.now c.in-Fork.l.value c.in-Fork.k c.in-Fork.field-2 c.in-Fork.r.value _ c.self.view_is c.self.invariant (ap entries_of c.in-Fork.is) in
    let not_lt : is_lt (g.K.Ord.cmp c.in-Fork.k c.args.low.now) ≡ false = cc in
    let some = c.first_from-in-Fork.ensures.key ∙ ap (λ d. option_map (λ e. e.0) (first_from g.K.Ord.cmp c.args.low.now d)) c.deref-in-Fork.ensures in
    first_key_left g.K.Ord.cmp g.met.K.Ord.total c.args.low.now c.in-Fork.l.value (c.in-Fork.k, c.in-Fork.field-2) c.in-Fork.r.value _ (copied _ c.in_default.not-None) some
    ∙ sym (ap (λ d. option_map (λ e. e.0) (first_from g.K.Ord.cmp c.args.low.now d)) f.is)
