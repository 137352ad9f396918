use Rattle.std.proofs.Common.{◌≡◌, ◌≢◌, ◌≤◌, ◌<◌, ℕ, zero, suc, List, [], ◌∷◌, length, sym, ap, ◌∙◌, subst, inl, inr, arith, get_or}
use Rattle.std.specs.Option.{option_map}
use Rattle.std.specs.Prelude.{IfSome}
use Rattle.std.proofs.lemmas.Bool.{cases_eq}
use Rattle.kom_state.specs.Parts.{state_of, control_spare}
use Rattle.kom_puts.specs.Puts.{HasRoomFor, put_in}
use Rattle.kom_puts.proofs.BySlots.{no_less_again, put_in_same, room_stays, same_again}
use Rattle.kom_puts.proofs.Putting.{room_for_its_own}
use Rattle.kom_puts.proofs.effects.reserve_for_effects.Goals as goal

either_way : {X : Type 0} (xs : List X) (i : ℕ) (d e : X) → i < length xs → get_or xs i d ≡ get_or xs i e
either_way [] i d e h = absurd (omega arith)
either_way (x ∷ xs) zero d e h = λ k. x
either_way (x ∷ xs) (suc i) d e h = either_way xs i d e (omega arith)

pub loop-k-preserved : goal.loop-k-preserved
loop-k-preserved c =
    let v = c.args.state.now in
    let w = c.loop-k.state in
    let u = c.reserve_one.new.state in
    let at = c.args.c in
    let item = c.args.item.now in
    let told = c.args.told.now in
    let e = c.index-effects-k.result in
    record {
      same = same_again (state_of v) (state_of w) (state_of u) c.loop-k.invariant.same c.in_ok-reserve_one.ensures.same;
      not_less = no_less_again v w u c.loop-k.invariant.not_less c.in_ok-reserve_one.ensures.not_less;
      rooms = λ j d low. elim (cases_eq j c.loop-k.k) [
        | inl f ↦
            let is = c.index-effects-k.is ∙ either_way c.args.effects.now c.loop-k.k e d c.loop-k-test.true ∙ ap (λ i. get_or c.args.effects.now i d) (sym f) in
            subst (λ e. HasRoomFor c.args.n (put_in (state_of v) at item told e) u) is
            (room_for_its_own c.args.n (put_in (state_of v) at item told e) u
            (subst (λ o. IfSome o (λ d. c.args.n ≤ control_spare u d))
            (c.receiver_in-receiver.ensures ∙ ap (option_map (λ a. a.0)) (put_in_same (state_of v) (state_of w) at item told e (λ s. c.loop-k.invariant.same.tree.child at s)))
            c.in_ok-reserve_one.ensures.ok))
        | inr f ↦ room_stays c.args.n _ w u c.in_ok-reserve_one.ensures.not_less (c.loop-k.invariant.rooms j d (let g : j ≢ c.loop-k.k = f in omega (arith, g, low)))
      ];
    }
