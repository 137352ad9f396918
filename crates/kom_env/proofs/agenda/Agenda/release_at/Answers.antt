use Rattle.std.proofs.Common.{◌≡◌, Some, map, refl, sym, ap, ◌∙◌, subst}
use Rattle.std.specs.List.{filter}
use Rattle.std.specs.Option.{IsSome}
use Rattle.kom_base.specs.declared.numbers.EntryNo.{EntryNo}
use Rattle.kom_index.specs.Stock.{entries}
use Rattle.kom_index.specs.Entries.{value_of}
use Rattle.kom_env.specs.declared.agenda.Wait.{Wait}
use Rattle.kom_env.specs.declared.keys.Due.{Due}
use Rattle.kom_env.specs.Keys.{number_cmp, number_total, first_no}
use Rattle.kom_env.specs.Waiting.{is_due, release_of}
use Rattle.kom_env.proofs.Listing.{one_more}
use Rattle.kom_env.proofs.Rising.{found, each_kept}
use Rattle.kom_env.proofs.Ties.{number_tied}
use Rattle.kom_env.proofs.agenda.Agenda.release_at.Goals as goal

pub release-requires : goal.release-requires
release-requires c =
    let es = entries c.args.self.now in
    let same = ap (map (λ (d : Due). d.no)) c.deref-due-items.ensures.value ∙ c.in_ok-dues.ensures.numbers in
    let f = found (λ (e : EntryNo × Wait). value_of number_cmp e.0 es ≡ Some e.1) (λ (d : Due). d.no) (filter (is_due c.args.time) es) c.deref-due-items.result.now (each_kept number_cmp number_total number_tied (is_due c.args.time) es c.in_ok-dues.ensures.rises) same c.loop-due.due-index c.loop-due-test.true (record { time = 0; no = first_no }) in
    subst IsSome (sym (ap (λ n. value_of number_cmp n es) f.key ∙ f.has)) refl

pub loop-due-preserved : goal.loop-due-preserved
loop-due-preserved c =
    let es = entries c.args.self.now in
    let same = ap (map (λ (d : Due). d.no)) c.deref-due-items.ensures.value ∙ c.in_ok-dues.ensures.numbers in
    let f = found (λ (e : EntryNo × Wait). value_of number_cmp e.0 es ≡ Some e.1) (λ (d : Due). d.no) (filter (is_due c.args.time) es) c.deref-due-items.result.now (each_kept number_cmp number_total number_tied (is_due c.args.time) es c.in_ok-dues.ensures.rises) same c.loop-due.due-index c.loop-due-test.true (record { time = 0; no = first_no }) in
    let here = ap (λ n. value_of number_cmp n es) f.key ∙ f.has in
    one_more release_of c.args.out.now.items (filter (is_due c.args.time) es) c.loop-due.due-index f.entry _ _ c.loop-due.invariant f.more (rw here at c.in_ok-release.ensures)
