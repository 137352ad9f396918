-- The rules that a syntax tree keeps, one by one.
use Rattle.std.proofs.Common.{◌≡◌, ℕ, zero, suc, List, [], ◌∷◌, Option, Some, None, slice_get, refl, sym, ap, ◌∙◌}
use Rattle.kom_system.specs.declared.parts.Parts.{Parts}
use Rattle.kom_rules.specs.Names.{first_place}
use Rattle.kom_rules.specs.Broken.{Rule, Break, file_rules, first_broken, broken_or, broken_rule}
use Rattle.kom_rules.specs.Declaring.{declared_twice, undeclared, wrong_parents, own_ancestors, wrong_attributes, too_many, wrong_roots}
use Rattle.kom_rules.specs.Fitting.{wrong_counts, own_containers, too_large, untyped_ends, wrong_types, wrong_signs, wrong_tests, wrong_handlers, second_inits, many_tests}
use Rattle.kom_rules.specs.Walks.{of_statements}
use Rattle.kom_rules.specs.Handling.{subscribed_init, kept_inside, miscounted, no_state, no_event, no_question, no_fault, large_fault, misplugged, lacked}
use Rattle.kom_accept.proofs.Lists.{no_first}

broken_none : (n : ℕ) (o : Option ℕ) (later : Option Break) → broken_or n o later ≡ None → (o ≡ None) × (later ≡ None)
broken_none n None later e = (refl, e)
broken_none n (Some a) later e = absurd cc

kept_at : (rules : List Rule) (P : Parts) (k : ℕ) (r : Rule) → first_broken rules P ≡ None → slice_get rules k ≡ Some r → r.places P ≡ []
kept_at [] P k r e h = absurd cc
kept_at (q ∷ rules) P zero r e h =
    let same : q ≡ r = cc in
    ap (λ x. x.places P) (sym same) ∙ no_first (q.places P) (broken_none q.number (first_place (q.places P)) (first_broken rules P) e).0
kept_at (q ∷ rules) P (suc k) r e h = kept_at rules P k r (broken_none q.number (first_place (q.places P)) (first_broken rules P) e).1 h

pub record Keeps (P : Parts) : Type 0 where
  pub once : declared_twice P ≡ []
  pub declared : undeclared P ≡ []
  pub parents : wrong_parents P ≡ []
  pub ancestors : own_ancestors P ≡ []
  pub attributes : wrong_attributes P ≡ []
  pub few : too_many P ≡ []
  pub roots : wrong_roots P ≡ []
  pub counts : wrong_counts P ≡ []
  pub containers : own_containers P ≡ []
  pub small : too_large P ≡ []
  pub typed : untyped_ends P ≡ []
  pub types : wrong_types P ≡ []
  pub signs : wrong_signs P ≡ []
  pub tests : wrong_tests P ≡ []
  pub handlers : wrong_handlers P ≡ []
  pub inits : second_inits P ≡ []
  pub subscriptions : of_statements subscribed_init P ≡ []
  pub outwards : of_statements kept_inside P ≡ []
  pub values : of_statements miscounted P ≡ []
  pub states : of_statements no_state P ≡ []
  pub events : of_statements no_event P ≡ []
  pub faults : of_statements large_fault P ≡ []
  pub plugs : of_statements misplugged P ≡ []
  pub had : lacked P ≡ []
  pub answers : of_statements no_question P ≡ []
  pub short : many_tests P ≡ []
  pub escalations : of_statements no_fault P ≡ []

pub keeps : (P : Parts) → broken_rule P ≡ None → Keeps P
keeps P e = record {
  once = kept_at file_rules P 0 _ e refl;
  declared = kept_at file_rules P 1 _ e refl;
  parents = kept_at file_rules P 2 _ e refl;
  ancestors = kept_at file_rules P 3 _ e refl;
  attributes = kept_at file_rules P 4 _ e refl;
  few = kept_at file_rules P 5 _ e refl;
  roots = kept_at file_rules P 6 _ e refl;
  counts = kept_at file_rules P 7 _ e refl;
  containers = kept_at file_rules P 8 _ e refl;
  small = kept_at file_rules P 9 _ e refl;
  typed = kept_at file_rules P 10 _ e refl;
  types = kept_at file_rules P 11 _ e refl;
  signs = kept_at file_rules P 12 _ e refl;
  tests = kept_at file_rules P 13 _ e refl;
  handlers = kept_at file_rules P 14 _ e refl;
  inits = kept_at file_rules P 15 _ e refl;
  subscriptions = kept_at file_rules P 16 _ e refl;
  outwards = kept_at file_rules P 17 _ e refl;
  values = kept_at file_rules P 18 _ e refl;
  states = kept_at file_rules P 19 _ e refl;
  events = kept_at file_rules P 20 _ e refl;
  faults = kept_at file_rules P 21 _ e refl;
  plugs = kept_at file_rules P 22 _ e refl;
  had = kept_at file_rules P 23 _ e refl;
  answers = kept_at file_rules P 24 _ e refl;
  short = kept_at file_rules P 25 _ e refl;
  escalations = kept_at file_rules P 26 _ e refl;
}
