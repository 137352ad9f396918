-- The smallest system is well formed: one component type with nothing in it.
use Rattle.std.proofs.Common.{◌≡◌, ℤ, ℕ, zero, suc, ◌<◌, List, [], ◌∷◌, ◌++◌, length, map, slice_index_or, refl, ap, ◌∙◌, sym, arith, lit≤, true, subst}
use Rattle.std.proofs.lemmas.List.{length-map}
use Rattle.kom_events.specs.declared.event_types.EventRow.{EventRow}
use Rattle.kom_events.specs.declared.port_types.PortRow.{PortRow}
use Rattle.kom_events.specs.Kin.{attributes}
use Rattle.kom_lang.specs.declared.kind.Kind.{Kind}
use Rattle.kom_lang.specs.Declarations.{Declarations}
use Rattle.kom_system.specs.Contents.{Contents}
use Rattle.kom_system.specs.Fitting.{built_in_events, built_in_ports, event_fits}
use Rattle.kom_system.specs.WellFormed.{IsWellFormed, IsDeclared, KindFits}

abbrev pub empty : List ℕ → Kind
empty name = record { name = name; ports = []; vars = []; slots = []; channels = []; handlers = [] }

abbrev pub smallest : List ℕ → Declarations
smallest name = record { events = built_in_events; ports = built_in_ports; kinds = empty name ∷ []; root = record { kind = 0; args = [] } }

events-fit : (k : ℕ) → k < 4 → event_fits built_in_events k ≡ true
events-fit zero h = refl
events-fit (suc zero) h = refl
events-fit (suc (suc zero)) h = refl
events-fit (suc (suc (suc zero))) h = refl
events-fit (suc (suc (suc (suc k)))) h = absurd (omega (arith, h))

kinds-fit : (name : List ℕ) (k : ℕ) → k < 1 → KindFits (smallest name) k
kinds-fit name zero h = record {
  parts = refl;
  tree = record { children = refl; height = lit≤ tt; instances = lit≤ tt; channels = lit≤ tt };
  statements = λ h s among within. absurd (omega (arith, among.1));
}
kinds-fit name (suc k) h = absurd (omega (arith, h))

declared : (name : List ℕ) → IsDeclared (smallest name)
declared name = record {
  built_in_events_first = refl;
  built_in_ports_first = refl;
  event_count = lit≤ tt;
  port_count = lit≤ tt;
  kind_count = lit≤ tt;
  events = events-fit;
  ports = refl;
  kinds = kinds-fit name;
  root = refl;
}

length-at : (lists : List (List (List ℕ))) (k : ℕ) → length (slice_index_or lists k []) ≡ slice_index_or (map length lists) k 0
length-at [] k = refl
length-at (x ∷ xs) zero = refl
length-at (x ∷ xs) (suc k) = length-at xs k

counts : (k : ℕ) → k < 4 → slice_index_or (2 ∷ 1 ∷ 1 ∷ 2 ∷ []) k 0 ≡ attributes built_in_events k
counts zero h = refl
counts (suc zero) h = refl
counts (suc (suc zero)) h = refl
counts (suc (suc (suc zero))) h = refl
counts (suc (suc (suc (suc k)))) h = absurd (omega (arith, h))

pub smallest-fits : (name : List ℕ) (event_names : List (List ℕ)) (attr_names : List (List (List ℕ))) (port_names : List (List ℕ))
    → length event_names ≡ 4 → map length attr_names ≡ 2 ∷ 1 ∷ 1 ∷ 2 ∷ [] → length port_names ≡ 2
    → IsWellFormed (record { declarations = smallest name; event_names = event_names; attr_names = attr_names; port_names = port_names; version = 1 })
smallest-fits name event_names attr_names port_names e a p = record {
  declared = declared name;
  event_names = e;
  attr_names = sym (length-map attr_names length) ∙ ap length a;
  attr_counts = λ k h. length-at attr_names k ∙ ap (λ (ns : List ℕ). slice_index_or ns k 0) a ∙ counts k h;
  port_names = p;
  version_low = lit≤ tt;
  version_high = lit≤ tt;
}

pub smallest-made : (name : List ℕ) (c : Contents) → c.declarations ≡ smallest name → length c.event_names ≡ 4 → map length c.attr_names ≡ 2 ∷ 1 ∷ 1 ∷ 2 ∷ [] → length c.port_names ≡ 2 → c.version ≡ 1 → IsWellFormed c
smallest-made name c d e a p v =
    let made = smallest-fits name c.event_names c.attr_names c.port_names e a p in
    let P : Declarations → ℕ → Type 0 = λ d v. IsWellFormed (record { declarations = d; event_names = c.event_names; attr_names = c.attr_names; port_names = c.port_names; version = v }) in
    subst (λ v. P c.declarations v) (sym v) (subst (λ d. P d 1) (sym d) made)

pub made-equal : (name : List ℕ) (events : List EventRow) (ports : List PortRow) (kinds : List Kind) (args : List ℤ) → events ≡ built_in_events → ports ≡ built_in_ports → kinds ≡ empty name ∷ [] → args ≡ []
    → (let d : Declarations = record { events = events; ports = ports; kinds = kinds; root = record { kind = 0; args = args } } in d ≡ smallest name)
made-equal name events ports kinds args e p k a = rw (e, p, k, a) refl

pub one-kind : (kinds old : List Kind) (kind : Kind) → kinds ≡ old ++ kind ∷ [] → old ≡ [] → kind ≡ empty kind.name → kinds ≡ empty kind.name ∷ []
one-kind kinds old kind e o h = e ∙ ap (λ (ks : List Kind). ks ++ kind ∷ []) o ∙ ap (λ (k : Kind). k ∷ []) h
