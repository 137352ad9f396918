-- The system is well formed.
use Rattle.std.proofs.Common.{◌≡◌, ℕ, zero, suc, ◌<◌, List, [], ◌∷◌, length, map, slice_index_or, refl, ap, ◌∙◌, sym, arith, lit≤, true, subst}
use Rattle.std.proofs.lemmas.List.{length-map}
use Rattle.kom_events.specs.Kin.{attributes}
use Rattle.kom_lang.specs.declared.kind.Kind.{Kind}
use Rattle.kom_lang.specs.Declarations.{Declarations}
use Rattle.kom_system.specs.Contents.{Contents}
use Rattle.kom_system.specs.Fitting.{event_fits}
use Rattle.kom_system.specs.WellFormed.{IsWellFormed, IsDeclared, KindFits}
use Rattle.kom_nest.specs.Nest.{events, ports, counts, leaf_of, main_of, IsNestContents}

abbrev made : Kind → Kind → Declarations
made leaf main = record { events = events; ports = ports; kinds = leaf ∷ main ∷ []; root = record { kind = 1; args = [] } }

events-fit : (k : ℕ) → k < 5 → event_fits events k ≡ true
events-fit zero h = refl
events-fit (suc zero) h = refl
events-fit (suc (suc zero)) h = refl
events-fit (suc (suc (suc zero))) h = refl
events-fit (suc (suc (suc (suc zero)))) h = refl
events-fit (suc (suc (suc (suc (suc k))))) h = absurd (omega (arith, h))

module _ (leaf_name leaf_port name port slot channel : List ℕ) where
  abbrev whole : Declarations
  whole = made (leaf_of leaf_name leaf_port) (main_of name port slot channel)

  kinds-fit : (k : ℕ) → k < 2 → KindFits whole k
  kinds-fit zero h = record {
    parts = refl;
    tree = record { children = refl; height = lit≤ tt; instances = lit≤ tt; channels = lit≤ tt };
    statements = λ h s among within. absurd (omega (arith, among.1));
  }
  kinds-fit (suc zero) h = record {
    parts = refl;
    tree = record { children = refl; height = lit≤ tt; instances = lit≤ tt; channels = lit≤ tt };
    statements = λ h s among within. absurd (omega (arith, among.1));
  }
  kinds-fit (suc (suc k)) h = absurd (omega (arith, h))

  declared : IsDeclared whole
  declared = record {
    built_in_events_first = refl;
    built_in_ports_first = refl;
    event_count = lit≤ tt;
    port_count = lit≤ tt;
    kind_count = lit≤ tt;
    events = events-fit;
    ports = refl;
    kinds = kinds-fit;
    root = refl;
  }

length-at : (lists : List (List (List ℕ))) (k : ℕ) → length (slice_index_or lists k []) ≡ slice_index_or (map length lists) k 0
length-at [] k = refl
length-at (x ∷ xs) zero = refl
length-at (x ∷ xs) (suc k) = length-at xs k

counted : (k : ℕ) → k < 5 → slice_index_or counts k 0 ≡ attributes events k
counted zero h = refl
counted (suc zero) h = refl
counted (suc (suc zero)) h = refl
counted (suc (suc (suc zero))) h = refl
counted (suc (suc (suc (suc zero)))) h = refl
counted (suc (suc (suc (suc (suc k))))) h = absurd (omega (arith, h))

fits : (d : Declarations) (event_names : List (List ℕ)) (attr_names : List (List (List ℕ))) (port_names : List (List ℕ)) → IsDeclared d → length d.events ≡ 5 → d.events ≡ events
    → length event_names ≡ 5 → map length attr_names ≡ counts → length port_names ≡ 3 → length d.ports ≡ 3
    → IsWellFormed (record { declarations = d; event_names = event_names; attr_names = attr_names; port_names = port_names; version = 1 })
fits d event_names attr_names port_names D n same e a p q = record {
  declared = D;
  event_names = e ∙ sym n;
  attr_names = sym (length-map attr_names length) ∙ ap length a ∙ sym n;
  attr_counts = λ k h. length-at attr_names k ∙ ap (λ (ns : List ℕ). slice_index_or ns k 0) a ∙ counted k (omega (arith, h, n)) ∙ ap (λ es. attributes es k) (sym same);
  port_names = p ∙ sym q;
  version_low = lit≤ tt;
  version_high = lit≤ tt;
}

pub nest_fits : (c : Contents) → IsNestContents c → IsWellFormed c
nest_fits c r =
    let leaf = r.leaf_is in
    let main = r.main_is in
    let D : IsDeclared c.declarations =
    subst IsDeclared (sym r.declarations)
    (subst (λ k. IsDeclared (made k r.main)) (sym leaf.is) (subst (λ k. IsDeclared (made (leaf_of leaf.name leaf.port) k)) (sym main.is) (declared leaf.name leaf.port main.name main.port main.slot main.channel))) in
    let same : c.declarations.events ≡ events = ap (λ (d : Declarations). d.events) r.declarations in
    let P : ℕ → Type 0 = λ v. IsWellFormed (record { declarations = c.declarations; event_names = c.event_names; attr_names = c.attr_names; port_names = c.port_names; version = v }) in
    subst P (sym r.version)
    (fits c.declarations c.event_names c.attr_names c.port_names D (ap length same) same r.event_names r.attr_names r.port_names (ap (λ (d : Declarations). length d.ports) r.declarations))
