-- The system is well formed.
use Rattle.std.proofs.Common.{◌≡◌, ℕ, zero, suc, ◌<◌, List, [], ◌∷◌, length, map, slice_index_or, refl, ap, ◌∙◌, sym, arith, lit≤, true, subst}
use Rattle.std.proofs.lemmas.List.{length-map}
use Rattle.kom_events.specs.Kin.{attributes}
use Rattle.kom_lang.specs.declared.kind.Kind.{Kind}
use Rattle.kom_lang.specs.Declarations.{Declarations}
use Rattle.kom_system.specs.Contents.{Contents}
use Rattle.kom_system.specs.Fitting.{event_fits}
use Rattle.kom_system.specs.WellFormed.{IsWellFormed, IsDeclared, KindFits}
use Rattle.kom_loads.specs.Ring.{events, ports, counts, main_of, IsRingContents}

abbrev made : Kind → Declarations
made main = record { events = events; ports = ports; kinds = main ∷ []; root = record { kind = 0; args = [] } }

events-fit : (k : ℕ) → k < 6 → event_fits events k ≡ true
events-fit zero h = refl
events-fit (suc zero) h = refl
events-fit (suc (suc zero)) h = refl
events-fit (suc (suc (suc zero))) h = refl
events-fit (suc (suc (suc (suc zero)))) h = refl
events-fit (suc (suc (suc (suc (suc zero))))) h = refl
events-fit (suc (suc (suc (suc (suc (suc k)))))) h = absurd (omega (arith, h))

module _ (name feed cmd : List ℕ) where
  kinds-fit : (k : ℕ) → k < 1 → KindFits (made (main_of name feed cmd)) k
  kinds-fit zero h = record {
    parts = refl;
    tree = record { children = refl; height = lit≤ tt; instances = lit≤ tt; channels = lit≤ tt };
    statements = λ h s among within. absurd (omega (arith, among.1));
  }
  kinds-fit (suc k) h = absurd (omega (arith, h))

  declared : IsDeclared (made (main_of name feed cmd))
  declared = record {
    built_in_events_first = refl;
    built_in_ports_first = refl;
    event_count = lit≤ tt;
    port_count = lit≤ tt;
    kind_count = lit≤ tt;
    events = events-fit;
    ports = refl;
    kinds = kinds-fit;
    root = refl;
  }

length-at : (lists : List (List (List ℕ))) (k : ℕ) → length (slice_index_or lists k []) ≡ slice_index_or (map length lists) k 0
length-at [] k = refl
length-at (x ∷ xs) zero = refl
length-at (x ∷ xs) (suc k) = length-at xs k

counted : (k : ℕ) → k < 6 → slice_index_or counts k 0 ≡ attributes events k
counted zero h = refl
counted (suc zero) h = refl
counted (suc (suc zero)) h = refl
counted (suc (suc (suc zero))) h = refl
counted (suc (suc (suc (suc zero)))) h = refl
counted (suc (suc (suc (suc (suc zero))))) h = refl
counted (suc (suc (suc (suc (suc (suc k)))))) h = absurd (omega (arith, h))

whole : (main : Kind) (name feed cmd : List ℕ) (event_names : List (List ℕ)) (attr_names : List (List (List ℕ))) (port_names : List (List ℕ)) → main ≡ main_of name feed cmd
    → length event_names ≡ 6 → map length attr_names ≡ counts → length port_names ≡ 4
    → IsWellFormed (record { declarations = made main; event_names = event_names; attr_names = attr_names; port_names = port_names; version = 1 })
whole main name feed cmd event_names attr_names port_names is e a p = record {
  declared = subst (λ m. IsDeclared (made m)) (sym is) (declared name feed cmd);
  event_names = e;
  attr_names = sym (length-map attr_names length) ∙ ap length a;
  attr_counts = λ k h. length-at attr_names k ∙ ap (λ (ns : List ℕ). slice_index_or ns k 0) a ∙ counted k h;
  port_names = p;
  version_low = lit≤ tt;
  version_high = lit≤ tt;
}

pub ring_fits : (c : Contents) → IsRingContents c → IsWellFormed c
ring_fits c r =
    let w = whole r.main r.main_is.name r.main_is.feed r.main_is.cmd c.event_names c.attr_names c.port_names r.main_is.is r.event_names r.attr_names r.port_names in
    let P : Declarations → ℕ → Type 0 = λ d v. IsWellFormed (record { declarations = d; event_names = c.event_names; attr_names = c.attr_names; port_names = c.port_names; version = v }) in
    subst (λ v. P c.declarations v) (sym r.version) (subst (λ d. P d 1) (sym r.declarations) w)
