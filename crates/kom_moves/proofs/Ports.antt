-- What releases at ports of the root bring, and who receives it.
use Rattle.std.proofs.Common.{◌≡◌, ℕ, zero, suc, ◌+◌, ◌<◌, Bool, true, false, if◌then◌else◌, not, ◌&&◌, ◌==◌, refl, sym, ap, ◌∙◌, subst, List, [], ◌∷◌, ◌++◌, length, map, get_or, Option, Some, None, ◌⊎◌, inl, inr, arith}
use Rattle.std.specs.Prelude.{IsSome, is_some, nat_lt, slice_get}
use Rattle.std.specs.List.{cons_option, enumerate_from, filter_map, flat_map}
use Rattle.std.specs.Option.{option_and_then, option_map, option_map_or}
use Rattle.std.proofs.lemmas.Bool.{and_parts, eqb-true, lt-ltb, ltb-true}
use Rattle.std.proofs.lemmas.List.{length-append}
use Rattle.std.proofs.lemmas.Option.{slice_get-map}
use Rattle.kom_base.specs.declared.numbers.Dir.{Dir}
use Rattle.kom_base.specs.declared.numbers.Dir.TheVariants.{Plus, Minus}
use Rattle.kom_base.specs.declared.numbers.EntryNo.{EntryNo}
use Rattle.kom_base.specs.declared.numbers.Half.{Half}
use Rattle.kom_base.specs.declared.numbers.Side.TheVariants.{Outside}
use Rattle.kom_base.specs.Numbers.{agree, is_plus, same_dir}
use Rattle.kom_lang.specs.Declarations.{Declarations, kind_of}
use Rattle.kom_lang.specs.declared.kind.PortDecl.{PortDecl}
use Rattle.kom_laws.proofs.ListFacts.{got_at}
use Rattle.kom_laws.proofs.Members.{Some-injective}
use Rattle.kom_numbers.specs.Numbering.{channel_at, leads_out, out_of, wire_at}
use Rattle.kom_offered.specs.Laws.{are_at_ports, number_into}
use Rattle.kom_record.specs.declared.entry.Release.{Release}
use Rattle.kom_record.specs.Channels.{Channel, Environment, Own, channel_end, channels, channels_of, comes_in, goes_out, held, is_living, is_outer, place, root_end}
use Rattle.kom_record.specs.Entries.{Act, History, acts}
use Rattle.kom_record.specs.Instances.{born}
use Rattle.kom_refine.specs.Points.{StandsAt, numbers_at, receiver_of, start_of}
use Rattle.kom_refine.specs.States.{Queue, State}
use Rattle.kom_refine.specs.Steps.{with_numbers}
use Rattle.kom_state.specs.Facts.{HoldsTogether, is_of_living}
use Rattle.kom_state.specs.Parts.{Parts, state_of}
use Rattle.kom_turns.proofs.Taking.{turned}
use Rattle.kom_wakes.specs.Laws.{queue_length}
use Rattle.kom_wakes.specs.Work.{IsNotReceiver}
use Rattle.kom_moves.specs.Bringing.{brought, number_by, way_in}

-- ---- each release is at a port

pub all_at : (S : Declarations) (rs : List Release) → are_at_ports S rs ≡ true → (k : ℕ) (r : Release) → k < length rs → (get_or rs k r).chan < length (kind_of S S.root.kind).ports
all_at S [] e k r h = absurd (omega (arith, h))
all_at S (q ∷ rs) e zero r h = ltb-true q.chan (length (kind_of S S.root.kind).ports) (and_parts (nat_lt q.chan (length (kind_of S S.root.kind).ports)) (are_at_ports S rs) e).0
all_at S (q ∷ rs) e (suc k) r h = all_at S rs (and_parts (nat_lt q.chan (length (kind_of S S.root.kind).ports)) (are_at_ports S rs) e).1 k r (omega (arith, h))

same_dirs : (d e : Dir) → same_dir d e ≡ true → d ≡ e
same_dirs Plus Plus h = refl
same_dirs Plus Minus h = absurd cc
same_dirs Minus Plus h = absurd cc
same_dirs Minus Minus h = refl

-- ---- into a direction comes nothing, or what holds of the directions of all releases holds of it

one_or_rest : (b : Bool) (n : EntryNo) (rest : List EntryNo) (X : Type 0) → (b ≡ true → X) → (rest ≡ []) ⊎ X → (cons_option (if b then Some n else None) rest ≡ []) ⊎ X
one_or_rest true n rest X h r = inr (h refl)
one_or_rest false n rest X h r = r

module _ (Q : ℕ → Dir → Type 0) (outs : List Dir) (position x : ℕ) (d : Dir) where
  own : (r : Release) → Q r.chan (way_in outs r.chan) → (x == r.chan && same_dir (way_in outs r.chan) d) ≡ true → Q x d
  own r h e =
      let w = and_parts (x == r.chan) (same_dir (way_in outs r.chan) d) e in
      let at : x ≡ r.chan = eqb-true x r.chan w.0 in
      let way : way_in outs r.chan ≡ d = same_dirs (way_in outs r.chan) d w.1 in
      subst (λ (q : ℕ × Dir). Q q.0 q.1) (λ i. (sym at i, way i)) h

  from_number : (k : ℕ) (rs : List Release) → ((i : ℕ) (r : Release) → i < length rs → Q (get_or rs i r).chan (way_in outs (get_or rs i r).chan))
      → (filter_map (number_by outs position x d) (enumerate_from k rs) ≡ []) ⊎ Q x d
  from_number k [] all = inl refl
  from_number k (r ∷ rs) all =
      one_or_rest (x == r.chan && same_dir (way_in outs r.chan) d) (record { position = position; place = k }) (filter_map (number_by outs position x d) (enumerate_from (k + 1) rs)) (Q x d)
      (own r (all 0 r (omega arith))) (from_number (k + 1) rs (λ i q h. all (suc i) q (omega (arith, h))))

  pub nothing_or : (rs : List Release) → ((i : ℕ) (r : Release) → i < length rs → Q (get_or rs i r).chan (way_in outs (get_or rs i r).chan)) → (brought outs position rs x d ≡ []) ⊎ Q x d
  nothing_or rs all = from_number 0 rs all

-- ---- the direction is that which comes in

ways_agree : (p : Bool) (d : Dir) → same_dir (if same_dir (out_of p) Plus then Minus else Plus) d ≡ not (agree p (is_plus d))
ways_agree true Plus = refl
ways_agree true Minus = refl
ways_agree false Plus = refl
ways_agree false Minus = refl

module _ (S : Declarations) (outs : List Dir) (numbered : outs ≡ map (λ p. out_of p.provided) (kind_of S S.root.kind).ports) where
  comes_by_port : (x : ℕ) (d : Dir) → x < length (kind_of S S.root.kind).ports → same_dir (way_in outs x) d ≡ comes_in S x d
  unfolding comes_in is_outer
  comes_by_port x d h =
      let g = got_at (kind_of S S.root.kind).ports x h in
      let at : slice_get outs x ≡ Some (out_of g.0.provided) =
      ap (λ os. slice_get os x) numbered ∙ slice_get-map (λ p. out_of p.provided) (kind_of S S.root.kind).ports x ∙ ap (option_map (λ p. out_of p.provided)) g.1
      in
      ap (λ o. same_dir (if option_map_or (λ e. same_dir e Plus) o false then Minus else Plus) d) at
      ∙ ways_agree g.0.provided d
      ∙ sym (ap (λ o. option_map_or (λ p. not (agree p.provided (is_plus d))) o false) g.1)

  same_test : (r : Release) (x : ℕ) (d : Dir) → r.chan < length (kind_of S S.root.kind).ports → (x == r.chan && same_dir (way_in outs r.chan) d) ≡ (r.chan == x && comes_in S x d)
  same_test r x d h = go (r.chan == x) refl
    where
      go : (b : Bool) → (r.chan == x) ≡ b → (x == r.chan && same_dir (way_in outs r.chan) d) ≡ (r.chan == x && comes_in S x d)
      go true e =
          let at : r.chan ≡ x = eqb-true r.chan x e in
          (λ i. turned x r.chan i && comes_by_port r.chan d h i) ∙ ap (λ y. r.chan == x && comes_in S y d) at
      go false e = ap (λ b. b && same_dir (way_in outs r.chan) d) (turned x r.chan ∙ e) ∙ sym (ap (λ b. b && comes_in S x d) e)

  module _ (position x : ℕ) (d : Dir) where
    from_first : (k : ℕ) (rs : List Release) → are_at_ports S rs ≡ true → filter_map (number_by outs position x d) (enumerate_from k rs) ≡ filter_map (number_into S position x d) (enumerate_from k rs)
    from_first k [] e = refl
    from_first k (r ∷ rs) e =
        let w = and_parts (nat_lt r.chan (length (kind_of S S.root.kind).ports)) (are_at_ports S rs) e in
        let t = same_test r x d (ltb-true r.chan (length (kind_of S S.root.kind).ports) w.0) in
        let q = from_first (k + 1) rs w.1 in
        λ i. cons_option (if t i then Some (record { position = position; place = k }) else None) (q i)

    pub brought_is : (rs : List Release) → are_at_ports S rs ≡ true → brought outs position rs x d ≡ filter_map (number_into S position x d) (enumerate_from 0 rs)
    brought_is rs e = from_first 0 rs e

-- ---- the queues are there

not_out : (o : Option Dir) → option_map_or (λ e. same_dir e (if option_map_or (λ e. same_dir e Plus) o false then Minus else Plus)) o false ≡ false
not_out None = refl
not_out (Some Plus) = refl
not_out (Some Minus) = refl

still : {X Y : Type 0} (f : X → Y) (o : Option X) → is_some (option_map f o) ≡ is_some o
still f None = refl
still f (Some x) = refl

pub queue_there : (v : Parts) → HoldsTogether v → (x : ℕ) → x < length v.numbers.outs → IsSome ((state_of v).queues x (way_in v.numbers.outs x))
queue_there v h x lt =
    let d = way_in v.numbers.outs x in
    let inner : leads_out v.numbers x d ≡ false = not_out (slice_get v.numbers.outs x) in
    let channel : channel_at v.numbers x ≡ Some (Environment x) = ap (λ b. if b then Some (Environment x) else option_map (λ q. Own q.0 q.1) (wire_at v.numbers x)) (lt-ltb x (length v.numbers.outs) lt) in
    let link : is_some ((state_of v).links x) ≡ true = h.links_living x ∙ ap (λ o. option_map_or (is_of_living (state_of v)) o false) channel in
    sym (still (λ q. q.receiver) ((state_of v).queues x d))
    ∙ ap is_some (h.receivers x d ∙ ap (λ b. if b then None else option_map (receiver_of d) ((state_of v).links x)) inner)
    ∙ still (receiver_of d) ((state_of v).links x)
    ∙ link

-- ---- the root alone receives

abbrev AtRoot : Option Half → Type 0
AtRoot o = (h : Half) → o ≡ Some h → h.comp ≡ 0

none_else : (o : Option Half) (c : ℕ) → AtRoot o → (c ≡ 0 → ⊥) → option_map (λ h. h.comp) o ≡ Some c → ⊥
none_else None c root apart e = cc
none_else (Some h) c root apart e = apart (sym (Some-injective e) ∙ root h refl)

module _ (c : ℕ) (apart : c ≡ 0 → ⊥) where
  of_link : (d : Dir) (p m : Option Half) (h : Bool) → AtRoot p → AtRoot m → receiver_of d (record { plus = p; minus = m; held = h }) ≡ Some c → ⊥
  of_link d p m true a b e = cc
  of_link Plus p m false a b e = none_else m c b apart e
  of_link Minus p m false a b e = none_else p c a apart e

  of_queue : (d : Dir) (g l : Bool) (p m : Option Half) (h : Bool) (ns : List EntryNo) → AtRoot p → AtRoot m
      → IsNotReceiver c (if g then None else option_map (λ l. record { numbers = ns; receiver = receiver_of d l }) (if l then Some (record { plus = p; minus = m; held = h }) else None))
  of_queue d true l p m h ns a b = tt
  of_queue d false false p m h ns a b = tt
  of_queue d false true p m h ns a b = λ e. of_link d p m h a b e

root_half : (q : ℕ) (b : Bool) → AtRoot (if b then Some (record { comp = 0; port = q; side = Outside }) else None)
root_half q true h e = sym (ap (λ k. k.comp) (Some-injective e))
root_half q false h e = absurd cc

root_port : (q : ℕ) (e : Dir) (o : Option PortDecl) → AtRoot (option_and_then (λ d. if agree d.provided (is_plus e) then Some (record { comp = 0; port = q; side = Outside }) else None) o)
root_port q e None h k = absurd cc
root_port q e (Some p) h k = root_half q (agree p.provided (is_plus e)) h k

module _ (S : Declarations) where
  environment_at : (n : ℕ) (ps : List PortDecl) (more : List Channel) (i : ℕ) → i < length ps → slice_get (map (λ q. Environment q.0) (enumerate_from n ps) ++ more) i ≡ Some (Environment (n + i))
  environment_at n [] more i h = absurd (omega (arith, h))
  environment_at n (q ∷ ps) more zero h = ap (λ m. Some (Environment m)) (let f : n ≡ n + 0 = omega arith in f)
  environment_at n (q ∷ ps) more (suc i) h = environment_at (n + 1) ps more i (omega (arith, h)) ∙ ap (λ m. Some (Environment m)) (let f : (n + 1) + i ≡ n + suc i = omega arith in f)

  is_environment : (done : List Act) (x : ℕ) → x < length (kind_of S S.root.kind).ports → slice_get (channels S done) x ≡ Some (Environment x)
  unfolding channels
  is_environment done x h = environment_at 0 (kind_of S S.root.kind).ports (flat_map (channels_of S) (enumerate_from 0 (born S done))) x h ∙ ap (λ m. Some (Environment m)) (let f : 0 + x ≡ x = omega arith in f)

  ends_at_root : (done : List Act) (x : ℕ) (e : Dir) → x < length (kind_of S S.root.kind).ports → AtRoot (place S done x e)
  unfolding place root_end
  ends_at_root done x e h =
      let at : place S done x e ≡ root_end S x e = ap (option_and_then (channel_end S done e)) (is_environment done x h) in
      subst AtRoot (sym at) (root_port x e (slice_get (kind_of S S.root.kind).ports x))

  pub others_receive_not : (P : History) (m : State) (c x : ℕ) (d : Dir) → StandsAt S (start_of P) m → (c ≡ 0 → ⊥) → x < length (kind_of S S.root.kind).ports → IsNotReceiver c (m.queues x d)
  others_receive_not P m c x d s apart h =
      subst (IsNotReceiver c) (sym (s.queues x d))
      (of_queue c apart d (goes_out S x d) (is_living S (acts P) x) (place S (acts P) x Plus) (place S (acts P) x Minus) (held S (acts P) x) (numbers_at S (start_of P) x d)
      (ends_at_root (acts P) x Plus h) (ends_at_root (acts P) x Minus h))

-- ---- a queue into which numbers come

pub longer : (o : Option Queue) (ns : List EntryNo) → (ns ≡ []) ⊎ IsSome o → queue_length (option_map (with_numbers ns) o) ≡ queue_length o + length ns
longer None ns (inl e) = let l : length ns ≡ 0 = ap length e in (let g : 0 ≡ 0 + length ns = omega (arith, l) in g)
longer None ns (inr h) = absurd cc
longer (Some q) ns h = length-append q.numbers ns
