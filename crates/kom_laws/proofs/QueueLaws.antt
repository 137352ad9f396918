-- What waits in a direction, entry by entry.
use Rattle.std.proofs.Common.{◌≡◌, ℕ, ◌+◌, ◌≤◌, Bool, true, false, ◌&&◌, refl, sym, ap, ◌∙◌, List, [], ◌∷◌, ◌++◌, length, Option, Some, None, if◌then◌else◌, arith}
use Rattle.std.specs.List.{filter_map, cons_option, enumerate_from}
use Rattle.std.proofs.lemmas.List.{append_assoc, append-nil, length-append}
use Rattle.std.specs.Option.{option_map_or}
use Rattle.std.proofs.lemmas.Option.{slice_get_past}
use Rattle.kom_base.specs.declared.numbers.Dir.{Dir}
use Rattle.kom_lang.specs.Declarations.{Declarations}
use Rattle.kom_record.specs.Model.{model}
use Rattle.kom_record.specs.declared.plan.Plan.{Plan}
use Rattle.kom_record.specs.declared.item.Item.{Item}
use Rattle.kom_record.specs.declared.entry.Outcome.{Outcome}
use Rattle.kom_record.specs.declared.entry.Release.{Release}
use Rattle.kom_record.specs.declared.entry.Entry.{Entry}
use Rattle.kom_record.specs.declared.entry.Entry.TheVariants.{Took, Did, Moved}
use Rattle.kom_record.specs.Entries.{History, acts, acts_of}
use Rattle.kom_record.specs.Channels.{goes_out, is_living, channels, channel_alive}
use Rattle.kom_record.specs.Offers.{Offer, offers}
use Rattle.kom_record.specs.Queues.{Envelope, enters, starts_at, fits, entering, entered, taken, taken_from, waiting}
use Rattle.kom_record.specs.Legal.{IsLegal}
use Rattle.kom_laws.proofs.ChannelLaws.{channels_grow}
use Rattle.kom_laws.proofs.InOrder.{splits, waiting_is}

module _ (S : Declarations) (x : ℕ) (d : Dir) where
  -- what is left after what was taken is what waits
  pub rest_waits : (Z : Plan) (P : History) → goes_out S x d ≡ false → IsLegal S Z P → entered S P x d ≡ taken_from S P x d ++ waiting S P x d
  unfolding model
  rest_waits Z P h l = let s = splits S x d Z P h l in s.1 ∙ ap (λ r. taken_from S P x d ++ r) (sym (waiting_is S x d P s.0 h s.1))

  same_start : {X : Type 0} (xs ys zs : List X) → xs ++ ys ≡ xs ++ zs → ys ≡ zs
  unfolding model
  same_start [] ys zs e = e
  same_start (x ∷ xs) ys zs e = same_start xs ys zs (let f : xs ++ ys ≡ xs ++ zs = cc in f)

  -- a Did and a Moved add at the end
  pub waiting_did : (Z : Plan) (P : History) (w c took : ℕ) (o : Outcome) (to : Option ℕ) (places : List ℕ) → goes_out S x d ≡ false → IsLegal S Z (Did w c took o to places ∷ P)
      → waiting S (Did w c took o to places ∷ P) x d ≡ waiting S P x d ++ entering S P (Did w c took o to places) x d
  unfolding model
  waiting_did Z P w c took o to places h l =
      same_start (taken_from S P x d) _ _
      (ap (λ r. r ++ waiting S (Did w c took o to places ∷ P) x d) (sym (append-nil (taken_from S P x d)))
      ∙ sym (rest_waits Z (Did w c took o to places ∷ P) h l)
      ∙ ap (λ r. r ++ entering S P (Did w c took o to places) x d) (rest_waits Z P h l.0)
      ∙ append_assoc (taken_from S P x d) (waiting S P x d) _)

  pub waiting_moved : (Z : Plan) (P : History) (w t : ℕ) (rs : List Release) → goes_out S x d ≡ false → IsLegal S Z (Moved w t rs ∷ P)
      → waiting S (Moved w t rs ∷ P) x d ≡ waiting S P x d ++ entering S P (Moved w t rs) x d
  unfolding model
  waiting_moved Z P w t rs h l =
      same_start (taken_from S P x d) _ _
      (ap (λ r. r ++ waiting S (Moved w t rs ∷ P) x d) (sym (append-nil (taken_from S P x d)))
      ∙ sym (rest_waits Z (Moved w t rs ∷ P) h l)
      ∙ ap (λ r. r ++ entering S P (Moved w t rs) x d) (rest_waits Z P h l.0)
      ∙ append_assoc (taken_from S P x d) (waiting S P x d) _)

  -- a Took of an arrival by this direction takes the first; any other Took takes nothing
  pub waiting_took : (Z : Plan) (P : History) (w c : ℕ) (item : Item) → goes_out S x d ≡ false → IsLegal S Z (Took w c item ∷ P)
      → waiting S P x d ≡ taken S (Took w c item) x d ++ waiting S (Took w c item ∷ P) x d
  unfolding model
  waiting_took Z P w c item h l =
      same_start (taken_from S P x d) _ _
      (sym (rest_waits Z P h l.0) ∙ rest_waits Z (Took w c item ∷ P) h l ∙ append_assoc (taken_from S P x d) (taken S (Took w c item) x d) _)

  -- what a Took and a Void or a fault put in
  pub entering_took : (P : History) (w c : ℕ) (item : Item) → entering S P (Took w c item) x d ≡ []
  unfolding model
  entering_took P w c item = refl

  middle_false : (a b c : Bool) → b ≡ false → (a && b && c) ≡ false
  unfolding model
  middle_false true b c e = ap (λ t. t && c) e
  middle_false false b c e = refl

  -- nothing enters a channel that is dead
  pub entering_dead : (P : History) (e : Entry) → is_living S (acts P) x ≡ false → entering S P e x d ≡ []
  unfolding model
  entering_dead P e h = none_pass (offers P e) 0
    where
      none_pass : (os : List Offer) (n : ℕ) → filter_map {Y = Envelope} (λ q. if enters S P x d q.1 then Some (record { no = record { position = length P; place = q.0 }; event = q.1.event; back = q.1.back }) else None) (enumerate_from n os) ≡ []
      none_pass [] n = refl
      none_pass (o ∷ os) n = ap (λ b. cons_option {X = Envelope} (if b then Some (record { no = record { position = length P; place = n }; event = o.event; back = o.back }) else None) (filter_map {Y = Envelope} (λ q. if enters S P x d q.1 then Some (record { no = record { position = length P; place = q.0 }; event = q.1.event; back = q.1.back }) else None) (enumerate_from (n + 1) os))) (middle_false (starts_at S P x d o.origin) (is_living S (acts P) x) (fits S P x d o) h) ∙ none_pass os (n + 1)

  not_there : (P : History) → length (channels S (acts P)) ≤ x → is_living S (acts P) x ≡ false
  unfolding model
  not_there P h = ap (λ o. option_map_or (channel_alive S (acts P)) o false) (slice_get_past (channels S (acts P)) x h)

  fewer : (P : History) (e : Entry) → length (channels S (acts P)) ≤ length (channels S (acts (e ∷ P)))
  unfolding model
  fewer P e = let r = channels_grow S (acts_of P e) (acts P) in let f = ap length r.1 in omega (arith, f, length-append (channels S (acts P)) r.0)

  -- nothing stands in a channel that is not there yet; so a new channel's queues are empty
  nothing_more : (P : History) (e : Entry) → length (channels S (acts (e ∷ P))) ≤ x → (length (channels S (acts P)) ≤ x → entered S P x d ≡ []) → entered S P x d ++ entering S P e x d ≡ []
  unfolding model
  nothing_more P e h rest =
      let g : length (channels S (acts P)) ≤ x = omega (arith, h, fewer P e) in
      ap (λ ys. ys ++ entering S P e x d) (rest g) ∙ entering_dead P e (not_there P g)

  pub nothing_entered : (P : History) → length (channels S (acts P)) ≤ x → entered S P x d ≡ []
  unfolding model
  nothing_entered [] h = refl
  nothing_entered (Took w c item ∷ P) h = nothing_entered P h
  nothing_entered (Did w c took o to places ∷ P) h = nothing_more P (Did w c took o to places) h (nothing_entered P)
  nothing_entered (Moved w t rs ∷ P) h = nothing_more P (Moved w t rs) h (nothing_entered P)
