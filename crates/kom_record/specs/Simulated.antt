-- The record of a simulation: one worker, who takes the components in the order in which they
-- became ready.
use Rattle.std.specs.Prelude.{◌≡◌, ℕ, suc, Bool, true, ◌&&◌, ◌||◌, ◌==◌, nat_lt, if◌then◌else◌, [], ◌∷◌, length, map, Option, Some}
use Rattle.std.specs.Option.{option_map}
use Rattle.kom_base.specs.Lists.{least}
use Rattle.kom_lang.specs.Declarations.{Declarations}
use Rattle.kom_record.specs.declared.plan.Plan.{Plan}
use Rattle.kom_record.specs.declared.entry.Entry.{Entry}
use Rattle.kom_record.specs.declared.entry.Entry.TheVariants.{Took, Did, Moved}
use Rattle.kom_record.specs.Entries.{History, in_hand}
use Rattle.kom_record.specs.Ready.{ready, ready_list, is_finished}
use Rattle.kom_record.specs.Legal.{IsLegal}

module _ (S : Declarations) (Z : Plan) where
  -- the least length from which on c is ready in each prefix of the record
  unfoldable pub ready_since : History → ℕ → ℕ
  ready_since [] c = 0
  ready_since (e ∷ P) c = if ready S Z P c then ready_since P c else suc (length P)

  abbrev pub is_lesser_pair : ℕ × ℕ → ℕ × ℕ → Bool
  is_lesser_pair a b = nat_lt a.0 b.0 || (a.0 == b.0 && nat_lt a.1 b.1)

  -- of the components that are ready the one that has been ready longest, the least number of equals
  unfoldable pub longest_ready : History → Option ℕ
  longest_ready P = option_map (λ q. q.1) (least is_lesser_pair (map (λ c. (ready_since P c, c)) (ready_list S Z P)))

  -- worker 0 adds each entry; a Took is of the component that has been ready longest, and its Did
  -- follows at once
  abbrev pub IsNextInOrder : History → Entry → Type 0
  IsNextInOrder P (Took w c item) = (w ≡ 0) × (in_hand P ≡ []) × (longest_ready P ≡ Some c)
  IsNextInOrder P (Did w c took o to places) = (w ≡ 0) × (suc took ≡ length P)
  IsNextInOrder P (Moved w t released) = w ≡ 0

  unfoldable pub IsInOrder : History → Type 0
  IsInOrder [] = Unit {0}
  IsInOrder (e ∷ P) = IsInOrder P × IsNextInOrder P e

  -- the record of the simulation
  pub record IsSimulated (P : History) : Type 0 where
    pub legal : IsLegal S Z P
    pub finished : is_finished S Z P ≡ true
    pub in_order : IsInOrder P
