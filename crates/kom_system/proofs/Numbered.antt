-- The numbers of the handlers that pass a test, as a loop collects them.
use Rattle.std.proofs.Common.{◌≡◌, ℕ, ◌+◌, ◌<◌, List, [], ◌∷◌, ◌++◌, length, drop, get_or, Bool, true, false, if◌then◌else◌, Some, None, refl, ap, ◌∙◌, sym, append_assoc}
use Rattle.std.specs.List.{filter_map, enumerate_from}
use Rattle.std.proofs.lemmas.List.{drop_more}
use Rattle.kom_lang.specs.declared.stmt.Handler.{Handler}

-- those of a list whose first has the number i
abbrev pub numbers_from : (Handler → Bool) → ℕ → List Handler → List ℕ
numbers_from test i handlers = filter_map (λ p. if test p.1 then Some p.0 else None) (enumerate_from i handlers)

pub drop-next : {X : Type 0} (xs : List X) (i : ℕ) (x : X) → i < length xs → x ≡ get_or xs i x → drop i xs ≡ x ∷ drop (i + 1) xs
drop-next xs i x h e = drop_more xs i x h ∙ ap (λ y. y ∷ drop (i + 1) xs) (sym e)

pub numbers-taken : (test : Handler → Bool) (i : ℕ) (h : Handler) (rest : List Handler) (subs : List ℕ) → test h ≡ true → subs ++ numbers_from test i (h ∷ rest) ≡ (subs ++ i ∷ []) ++ numbers_from test (i + 1) rest
numbers-taken test i h rest subs e = rw e (sym (append_assoc subs (i ∷ []) (numbers_from test (i + 1) rest)))

pub numbers-left : (test : Handler → Bool) (i : ℕ) (h : Handler) (rest : List Handler) → test h ≡ false → numbers_from test i (h ∷ rest) ≡ numbers_from test (i + 1) rest
numbers-left test i h rest e = rw e refl
