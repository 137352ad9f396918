-- What a rule's reader gives is what the grammar says.
use Rattle.std.proofs.Common.{◌≡◌, List, [], ◌∷◌, ◌++◌, Result, Ok, Err, refl, sym, ◌∙◌, ap, append_assoc, append-nil}
use Rattle.kom_parse.specs.declared.stop.Stop.{Stop}
use Rattle.kom_parse.specs.declared.stop.Stop.TheVariants.{Refused, Memory}
use Rattle.kom_parse.specs.Lexemes.{Lexeme}
use Rattle.kom_parse.specs.Input.{Read, Refuse, Parser, Reads, first}
use Rattle.kom_parse.specs.Spelled.{Begins}
use Rattle.kom_parse.specs.Answers.{IsRead, IsRefused, IsAnswer}
use Rattle.kom_parse.proofs.Laws.{IsReader}

-- a reader that reads a whole value to the end
module _ {A : Type 0} (p : Parser A) (Spells : List Lexeme → A → Type 0) (reader : IsReader p Spells) (whole : (t : List Lexeme) (x : A) → Spells t x → p t ≡ Read x []) where
  read : (tokens : List Lexeme) (x : A) (rest : List Lexeme) → p tokens ≡ Read x rest → IsRead Spells tokens x rest
  read tokens x rest e = let k = reader.reads tokens x rest e in record { text = k.text; split = k.split; spells = k.spells }

  no_more : (text rest : List Lexeme) → ((other : List Lexeme) → first other ≡ first rest → p (text ++ other) ≡ Refuse other) → (token : Lexeme) (more : List Lexeme) → rest ≡ token ∷ more
      → Begins Spells (text ++ token ∷ []) → ⊥
  no_more text rest again token more is (after, x, d) =
      let all : p (text ++ (token ∷ after)) ≡ Read x [] = rw append_assoc at (whole ((text ++ token ∷ []) ++ after) x d) in
      let stuck : p (text ++ (token ∷ after)) ≡ Refuse (token ∷ after) = again (token ∷ after) (ap first (sym is)) in
      let both : Refuse (token ∷ after) ≡ Read x [] = sym stuck ∙ all in
      cc

  refused : (tokens rest : List Lexeme) → p tokens ≡ Refuse rest → IsRefused Spells tokens rest
  refused tokens rest e =
      let k = reader.refuses tokens rest e in
      record {
        text = k.text;
        split = k.split;
        begins = (k.more, k.value, k.spells);
        no_further = λ token more is b. no_more k.text rest k.again token more is b;
        no_end = λ is x d.
            let all : p k.text ≡ Read x [] = whole k.text x d in
            let stuck : p (k.text ++ []) ≡ Refuse [] = k.again [] (ap first (sym is)) in
            let stuck' : p k.text ≡ Refuse [] = rw append-nil at stuck in
            let both : Refuse [] ≡ Read x [] = sym stuck' ∙ all in
            cc;
      }

  pub exact : (tokens : List Lexeme) (r : Result A Stop) (rest : List Lexeme) → Reads (p tokens) r rest → IsAnswer Spells tokens r rest
  exact tokens (Ok x) rest e = read tokens x rest e
  exact tokens (Err Refused) rest e = refused tokens rest (e refl)
  exact tokens (Err Memory) rest e = tt
