-- The words, signs and operators of system files.
use Rattle.std.specs.Prelude.{◌≡◌, ℕ, Bool, true, false, not, List, [], ◌∷◌, codes, bytes_eq}
use Rattle.std.specs.List.{list_any}
use Rattle.kom_base.specs.declared.numbers.Dir.{Dir}
use Rattle.kom_base.specs.declared.numbers.Dir.TheVariants.{Plus, Minus}
use Rattle.kom_events.specs.declared.selector.Op.{Op}
use Rattle.kom_events.specs.declared.selector.Op.TheVariants as rel
use Rattle.kom_lang.specs.declared.expr.Binary.{Binary}
use Rattle.kom_lang.specs.declared.expr.Binary.TheVariants as op
use Rattle.kom_system.specs.declared.parts.Spot.{Spot}
use Rattle.kom_parse.specs.Lexemes.{Lexeme, word_lexeme, sign_lexeme, number_lexeme}

-- ---- tokens

-- a word, a sign or a number at a place
abbrev pub w : List ℕ → ℕ → Lexeme
w bytes at = word_lexeme bytes at

abbrev pub s : List ℕ → ℕ → Lexeme
s bytes at = sign_lexeme bytes at

-- the words that are no names
abbrev pub reserved : List (List ℕ)
reserved =
    codes "system" ∷ codes "event" ∷ codes "port" ∷ codes "component" ∷ codes "root" ∷ codes "provides" ∷ codes "requires" ∷ codes "var" ∷ codes "slot"
    ∷ codes "channel" ∷ codes "from" ∷ codes "to" ∷ codes "plus" ∷ codes "minus" ∷ codes "when" ∷ codes "self" ∷ codes "free" ∷ codes "on" ∷ codes "at"
    ∷ codes "as" ∷ codes "off" ∷ codes "init" ∷ codes "start" ∷ codes "stop" ∷ codes "fault" ∷ codes "dumped" ∷ codes "let" ∷ codes "if" ∷ codes "else"
    ∷ codes "while" ∷ codes "trigger" ∷ codes "create" ∷ codes "state" ∷ codes "destroy" ∷ codes "dump" ∷ codes "hold" ∷ codes "resume" ∷ codes "unplug"
    ∷ codes "plug" ∷ codes "subscribe" ∷ codes "unsubscribe" ∷ codes "fail" ∷ codes "it" ∷ []

abbrev pub is_name : List ℕ → Bool
is_name bytes = not (list_any (λ r. bytes_eq r bytes) reserved)

-- a name at its place
pub data SpellsName : List Lexeme → Spot → Type 0 where
  name : {bytes : List ℕ} (a : ℕ) → is_name bytes ≡ true → SpellsName (w bytes a ∷ []) (record { name = bytes; at = a })

-- ---- operators

abbrev pub sign_of : Binary → List ℕ
sign_of op.Or = codes "||"
sign_of op.And = codes "&&"
sign_of op.Eq = codes "=="
sign_of op.Ne = codes "!="
sign_of op.Lt = codes "<"
sign_of op.Le = codes "<="
sign_of op.Gt = codes ">"
sign_of op.Ge = codes ">="
sign_of op.Add = codes "+"
sign_of op.Sub = codes "-"
sign_of op.Mul = codes "*"
sign_of op.Div = codes "/"
sign_of op.Rem = codes "%"

-- how tightly an operator binds: 1 binds most
abbrev pub level_of : Binary → ℕ
level_of op.Or = 5
level_of op.And = 4
level_of op.Eq = 3
level_of op.Ne = 3
level_of op.Lt = 3
level_of op.Le = 3
level_of op.Gt = 3
level_of op.Ge = 3
level_of op.Add = 2
level_of op.Sub = 2
level_of op.Mul = 1
level_of op.Div = 1
level_of op.Rem = 1

abbrev pub relation_of : Op → List ℕ
relation_of rel.Eq = codes "=="
relation_of rel.Ne = codes "!="
relation_of rel.Lt = codes "<"
relation_of rel.Le = codes "<="
relation_of rel.Gt = codes ">"
relation_of rel.Ge = codes ">="

abbrev pub end_word : Dir → List ℕ
end_word Plus = codes "plus"
end_word Minus = codes "minus"
