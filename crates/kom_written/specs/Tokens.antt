-- The tokens with which expressions and statements are written: one blank behind each, a newline
-- behind `;`, `{` and `}`, and each operator with its operands in parentheses.
use Rattle.std.specs.Prelude.{ℕ, zero, suc, ℤ, pos, negsuc, List, [], ◌∷◌, ◌++◌, Option, Some, None, codes}
use Rattle.std.specs.List.{flat_map}
use Rattle.std.specs.Option.{option_map}
use Rattle.std.specs.Fmt.{decimal}
use Rattle.kom_text.specs.declared.token.TokenKind.TheVariants.{Word, Number, Sign}
use Rattle.kom_system.specs.declared.parts.Spot.{Spot}
use Rattle.kom_system.specs.declared.parts.ExprPart.{ExprPart, Name, It, Neg', Not', Pair', more_of-ExprPart}
use Rattle.kom_system.specs.declared.parts.ExprPart as e
use Rattle.kom_system.specs.declared.parts.StmtPart.{StmtPart, out-StmtPart}
use Rattle.kom_system.specs.declared.parts.StmtPart.TheOpen.{Let, Set, If, While, Trigger, Answer, Create, CreateFromState, Start, Stop, Destroy, Dump, Hold, Resume, Unplug, Plug, Subscribe, Unsubscribe, Fail, Escalate}
use Rattle.kom_system.specs.declared.parts.TargetPart.{TargetPart}
use Rattle.kom_system.specs.declared.parts.TargetPart.TheVariants as to
use Rattle.kom_grammar.specs.Words.{sign_of, end_word}
use Rattle.kom_rules.specs.Walks.{One}
use Rattle.kom_spaced.specs.Spaced.{Written}

-- ---- tokens

abbrev pub word : List ℕ → Written
word bytes = record { kind = Word; bytes = bytes; behind = 32 }

abbrev pub sign : List ℕ → Written
sign bytes = record { kind = Sign; bytes = bytes; behind = 32 }

-- a sign that ends its line
abbrev pub last : List ℕ → Written
last bytes = record { kind = Sign; bytes = bytes; behind = 10 }

abbrev pub number : ℕ → Written
number n = record { kind = Number; bytes = decimal n; behind = 32 }

abbrev pub semicolon : Written
semicolon = last (codes ";")

abbrev pub called : Spot → Written
called s = word s.name

abbrev pub integer : ℤ → List Written
integer (pos n) = number n ∷ []
integer (negsuc n) = sign (codes "-") ∷ number (suc n) ∷ []

-- a number that a tree of a text has in `fail`, which is not negative
abbrev pub natural : ℤ → ℕ
natural (pos n) = n
natural (negsuc n) = 0

-- ---- lists

-- items, each with a token before it
abbrev pub more : {X : Type 0} → Written → (X → List Written) → List X → List Written
more between f [] = []
more between f (x ∷ xs) = between ∷ (f x ++ more between f xs)

-- items with a token between them
abbrev pub separated : {X : Type 0} → Written → (X → List Written) → List X → List Written
separated between f [] = []
separated between f (x ∷ xs) = f x ++ more between f xs

abbrev pub with_commas : {X : Type 0} → (X → List Written) → List X → List Written
with_commas f xs = separated (sign (codes ",")) f xs

-- ---- expressions

abbrev pub expr_tokens : ExprPart → List Written
expr_tokens (e.Number n) = integer n
expr_tokens (Name s) = called s ∷ []
expr_tokens (It a s) = word (codes "it") ∷ sign (codes ".") ∷ called s ∷ []
expr_tokens (Neg' p (more_of-ExprPart x r)) = sign (codes "(") ∷ sign (codes "-") ∷ (expr_tokens x ++ sign (codes ")") ∷ [])
expr_tokens (Not' p (more_of-ExprPart x r)) = sign (codes "(") ∷ sign (codes "!") ∷ (expr_tokens x ++ sign (codes ")") ∷ [])
expr_tokens (Pair' op p (more_of-ExprPart left r) q (more_of-ExprPart right r')) = sign (codes "(") ∷ ((expr_tokens left ++ sign (sign_of op) ∷ expr_tokens right) ++ sign (codes ")") ∷ [])

-- ---- statements

abbrev pub target_tokens : TargetPart → List Written
target_tokens (to.Own port) = word (codes "self") ∷ sign (codes ".") ∷ called port ∷ []
target_tokens (to.Child slot port) = called slot ∷ sign (codes ".") ∷ called port ∷ []

-- a keyword and a name
abbrev pub command : List ℕ → Spot → List Written
command keyword s = word keyword ∷ called s ∷ semicolon ∷ []

abbrev pub block_tokens : List Written → List Written
block_tokens ts = last (codes "{") ∷ (ts ++ last (codes "}") ∷ [])

-- a block, and another one behind `else` where there is one
abbrev pub with_else : List Written → Option (List Written) → List Written
with_else block None = block
with_else block (Some other) = block ++ word (codes "else") ∷ other

-- a statement, where `below` gives the tokens of the statements of its blocks
abbrev pub stmt_tokens : (List StmtPart → List Written) → One → List Written
stmt_tokens below (Let n x) = word (codes "let") ∷ called n ∷ sign (codes "=") ∷ (expr_tokens x ++ semicolon ∷ [])
stmt_tokens below (Set n x) = called n ∷ sign (codes "=") ∷ (expr_tokens x ++ semicolon ∷ [])
stmt_tokens below (If x block other) = word (codes "if") ∷ (expr_tokens x ++ with_else (block_tokens (below block)) (option_map (λ b. block_tokens (below b)) other))
stmt_tokens below (While x block) = word (codes "while") ∷ (expr_tokens x ++ block_tokens (below block))
stmt_tokens below (Trigger kind xs port) =
    word (codes "trigger") ∷ called kind ∷ sign (codes "(") ∷ (with_commas expr_tokens xs ++ sign (codes ")") ∷ word (codes "at") ∷ called port ∷ semicolon ∷ [])
stmt_tokens below (Answer a kind xs) = word (codes "answer") ∷ called kind ∷ sign (codes "(") ∷ (with_commas expr_tokens xs ++ sign (codes ")") ∷ semicolon ∷ [])
stmt_tokens below (Create slot kind xs) =
    word (codes "create") ∷ called slot ∷ sign (codes ":") ∷ called kind ∷ sign (codes "(") ∷ (with_commas expr_tokens xs ++ sign (codes ")") ∷ semicolon ∷ [])
stmt_tokens below (CreateFromState slot kind a) = word (codes "create") ∷ called slot ∷ sign (codes ":") ∷ called kind ∷ word (codes "from") ∷ word (codes "state") ∷ semicolon ∷ []
stmt_tokens below (Start slot) = command (codes "start") slot
stmt_tokens below (Stop slot) = command (codes "stop") slot
stmt_tokens below (Destroy slot) = command (codes "destroy") slot
stmt_tokens below (Dump slot) = command (codes "dump") slot
stmt_tokens below (Hold wire) = command (codes "hold") wire
stmt_tokens below (Resume wire) = command (codes "resume") wire
stmt_tokens below (Unplug wire end) = word (codes "unplug") ∷ called wire ∷ sign (codes ".") ∷ word (end_word end) ∷ semicolon ∷ []
stmt_tokens below (Plug wire end target) =
    word (codes "plug") ∷ called wire ∷ sign (codes ".") ∷ word (end_word end) ∷ word (codes "at") ∷ (target_tokens target ++ semicolon ∷ [])
stmt_tokens below (Subscribe h) = command (codes "subscribe") h
stmt_tokens below (Unsubscribe h) = command (codes "unsubscribe") h
stmt_tokens below (Fail n a) = word (codes "fail") ∷ number (natural n) ∷ semicolon ∷ []
stmt_tokens below (Escalate a) = word (codes "escalate") ∷ semicolon ∷ []

-- the statements of a block, and of the blocks inside it, as deep as so many levels
abbrev pub stmts_tokens : ℕ → List StmtPart → List Written
stmts_tokens zero block = []
stmts_tokens (suc levels) block = flat_map (λ x. stmt_tokens (stmts_tokens levels) (out-StmtPart x)) block
