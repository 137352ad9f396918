-- Texts that are those of tokens, put together; and statements as lines of text.
use Rattle.std.proofs.Common.{◌≡◌, ℕ, suc, Bool, true, false, List, [], ◌∷◌, ◌++◌, refl, sym, ap, ◌∙◌, append_assoc}
use Rattle.std.specs.Prelude.{codes}
use Rattle.std.proofs.lemmas.List.{append-nil}
use Rattle.kom_record.specs.Trace.{Text}
use Rattle.kom_sysprint.specs.Canonical as text
use Rattle.kom_sysprint.specs.Canonical.{end_of_line, block_of, in_parentheses, inside_of}
use Rattle.kom_spaced.specs.Spaced.{Written, text_of}
use Rattle.kom_written.specs.Tokens.{word, sign, last, number, semicolon, block_tokens}
use Rattle.kom_spelling.proofs.Texts.{text-append}

-- the text is that of the tokens
pub record IsText (t : Text) (ts : List Written) : Type 0 where
  pub is : t ≡ text_of ts

pub of : (ts : List Written) {t : Text} → t ≡ text_of ts → IsText t ts
of ts h = record { is = h }

-- tokens that are known
pub lit : (ts : List Written) → IsText (text_of ts) ts
lit ts = record { is = refl }

pub named : {a n : Text} → a ≡ n → IsText (text.word a) (word n ∷ [])
named e = record { is = ap text.word e }

pub signed : {a n : Text} → a ≡ n → IsText (text.word a) (sign n ∷ [])
signed e = record { is = ap text.word e }

pub followed : {t u : Text} {ts us : List Written} → IsText t ts → IsText u us → IsText (t ++ u) (ts ++ us)
followed {t = t} {u = u} {ts = ts} {us = us} h k = record { is = ap (λ q. q ++ u) h.is ∙ ap (λ q. text_of ts ++ q) k.is ∙ sym (text-append ts us) }

pub as_tokens : {t : Text} {ts us : List Written} → IsText t ts → ts ≡ us → t ≡ text_of us
as_tokens h e = h.is ∙ ap text_of e

pub a_block : {t : Text} {ts : List Written} → IsText t ts → IsText (block_of t) (block_tokens ts)
a_block h = followed (followed (lit (last (codes "{") ∷ [])) h) (lit (last (codes "}") ∷ []))

pub enclosed : {t : Text} {ts : List Written} → IsText t ts → IsText (in_parentheses t) (sign (codes "(") ∷ (ts ++ sign (codes ")") ∷ []))
enclosed h = followed (followed (lit (sign (codes "(") ∷ [])) h) (lit (sign (codes ")") ∷ []))

pub inside : {a n b m : Text} → a ≡ n → b ≡ m → IsText (inside_of a b) (word n ∷ sign (codes ".") ∷ word m ∷ [])
inside e f = followed (followed (named e) (lit (sign (codes ".") ∷ []))) (named f)

pub flat4 : {A : Type 0} (a b c d : List A) → a ++ b ++ c ++ d ≡ a ++ (b ++ (c ++ d))
flat4 a b c d = simp append_assoc

pub flat5 : {A : Type 0} (a b c d e : List A) → a ++ b ++ c ++ d ++ e ≡ a ++ (b ++ (c ++ (d ++ e)))
flat5 a b c d e = simp append_assoc

pub flat6 : {A : Type 0} (a b c d e f : List A) → a ++ b ++ c ++ d ++ e ++ f ≡ a ++ (b ++ (c ++ (d ++ (e ++ f))))
flat6 a b c d e f = simp append_assoc

abbrev closed : List Written
closed = sign (codes ")") ∷ []

abbrev ended : List Written
ended = semicolon ∷ []

pub set_line : (X : List Written) {a n T : Text} → a ≡ n → T ≡ text_of X → text.word a ++ codes "= " ++ T ++ end_of_line ≡ text_of (word n ∷ sign (codes "=") ∷ (X ++ semicolon ∷ []))
set_line X e h = (followed (followed (followed (named e) (lit (sign (codes "=") ∷ []))) (of X h)) (lit ended)).is

pub if_line : (X Y : List Written) {T U : Text} → T ≡ text_of X → U ≡ text_of Y → codes "if " ++ T ++ block_of U ++ [] ≡ text_of (word (codes "if") ∷ (X ++ block_tokens Y))
if_line X Y h k =
    as_tokens (followed (followed (followed (lit (word (codes "if") ∷ [])) (of X h)) (a_block (of Y k))) (lit [])) (ap (λ (ts : List Written). word (codes "if") ∷ ts) (append-nil (X ++ block_tokens Y)))

pub if_else_line : (X Y Z : List Written) {T U V : Text} → T ≡ text_of X → U ≡ text_of Y → V ≡ text_of Z
    → codes "if " ++ T ++ block_of U ++ (codes "else " ++ block_of V) ≡ text_of (word (codes "if") ∷ (X ++ (block_tokens Y ++ word (codes "else") ∷ block_tokens Z)))
if_else_line X Y Z h k l =
    as_tokens (followed (followed (followed (lit (word (codes "if") ∷ [])) (of X h)) (a_block (of Y k))) (followed (lit (word (codes "else") ∷ [])) (a_block (of Z l))))
    (ap (λ (ts : List Written). word (codes "if") ∷ ts) (append_assoc X (block_tokens Y) (word (codes "else") ∷ block_tokens Z)))

pub while_line : (X Y : List Written) {T U : Text} → T ≡ text_of X → U ≡ text_of Y → codes "while " ++ T ++ block_of U ≡ text_of (word (codes "while") ∷ (X ++ block_tokens Y))
while_line X Y h k = (followed (followed (lit (word (codes "while") ∷ [])) (of X h)) (a_block (of Y k))).is

pub trigger_line : (X : List Written) {a n b q L : Text} → a ≡ n → b ≡ q → L ≡ text_of X
    → codes "trigger " ++ (text.word a ++ in_parentheses L) ++ codes "at " ++ text.word b ++ end_of_line
    ≡ text_of (word (codes "trigger") ∷ word n ∷ sign (codes "(") ∷ (X ++ sign (codes ")") ∷ word (codes "at") ∷ word q ∷ semicolon ∷ []))
trigger_line X {n = n} {q = q} e f h =
    as_tokens (followed (followed (followed (followed (lit (word (codes "trigger") ∷ [])) (followed (named e) (enclosed (of X h)))) (lit (word (codes "at") ∷ []))) (named f)) (lit ended))
    (ap (λ (ts : List Written). word (codes "trigger") ∷ word n ∷ sign (codes "(") ∷ ts) (flat5 X closed (word (codes "at") ∷ []) (word q ∷ []) ended))

pub answer_line : (X : List Written) {a n L : Text} → a ≡ n → L ≡ text_of X
    → codes "answer " ++ (text.word a ++ in_parentheses L) ++ end_of_line ≡ text_of (word (codes "answer") ∷ word n ∷ sign (codes "(") ∷ (X ++ sign (codes ")") ∷ semicolon ∷ []))
answer_line X {n = n} e h =
    as_tokens (followed (followed (lit (word (codes "answer") ∷ [])) (followed (named e) (enclosed (of X h)))) (lit ended)) (ap (λ (ts : List Written). word (codes "answer") ∷ word n ∷ sign (codes "(") ∷ ts) (append_assoc X closed ended))

pub create_line : (X : List Written) {a n b m L : Text} → a ≡ n → b ≡ m → L ≡ text_of X
    → codes "create " ++ text.word a ++ codes ": " ++ text.word b ++ in_parentheses L ++ end_of_line
    ≡ text_of (word (codes "create") ∷ word n ∷ sign (codes ":") ∷ word m ∷ sign (codes "(") ∷ (X ++ sign (codes ")") ∷ semicolon ∷ []))
create_line X {n = n} {m = m} e f h =
    as_tokens (followed (followed (followed (followed (followed (lit (word (codes "create") ∷ [])) (named e)) (lit (sign (codes ":") ∷ []))) (named f)) (enclosed (of X h))) (lit ended))
    (ap (λ (ts : List Written). word (codes "create") ∷ word n ∷ sign (codes ":") ∷ word m ∷ sign (codes "(") ∷ ts) (append_assoc X closed ended))

pub from_state_line : {a n b m : Text} → a ≡ n → b ≡ m
    → codes "create " ++ text.word a ++ codes ": " ++ text.word b ++ codes "from state " ++ end_of_line
    ≡ text_of (word (codes "create") ∷ word n ∷ sign (codes ":") ∷ word m ∷ word (codes "from") ∷ word (codes "state") ∷ semicolon ∷ [])
from_state_line e f = (followed (followed (followed (followed (followed (lit (word (codes "create") ∷ [])) (named e)) (lit (sign (codes ":") ∷ []))) (named f)) (lit (word (codes "from") ∷ word (codes "state") ∷ []))) (lit ended)).is

-- a keyword and a name
pub command_line : (k : Text) {a n : Text} → a ≡ n → text.command k a ≡ text_of (word k ∷ word n ∷ semicolon ∷ [])
command_line k e = (followed (followed (named {a = k} {n = k} refl) (named e)) (lit ended)).is

pub unplug_line : {a n d b : Text} → a ≡ n → d ≡ b → codes "unplug " ++ inside_of a d ++ end_of_line ≡ text_of (word (codes "unplug") ∷ word n ∷ sign (codes ".") ∷ word b ∷ semicolon ∷ [])
unplug_line e f = (followed (followed (lit (word (codes "unplug") ∷ [])) (inside e f)) (lit ended)).is

pub plug_line : (X : List Written) {a n d b T : Text} → a ≡ n → d ≡ b → T ≡ text_of X
    → codes "plug " ++ inside_of a d ++ codes "at " ++ T ++ end_of_line ≡ text_of (word (codes "plug") ∷ word n ∷ sign (codes ".") ∷ word b ∷ word (codes "at") ∷ (X ++ semicolon ∷ []))
plug_line X e f h = (followed (followed (followed (followed (lit (word (codes "plug") ∷ [])) (inside e f)) (lit (word (codes "at") ∷ []))) (of X h)) (lit ended)).is

pub inside_line : {a n b m : Text} → a ≡ n → b ≡ m → inside_of a b ≡ text_of (word n ∷ sign (codes ".") ∷ word m ∷ [])
inside_line e f = (inside e f).is

pub fail_line : {k n : ℕ} → k ≡ n → codes "fail " ++ text.number k ++ end_of_line ≡ text_of (word (codes "fail") ∷ number n ∷ semicolon ∷ [])
fail_line {k = k} {n = n} e = (followed (followed (lit (word (codes "fail") ∷ [])) (of (number n ∷ []) (ap text.number e))) (lit ended)).is
