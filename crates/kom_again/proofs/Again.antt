-- The canonical text of the system of a text stands for that system.
use Rattle.std.proofs.Common.{◌≡◌, ℕ, List, length, None, refl, sym, ap, ◌∙◌, subst}
use Rattle.kom_system.specs.Contents.{Contents}
use Rattle.kom_system.specs.declared.parts.Parts.{Parts}
use Rattle.kom_parse.specs.Lexemes.{Lexeme, lexemes}
use Rattle.kom_grammar.specs.Files.{SpellsFile}
use Rattle.kom_rules.specs.Broken.{broken_rule}
use Rattle.kom_resolve.specs.Resolved.{resolved}
use Rattle.kom_sysread.specs.Answers.{IsTreeOf}
use Rattle.kom_sysprint.specs.Canonical.{canonical_text}
use Rattle.kom_sysfile.specs.Answers.{IsSystem}
use Rattle.kom_accept.proofs.Kept.{keeps}
use Rattle.kom_spaced.specs.Spaced.{Written, text_of, placed, AreReadAs}
use Rattle.kom_spaced.proofs.Reading.{reads}
use Rattle.kom_written.specs.Unplaced.{unplaced}
use Rattle.kom_written.specs.Declarations.{file_tokens}
use Rattle.kom_written.specs.Again.{IsFileAgain}
use Rattle.kom_written.proofs.Files.{file_again}
use Rattle.kom_spelling.proofs.Files.{file_spelled}
use Rattle.kom_unplaced.proofs.Value.{value_same}
use Rattle.kom_apart.specs.Apart.{HasNamesOnce}
use Rattle.kom_apart.proofs.Spaces.{accepted_once}
use Rattle.kom_again.proofs.Sound.{all_sound}
use Rattle.kom_again.proofs.Unbroken.{unbroken_too}

-- the text of tokens that spell a tree, where they are read as these tokens
tree_of : (ts : List Written) (Q : Parts) → AreReadAs (text_of ts) (placed 0 ts) → SpellsFile (length (text_of ts)) (placed 0 ts) Q → IsTreeOf (text_of ts) Q
tree_of ts Q r d = record { tokens = r.tokens; cut = r.cut; spells = subst (λ ls. SpellsFile (length (text_of ts)) ls Q) (sym r.lexemes_are) d }

-- written tokens that spell a tree again, which stands for the same system
written_again : (ts : List Written) (P : Parts) (s : Contents) → IsFileAgain ts P → HasNamesOnce P → broken_rule P ≡ None → s ≡ resolved P → IsSystem (text_of ts) s
written_again ts P s f once unbroken value =
    let q = f.spell (length (text_of ts)) in
    let same : unplaced P ≡ unplaced q.0 = sym q.2 in
    record {
      tree = q.0;
      spelled = tree_of ts q.0 (reads ts f.stand) q.1;
      unbroken = unbroken_too P q.0 same once unbroken;
      value = value ∙ sym (value_same P) ∙ ap resolved same ∙ value_same q.0;
    }

-- the canonical text is that of the tokens
printed_again : (ts : List Written) (P : Parts) (s : Contents) → canonical_text (resolved P) ≡ text_of ts → s ≡ resolved P → IsSystem (text_of ts) s → IsSystem (canonical_text s) s
printed_again ts P s e value system = subst (λ t. IsSystem t s) (sym (ap canonical_text value ∙ e)) system

tree_again : (text : List ℕ) (P : Parts) → IsTreeOf text P → IsFileAgain (file_tokens P) P
tree_again text P d = file_again (length text) (lexemes text d.tokens) P d.spells (all_sound text d.tokens d.cut)

pub again : (text : List ℕ) (s : Contents) → IsSystem text s → IsSystem (canonical_text s) s
again text s d =
    printed_again (file_tokens d.tree) d.tree s (file_spelled d.tree (keeps d.tree d.unbroken)) d.value
    (written_again (file_tokens d.tree) d.tree s (tree_again text d.tree d.spelled) (accepted_once text d.tree d.spelled d.unbroken) d.unbroken d.value)
