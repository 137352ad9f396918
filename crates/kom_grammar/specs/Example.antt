-- A smallest file, token by token: `system 1; component Main { } root Main();`
use Rattle.std.specs.Prelude.{ℕ, List, [], ◌∷◌, codes}
use Rattle.kom_system.specs.declared.parts.Spot.{Spot}
use Rattle.kom_system.specs.declared.parts.Parts.{Parts}
use Rattle.kom_parse.specs.Lexemes.{Lexeme, number_lexeme}
use Rattle.kom_grammar.specs.Words.{w, s}
use Rattle.kom_grammar.specs.Files.{component_of}

abbrev pub smallest_tokens : List Lexeme
smallest_tokens =
    w (codes "system") 0 ∷ number_lexeme (codes "1") 7 ∷ s (codes ";") 8
    ∷ w (codes "component") 10 ∷ w (codes "Main") 20 ∷ s (codes "{") 25 ∷ s (codes "}") 27
    ∷ w (codes "root") 29 ∷ w (codes "Main") 34 ∷ s (codes "(") 38 ∷ s (codes ")") 39 ∷ s (codes ";") 40 ∷ []

abbrev pub main_at : ℕ → Spot
main_at a = record { name = codes "Main"; at = a }

abbrev pub smallest_parts : Parts
smallest_parts = record {
  version = 1;
  events = [];
  ports = [];
  components = component_of (main_at 20) [] ∷ [];
  roots = record { at = 29; child = record { kind = main_at 34; args = [] } } ∷ [];
  end = 41;
}
