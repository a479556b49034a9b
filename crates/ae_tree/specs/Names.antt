-- Names as numbers: `io`, `main` and `this` first, and then the names of a source in order of first use.
use Rattle.std.specs.Prelude.{ℕ, List, [], ◌∷◌, codes, map}
use Rattle.std.specs.Str.{bytes_eq}
use Rattle.std.specs.List.{position_or_len}
use Rattle.indexmap.specs.IndexSet.{insert_all}
use Rattle.ae_text.specs.declared.token.TokenKind.{TokenKind}
use Rattle.ae_text.specs.declared.token.TokenKind.TheVariants as k
use Rattle.ae_text.specs.declared.token.Token.{Token}
use Rattle.ae_tree.specs.declared.lexeme.Lexical.{Lexical}
use Rattle.ae_tree.specs.declared.lexeme.Lexical.TheVariants as t
use Rattle.ae_tree.specs.declared.lexeme.Lexeme.{Lexeme}

abbrev pub io : ℕ
io = 0

abbrev pub main : ℕ
main = 1

abbrev pub this : ℕ
this = 2

abbrev pub first_names : List (List ℕ)
first_names = codes "io" ∷ codes "main" ∷ codes "this" ∷ []

-- the spelling of a token that is a name, before others
abbrev pub spelled_before : TokenKind → List (List ℕ) → List (List ℕ)
spelled_before (k.Name s) rest = s ∷ rest
spelled_before (k.Int n) rest = rest
spelled_before (k.Text s) rest = rest
spelled_before (k.Word w) rest = rest
spelled_before (k.Sign g) rest = rest
spelled_before k.End rest = rest

-- the spellings of all names, in order
abbrev pub spellings : List Token → List (List ℕ)
spellings [] = []
spellings (t ∷ ts) = spelled_before t.kind (spellings ts)

-- each name once, in order of first use
abbrev pub names_of : List Token → List (List ℕ)
names_of ts = insert_all bytes_eq first_names (spellings ts)

-- where a name stands among the names
abbrev pub name_number : List (List ℕ) → List ℕ → ℕ
name_number names s = position_or_len (bytes_eq s) names

abbrev pub lexical : List (List ℕ) → TokenKind → Lexical
lexical names (k.Name s) = t.Name (name_number names s)
lexical names (k.Int n) = t.Int n
lexical names (k.Text s) = t.Text s
lexical names (k.Word w) = t.Word w
lexical names (k.Sign g) = t.Sign g
lexical names k.End = t.End

abbrev pub lexeme : List (List ℕ) → Token → Lexeme
lexeme names t = record { kind = lexical names t.kind; at = t.at }

-- the tokens as the grammar sees them
abbrev pub numbered : List (List ℕ) → List Token → List Lexeme
numbered names ts = map (lexeme names) ts
