-- The numbers of names where other tokens come behind.
use Rattle.std.proofs.Common.{◌≡◌, ℕ, ◌+◌, ◌++◌, List, [], ◌∷◌, take, drop, map, refl, sym, ap, ap₂, ◌∙◌, append-nil}
use Rattle.std.proofs.Common.{append_assoc, subst, Bool, true, false, not, cond, ◌||◌, codes, bytes_eq}
use Rattle.std.proofs.Common.{take-append-drop}
use Rattle.std.proofs.lemmas.List.{map-append, take-map}
use Rattle.std.proofs.lemmas.List.Sums.{fold-append}
use Rattle.std.specs.List.{list_any}
use Rattle.std.specs.Cmp.Lexicographic.{bytes_decides}
use Rattle.indexmap.specs.IndexSet.{insert_key, insert_all}
use Rattle.ae_text.specs.declared.token.TokenKind.{TokenKind}
use Rattle.ae_text.specs.declared.token.TokenKind.TheVariants as k
use Rattle.ae_text.specs.declared.token.Token.{Token}
use Rattle.ae_tree.specs.declared.lexeme.Lexical.{Lexical}
use Rattle.ae_tree.specs.declared.lexeme.Lexical.TheVariants as tok
use Rattle.ae_tree.specs.declared.lexeme.Lexeme.{Lexeme}
use Rattle.ae_tree.specs.Names.{spelled_before, spellings, first_names, names_of, name_number, lexical, lexeme}
use Rattle.ae_tree.specs.Names.{numbered}
use Rattle.ae_tree.specs.Grammar.{Tokens}
use Rattle.ae_tree.specs.Refused.{IsKnown, AreSpellable}
use Rattle.ae_parser.proofs.from_tree.BelowLemmas.{all_more}

abbrev pub Words : Type 0
Words = List (List ℕ)

-- ---- what is inserted comes last

-- ---- names that are there

abbrev pub Has : Words → List ℕ → Type 0
Has ks s = list_any (bytes_eq s) ks ≡ true

has_more : (ks more : Words) (s : List ℕ) → Has ks s → Has (ks ++ more) s
has_more [] more s h = cc
has_more (x ∷ ks) more s h = step (bytes_eq s x) h (has_more ks more s)
  where
    step : (b : Bool) → (b || list_any (bytes_eq s) ks) ≡ true → (Has ks s → Has (ks ++ more) s)
        → (b || list_any (bytes_eq s) (ks ++ more)) ≡ true
    step true h again = refl
    step false h again = again h

same_bytes : (s : List ℕ) → bytes_eq s s ≡ true
same_bytes s = (bytes_decides s s).1 refl

has_last : (ks : Words) (s : List ℕ) → Has (ks ++ s ∷ []) s
has_last [] s = ap (λ b. b || false) (same_bytes s)
has_last (x ∷ ks) s = step (bytes_eq s x) (has_last ks s)
  where
    step : (b : Bool) → Has (ks ++ s ∷ []) s → (b || list_any (bytes_eq s) (ks ++ s ∷ [])) ≡ true
    step true again = refl
    step false again = again

has_inserted : (ks : Words) (s : List ℕ) → Has (insert_key bytes_eq ks s) s
has_inserted ks s = step (list_any (bytes_eq s) ks) refl
  where
    step : (b : Bool) → list_any (bytes_eq s) ks ≡ b → Has (cond b ks (ks ++ s ∷ [])) s
    step true e = e
    step false e = has_last ks s

number_more : (ks more : Words) (s : List ℕ) → Has ks s → name_number (ks ++ more) s ≡ name_number ks s
number_more [] more s h = cc
number_more (x ∷ ks) more s h = step (bytes_eq s x) h (number_more ks more s)
  where
    step : (b : Bool) → (b || list_any (bytes_eq s) ks) ≡ true
        → (Has ks s → name_number (ks ++ more) s ≡ name_number ks s) → cond (not b) (1 + name_number (ks ++ more) s) 0
        ≡ cond (not b) (1 + name_number ks s) 0
    step true h again = refl
    step false h again = ap (λ n. 1 + n) (again h)

-- ---- the names of tokens

abbrev pub IsIn : Words → TokenKind → Type 0
IsIn names (k.Name s) = Has names s
IsIn names (k.Int n) = Unit {0}
IsIn names (k.Text s) = Unit {0}
IsIn names (k.Word w) = Unit {0}
IsIn names (k.Sign g) = Unit {0}
IsIn names k.End = Unit {0}

abbrev pub AreIn : Words → List Token → Type 0
AreIn names [] = Unit {0}
AreIn names (t ∷ ts) = IsIn names t.kind × AreIn names ts

has_still : (ks xs : Words) (s : List ℕ) → Has ks s → Has (insert_all bytes_eq ks xs) s
has_still ks xs s h =
    let m = all_more xs ks in
    let P : Words → Type 0 = λ l. Has l s in
    subst P (sym m.1) (has_more ks m.0 s h)

token_in : (kind : TokenKind) (ks : Words) (ts : List Token)
    → ((ls : Words) → AreIn (insert_all bytes_eq ls (spellings ts)) ts) →
    IsIn (insert_all bytes_eq ks (spelled_before kind (spellings ts))) kind
    × AreIn (insert_all bytes_eq ks (spelled_before kind (spellings ts))) ts
token_in (k.Name s) ks ts again =
    (has_still (insert_key bytes_eq ks s) (spellings ts) s (has_inserted ks s), again (insert_key bytes_eq ks s))
token_in (k.Int n) ks ts again = (tt, again ks)
token_in (k.Text s) ks ts again = (tt, again ks)
token_in (k.Word w) ks ts again = (tt, again ks)
token_in (k.Sign g) ks ts again = (tt, again ks)
token_in k.End ks ts again = (tt, again ks)

pub tokens_in : (ts : List Token) (ks : Words) → AreIn (insert_all bytes_eq ks (spellings ts)) ts
tokens_in [] ks = tt
tokens_in (t ∷ ts) ks = token_in t.kind ks ts (tokens_in ts)

lexical_more : (names more : Words) (kind : TokenKind) → IsIn names kind → lexical (names ++ more) kind
    ≡ lexical names kind
lexical_more names more (k.Name s) h = ap tok.Name (number_more names more s h)
lexical_more names more (k.Int n) h = refl
lexical_more names more (k.Text s) h = refl
lexical_more names more (k.Word w) h = refl
lexical_more names more (k.Sign g) h = refl
lexical_more names more k.End h = refl

numbered_more : (names more : Words) (ts : List Token) → AreIn names ts → numbered (names ++ more) ts
    ≡ numbered names ts
numbered_more names more [] h = refl
numbered_more names more (t ∷ ts) h =
    ap₂ (λ (a : Lexical) (b : Tokens). record { kind = a; at = t.at } ∷ b) (lexical_more names more t.kind h.0)
    (numbered_more names more ts h.1)

-- ---- tokens before others

spelled-append : (kind : TokenKind) (a b : Words) → spelled_before kind (a ++ b) ≡ spelled_before kind a ++ b
spelled-append (k.Name s) a b = refl
spelled-append (k.Int n) a b = refl
spelled-append (k.Text s) a b = refl
spelled-append (k.Word w) a b = refl
spelled-append (k.Sign g) a b = refl
spelled-append k.End a b = refl

spellings-append : (a b : List Token) → spellings (a ++ b) ≡ spellings a ++ spellings b
spellings-append [] b = refl
spellings-append (t ∷ a) b = ap (spelled_before t.kind) (spellings-append a b) ∙ spelled-append t.kind (spellings a)
    (spellings b)

names-append : (a b : List Token) → names_of (a ++ b) ≡ insert_all bytes_eq (names_of a) (spellings b)
names-append a b = ap (insert_all bytes_eq first_names) (spellings-append a b)
    ∙ fold-append (insert_key bytes_eq) first_names (spellings a) (spellings b)

-- what comes behind changes no number
pub numbered_before : (a b : List Token) → numbered (names_of (a ++ b)) a ≡ numbered (names_of a) a
numbered_before a b =
    let m = all_more (spellings b) (names_of a) in
    ap (λ names. numbered names a) (names-append a b ∙ m.1) ∙ numbered_more (names_of a) m.0 a (tokens_in a first_names)

abbrev pub lexemes_of : List Token → Tokens
lexemes_of ts = numbered (names_of ts) ts

-- the first lexemes are those of the first tokens
pub take-lexemes : (n : ℕ) (ts : List Token) → take n (lexemes_of ts) ≡ lexemes_of (take n ts)
take-lexemes n ts =
    take-map (lexeme (names_of ts)) n ts
    ∙ ap (λ l. numbered (names_of l) (take n ts)) (sym (take-append-drop n ts))
    ∙ numbered_before (take n ts) (drop n ts)

-- ---- tokens of lexemes

abbrev kind_of : Lexical → TokenKind
kind_of (tok.Name n) = k.Name (codes "io")
kind_of (tok.Int n) = k.Int n
kind_of (tok.Text s) = k.Text s
kind_of (tok.Word w) = k.Word w
kind_of (tok.Sign g) = k.Sign g
kind_of tok.End = k.End

abbrev token_of : Lexeme → Token
token_of l = record { kind = kind_of l.kind; begin = 0; end = 0; at = l.at }

-- tokens that stand for these lexemes
abbrev pub tokens_of : Tokens → List Token
tokens_of ls = map token_of ls

io_first : (ts : List Token) → name_number (names_of ts) (codes "io") ≡ 0
io_first ts = let m = all_more (spellings ts) first_names in ap (λ names. name_number names (codes "io")) m.1

kind_again : (names : Words) (l : Lexical) → name_number names (codes "io") ≡ 0 → IsKnown l
    → lexical names (kind_of l) ≡ l
kind_again names (tok.Name n) io h = ap tok.Name (io ∙ sym h)
kind_again names (tok.Int n) io h = refl
kind_again names (tok.Text s) io h = refl
kind_again names (tok.Word w) io h = refl
kind_again names (tok.Sign g) io h = refl
kind_again names tok.End io h = refl

numbered_again : (names : Words) (ls : Tokens) → name_number names (codes "io") ≡ 0 → AreSpellable ls
    → numbered names (tokens_of ls) ≡ ls
numbered_again names [] io h = refl
numbered_again names (l ∷ ls) io h =
    ap₂ (λ (a : Lexical) (b : Tokens). record { kind = a; at = l.at } ∷ b) (kind_again names l.kind io h.0)
    (numbered_again names ls io h.1)

-- tokens with known lexemes behind them
pub lexemes-append : (front : List Token) (more : Tokens) → AreSpellable more → lexemes_of (front ++ tokens_of more)
    ≡ lexemes_of front ++ more
lexemes-append front more known =
    let whole = front ++ tokens_of more in
    map-append (lexeme (names_of whole)) front (tokens_of more)
    ∙ ap₂ (λ a b. a ++ b) (numbered_before front (tokens_of more))
    (numbered_again (names_of whole) more (io_first whole) known)
