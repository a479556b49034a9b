-- Whole programs: what their tokens stand for.
use Rattle.std.proofs.Common.{◌≡◌, ℕ, ◌++◌, List, [], ◌∷◌, length, refl, sym, ap, ◌∙◌, append-nil, subst, map}
use Rattle.std.specs.Prelude.{All}
use Rattle.std.proofs.lemmas.List.{map-append, length-map}
use Rattle.ae_text.specs.Tokens as t
use Rattle.ae_text.specs.Tokens.{IsWhole}
use Rattle.ae_text.specs.declared.token.Token.{Token}
use Rattle.ae_text.specs.declared.token.TokenKind.{TokenKind}
use Rattle.ae_text.specs.declared.token.TokenKind.TheVariants as kind
use Rattle.ae_tree.specs.declared.lexeme.Lexeme.{Lexeme}
use Rattle.ae_tree.specs.declared.lexeme.Lexical.TheVariants as tok
use Rattle.ae_tree.specs.declared.limits.Limit.{Limit}
use Rattle.ae_tree.specs.declared.tree.Class.{Class}
use Rattle.ae_tree.specs.declared.tree.Decl.{Decl}
use Rattle.ae_tree.specs.declared.tree.Program.{Program}
use Rattle.ae_tree.specs.Plain.{Definition, Code}
use Rattle.ae_tree.specs.Shown.{code, definition}
use Rattle.ae_tree.specs.Names.{names_of, numbered, lexeme, lexical}
use Rattle.ae_tree.specs.Grammar.{Tokens, one_token, Declaration, classes_of, methods_of, Derives}
use Rattle.ae_tree.specs.Limits.{KeepsMethod, Within}
use Rattle.ae_reading.specs.declared.fail.Fail.{Fail}
use Rattle.ae_reading.specs.declared.fail.Why.{Why}
use Rattle.ae_reading.specs.declared.fail.Why.TheVariants.{Unexpected, Over}
use Rattle.ae_reading.specs.declared.fail.Fail.TheVariants.{Refused, Memory}
use Rattle.ae_reading.specs.Reads.{head, Always, Is, EndIsNone, Counts, Failed}
use Rattle.ae_parser.proofs.from_reading.Programs.{code_of, code_is}
use Rattle.ae_parser.specs.declared.declarations.Parts.{Parts}
use Rattle.ae_parser.specs.Reading.{whole_program, KeepsAll, KeepsAllWhole, HasRead}
use Rattle.ae_parser.proofs.NamesLemmas.{lexemes_of}

-- ---- tokens and lexemes

kind_end : (names : List (List ℕ)) (k : TokenKind) → lexical names k ≡ tok.End → k ≡ kind.End
kind_end names (kind.Name s) e = cc
kind_end names (kind.Int n) e = cc
kind_end names (kind.Text s) e = cc
kind_end names (kind.Word w) e = cc
kind_end names (kind.Sign g) e = cc
kind_end names kind.End e = refl

no_ends : (names : List (List ℕ)) (ts : List Token) → t.HasNoEnd ts → EndIsNone (numbered names ts)
no_ends names [] n = tt
no_ends names (x ∷ ts) n = (λ e. n.0 (kind_end names x.kind e), no_ends names ts n.1)

-- the end is where it was
end_alone : (front taken rest : Tokens) (l : Lexeme) → front ++ l ∷ [] ≡ taken ++ rest → EndIsNone front
    → EndIsNone taken → Is tok.End (head rest) → rest ≡ l ∷ []
end_alone [] [] rest l e n m is = sym e
end_alone [] (x ∷ taken) rest l e n m is = no_more taken rest e is
  where
    no_more : (a r : Tokens) → l ∷ [] ≡ x ∷ (a ++ r) → Is tok.End (head r) → r ≡ l ∷ []
    no_more [] [] e is = absurd is
    no_more [] (y ∷ r) e is = let f : [] ≡ y ∷ r = cc in cc
    no_more (y ∷ a) r e is = let f : [] ≡ y ∷ (a ++ r) = cc in cc
end_alone (x ∷ front) [] [] l e n m is = absurd is
end_alone (x ∷ front) [] (y ∷ rest) l e n m is = let s : x ≡ y = cc in absurd (n.0 (ap (λ (l : Lexeme). l.kind) s ∙ is))
end_alone (x ∷ front) (y ∷ taken) rest l e n m is =
    let f : front ++ l ∷ [] ≡ taken ++ rest = cc in end_alone front taken rest l f n.1 m.1 is

-- the lexemes of a whole source end with the end
pub last_lexeme : (tokens : List Token) (w : IsWhole tokens) → lexemes_of tokens ≡ numbered (names_of tokens) w.front
    ++ record { kind = tok.End; at = w.last.at } ∷ []
last_lexeme tokens w =
    let names = names_of tokens in
    let last : lexeme names w.last ≡ record { kind = tok.End; at = w.last.at } =
    ap (λ k. record { kind = lexical names k; at = w.last.at }) w.end in
    ap (numbered names) w.parts ∙ map-append (lexeme names) w.front (w.last ∷ [])
    ∙ ap (λ (l : Lexeme). numbered names w.front ++ l ∷ []) last

the_end : (tokens : List Token) (taken rest : Tokens) → IsWhole tokens → lexemes_of tokens ≡ taken ++ rest
    → EndIsNone taken → Is tok.End (head rest) → one_token tok.End rest
the_end tokens taken rest w e n is = (
  w.last.at,
  end_alone (numbered (names_of tokens) w.front) taken rest (record { kind = tok.End; at = w.last.at })
      (sym (last_lexeme tokens w) ∙ e) (no_ends (names_of tokens) w.front w.no_end) n is,
)

pub as_long : (tokens : List Token) → length (lexemes_of tokens) ≡ length tokens
as_long tokens = length-map tokens (lexeme (names_of tokens))

-- ---- programs

pub lexemes_derive : (p : Code) (tokens : List Token) (d : Derives tokens p)
    → whole_program (d.list, tt) (lexemes_of tokens)
lexemes_derive p tokens d = let P : List (List ℕ) → Type 0 =
    λ n. whole_program (d.list, tt) (numbered n tokens) in subst P d.names d.derives

pub tokens_derive : (tokens : List Token) (list : List Declaration) → whole_program (list, tt) (lexemes_of tokens)
    → Derives tokens (code_of (names_of tokens) list)
tokens_derive tokens list d = record
    { list = list; names = refl; classes = refl; methods = refl; decls = refl; derives = d }

abbrev pub program_of : List (List ℕ) → Parts → Program
program_of names p = record { names = names; classes = p.classes; methods = p.methods; decls = p.decls }

pub code_read : (tokens : List Token) (names : List (List ℕ)) (ts : Tokens) (p : Parts) (h : HasRead ts p)
    → names ≡ names_of tokens → code (program_of names p) ≡ code_of (names_of tokens) h.list
code_read tokens names ts p h e =
    ap (λ (n : List (List ℕ)). record {
      names = n;
      classes = p.classes;
      methods = map definition p.methods;
      decls =
          p.decls;
    }) e
    ∙ ap (λ (c : List Class). record
    { names = names_of tokens; classes = c; methods = map definition p.methods; decls = p.decls }) h.classes
    ∙ ap (λ (m : List Definition). record {
      names = names_of tokens;
      classes = classes_of h.list;
      methods = m;
      decls =
          p.decls;
    }) h.methods
    ∙ ap (λ (l : List Decl). record
    { names = names_of tokens; classes = classes_of h.list; methods = methods_of h.list; decls = l }) h.decls

-- what was read, with the numbers of the names
pub read_at : (tokens : List Token) (ts : Tokens) (p : Parts) → ts ≡ lexemes_of tokens → HasRead ts p
    → HasRead (lexemes_of tokens) p
read_at tokens ts p e h = let P : Tokens → Type 0 = λ l. HasRead l p in subst P e h

read_derives : (tokens : List Token) (p : Parts) (h : HasRead (lexemes_of tokens) p) → IsWhole tokens
    → Derives tokens (code_of (names_of tokens) h.list)
read_derives tokens p h w =
    let t = h.took in
    tokens_derive tokens h.list (record {
      front = t.taken;
      back = h.rest;
      parts = t.whole;
      first = t.derives;
      second
          = the_end tokens t.taken h.rest w t.whole t.no_end h.end;
    })

pub program_derives : (tokens : List Token) (names : List (List ℕ)) (ts : Tokens) (p : Parts)
    → names ≡ names_of tokens → ts ≡ lexemes_of tokens → HasRead ts p → IsWhole tokens
    → Derives tokens (code (program_of names p))
program_derives tokens names ts p e s h w =
    let g = read_at tokens ts p s h in
    let P : Code → Type 0 = Derives tokens in
    subst P (sym (code_read tokens names (lexemes_of tokens) p g e)) (read_derives tokens p g w)

-- ---- refusals

keeps_list : (l : Limit) (p : Code) (tokens : List Token) (d : Derives tokens p) → Within p → KeepsAll l d.list
keeps_list l p tokens d w = let P : List Definition → Type 0 = All (KeepsMethod l) in subst P d.methods (w l)

counts : (why : Why) (list : List Declaration) → ((l : Limit) → KeepsAll l list) → Counts why (λ l. KeepsAll l list)
counts Unexpected list k = tt
counts (Over l) list k = k l

-- a program within the limits is refused for want of memory alone
program_refused : (tokens : List Token) (e : Fail) → Failed whole_program KeepsAllWhole Always (lexemes_of tokens) e
    → (p : Code) → Derives tokens p → Within p → e ≡ Memory
program_refused tokens (Refused why left) f p d w =
    let l = lexemes_derive p tokens d in
    absurd (f.why.stuck (d.list, tt) (lexemes_of tokens) [] f.why.rest l
    (append-nil (lexemes_of tokens) ∙ f.why.whole) refl tt (counts why d.list (λ x. keeps_list x p tokens d w)))
program_refused tokens Memory f p d w = refl

failed_at : (tokens : List Token) (ts : Tokens) (e : Fail) → ts ≡ lexemes_of tokens
    → Failed whole_program KeepsAllWhole Always ts e → Failed whole_program KeepsAllWhole Always (lexemes_of tokens) e
failed_at tokens ts e same f = let P : Tokens → Type 0 =
    λ l. Failed whole_program KeepsAllWhole Always l e in subst P same f

pub left_for_memory : (tokens : List Token) (ts : Tokens) (e : Fail) → ts ≡ lexemes_of tokens
    → Failed whole_program KeepsAllWhole Always ts e → (p : Code) → Derives tokens p → Within p → e ≡ Memory
left_for_memory tokens ts e same f = program_refused tokens e (failed_at tokens ts e same f)
