-- Tokens stand for one program at most.
use Rattle.std.proofs.Common.{◌≡◌, ℕ, ◌++◌, List, [], length, Option, Some, None, refl, sym, ap, ◌∙◌, append_assoc}
use Rattle.std.proofs.Common.{subst, inl, inr}
use Rattle.std.specs.Prelude.{◌⊎◌}
use Rattle.ae_text.specs.declared.token.Keyword.{Keyword}
use Rattle.ae_text.specs.declared.token.Keyword.TheVariants as word
use Rattle.ae_text.specs.declared.token.Sign.TheVariants as sign
use Rattle.ae_text.specs.declared.token.Token.{Token as SourceToken}
use Rattle.ae_tree.specs.declared.lexeme.Lexeme.{Lexeme}
use Rattle.ae_tree.specs.declared.lexeme.Lexical.{Lexical}
use Rattle.ae_tree.specs.declared.lexeme.Lexical.TheVariants as tok
use Rattle.ae_tree.specs.declared.tree.NameAt.{NameAt}
use Rattle.ae_tree.specs.declared.tree.Ty.{Ty}
use Rattle.ae_tree.specs.declared.tree.Field.{Field}
use Rattle.ae_tree.specs.Plain.{Definition, Code}
use Rattle.ae_tree.specs.Names.{names_of, numbered}
use Rattle.ae_tree.specs.Grammar.{Tokens, one_by_one, name, groups, type_, method, field, numbers_from, Declaration}
use Rattle.ae_tree.specs.Grammar.{OfClass, OfMethod, declaration, declarations, Derives}
use Rattle.ae_reading.specs.Reads.{head, Always, Is, Isnt, IsName, TokenMark, chain}
use Rattle.ae_parser.proofs.from_reading.ReadsLemmas.{Lang, Follow, Both, Links}
use Rattle.ae_parser.proofs.from_reading.UniqueLemmas.{Unique, apart_by, none_at, unique_mark, unique_name}
use Rattle.ae_parser.proofs.from_reading.UniqueLemmas.{unique_then, unique_both, unique_each, unique_as}
use Rattle.ae_parser.proofs.from_reading.UniqueLemmas.{unique_choice, by_first, unique_chain}
use Rattle.ae_parser.proofs.from_reading.Begins.{Begins, begins_mark, begins_name, begins_both, of_kind, of_other}
use Rattle.ae_parser.proofs.from_reading.Begins.{of_name, links_by, not_both}
use Rattle.ae_parser.proofs.from_reading.Runs.{each_turns}
use Rattle.ae_parser.proofs.from_reading.Programs.{counted, one_of, to_all, code_of, code_is}
use Rattle.ae_parser.proofs.from_reading.UniqueTypes.{IsType, type_at, begins_type, unique_groups, unique_type}
use Rattle.ae_parser.proofs.UniqueMethods.{unique_method, begins_method}

abbrev pub semicolon : Lexical
semicolon = tok.Sign sign.Semicolon

abbrev pub closing : Lexical
closing = tok.Sign sign.CloseBrace

-- ---- classes

abbrev pub FieldParts : Type 0
FieldParts = Ty × (NameAt × Unit {0})

abbrev pub field_form : Lang FieldParts
field_form = Both type_ (Both name (TokenMark semicolon))

named_isnt : Links (Both name (TokenMark semicolon)) Always (Isnt (tok.Sign sign.Less))
named_isnt = links_by (Both name (TokenMark semicolon)) IsName (Isnt (tok.Sign sign.Less))
    (of_name (tok.Sign sign.Less) (λ n e. cc)) (begins_both name (λ c. TokenMark semicolon) IsName begins_name) Always

unique_field : Unique field Always
unique_field = unique_as field field_form Always (λ q. record { ty = q.0; name = q.1.0 })
    (λ y us d. ((y.ty, (y.name, tt)), refl, d))
    (unique_both type_ (Both name (TokenMark semicolon)) (Isnt (tok.Sign sign.Less)) Always named_isnt unique_type
    (unique_then name (TokenMark semicolon) Always unique_name (unique_mark semicolon)))

begins_field : Begins field IsType
begins_field f us r d = begins_both type_ (λ c. Both name (TokenMark semicolon)) IsType begins_type
    (f.ty, (f.name, tt)) us r d

-- what stands behind the fields
abbrev pub EndsFields : Follow
EndsFields o = Is (tok.Word word.Method) o ⊎ Is (tok.Sign sign.CloseBrace) o

no_field : (o : Option Lexeme) → IsType o → EndsFields o → ⊥
no_field o t (inl i) = none_at type_at (tok.Word word.Method) (λ at. refl) o t i
no_field o t (inr i) = none_at type_at closing (λ at. refl) o t i

abbrev pub MethodsParts : Type 0
MethodsParts = List Definition × Unit {0}

abbrev pub ClassParts : Type 0
ClassParts = Unit {0} × (NameAt × (List NameAt × (Unit {0} × (List Field × MethodsParts))))

abbrev pub methods_form : ℕ → Lang MethodsParts
methods_form c = Both (one_by_one (method (Some c))) (TokenMark closing)

abbrev pub inside_form : ℕ → Lang (Unit {0} × (List Field × MethodsParts))
inside_form c = Both (TokenMark (tok.Sign sign.OpenBrace)) (Both (one_by_one field) (methods_form c))

abbrev pub class_form : ℕ → Lang ClassParts
class_form c = Both (TokenMark (tok.Word word.Class)) (Both name (Both groups (inside_form c)))

begins_methods : (c : ℕ) → Links (methods_form c) Always EndsFields
begins_methods c q us r d f =
    let P : Tokens → Type 0 = λ z. EndsFields (head z) in
    subst P (sym (append_assoc d.front d.back r) ∙ ap (λ z. z ++ r) (sym d.parts))
    (each_turns (method (Some c)) (Is closing) EndsFields (λ m us r d. inl (begins_method (Some c) m us r d))
    (λ o i. inr i) q.0 d.front (d.back ++ r) d.first (begins_mark closing tt d.back r d.second))

unique_methods : (c : ℕ) → Unique (methods_form c) Always
unique_methods c = unique_both (one_by_one (method (Some c))) (TokenMark closing) (Is closing) Always
    (λ x us r d f. begins_mark closing x us r d)
    (unique_each (method (Some c)) (Is closing) Always (λ m us r d. tt) (λ o i. tt)
    (apart_by (method (Some c)) (Is (tok.Word word.Method)) (Is closing)
    (not_both (tok.Word word.Method) closing (λ e. cc)) (begins_method (Some c))) (unique_method (Some c)))
    (unique_mark closing)

unique_inside : (c : ℕ) → Unique (inside_form c) Always
unique_inside c = unique_then (TokenMark (tok.Sign sign.OpenBrace)) (Both (one_by_one field) (methods_form c)) Always
    (unique_mark (tok.Sign sign.OpenBrace))
    (unique_both (one_by_one field) (methods_form c) EndsFields Always (begins_methods c)
    (unique_each field EndsFields Always (λ m us r d. tt) (λ o i. tt)
    (apart_by field IsType EndsFields no_field begins_field) unique_field) (unique_methods c))

inside_isnt : (c : ℕ) → Links (inside_form c) Always (Isnt (tok.Sign sign.Less))
inside_isnt c = links_by (inside_form c) (Is (tok.Sign sign.OpenBrace)) (Isnt (tok.Sign sign.Less))
    (of_other (tok.Sign sign.OpenBrace) (tok.Sign sign.Less) (λ e. cc))
    (begins_both (TokenMark (tok.Sign sign.OpenBrace)) (λ k. Both (one_by_one field) (methods_form c))
    (Is (tok.Sign sign.OpenBrace)) (begins_mark (tok.Sign sign.OpenBrace))) Always

unique_class : (c : ℕ) → Unique (class_form c) Always
unique_class c = unique_then (TokenMark (tok.Word word.Class)) (Both name (Both groups (inside_form c))) Always
    (unique_mark (tok.Word word.Class))
    (unique_then name (Both groups (inside_form c)) Always unique_name
    (unique_both groups (inside_form c) (Isnt (tok.Sign sign.Less)) Always (inside_isnt c) unique_groups
    (unique_inside c)))

-- ---- declarations

pub data DeclarationForm : Type 0 where
  AsClass : DeclarationForm
  AsMethod : DeclarationForm

abbrev pub Parts : DeclarationForm → Type 0
Parts AsClass = ClassParts
Parts AsMethod = Definition

abbrev pub form : ℕ → (t : DeclarationForm) → Lang (Parts t)
form c AsClass q us = class_form c q us
form c AsMethod q us = method None q us

abbrev pub tree : ℕ → (t : DeclarationForm) → Parts t → Declaration
tree m AsClass q = OfClass (record
    { name = q.1.0; groups = q.1.1.0; fields = q.1.1.1.1.0; methods = numbers_from m (length q.1.1.1.1.1.0) })
    q.1.1.1.1.1.0
tree m AsMethod q = OfMethod q

declaration_cases : (c m : ℕ) (y : Declaration) (us : Tokens) → declaration c m y us → (t : DeclarationForm) × (q : Parts t)
    × (y ≡ tree m t q) × form c t q us
declaration_cases c m (OfClass k ms) us d = (
  AsClass,
  (tt, (k.name, (k.groups, (tt, (k.fields, (ms, tt)))))),
  ap (λ (l : List ℕ). OfClass (record { name = k.name; groups = k.groups; fields = k.fields; methods = l }) ms) d.0,
  d.1,
)
declaration_cases c m (OfMethod e) us d = (AsMethod, e, refl, d)

abbrev pub word_form : Keyword → Option DeclarationForm
word_form word.Class = Some AsClass
word_form word.Method = Some AsMethod
word_form _ = None

abbrev pub kind_form : Lexical → Option DeclarationForm
kind_form (tok.Word w) = word_form w
kind_form _ = None

abbrev pub form_of : Option Lexeme → Option DeclarationForm
form_of None = None
form_of (Some t) = kind_form t.kind

form_first : (c : ℕ) (t : DeclarationForm) (q : Parts t) (us r : Tokens) → form c t q us → form_of (head (us ++ r)) ≡ Some t
form_first c AsClass q us r d = of_kind (tok.Word word.Class) (λ o. form_of o ≡ Some AsClass) (λ at. refl)
    (head (us ++ r)) (begins_both (TokenMark (tok.Word word.Class)) (λ k. Both name (Both groups (inside_form c)))
    (Is (tok.Word word.Class)) (begins_mark (tok.Word word.Class)) q us r d)
form_first c AsMethod q us r d = of_kind (tok.Word word.Method) (λ o. form_of o ≡ Some AsMethod) (λ at. refl)
    (head (us ++ r)) (begins_method None q us r d)

unique_form : (c : ℕ) (t : DeclarationForm) → Unique (form c t) Always
unique_form c AsClass = unique_class c
unique_form c AsMethod = unique_method None

unique_declaration : (c m : ℕ) → Unique (declaration c m) Always
unique_declaration c m = unique_choice Parts (form c) (tree m) (declaration c m) Always (declaration_cases c m)
    (by_first Parts (form c) Always form_of (λ t q us r d f. form_first c t q us r d)) (unique_form c)

abbrev pub IsDeclaration : Follow
IsDeclaration o = (t : DeclarationForm) × (form_of o ≡ Some t)

begins_declaration : (c m : ℕ) → Begins (declaration c m) IsDeclaration
begins_declaration c m y us r d = let k = declaration_cases c m y us d in (k.0, form_first c k.0 k.1 us r k.3)

-- tokens before the end stand for one list of declarations at most
pub unique_declarations : (c m : ℕ) → Unique (declarations c m) (Is tok.End)
unique_declarations c m = unique_as (declarations c m) (chain one_of counted (c, m)) (Is tok.End) (λ q. q)
    (λ y us d. (y, refl, to_all c m y us d))
    (unique_chain one_of counted (Is tok.End) Always (λ s x us r d. tt) (λ o i. tt)
    (λ s. apart_by (one_of s) IsDeclaration (Is tok.End) (λ o k i. none_at form_of tok.End (λ at. refl) o k i)
    (begins_declaration s.0 s.1)) (λ s. unique_declaration s.0 s.1) (c, m))

-- ---- programs

abbrev pub ended : Lang (List Declaration × Unit {0})
ended = Both (declarations 0 0) (TokenMark tok.End)

unique_ended : Unique ended Always
unique_ended = unique_both (declarations 0 0) (TokenMark tok.End) (Is tok.End) Always
    (λ x us r d f. begins_mark tok.End x us r d) (unique_declarations 0 0) (unique_mark tok.End)

list_derives : (p : Code) (tokens : List SourceToken) (d : Derives tokens p)
    → ended (d.list, tt) (numbered (names_of tokens) tokens)
list_derives p tokens d = let P : List (List ℕ) → Type 0 =
    λ n. ended (d.list, tt) (numbered n tokens) in subst P d.names d.derives

-- tokens stand for one program at most
pub derives_one : (tokens : List SourceToken) (p q : Code) → Derives tokens p → Derives tokens q → p ≡ q
derives_one tokens p q d e =
    let o = unique_ended (d.list, tt) (e.list, tt) (numbered (names_of tokens) tokens)
    (numbered (names_of tokens) tokens) [] [] (list_derives p tokens d) (list_derives q tokens e) refl tt tt in
    code_is p tokens d ∙ ap (λ (z : List Declaration × Unit {0}). code_of (names_of tokens) z.0) o.0
    ∙ sym (code_is q tokens e)
