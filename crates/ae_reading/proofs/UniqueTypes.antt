-- Tokens stand for one list of groups, one permission and one type at most.
use Rattle.std.proofs.Common.{◌≡◌, ◌++◌, List, [], ◌∷◌, Option, Some, None, refl}
use Rattle.ae_text.specs.declared.refusal.Spot.{Spot}
use Rattle.ae_text.specs.declared.token.Keyword.{Keyword}
use Rattle.ae_text.specs.declared.token.Keyword.TheVariants as word
use Rattle.ae_text.specs.declared.token.Sign.TheVariants as sign
use Rattle.ae_tree.specs.declared.lexeme.Lexeme.{Lexeme}
use Rattle.ae_tree.specs.declared.lexeme.Lexical.{Lexical}
use Rattle.ae_tree.specs.declared.lexeme.Lexical.TheVariants as tok
use Rattle.ae_tree.specs.declared.tree.NameAt.{NameAt}
use Rattle.ae_tree.specs.declared.tree.PermAt.{PermAt}
use Rattle.ae_tree.specs.declared.tree.PermAt.TheVariants as perm_at
use Rattle.ae_tree.specs.declared.tree.KindAt.{KindAt}
use Rattle.ae_tree.specs.declared.tree.KindAt.TheVariants as kind_at
use Rattle.ae_tree.specs.declared.tree.Ty.{Ty}
use Rattle.ae_tree.specs.declared.tree.Ty.TheVariants as ty
use Rattle.ae_tree.specs.Grammar.{Tokens, name, groups, permission, kind, type_}
use Rattle.ae_reading.specs.Reads.{head, Always, Is, Isnt, IsName, Token, TokenMark}
use Rattle.ae_reading.proofs.ReadsLemmas.{Lang, Follow, Both}
use Rattle.ae_reading.proofs.UniqueLemmas.{Unique, apart_by, unique_at, unique_mark, unique_name, unique_then}
use Rattle.ae_reading.proofs.UniqueLemmas.{unique_both, unique_as, unique_always, unique_choice, by_first}
use Rattle.ae_reading.proofs.UniqueLemmas.{unique_optional, unique_some}
use Rattle.ae_reading.proofs.Begins.{Begins, begins_token, begins_mark, begins_name, begins_both, of_kind, of_other}
use Rattle.ae_reading.proofs.Begins.{is_isnt}
use Rattle.ae_reading.proofs.Parts.{optional, Whole}

-- ---- groups

abbrev pub Listed : Type 0
Listed = Unit {0} × ((NameAt × List NameAt) × Unit {0})

abbrev pub angled : Lang Listed
angled = Both (TokenMark (tok.Sign sign.Less)) (Both (Whole name) (TokenMark (tok.Sign sign.Greater)))

abbrev pub groups_of : Option Listed → List NameAt
groups_of None = []
groups_of (Some q) = q.1.0.0 ∷ q.1.0.1

groups_cases : (y : List NameAt) (us : Tokens) → groups y us → (q : Option Listed) × (y ≡ groups_of q)
    × optional angled q us
groups_cases [] us d = (None, refl, d)
groups_cases (g ∷ gs) us d = (Some (tt, ((g, gs), tt)), refl, d)

begins_angled : Begins angled (Is (tok.Sign sign.Less))
begins_angled = begins_both (TokenMark (tok.Sign sign.Less))
    (λ c. Both (Whole name) (TokenMark (tok.Sign sign.Greater))) (Is (tok.Sign sign.Less))
    (begins_mark (tok.Sign sign.Less))

unique_names_closed : Unique (Both (Whole name) (TokenMark (tok.Sign sign.Greater))) Always
unique_names_closed = unique_both (Whole name) (TokenMark (tok.Sign sign.Greater)) (Is (tok.Sign sign.Greater)) Always
    (λ x us r d f. begins_mark (tok.Sign sign.Greater) x us r d)
    (unique_some name (Is (tok.Sign sign.Greater)) Always (λ o i. tt) (λ o i. tt)
    (of_other (tok.Sign sign.Greater) (tok.Sign sign.Comma) (λ e. cc)) unique_name)
    (unique_mark (tok.Sign sign.Greater))

unique_angled : Unique angled Always
unique_angled = unique_then (TokenMark (tok.Sign sign.Less)) (Both (Whole name) (TokenMark (tok.Sign sign.Greater)))
    Always (unique_mark (tok.Sign sign.Less)) unique_names_closed

pub unique_groups : Unique groups (Isnt (tok.Sign sign.Less))
unique_groups = unique_as groups (optional angled) (Isnt (tok.Sign sign.Less)) groups_of groups_cases
    (unique_optional angled (Isnt (tok.Sign sign.Less))
    (apart_by angled (Is (tok.Sign sign.Less)) (Isnt (tok.Sign sign.Less))
    (is_isnt (tok.Sign sign.Less)) begins_angled)
    (unique_always angled (Isnt (tok.Sign sign.Less)) unique_angled))

-- ---- permissions

pub data Permission : Type 0 where
  OfUnique : Permission
  OfImmutable : Permission
  OfLent : Permission
  OfShared : Permission

abbrev pub Sharing : Type 0
Sharing = Spot × (Unit {0} × (NameAt × Unit {0}))

abbrev pub PermissionParts : Permission → Type 0
PermissionParts OfUnique = Spot
PermissionParts OfImmutable = Spot
PermissionParts OfLent = Spot
PermissionParts OfShared = Sharing

abbrev pub group_named : Lang (Unit {0} × (NameAt × Unit {0}))
group_named = Both (TokenMark (tok.Sign sign.Less)) (Both name (TokenMark (tok.Sign sign.Greater)))

abbrev pub permission_form : (t : Permission) → Lang (PermissionParts t)
permission_form OfUnique q us = Token (tok.Word word.Unique) q us
permission_form OfImmutable q us = Token (tok.Word word.Immutable) q us
permission_form OfLent q us = Token (tok.Word word.Lent) q us
permission_form OfShared q us = Both (Token (tok.Word word.Shared)) group_named q us

abbrev pub permission_tree : (t : Permission) → PermissionParts t → PermAt
permission_tree OfUnique q = perm_at.Unique q
permission_tree OfImmutable q = perm_at.Immutable q
permission_tree OfLent q = perm_at.Lent q
permission_tree OfShared q = perm_at.Shared q.0 q.1.1.0

permission_cases : (y : PermAt) (us : Tokens) → permission y us → (t : Permission) × (q : PermissionParts t)
    × (y ≡ permission_tree t q) × permission_form t q us
permission_cases (perm_at.Unique at) us d = (OfUnique, at, refl, d)
permission_cases (perm_at.Immutable at) us d = (OfImmutable, at, refl, d)
permission_cases (perm_at.Lent at) us d = (OfLent, at, refl, d)
permission_cases (perm_at.Shared at g) us d = (OfShared, (at, (tt, (g, tt))), refl, d)

abbrev pub word_permission : Keyword → Option Permission
word_permission word.Unique = Some OfUnique
word_permission word.Immutable = Some OfImmutable
word_permission word.Lent = Some OfLent
word_permission word.Shared = Some OfShared
word_permission _ = None

abbrev pub kind_permission : Lexical → Option Permission
kind_permission (tok.Word w) = word_permission w
kind_permission _ = None

-- the permission that begins with this token
abbrev pub permission_at : Option Lexeme → Option Permission
permission_at None = None
permission_at (Some t) = kind_permission t.kind

permission_is : (k : Lexical) (t : Permission) → kind_permission k ≡ Some t → (o : Option Lexeme) → Is k o
    → permission_at o ≡ Some t
permission_is k t e = of_kind k (λ o. permission_at o ≡ Some t) (λ at. e)

permission_first : (t : Permission) (q : PermissionParts t) (us r : Tokens) → permission_form t q us
    → permission_at (head (us ++ r)) ≡ Some t
permission_first OfUnique q us r d = permission_is (tok.Word word.Unique) OfUnique refl (head (us ++ r))
    (begins_token (tok.Word word.Unique) q us r d)
permission_first OfImmutable q us r d = permission_is (tok.Word word.Immutable) OfImmutable refl (head (us ++ r))
    (begins_token (tok.Word word.Immutable) q us r d)
permission_first OfLent q us r d = permission_is (tok.Word word.Lent) OfLent refl (head (us ++ r))
    (begins_token (tok.Word word.Lent) q us r d)
permission_first OfShared q us r d = permission_is (tok.Word word.Shared) OfShared refl (head (us ++ r))
    (begins_both (Token (tok.Word word.Shared)) (λ c. group_named) (Is (tok.Word word.Shared))
    (begins_token (tok.Word word.Shared)) q us r d)

unique_permission_form : (t : Permission) → Unique (permission_form t) Always
unique_permission_form OfUnique = unique_at (tok.Word word.Unique)
unique_permission_form OfImmutable = unique_at (tok.Word word.Immutable)
unique_permission_form OfLent = unique_at (tok.Word word.Lent)
unique_permission_form OfShared = unique_then (Token (tok.Word word.Shared)) group_named Always
    (unique_at (tok.Word word.Shared))
    (unique_then (TokenMark (tok.Sign sign.Less)) (Both name (TokenMark (tok.Sign sign.Greater))) Always
    (unique_mark (tok.Sign sign.Less))
    (unique_then name (TokenMark (tok.Sign sign.Greater)) Always unique_name
    (unique_mark (tok.Sign sign.Greater))))

pub unique_permission : Unique permission Always
unique_permission = unique_choice PermissionParts permission_form permission_tree permission Always permission_cases
    (by_first PermissionParts permission_form Always permission_at (λ t q us r d f. permission_first t q us r
    d)) unique_permission_form

-- a permission begins here
abbrev pub IsPermission : Follow
IsPermission o = (t : Permission) × (permission_at o ≡ Some t)

pub begins_permission : Begins permission IsPermission
begins_permission y us r d = let c = permission_cases y us d in (c.0, permission_first c.0 c.1 us r c.3)

-- ---- kinds of objects

pub data Kind : Type 0 where
  OfInts : Kind
  OfClass : Kind

abbrev pub KindParts : Kind → Type 0
KindParts OfInts = Spot
KindParts OfClass = NameAt × List NameAt

abbrev pub kind_form : (t : Kind) → Lang (KindParts t)
kind_form OfInts q us = Token (tok.Word word.Ints) q us
kind_form OfClass q us = Both name groups q us

abbrev pub kind_tree : (t : Kind) → KindParts t → KindAt
kind_tree OfInts q = kind_at.Ints q
kind_tree OfClass q = kind_at.Class q.0 q.1

kind_cases : (y : KindAt) (us : Tokens) → kind y us → (t : Kind) × (q : KindParts t) × (y ≡ kind_tree t q)
    × kind_form t q us
kind_cases (kind_at.Ints at) us d = (OfInts, at, refl, d)
kind_cases (kind_at.Class c gs) us d = (OfClass, (c, gs), refl, d)

abbrev pub lexical_kind : Lexical → Option Kind
lexical_kind (tok.Name n) = Some OfClass
lexical_kind (tok.Word word.Ints) = Some OfInts
lexical_kind _ = None

abbrev pub kind_of_token : Option Lexeme → Option Kind
kind_of_token None = None
kind_of_token (Some t) = lexical_kind t.kind

kind_named : (o : Option Lexeme) → IsName o → kind_of_token o ≡ Some OfClass
kind_named None i = absurd i
kind_named (Some t) i = of_kind (tok.Name i.0) (λ o. kind_of_token o ≡ Some OfClass) (λ at. refl) (Some t) i.1

kind_first : (t : Kind) (q : KindParts t) (us r : Tokens) → kind_form t q us → kind_of_token (head (us ++ r)) ≡ Some t
kind_first OfInts q us r d = of_kind (tok.Word word.Ints) (λ o. kind_of_token o ≡ Some OfInts) (λ at. refl)
    (head (us ++ r)) (begins_token (tok.Word word.Ints) q us r d)
kind_first OfClass q us r d = kind_named (head (us ++ r)) (begins_both name (λ c. groups) IsName begins_name q us r d)

-- a kind of object begins here
abbrev pub IsKind : Follow
IsKind o = (t : Kind) × (kind_of_token o ≡ Some t)

pub begins_kind : Begins kind IsKind
begins_kind y us r d = let c = kind_cases y us d in (c.0, kind_first c.0 c.1 us r c.3)

unique_kind_form : (t : Kind) → Unique (kind_form t) (Isnt (tok.Sign sign.Less))
unique_kind_form OfInts = unique_always (kind_form OfInts) (Isnt (tok.Sign sign.Less)) (unique_at (tok.Word word.Ints))
unique_kind_form OfClass = unique_then name groups (Isnt (tok.Sign sign.Less)) unique_name unique_groups

pub unique_kind : Unique kind (Isnt (tok.Sign sign.Less))
unique_kind = unique_choice KindParts kind_form kind_tree kind (Isnt (tok.Sign sign.Less)) kind_cases
    (by_first KindParts kind_form (Isnt (tok.Sign sign.Less)) kind_of_token (λ t q us r d f. kind_first t q us r
    d)) unique_kind_form

-- ---- types

pub data TypeForm : Type 0 where
  OfInt : TypeForm
  OfBool : TypeForm
  OfObject : TypeForm

abbrev pub TypeParts : TypeForm → Type 0
TypeParts OfInt = Spot
TypeParts OfBool = Spot
TypeParts OfObject = PermAt × KindAt

abbrev pub type_form : (t : TypeForm) → Lang (TypeParts t)
type_form OfInt q us = Token (tok.Word word.Int) q us
type_form OfBool q us = Token (tok.Word word.Bool) q us
type_form OfObject q us = Both permission kind q us

abbrev pub type_tree : (t : TypeForm) → TypeParts t → Ty
type_tree OfInt q = ty.Int q
type_tree OfBool q = ty.Bool q
type_tree OfObject q = ty.Object q.0 q.1

type_cases : (y : Ty) (us : Tokens) → type_ y us → (t : TypeForm) × (q : TypeParts t) × (y ≡ type_tree t q)
    × type_form t q us
type_cases (ty.Int at) us d = (OfInt, at, refl, d)
type_cases (ty.Bool at) us d = (OfBool, at, refl, d)
type_cases (ty.Object p k) us d = (OfObject, (p, k), refl, d)

abbrev pub word_type : Keyword → Option TypeForm
word_type word.Int = Some OfInt
word_type word.Bool = Some OfBool
word_type word.Unique = Some OfObject
word_type word.Immutable = Some OfObject
word_type word.Lent = Some OfObject
word_type word.Shared = Some OfObject
word_type _ = None

abbrev pub kind_type : Lexical → Option TypeForm
kind_type (tok.Word w) = word_type w
kind_type _ = None

-- the form of a type that begins with this token
abbrev pub type_at : Option Lexeme → Option TypeForm
type_at None = None
type_at (Some t) = kind_type t.kind

word_object : (w : Keyword) (p : Permission) → word_permission w ≡ Some p → word_type w ≡ Some OfObject
word_object word.Unique p e = refl
word_object word.Immutable p e = refl
word_object word.Lent p e = refl
word_object word.Shared p e = refl
word_object _ p e = cc

kind_object : (k : Lexical) (p : Permission) → kind_permission k ≡ Some p → kind_type k ≡ Some OfObject
kind_object (tok.Word w) p e = word_object w p e
kind_object _ p e = cc

object_at : (o : Option Lexeme) → IsPermission o → type_at o ≡ Some OfObject
object_at None i = let h : None ≡ Some i.0 = i.1 in cc
object_at (Some t) i = kind_object t.kind i.0 i.1

type_is : (k : Lexical) (t : TypeForm) → kind_type k ≡ Some t → (o : Option Lexeme) → Is k o → type_at o ≡ Some t
type_is k t e = of_kind k (λ o. type_at o ≡ Some t) (λ at. e)

type_first : (t : TypeForm) (q : TypeParts t) (us r : Tokens) → type_form t q us → type_at (head (us ++ r)) ≡ Some t
type_first OfInt q us r d = type_is (tok.Word word.Int) OfInt refl (head (us ++ r))
    (begins_token (tok.Word word.Int) q us r d)
type_first OfBool q us r d = type_is (tok.Word word.Bool) OfBool refl (head (us ++ r))
    (begins_token (tok.Word word.Bool) q us r d)
type_first OfObject q us r d = object_at (head (us ++ r))
    (begins_both permission (λ c. kind) IsPermission begins_permission q us r d)

-- a type begins here
abbrev pub IsType : Follow
IsType o = (t : TypeForm) × (type_at o ≡ Some t)

pub begins_type : Begins type_ IsType
begins_type y us r d = let c = type_cases y us d in (c.0, type_first c.0 c.1 us r c.3)

unique_type_form : (t : TypeForm) → Unique (type_form t) (Isnt (tok.Sign sign.Less))
unique_type_form OfInt = unique_always (type_form OfInt) (Isnt (tok.Sign sign.Less)) (unique_at (tok.Word word.Int))
unique_type_form OfBool = unique_always (type_form OfBool) (Isnt (tok.Sign sign.Less)) (unique_at (tok.Word word.Bool))
unique_type_form OfObject = unique_then permission kind (Isnt (tok.Sign sign.Less)) unique_permission unique_kind

pub unique_type : Unique type_ (Isnt (tok.Sign sign.Less))
unique_type = unique_choice TypeParts type_form type_tree type_ (Isnt (tok.Sign sign.Less)) type_cases
    (by_first TypeParts type_form (Isnt (tok.Sign sign.Less)) type_at (λ t q us r d f. type_first t q us r
    d)) unique_type_form
