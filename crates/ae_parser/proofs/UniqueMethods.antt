-- Tokens stand for one method at most.
use Rattle.std.proofs.Common.{◌≡◌, ℕ, ◌++◌, List, [], ◌∷◌, Option, Some, None, refl, sym, ap, ◌∙◌, append_assoc, subst}
use Rattle.ae_text.specs.declared.refusal.Spot.{Spot}
use Rattle.ae_text.specs.declared.token.Keyword.TheVariants as word
use Rattle.ae_text.specs.declared.token.Sign.TheVariants as sign
use Rattle.ae_tree.specs.declared.lexeme.Lexeme.{Lexeme}
use Rattle.ae_tree.specs.declared.lexeme.Lexical.{Lexical}
use Rattle.ae_tree.specs.declared.lexeme.Lexical.TheVariants as tok
use Rattle.ae_tree.specs.declared.tree.NameAt.{NameAt}
use Rattle.ae_tree.specs.declared.tree.PermAt.{PermAt}
use Rattle.ae_tree.specs.declared.tree.Ty.{Ty}
use Rattle.ae_tree.specs.declared.tree.Ty.TheVariants as ty
use Rattle.ae_tree.specs.declared.tree.Me.{Me}
use Rattle.ae_tree.specs.declared.tree.Param.{Param}
use Rattle.ae_tree.specs.declared.tree.Need.{Need}
use Rattle.ae_tree.specs.declared.tree.Need.TheVariants as need_of
use Rattle.ae_tree.specs.declared.tree.GroupNeed.{GroupNeed}
use Rattle.ae_tree.specs.Plain.{Lines, Definition}
use Rattle.ae_tree.specs.Grammar.{Tokens, a_word, one_by_one, further, name, groups, permission, type_, result, away}
use Rattle.ae_tree.specs.Grammar.{param, me, parameters, need_word, need, needs, method_body, method}
use Rattle.ae_reading.specs.Reads.{head, Always, Is, Isnt, IsName, Token, TokenMark}
use Rattle.ae_parser.proofs.from_reading.ReadsLemmas.{Lang, Follow, Both, Links}
use Rattle.ae_parser.proofs.from_reading.UniqueLemmas.{Unique, apart_by, none_at, unique_at, unique_mark}
use Rattle.ae_parser.proofs.from_reading.UniqueLemmas.{unique_name, unique_then, unique_both, unique_as}
use Rattle.ae_parser.proofs.from_reading.UniqueLemmas.{unique_always, unique_optional, unique_furthers, unique_some}
use Rattle.ae_parser.proofs.from_reading.Begins.{Begins, begins_token, begins_mark, begins_name, begins_both}
use Rattle.ae_parser.proofs.from_reading.Begins.{of_other, of_name, links_by, is_isnt, not_both}
use Rattle.ae_parser.proofs.from_reading.Parts.{optional, Whole, begins_further}
use Rattle.ae_parser.proofs.from_reading.Runs.{each_turns}
use Rattle.ae_parser.proofs.from_reading.Programs.{method_is}
use Rattle.ae_parser.proofs.from_reading.UniqueTypes.{IsPermission, IsKind, IsType, permission_at, kind_of_token}
use Rattle.ae_parser.proofs.from_reading.UniqueTypes.{type_at, begins_permission, begins_kind, begins_type}
use Rattle.ae_parser.proofs.from_reading.UniqueTypes.{unique_permission, unique_groups, unique_type}
use Rattle.ae_parser.proofs.from_statements.UniqueStatements.{unique_body}

abbrev pub away_sign : Lexical
away_sign = tok.Sign sign.Away

abbrev pub closing : Lexical
closing = tok.Sign sign.CloseParen

-- ---- results

void_or_type : (t : Ty) (us vs r s : Tokens) → a_word word.Void us → type_ t vs → us ++ r ≡ vs ++ s → ⊥
void_or_type t us vs r s d e same =
    let P : Tokens → Type 0 = λ z. Is (tok.Word word.Void) (head z) in
    none_at type_at (tok.Word word.Void) (λ at. refl) (head (vs ++ s)) (begins_type t vs s e)
    (subst P same (begins_mark (tok.Word word.Void) tt us r d))

unique_result : Unique result (Isnt (tok.Sign sign.Less))
unique_result None None us vs r s d e same t u = let o = unique_mark (tok.Word word.Void) tt tt us vs r s d e same tt
    tt in (refl, o.1)
unique_result None (Some y) us vs r s d e same t u = absurd (void_or_type y us vs r s d e same)
unique_result (Some x) None us vs r s d e same t u = absurd (void_or_type x vs us s r e d (sym same))
unique_result (Some x) (Some y) us vs r s d e same t u = let o =
    unique_type x y us vs r s d e same t u in (ap (λ (z : Ty). Some z) o.0, o.1)

-- ---- parameters

abbrev pub sent : Lang (Spot × Unit {0})
sent = Both (Token away_sign) (TokenMark (tok.Word word.None))

abbrev pub away_of : Option (Spot × Unit {0}) → Option Spot
away_of None = None
away_of (Some q) = Some q.0

away_cases : (y : Option Spot) (us : Tokens) → away y us → (q : Option (Spot × Unit {0})) × (y ≡ away_of q)
    × optional sent q us
away_cases None us d = (None, refl, d)
away_cases (Some at) us d = (Some (at, tt), refl, d)

unique_away : Unique away (Isnt (tok.Sign sign.Away))
unique_away = unique_as away (optional sent) (Isnt away_sign) away_of away_cases
    (unique_optional sent (Isnt away_sign)
    (apart_by sent (Is away_sign) (Isnt away_sign) (is_isnt away_sign)
    (begins_both (Token away_sign) (λ c. TokenMark (tok.Word word.None)) (Is away_sign) (begins_token away_sign)))
    (unique_always sent (Isnt away_sign)
    (unique_then (Token away_sign) (TokenMark (tok.Word word.None)) Always (unique_at away_sign)
    (unique_mark (tok.Word word.None)))))

name_isnt : (k : Lexical) → ((n : ℕ) → tok.Name n ≡ k → ⊥) → (G : Follow) → {B : Type 0} → (E : Lang B)
    → Links (Both name E) G (Isnt k)
name_isnt k other G E = links_by (Both name E) IsName (Isnt k) (of_name k other)
    (begins_both name (λ c. E) IsName begins_name) G

abbrev pub ParamParts : Type 0
ParamParts = Ty × (NameAt × Option Spot)

abbrev pub param_form : Lang ParamParts
param_form = Both type_ (Both name away)

unique_param : Unique param (Isnt (tok.Sign sign.Away))
unique_param = unique_as param param_form (Isnt away_sign) (λ q. record { ty = q.0; name = q.1.0; away = q.1.1 })
    (λ y us d. ((y.ty, (y.name, y.away)), refl, d))
    (unique_both type_ (Both name away) (Isnt (tok.Sign sign.Less)) (Isnt away_sign)
    (name_isnt (tok.Sign sign.Less) (λ n e. cc) (Isnt away_sign) away) unique_type
    (unique_then name away (Isnt away_sign) unique_name unique_away))

begins_param : Begins param IsType
begins_param p us r d = begins_both type_ (λ c. Both name away) IsType begins_type (p.ty, (p.name, p.away)) us r d

abbrev pub MeParts : Type 0
MeParts = PermAt × (Spot × Option Spot)

abbrev pub me_form : Lang MeParts
me_form = Both permission (Both (Token (tok.Word word.This)) away)

unique_me : Unique me (Isnt (tok.Sign sign.Away))
unique_me = unique_as me me_form (Isnt away_sign) (λ q. record { perm = q.0; at = q.1.0; away = q.1.1 })
    (λ y us d. ((y.perm, (y.at, y.away)), refl, d))
    (unique_then permission (Both (Token (tok.Word word.This)) away) (Isnt away_sign) unique_permission
    (unique_then (Token (tok.Word word.This)) away (Isnt away_sign) (unique_at (tok.Word word.This)) unique_away))

begins_me : Begins me IsPermission
begins_me m us r d = begins_both permission (λ c. Both (Token (tok.Word word.This)) away) IsPermission
    begins_permission (m.perm, (m.at, m.away)) us r d

-- no parameter, one and others, or a receiver and others
pub data Params : Type 0 where
  Nobody : Params
  First : Param → List Param → Params
  Receiver : Me → List Param → Params

abbrev pub params : Lang Params
params Nobody us = us ≡ []
params (First p ps) us = Whole param (p, ps) us
params (Receiver m ps) us = Both me (one_by_one (further param)) (m, ps) us

abbrev pub params_tree : Params → Option Me × List Param
params_tree Nobody = (None, [])
params_tree (First p ps) = (None, p ∷ ps)
params_tree (Receiver m ps) = (Some m, ps)

abbrev pub params_of : Lang (Option Me × List Param)
params_of q = parameters q.0 q.1

params_cases : (m : Option Me) (ps : List Param) (us : Tokens) → parameters m ps us
    → (q : Params) × ((m, ps) ≡ params_tree q) × params q us
params_cases None [] us d = (Nobody, refl, d)
params_cases None (p ∷ ps) us d = (First p ps, refl, d)
params_cases (Some m) ps us d = (Receiver m ps, refl, d)

comma_no_away : (o : Option Lexeme) → Is (tok.Sign sign.Comma) o → Isnt (tok.Sign sign.Away) o
comma_no_away = of_other (tok.Sign sign.Comma) away_sign (λ e. cc)

closing_no_away : (o : Option Lexeme) → Is (tok.Sign sign.CloseParen) o → Isnt (tok.Sign sign.Away) o
closing_no_away = of_other closing away_sign (λ e. cc)

closing_no_comma : (o : Option Lexeme) → Is (tok.Sign sign.CloseParen) o → Isnt (tok.Sign sign.Comma) o
closing_no_comma = of_other closing (tok.Sign sign.Comma) (λ e. cc)

unique_first : Unique (Whole param) (Is (tok.Sign sign.CloseParen))
unique_first = unique_some param (Is closing) (Isnt away_sign) comma_no_away closing_no_away closing_no_comma
    unique_param

unique_receiver : Unique (Both me (one_by_one (further param))) (Is (tok.Sign sign.CloseParen))
unique_receiver = unique_both me (one_by_one (further param)) (Isnt away_sign) (Is closing)
    (each_turns (further param) (Is closing) (Isnt away_sign)
    (λ p us r d. comma_no_away (head (us ++ r)) (begins_further param p us r d)) closing_no_away) unique_me
    (unique_furthers param (Is closing) (Isnt away_sign) comma_no_away closing_no_away closing_no_comma unique_param)

begins_first : Begins (Whole param) IsType
begins_first = begins_both param (λ c. one_by_one (further param)) IsType begins_param

begins_receiver : Begins (Both me (one_by_one (further param))) IsPermission
begins_receiver = begins_both me (λ c. one_by_one (further param)) IsPermission begins_me

nobody_here : (us vs r s : Tokens) (F : Follow) → us ≡ [] → us ++ r ≡ vs ++ s → F (head r) → F (head (vs ++ s))
nobody_here us vs r s F d same f = let P : Tokens → Type 0 =
    λ z. F (head z) in subst P (sym (ap (λ z. z ++ r) d) ∙ same) f

-- a type and a permission before `this` are apart
type_or_permission : (t : Ty) (p : PermAt) (us vs r s : Tokens) → type_ t us → permission p vs → us ++ r ≡ vs ++ s
    → Is (tok.Word word.This) (head s) → ⊥
type_or_permission (ty.Int at) p us vs r s d e same i =
    let P : Tokens → Type 0 = λ z. Is (tok.Word word.Int) (head z) in
    none_at permission_at (tok.Word word.Int) (λ at. refl) (head (vs ++ s)) (begins_permission p vs s e)
    (subst P same (begins_token (tok.Word word.Int) at us r d))
type_or_permission (ty.Bool at) p us vs r s d e same i =
    let P : Tokens → Type 0 = λ z. Is (tok.Word word.Bool) (head z) in
    none_at permission_at (tok.Word word.Bool) (λ at. refl) (head (vs ++ s)) (begins_permission p vs s e)
    (subst P same (begins_token (tok.Word word.Bool) at us r d))
type_or_permission (ty.Object q k) p us vs r s d e same i =
    let P : Tokens → Type 0 = λ z. IsKind (head z) in
    let all : d.front ++ (d.back ++ r) ≡ vs ++ s = sym (append_assoc d.front d.back r)
    ∙ ap (λ z. z ++ r) (sym d.parts) ∙ same in
    let o = unique_permission q p d.front vs (d.back ++ r) s d.first e all tt tt in
    none_at kind_of_token (tok.Word word.This) (λ at. refl) (head s) (subst P o.1 (begins_kind k d.back r d.second)) i

first_or_receiver : (p : Param) (ps qs : List Param) (m : Me) (us vs r s : Tokens) → Whole param (p, ps) us
    → Both me (one_by_one (further param)) (m, qs) vs → us ++ r ≡ vs ++ s → ⊥
first_or_receiver p ps qs m us vs r s d e same =
    let a = d.first in
    let b = e.first in
    let left : us ++ r ≡ a.front ++ ((a.back ++ d.back) ++ r) = ap (λ z. z ++ r)
    (d.parts ∙ ap (λ z. z ++ d.back) a.parts ∙ append_assoc a.front a.back d.back)
    ∙ append_assoc a.front (a.back ++ d.back) r in
    let right : vs ++ s ≡ b.front ++ ((b.back ++ e.back) ++ s) = ap (λ z. z ++ s)
    (e.parts ∙ ap (λ z. z ++ e.back) b.parts ∙ append_assoc b.front b.back e.back)
    ∙ append_assoc b.front (b.back ++ e.back) s in
    let this_next : Is (tok.Word word.This) (head (b.back ++ (e.back ++ s))) = begins_both
    (Token (tok.Word word.This)) (λ c. away) (Is (tok.Word word.This)) (begins_token (tok.Word word.This))
    (m.at, m.away) b.back (e.back ++ s) b.second in
    let P : Tokens → Type 0 = λ z. Is (tok.Word word.This) (head z)
    in type_or_permission p.ty m.perm a.front b.front ((a.back ++ d.back) ++ r) ((b.back ++ e.back) ++ s) a.first b.first
    (sym left ∙ same ∙ right) (subst P (sym (append_assoc b.back e.back s)) this_next)

unique_params : Unique params (Is (tok.Sign sign.CloseParen))
unique_params Nobody Nobody us vs r s d e same t u = (refl, sym (ap (λ z. z ++ r) d) ∙ same ∙ ap (λ z. z ++ s) e)
unique_params Nobody (First p ps) us vs r s d e same t u =
    absurd (none_at type_at closing (λ at. refl) (head (vs ++ s)) (begins_first (p, ps) vs s e)
    (nobody_here us vs r s (Is closing) d same t))
unique_params Nobody (Receiver m ps) us vs r s d e same t u =
    absurd (none_at permission_at closing (λ at. refl) (head (vs ++ s)) (begins_receiver (m, ps) vs s e)
    (nobody_here us vs r s (Is closing) d same t))
unique_params (First p ps) Nobody us vs r s d e same t u =
    absurd (none_at type_at closing (λ at. refl) (head (us ++ r)) (begins_first (p, ps) us r d)
    (nobody_here vs us s r (Is closing) e (sym same) u))
unique_params (First p ps) (First q qs) us vs r s d e same t u = let o = unique_first (p, ps)
    (q, qs) us vs r s d e same t u in (ap (λ (z : Param × List Param). First z.0 z.1) o.0, o.1)
unique_params (First p ps) (Receiver m qs) us vs r s d e same t u =
    absurd (first_or_receiver p ps qs m us vs r s d e same)
unique_params (Receiver m ps) Nobody us vs r s d e same t u =
    absurd (none_at permission_at closing (λ at. refl) (head (us ++ r)) (begins_receiver (m, ps) us r d)
    (nobody_here vs us s r (Is closing) e (sym same) u))
unique_params (Receiver m ps) (First q qs) us vs r s d e same t u =
    absurd (first_or_receiver q qs ps m vs us s r e d (sym same))
unique_params (Receiver m ps) (Receiver n qs) us vs r s d e same t u = let o = unique_receiver (m, ps)
    (n, qs) us vs r s d e same t u in (ap (λ (z : Me × List Param). Receiver z.0 z.1) o.0, o.1)

unique_parameters : Unique (λ (q : Option Me × List Param). parameters q.0 q.1) (Is (tok.Sign sign.CloseParen))
unique_parameters = unique_as params_of params (Is closing) params_tree (λ y us d. params_cases y.0 y.1 us
    d) unique_params

-- ---- needs

same_need : (a b : Need) → tok.Word (need_word a) ≡ tok.Word (need_word b) → a ≡ b
same_need need_of.Exclusive need_of.Exclusive e = refl
same_need need_of.Exclusive need_of.Shared e = cc
same_need need_of.Exclusive need_of.Protected e = cc
same_need need_of.Shared need_of.Exclusive e = cc
same_need need_of.Shared need_of.Shared e = refl
same_need need_of.Shared need_of.Protected e = cc
same_need need_of.Protected need_of.Exclusive e = cc
same_need need_of.Protected need_of.Shared e = cc
same_need need_of.Protected need_of.Protected e = refl

abbrev pub strength : Lang Need
strength n = a_word (need_word n)

unique_strength : Unique strength Always
unique_strength x y us vs r s d e same t u =
    let a : Lexeme = record { kind = tok.Word (need_word x); at = d.0 } in
    let b : Lexeme = record { kind = tok.Word (need_word y); at = e.0 } in
    let all : a ∷ r ≡ b ∷ s = sym (ap (λ z. z ++ r) d.1) ∙ same ∙ ap (λ z. z ++ s) e.1 in
    let heads : a ≡ b = cc in
    (same_need x y (ap (λ (z : Lexeme). z.kind) heads), cc)

unique_need : Unique need Always
unique_need = unique_as need (Both strength name) Always (λ q. record { need = q.0; group = q.1 })
    (λ y us d. ((y.need, y.group), refl, d)) (unique_then strength name Always unique_strength unique_name)

abbrev pub Needed : Type 0
Needed = Unit {0} × (GroupNeed × List GroupNeed)

abbrev pub needed : Lang Needed
needed = Both (TokenMark (tok.Word word.With)) (Whole need)

abbrev pub needs_of : Option Needed → List GroupNeed
needs_of None = []
needs_of (Some q) = q.1.0 ∷ q.1.1

needs_cases : (y : List GroupNeed) (us : Tokens) → needs y us → (q : Option Needed) × (y ≡ needs_of q)
    × optional needed q us
needs_cases [] us d = (None, refl, d)
needs_cases (n ∷ ns) us d = (Some (tt, (n, ns)), refl, d)

abbrev pub brace : Lexical
brace = tok.Sign sign.OpenBrace

unique_needs : Unique needs (Is (tok.Sign sign.OpenBrace))
unique_needs = unique_as needs (optional needed) (Is brace) needs_of needs_cases
    (unique_optional needed (Is brace)
    (apart_by needed (Is (tok.Word word.With)) (Is brace) (not_both (tok.Word word.With) brace (λ e. cc))
    (begins_both (TokenMark (tok.Word word.With)) (λ c. Whole need) (Is (tok.Word word.With))
    (begins_mark (tok.Word word.With))))
    (unique_then (TokenMark (tok.Word word.With)) (Whole need) (Is brace) (unique_mark (tok.Word word.With))
    (unique_some need (Is brace) Always (λ o i. tt) (λ o i. tt) (of_other brace (tok.Sign sign.Comma) (λ e.
    cc)) unique_need)))

-- ---- methods

begins_body : Begins method_body (Is (tok.Sign sign.OpenBrace))
begins_body b us r d =
    let q = d.3 in
    let P : Tokens → Type 0 = λ z. Is brace (head z) in
    subst P (sym (append_assoc q.front q.back r) ∙ ap (λ z. z ++ r) (sym q.parts))
    (begins_mark brace tt q.front (q.back ++ r) q.first)

abbrev pub Ending : Type 0
Ending = List GroupNeed × Lines

abbrev pub Listed : Type 0
Listed = Unit {0} × ((Option Me × List Param) × (Unit {0} × Ending))

abbrev pub MethodParts : Type 0
MethodParts = Unit {0} × (Option Ty × (NameAt × (List NameAt × Listed)))

abbrev pub ending : Lang Ending
ending = Both needs method_body

abbrev pub listing : Lang Listed
listing = Both (TokenMark (tok.Sign sign.OpenParen)) (Both params_of (Both (TokenMark closing) ending))

abbrev pub method_form : Lang MethodParts
method_form = Both (TokenMark (tok.Word word.Method)) (Both result (Both name (Both groups listing)))

unique_ending : Unique ending Always
unique_ending = unique_both needs method_body (Is brace) Always
    (links_by method_body (Is brace) (Is brace) (λ o i. i) begins_body Always) unique_needs unique_body

unique_listing : Unique listing Always
unique_listing = unique_then (TokenMark (tok.Sign sign.OpenParen)) (Both params_of (Both (TokenMark closing) ending))
    Always (unique_mark (tok.Sign sign.OpenParen))
    (unique_both params_of (Both (TokenMark closing) ending) (Is closing) Always
    (links_by (Both (TokenMark closing) ending) (Is closing) (Is closing) (λ o i. i)
    (begins_both (TokenMark closing) (λ c. ending) (Is closing) (begins_mark closing)) Always) unique_parameters
    (unique_then (TokenMark closing) ending Always (unique_mark closing) unique_ending))

listing_isnt : (k : Lexical) → (tok.Sign sign.OpenParen ≡ k → ⊥) → Links listing Always (Isnt k)
listing_isnt k other = links_by listing (Is (tok.Sign sign.OpenParen)) (Isnt k)
    (of_other (tok.Sign sign.OpenParen) k other)
    (begins_both (TokenMark (tok.Sign sign.OpenParen)) (λ c. Both params_of (Both (TokenMark closing) ending))
    (Is (tok.Sign sign.OpenParen)) (begins_mark (tok.Sign sign.OpenParen))) Always

unique_method_form : Unique method_form Always
unique_method_form = unique_then (TokenMark (tok.Word word.Method)) (Both result (Both name (Both groups listing)))
    Always (unique_mark (tok.Word word.Method))
    (unique_both result (Both name (Both groups listing)) (Isnt (tok.Sign sign.Less)) Always
    (name_isnt (tok.Sign sign.Less) (λ n e. cc) Always (Both groups listing)) unique_result
    (unique_then name (Both groups listing) Always unique_name
    (unique_both groups listing (Isnt (tok.Sign sign.Less)) Always (listing_isnt (tok.Sign sign.Less) (λ e. cc))
    unique_groups unique_listing)))

abbrev pub method_tree : Option ℕ → MethodParts → Definition
method_tree c q = record {
  class = c;
  result = q.1.0;
  name = q.1.1.0;
  groups = q.1.1.1.0;
  me = q.1.1.1.1.1.0.0;
  params = q.1.1.1.1.1.0.1;
  needs = q.1.1.1.1.1.1.1.0;
  no = 0;
  body = q.1.1.1.1.1.1.1.1;
}

method_cases : (c : Option ℕ) (m : Definition) (us : Tokens) → method c m us
    → (q : MethodParts) × (m ≡ method_tree c q) × method_form q us
method_cases c m us d = (
  (tt, (m.result, (m.name, (m.groups, (tt, ((m.me, m.params), (tt, (m.needs, m.body)))))))),
  method_is c m d.0 d.1,
  d.2,
)

-- tokens stand for one method at most
pub unique_method : (c : Option ℕ) → Unique (method c) Always
unique_method c = unique_as (method c) method_form Always (method_tree c) (method_cases c) unique_method_form

pub begins_method : (c : Option ℕ) → Begins (method c) (Is (tok.Word word.Method))
begins_method c m us r d = let k = method_cases c m us d in begins_both (TokenMark (tok.Word word.Method))
    (λ p. Both result (Both name (Both groups listing))) (Is (tok.Word word.Method))
    (begins_mark (tok.Word word.Method)) k.0 us r k.2
