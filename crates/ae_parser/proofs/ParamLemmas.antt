-- What a method is given: how each production is read.
use Rattle.std.proofs.Common.{◌≡◌, inl, inr, ℕ, ◌<◌, ◌≤◌, ◌++◌, List, [], ◌∷◌, length, Option, Some, None, refl, sym}
use Rattle.std.proofs.Common.{ap, ◌∙◌, append_assoc, append-nil, subst, arith, length-append}
use Rattle.ae_tree.specs.Limits.{rank}
use Rattle.ae_text.specs.declared.refusal.Spot.{Spot}
use Rattle.ae_text.specs.declared.token.Keyword.TheVariants as word
use Rattle.ae_text.specs.declared.token.Sign.TheVariants as sign
use Rattle.ae_tree.specs.declared.lexeme.Lexeme.{Lexeme}
use Rattle.ae_tree.specs.declared.lexeme.Lexical.{Lexical}
use Rattle.ae_tree.specs.declared.lexeme.Lexical.TheVariants as tok
use Rattle.ae_tree.specs.declared.limits.Limit.{Limit}
use Rattle.ae_tree.specs.declared.limits.Limit.TheVariants.{Statements, Levels, Depth, Params}
use Rattle.ae_tree.specs.declared.tree.NameAt.{NameAt}
use Rattle.ae_tree.specs.declared.tree.PermAt.{PermAt}
use Rattle.ae_tree.specs.declared.tree.PermAt.TheVariants as perm_at
use Rattle.ae_tree.specs.declared.tree.KindAt.TheVariants as kind_at
use Rattle.ae_tree.specs.declared.tree.Ty.{Ty}
use Rattle.ae_tree.specs.declared.tree.Ty.TheVariants as ty
use Rattle.ae_tree.specs.declared.tree.Me.{Me}
use Rattle.ae_tree.specs.declared.tree.Param.{Param}
use Rattle.ae_tree.specs.Grammar.{Tokens, one_at, one_by_one, further, comma_list, name, permission, type_, away}
use Rattle.ae_tree.specs.Grammar.{param, me, parameters}
use Rattle.ae_tree.specs.Refused.{AreSpellable, IsTypeWord}
use Rattle.ae_reading.specs.declared.fail.Fail.{Fail}
use Rattle.ae_reading.specs.declared.fail.Fail.TheVariants.{Refused, Memory}
use Rattle.ae_reading.specs.declared.fail.Why.{Why}
use Rattle.ae_reading.specs.declared.fail.Why.TheVariants.{Unexpected, Over}
use Rattle.ae_reading.specs.Reads.{head, Always, Is, Isnt, Free, IsWithinAll, IsNearlyWithin, Counts, Beyond, Larger}
use Rattle.ae_reading.specs.Reads.{Took, Stopped, Failed, Token, TokenMark}
use Rattle.ae_parser.proofs.from_reading.ReadsLemmas.{AreKnown-append, Lang, Bound, Follow, Links, Both, Pair, Has}
use Rattle.ae_parser.proofs.from_reading.ReadsLemmas.{Along, NoneAt, NoEnd-append, took_as, failed_as, has_token}
use Rattle.ae_parser.proofs.from_reading.ReadsLemmas.{has_both, has_name, io_name, nowhere, at_once, When}
use Rattle.ae_parser.proofs.from_reading.ReadsLemmas.{took_nothing}
use Rattle.ae_parser.proofs.from_reading.Parts.{Commas, Parted, commas_go_on, no_comma, took_further, commas_link}
use Rattle.ae_parser.proofs.from_reading.Begins.{not_both, of_other, opens_so, begins_both, begins_not, Opens}
use Rattle.ae_parser.proofs.from_reading.Begins.{opens_one, opens_at, opens_mark, opens_first, opens_other}
use Rattle.ae_parser.proofs.from_reading.Begins.{opens_isnt, is_isnt}
use Rattle.ae_parser.proofs.from_reading.Runs.{each_chain, chain_each, has_none, Run, each-append, each-one}
use Rattle.ae_parser.proofs.from_reading.Runs.{run_start, run_more, run_end, run_failed}
use Rattle.ae_parser.proofs.from_reading.TypeLemmas.{NoLess, perm_word, begins_permission, has_type, has_permission}
use Rattle.ae_parser.specs.declared.params.Given.{Given}
use Rattle.ae_parser.specs.Productions.{BeginsType, NoType, away_mark, AtMostParams, ParamNext, HasMe}
use Rattle.ae_parser.specs.Productions.{given_to_method, FewGiven}

-- ---- the next token

-- a name is no `<`
pub named_ends : {B : Type 0} (E : Lang B) (G : Follow) → Links (Both name E) G NoLess
named_ends E G y us r d f = opens_isnt us r (opens_at us r d) (λ e. cc)

pub mark_ends : {B : Type 0} (k j : Lexical) (E : Lang B) (G : Follow) → (k ≡ j → ⊥)
    → Links (Both (TokenMark k) E) G (Isnt j)
mark_ends k j E G other y us r d f = opens_isnt us r (opens_mark us r d) other

pub mark_is : {B : Type 0} (k : Lexical) (E : Lang B) (G : Follow) → Links (Both (TokenMark k) E) G (Is k)
mark_is k E G y us r d f = opens_so us r (opens_mark us r d)

-- ---- types

pub begins_type : (y : Ty) (us r : Tokens) → type_ y us → BeginsType (head (us ++ r))
begins_type (ty.Int at) us r d = inl (opens_so us r (opens_one us r d))
begins_type (ty.Bool at) us r d = inr (inl (opens_so us r (opens_one us r d)))
begins_type (ty.Object p k) us r d = object p (opens_first us r d (begins_permission p d.front (d.back ++ r) d.first))
  where
    object : (p : PermAt) → Opens us r (tok.Word (perm_word p)) → BeginsType (head (us ++ r))
    object (perm_at.Unique at) b = inr (inr (inl (opens_so us r b)))
    object (perm_at.Immutable at) b = inr (inr (inr (inl (opens_so us r b))))
    object (perm_at.Lent at) b = inr (inr (inr (inr (inl (opens_so us r b)))))
    object (perm_at.Shared at g) b = inr (inr (inr (inr (inr (opens_so us r b)))))

-- a token that is none of the words with which a type begins
pub no_type : (k : Lexical) (o : Option Lexeme) → (k ≡ tok.Word word.Int → ⊥) → (k ≡ tok.Word word.Bool → ⊥)
    → (k ≡ tok.Word word.Unique → ⊥) → (k ≡ tok.Word word.Immutable → ⊥) → (k ≡ tok.Word word.Lent → ⊥)
    → (k ≡ tok.Word word.Shared → ⊥) → Is k o → NoType o
no_type k o i b u m n s is (inl e) = not_both k (tok.Word word.Int) i o is e
no_type k o i b u m n s is (inr (inl e)) = not_both k (tok.Word word.Bool) b o is e
no_type k o i b u m n s is (inr (inr (inl e))) = not_both k (tok.Word word.Unique) u o is e
no_type k o i b u m n s is (inr (inr (inr (inl e)))) = not_both k (tok.Word word.Immutable) m o is e
no_type k o i b u m n s is (inr (inr (inr (inr (inl e))))) = not_both k (tok.Word word.Lent) n o is e
no_type k o i b u m n s is (inr (inr (inr (inr (inr e))))) = not_both k (tok.Word word.Shared) s o is e

-- ---- `>> none`

abbrev pub NoAway : Follow
NoAway = Isnt (tok.Sign sign.Away)

abbrev pub away_body : Lang (Spot × Unit {0})
away_body = Both (Token (tok.Sign sign.Away)) (TokenMark (tok.Word word.None))

given_along : (ts : Tokens) → Along away_mark away_body Free (Pair Free Free) ts (λ q. Some q.0)
given_along ts = record {
  intro = λ q us d. (q.0, refl, d);
  cases = λ y us r d h. ((d.0, tt), d.1, d.2);
  to =
      λ q us d l v. tt;
  from = λ q us d l v. (tt, tt);
}

pub given_took : (ts rest : Tokens) (at : Spot) → Took away_body (Pair Free Free) Always ts (at, tt) rest
    → Took away_mark Free Always ts (Some at) rest
given_took ts rest at t = took_as away_mark away_body (λ q. Some q.0) (given_along ts) t

pub given_failed : (ts : Tokens) (e : Fail) → Failed away_body (Pair Free Free) Always ts e
    → Failed away_mark Free Always ts e
given_failed ts e f = failed_as away_mark away_body (λ q. Some q.0) (given_along ts) f

away_intro : (q : Option Spot) (us : Tokens) → away_mark q us → away q us
away_intro q us d = let P : Option Spot → Type 0 = λ a. away a us in subst P (sym d.1) d.2

away_cases : (ts : Tokens) → Is (tok.Sign sign.Away) (head ts) → (y : Option Spot) (us r : Tokens) → away y us
    → head (us ++ r) ≡ head ts → NoAway (head r) → (q : Option Spot) × (y ≡ q) × away_mark q us × Always (head r)
away_cases ts is None us r d h f =
    let P : Tokens → Type 0 = λ l. head (l ++ r) ≡ head ts in
    let Q : Option Lexeme → Type 0 = NoAway in
    absurd (is_isnt (tok.Sign sign.Away) (head ts) is (subst Q (subst P d h) f))
away_cases ts is (Some at) us r d h f = (Some at, refl, (at, refl, d), tt)

pub away_when : (ts : Tokens) → Is (tok.Sign sign.Away) (head ts)
    → When away away_mark Free Free NoAway Always ts (λ q. q)
away_when ts is = record {
  intro = away_intro;
  cases = away_cases ts is;
  to = λ q us d l v. tt;
  from =
      λ q us d l v. tt;
}

none_cases : (ts : Tokens) → (Is (tok.Sign sign.Away) (head ts) → ⊥) → (y : Option Spot) (us r : Tokens) → away y us
    → head (us ++ r) ≡ head ts → NoAway (head r) → (y ≡ None) × (us ≡ [])
none_cases ts other None us r d h f = (refl, d)
none_cases ts other (Some at) us r d h f = absurd (opens_other us r ts (opens_at us r d) h other)

pub away_none : (ts : Tokens) → (Is (tok.Sign sign.Away) (head ts) → ⊥) → Took away Free NoAway ts None ts
away_none ts other = took_nothing away Free NoAway ts None refl (λ l. tt) (none_cases ts other)

pub has_away : Has away Free
has_away = record { tree = None; tokens = []; is = refl; known = tt; within = λ l. tt }

-- ---- a parameter and a receiver

abbrev pub Param3 : Type 0
Param3 = Ty × (NameAt × Option Spot)

abbrev pub param_body : Lang Param3
param_body = Both type_ (Both name away)

abbrev pub param_limit : Bound Param3
param_limit = Pair Free (Pair Free Free)

abbrev pub param_tree : Param3 → Param
param_tree q = record { ty = q.0; name = q.1.0; away = q.1.1 }

param_along : (ts : Tokens) → Along param param_body Free param_limit ts param_tree
param_along ts = record {
  intro = λ q us d. d;
  cases = λ y us r d h. ((y.ty, (y.name, y.away)), refl, d);
  to =
      λ q us d l v. tt;
  from = λ q us d l v. (tt, (tt, tt));
}

pub param_took : (ts rest : Tokens) (q : Param3) → Took param_body param_limit NoAway ts q rest
    → Took param Free NoAway ts (param_tree q) rest
param_took ts rest q t = took_as param param_body param_tree (param_along ts) t

pub param_failed : (ts : Tokens) (e : Fail) → Failed param_body param_limit NoAway ts e → Failed param Free NoAway ts e
param_failed ts e f = failed_as param param_body param_tree (param_along ts) f

pub has_named : Has (Both name away) (Pair Free Free)
has_named = has_both has_name has_away

pub has_param : Has param Free
has_param = let b : Has param_body param_limit = has_both has_type has_named in record
    { tree = param_tree b.tree; tokens = b.tokens; is = b.is; known = b.known; within = λ l. tt }

pub begins_param : (y : Param) (us r : Tokens) → param y us → BeginsType (head (us ++ r))
begins_param y us r d = begins_both type_ (λ t. Both name away) BeginsType begins_type (y.ty, (y.name, y.away)) us r d

abbrev pub Me3 : Type 0
Me3 = PermAt × (Spot × Option Spot)

abbrev pub me_body : Lang Me3
me_body = Both permission (Both (Token (tok.Word word.This)) away)

abbrev pub me_limit : Bound Me3
me_limit = Pair Free (Pair Free Free)

abbrev pub me_tree : Me3 → Me
me_tree q = record { perm = q.0; at = q.1.0; away = q.1.1 }

me_along : (ts : Tokens) → Along me me_body Free me_limit ts me_tree
me_along ts = record {
  intro = λ q us d. d;
  cases = λ y us r d h. ((y.perm, (y.at, y.away)), refl, d);
  to =
      λ q us d l v. tt;
  from = λ q us d l v. (tt, (tt, tt));
}

pub me_took : (ts rest : Tokens) (q : Me3) → Took me_body me_limit NoAway ts q rest
    → Took me Free NoAway ts (me_tree q) rest
me_took ts rest q t = took_as me me_body me_tree (me_along ts) t

pub me_failed : (ts : Tokens) (e : Fail) → Failed me_body me_limit NoAway ts e → Failed me Free NoAway ts e
me_failed ts e f = failed_as me me_body me_tree (me_along ts) f

pub has_this : Has (Both (Token (tok.Word word.This)) away) (Pair Free Free)
has_this = has_both (has_token (tok.Word word.This) tt) has_away

pub has_me : Has me Free
has_me = let b : Has me_body me_limit = has_both has_permission has_this in record
    { tree = me_tree b.tree; tokens = b.tokens; is = b.is; known = b.known; within = λ l. tt }

-- ---- further parameters

abbrev pub Closing : Follow
Closing = Is (tok.Sign sign.CloseParen)

comma_away : (t : Lexeme) → t.kind ≡ tok.Sign sign.Comma → NoAway (Some t)
comma_away t k e = let no : tok.Sign sign.Comma ≡ tok.Sign sign.Away = sym k ∙ e in cc

pub params_commas : Commas NoAway Closing
params_commas = record {
  comma = comma_away;
  ends = λ o c. of_other (tok.Sign sign.CloseParen) (tok.Sign sign.Away) (λ e. cc) o c;
  stops = λ o c. of_other (tok.Sign sign.CloseParen) (tok.Sign sign.Comma) (λ e. cc) o c;
}

pub at_most : (n : ℕ) (ps : List Param) → length ps ≤ n → IsWithinAll (AtMostParams n) ps
at_most n ps few Statements = tt
at_most n ps few Levels = tt
at_most n ps few Depth = tt
at_most n ps few Params = few

pub at_most_none : (l : Limit) → AtMostParams 15 l []
at_most_none l = at_most 15 [] (omega arith) l

pub at_most_16 : IsWithinAll (AtMostParams 16) []
at_most_16 = at_most 16 [] (omega arith)

-- what stands before a parameter too many
nearly_most : (n : ℕ) (ps : List Param) → IsNearlyWithin (AtMostParams n) ps
nearly_most n ps Statements = tt
nearly_most n ps Levels = tt
nearly_most n ps Depth = tt
nearly_most n ps Params = tt

-- the parameters ps have been read
abbrev pub ReadParams : Tokens → List Param → Tokens → Type 0
ReadParams ts ps rest = Run (further param) (AtMostParams 15) Closing ts ps rest

pub params_start : (ts : Tokens) (ps : List Param) → ps ≡ [] → ReadParams ts ps ts
params_start ts ps e = let P : List Param → Type 0 = λ l. ReadParams ts l ts in subst P (sym e)
    (run_start (further param) (AtMostParams 15) Closing ts (at_most 15 [] (omega arith)))

pub params_more : (ts rest behind rest' : Tokens) (ps qs : List Param) (p : Param)
    → Is (tok.Sign sign.Comma) (head rest) → length ps < 15 → qs ≡ ps ++ p ∷ [] →
    ReadParams ts ps rest → Took (TokenMark (tok.Sign sign.Comma)) Free Always rest tt behind
    → Took param Free NoAway behind p rest' → ReadParams ts qs rest'
params_more ts rest behind rest' ps qs p comma few e t c u =
    let P : List Param → Type 0 = λ l. ReadParams ts l rest' in
    let fits : length (ps ++ p ∷ []) ≤ 15 = omega (arith, few, length-append ps (p ∷ [])) in
    subst P (sym e) (run_more (commas_link param params_commas) (commas_go_on rest params_commas comma)
    (at_most 15 (ps ++ p ∷ []) fits) t (took_further c u))

pub params_failed : (ts rest : Tokens) (ps : List Param) (e : Fail) → Is (tok.Sign sign.Comma) (head rest)
    → length ps < 15 → ReadParams ts ps rest → Failed (further param) Free NoAway rest e
    → Failed (one_by_one (further param)) (AtMostParams 15) Closing ts e
params_failed ts rest ps e comma few t f =
    run_failed (commas_link param params_commas) (commas_go_on rest params_commas comma)
    (λ l z (w : Unit {0}). at_most 15 (ps ++ z ∷ []) (omega (arith, few, length-append ps (z ∷ []))) l)
    (λ l z zs w. tt) t f

pub params_end : (ts rest : Tokens) (ps : List Param) → (Is (tok.Sign sign.Comma) (head rest) → ⊥)
    → ReadParams ts ps rest → Took (one_by_one (further param)) (AtMostParams 15) Closing ts ps rest
params_end ts rest ps other t = run_end (no_comma param rest other) t

pub param_smaller : (rest behind after : Tokens) (at : Spot) (p : Param)
    → Took (Token (tok.Sign sign.Comma)) Free Always rest at behind → Took param Free NoAway behind p after
    → length after < length rest
param_smaller rest behind after at p c u =
    omega (
      arith,
      ap length c.whole,
      length-append c.taken behind,
      ap length c.derives,
      ap length u.whole,
      length-append u.taken after,
    )

-- a token of this kind
same_token : (t : Lexeme) (k : Lexical) → t.kind ≡ k → one_at k t.at (t ∷ [])
same_token t k e = ap (λ (k : Lexical). record { kind = k; at = t.at } ∷ []) e

-- a token that is there is taken
token_there : (k : Lexical) (rest : Tokens) (why : Why) (left : ℕ) → Is k (head rest)
    → Stopped (Token k) Free Always rest why left → ⊥
token_there k [] why left is s = is
token_there k (t ∷ rest) why left is s = s.stuck t.at (t ∷ []) rest s.rest (same_token t k is) s.whole refl tt
    (counts why)
  where
    counts : (why : Why) → Counts why (λ (l : Limit). Unit {0})
    counts Unexpected = tt
    counts (Over l) = tt

never_fails : {A : Type 0} (E : Lang A) (V : Bound A) (G : Follow) (us : Tokens) (k : Lexical) (rest : Tokens)
    (e : Fail) → Is k (head rest) → Failed (Token k) Free Always rest e → Failed E V G us e
never_fails E V G us k rest (Refused why left) is f = absurd (token_there k rest why left is f.why)
never_fails E V G us k rest Memory is f = record { why = tt }

pub comma_there : (ts rest : Tokens) (e : Fail) → Is (tok.Sign sign.Comma) (head rest)
    → Failed (Token (tok.Sign sign.Comma)) Free Always rest e
    → Failed (one_by_one (further param)) (AtMostParams 15) Closing ts e
comma_there ts rest e is f = never_fails (one_by_one (further param)) (AtMostParams 15) Closing ts
    (tok.Sign sign.Comma) rest e is f

-- ---- a parameter too many, behind its comma

known_type : (t : Lexeme) (y : Ty) → type_ y (t ∷ []) → (y : Ty) × (more : Tokens) × type_ y (t ∷ more)
    × AreSpellable more
known_type t y d = (y, [], d, tt)

-- an object type that begins with a permission of one token
known_object : (t : Lexeme) (p : PermAt) → permission p (t ∷ []) → (y : Ty) × (more : Tokens) × type_ y (t ∷ more)
    × AreSpellable more
known_object t p d = (
  ty.Object p (kind_at.Ints nowhere),
  at_once (tok.Word word.Ints),
  record { front = t ∷ []; back = at_once (tok.Word word.Ints); parts = refl; first = d; second = refl },
  (tt, tt),
)

abbrev grouped : Tokens
grouped = at_once (tok.Sign sign.Less) ++ (at_once (tok.Name 0) ++ at_once (tok.Sign sign.Greater))

shared_of : (t : Lexeme) → t.kind ≡ tok.Word word.Shared → permission (perm_at.Shared t.at io_name) (t ∷ grouped)
shared_of t e = record {
  front = t ∷ [];
  back = grouped;
  parts = refl;
  first = same_token t (tok.Word word.Shared) e;
  second = record {
    front = at_once (tok.Sign sign.Less);
    back = at_once (tok.Name 0) ++ at_once (tok.Sign sign.Greater);
    parts = refl;
    first = (nowhere, refl);
    second = record {
      front = at_once (tok.Name 0);
      back = at_once (tok.Sign sign.Greater);
      parts = refl;
      first =
          refl;
      second = (nowhere, refl);
    };
  };
}

-- a type goes on with the next token
type_with : (t : Lexeme) → BeginsType (Some t) → (y : Ty) × (more : Tokens) × type_ y (t ∷ more) × AreSpellable more
type_with t (inl e) = known_type t (ty.Int t.at) (same_token t (tok.Word word.Int) e)
type_with t (inr (inl e)) = known_type t (ty.Bool t.at) (same_token t (tok.Word word.Bool) e)
type_with t (inr (inr (inl e))) = known_object t (perm_at.Unique t.at) (same_token t (tok.Word word.Unique) e)
type_with t (inr (inr (inr (inl e)))) = known_object t (perm_at.Immutable t.at)
    (same_token t (tok.Word word.Immutable) e)
type_with t (inr (inr (inr (inr (inl e))))) = known_object t (perm_at.Lent t.at) (same_token t (tok.Word word.Lent) e)
type_with t (inr (inr (inr (inr (inr e))))) = (
  ty.Object (perm_at.Shared t.at io_name) (kind_at.Ints nowhere),
  grouped ++ at_once (tok.Word word.Ints),
  record {
    front = t ∷ grouped;
    back = at_once (tok.Word word.Ints);
    parts = refl;
    first = shared_of t e;
    second =
        refl;
  },
  (tt, (refl, (tt, (tt, tt)))),
)

-- a parameter goes on with the next token
param_with : (t : Lexeme) → BeginsType (Some t) → (p : Param) × (more : Tokens) × param p (t ∷ more) × AreSpellable more
param_with t b =
    let y = type_with t b in (
      param_tree (y.0, (io_name, None)),
      y.1 ++ at_once (tok.Name 0),
      record {
        front = t ∷ y.1;
        back = at_once (tok.Name 0);
        parts = refl;
        first = y.2;
        second =
            record { front = at_once (tok.Name 0); back = []; parts = refl; first = refl; second = refl };
      },
      AreKnown-append y.1 (at_once (tok.Name 0)) y.3 (refl, tt),
    )

type_word : (t : Lexeme) → BeginsType (Some t) → IsTypeWord t.kind
type_word t (inl e) = let P : Lexical → Type 0 = IsTypeWord in subst P (sym e) tt
type_word t (inr (inl e)) = let P : Lexical → Type 0 = IsTypeWord in subst P (sym e) tt
type_word t (inr (inr (inl e))) = let P : Lexical → Type 0 = IsTypeWord in subst P (sym e) tt
type_word t (inr (inr (inr (inl e)))) = let P : Lexical → Type 0 = IsTypeWord in subst P (sym e) tt
type_word t (inr (inr (inr (inr (inl e))))) = let P : Lexical → Type 0 = IsTypeWord in subst P (sym e) tt
type_word t (inr (inr (inr (inr (inr e))))) = let P : Lexical → Type 0 = IsTypeWord in subst P (sym e) tt

-- the limits named before that of parameters say nothing of them
before_params : (n : ℕ) (ps : List Param) (m : Limit) → rank m < 2 → AtMostParams n m ps
before_params n ps Statements k = tt
before_params n ps Levels k = tt
before_params n ps Depth k = tt
before_params n ps Params k = absurd (omega (arith, k))

abbrev comma_at : Spot → Lexeme
comma_at at = record { kind = tok.Sign sign.Comma; at = at }

further_at : (at : Spot) (p : Param) (us : Tokens) → param p us → further param p (comma_at at ∷ us)
further_at at p us d = record { front = comma_at at ∷ []; back = us; parts = refl; first = (at, refl); second = d }

-- a parameter more, with its comma
one_more : (ps : List Param) (taken us : Tokens) (at : Spot) (p : Param) → one_by_one (further param) ps taken
    → param p us → one_by_one (further param) (ps ++ p ∷ []) ((taken ++ comma_at at ∷ []) ++ us)
one_more ps taken us at p m d =
    let P : Tokens → Type 0 = one_by_one (further param) (ps ++ p ∷ []) in
    subst P (sym (append_assoc taken (comma_at at ∷ []) us))
    (each-append (further param) ps (p ∷ []) taken (comma_at at ∷ us) m
    (each-one (further param) p (comma_at at ∷ us) (further_at at p us d)))

beyond_full : (why : Why) (behind : Tokens) (ps : List Param) (taken : Tokens) (at : Spot)
    → one_by_one (further param) ps taken → ParamNext behind why
    → Beyond (one_by_one (further param)) (AtMostParams 15) (taken ++ comma_at at ∷ []) behind why
beyond_full Unexpected behind ps taken at m n = tt
beyond_full (Over l) [] ps taken at m n = absurd (no_next n.1)
  where
    no_next : BeginsType None → ⊥
    no_next (inl e) = e
    no_next (inr (inl e)) = e
    no_next (inr (inr (inl e))) = e
    no_next (inr (inr (inr (inl e)))) = e
    no_next (inr (inr (inr (inr (inl e))))) = e
    no_next (inr (inr (inr (inr (inr e))))) = e
beyond_full (Over l) (t ∷ behind) ps taken at m n =
    let p = param_with t n.1 in
    let P : Limit → Type 0 = λ l. Larger l (one_by_one (further param)) (AtMostParams 15) (taken ++ comma_at at ∷ [])
    (t ∷ behind) in
    let larger : Larger Params (one_by_one (further param)) (AtMostParams 15) (taken ++ comma_at at ∷ []) (t ∷ behind)
    = record {
      next = t;
      later = behind;
      rest_is = refl;
      tree = ps ++ p.0 ∷ [];
      after = p.1;
      goes_on = one_more ps taken (t ∷ p.1) at p.0 m p.2;
      known = p.3;
      passes = type_word t n.1;
      others = λ m k. before_params 15 (ps ++ p.0 ∷ []) m k;
    } in
    subst P (sym n.0) larger

-- what a further parameter begins with behind its comma
behind_comma : (at : Spot) (z : Param) (us r other : Tokens) → further param z us → us ++ r ≡ comma_at at ∷ other
    → BeginsType (head other)
behind_comma at z us r other d e =
    let b : BeginsType (head (d.back ++ r)) = begins_param z d.back r d.second in
    let x : record { kind = tok.Sign sign.Comma; at = d.first.0 } ∷ (d.back ++ r) ≡ comma_at at
    ∷ other = sym (ap (λ l. l ++ r) d.parts ∙ append_assoc d.front d.back r
    ∙ ap (λ l. l ++ (d.back ++ r)) d.first.1) ∙ e in
    let same : d.back ++ r ≡ other = cc in
    let P : Tokens → Type 0 = λ l. BeginsType (head l) in
    subst P same b

full_case : (why : Why) (behind other r vs : Tokens) (ps zs : List Param) (at : Spot) → 15 ≤ length ps
    → ParamNext behind why → one_by_one (further param) zs vs → vs ++ r ≡ comma_at at ∷ other
    → head other ≡ head behind → Closing (head r) → Counts why (λ l. AtMostParams 15 l (ps ++ zs)) → ⊥
full_case why behind other r vs ps [] at full n m e h f w =
    let P : Option Lexeme → Type 0 = Closing in
    let no : tok.Sign sign.Comma ≡ tok.Sign sign.CloseParen = subst P (ap head (ap (λ l. l ++ r) (sym m) ∙ e)) f in cc
full_case Unexpected behind other r vs ps (z ∷ zs) at full n m e h f w =
    let P : Option Lexeme → Type 0 = BeginsType in
    n (subst P h (behind_comma at z m.front (m.back ++ r) other m.first
    (sym (append_assoc m.front m.back r) ∙ ap (λ l. l ++ r) (sym m.parts) ∙ e)))
full_case (Over l) behind other r vs ps (z ∷ zs) at full n m e h f w =
    let P : Limit → Type 0 = λ l. AtMostParams 15 l (ps ++ z ∷ zs) in
    let few : length (ps ++ z ∷ zs) ≤ 15 = subst P n.0 w in
    omega (arith, few, full, length-append ps (z ∷ zs))

pub params_full : (why : Why) (ts rest behind : Tokens) (ps : List Param) (at : Spot) → 15 ≤ length ps
    → ParamNext behind why → Took (Token (tok.Sign sign.Comma)) Free Always rest at behind → ReadParams ts ps rest →
    Stopped (one_by_one (further param)) (AtMostParams 15) Closing ts why (length behind)
params_full why ts rest behind ps at full n c t =
    let rest_is : rest ≡ comma_at at ∷ behind = c.whole ∙ ap (λ l. l ++ behind) c.derives in
    let items : one_by_one (further param) ps t.taken = chain_each (further param) tt ps t.taken t.derives in
    record {
      before = t.taken ++ comma_at at ∷ [];
      rest = behind;
      whole = t.whole ∙ ap (λ l. t.taken ++ l) rest_is ∙ sym (append_assoc t.taken (comma_at at ∷ []) behind);
      left_is = refl;
      tree = ps ++ has_param.tree ∷ [];
      more = has_param.tokens;
      goes = one_more ps t.taken has_param.tokens at has_param.tree items has_param.is;
      known = has_param.known;
      within = nearly_most 15 (ps ++ has_param.tree ∷ []);
      lead = record {
        start = t.taken;
        ahead = comma_at at ∷ [];
        parts = refl;
        leads = inl (refl, refl);
        tree = ps;
        more = [];
        goes = let P : Tokens → Type 0 = λ l. one_by_one (further param) ps l in subst P
            (sym (append-nil t.taken)) items;
        known = tt;
        within = t.within;
      };
      no_end = NoEnd-append t.taken (comma_at at ∷ []) t.no_end ((λ q. cc), tt);
      stuck = λ ys us r other m e h f w.
          let p = t.only ys us r (comma_at at ∷ other) (each_chain (further param) tt ys us m)
          (e ∙ append_assoc t.taken (comma_at at ∷ []) other) (sym (ap head rest_is)) f in
          let P : List Param → Type 0 = λ l. Counts why (λ (x : Limit). AtMostParams 15 x l)
          in full_case why behind other r p.1 ps p.0 at full n (chain_each (further param) tt p.0 p.1 p.3) p.4 h f
          (subst P p.2 w);
      beyond = beyond_full why behind ps t.taken at items n;
    }

-- ---- all parameters

pub params_parted : Parted Free (λ l (x : Param). AtMostParams 15 l) (AtMostParams 16)
params_parted = record { to = parted_to; from = parted_from }
  where
    parted_to : (l : Limit) (x : Param) (xs : List Param) → Unit {0} → AtMostParams 15 l xs → AtMostParams 16 l (x ∷ xs)
    parted_to Statements x xs w v = tt
    parted_to Levels x xs w v = tt
    parted_to Depth x xs w v = tt
    parted_to Params x xs w v = omega (arith, v)

    parted_from : (l : Limit) (x : Param) (xs : List Param) → AtMostParams 16 l (x ∷ xs)
        → Unit {0} × AtMostParams 15 l xs
    parted_from Statements x xs v = (tt, tt)
    parted_from Levels x xs v = (tt, tt)
    parted_from Depth x xs v = (tt, tt)
    parted_from Params x xs v = (tt, omega (arith, v))

pub no_params : (ts : Tokens) → Closing (head ts) → NoneAt param ts
no_params ts is = begins_not param BeginsType ts begins_param
    (no_type (tok.Sign sign.CloseParen) (head ts) (λ e. cc) (λ e. cc) (λ e. cc) (λ e. cc) (λ e. cc) (λ e. cc) is)

-- ---- what a method of a class is given, and one at the top

abbrev pub led_body : Lang (Me × List Param)
led_body = Both me (one_by_one (further param))

abbrev pub led_limit : Bound (Me × List Param)
led_limit = Pair Free (AtMostParams 15)

abbrev pub led_tree : Me × List Param → Given
led_tree q = record { me = Some q.0; params = q.1 }

led_cases : (c : ℕ) (m : Option Me) (ps : List Param) (us : Tokens) → HasMe (Some c) m → parameters m ps us
    → (q : Me × List Param) × (record { me = m; params = ps } ≡ led_tree q) × led_body q us
led_cases c None ps us has d = absurd (has refl)
led_cases c (Some m) ps us has d = ((m, ps), refl, d)

led_to : (l : Limit) (m : Me) (ps : List Param) → AtMostParams 15 l ps → FewGiven l (led_tree (m, ps))
led_to Statements m ps v = tt
led_to Levels m ps v = tt
led_to Depth m ps v = tt
led_to Params m ps v = omega (arith, v)

led_from : (l : Limit) (m : Me) (ps : List Param) → FewGiven l (led_tree (m, ps)) → AtMostParams 15 l ps
led_from Statements m ps v = tt
led_from Levels m ps v = tt
led_from Depth m ps v = tt
led_from Params m ps v = omega (arith, v)

led_along : (c : ℕ) (ts : Tokens) → Along (given_to_method (Some c)) led_body FewGiven led_limit ts led_tree
led_along c ts = record {
  intro = λ q us d. ((λ e. cc), d);
  cases = λ y us r d h. led_cases c y.me y.params us d.0 d.1;
  to = λ q us d l v. led_to l q.0 q.1 v.1;
  from = λ q us d l v. (tt, led_from l q.0 q.1 v);
}

pub led_took : (c : ℕ) (class : Option ℕ) (ts rest : Tokens) (q : Me × List Param) → class ≡ Some c
    → Took led_body led_limit Closing ts q rest → Took (given_to_method class) FewGiven Closing ts (led_tree q) rest
led_took c class ts rest q e t =
    let P : Option ℕ → Type 0 = λ k. Took (given_to_method k) FewGiven Closing ts (led_tree q) rest in
    subst P (sym e) (took_as (given_to_method (Some c)) led_body led_tree (led_along c ts) t)

pub led_failed : (c : ℕ) (class : Option ℕ) (ts : Tokens) (e : Fail) → class ≡ Some c
    → Failed led_body led_limit Closing ts e → Failed (given_to_method class) FewGiven Closing ts e
led_failed c class ts e is f =
    let P : Option ℕ → Type 0 = λ k. Failed (given_to_method k) FewGiven Closing ts e in
    subst P (sym is) (failed_as (given_to_method (Some c)) led_body led_tree (led_along c ts) f)

pub has_furthers : Has (one_by_one (further param)) (AtMostParams 15)
has_furthers = has_none (further param) (AtMostParams 15) (at_most 15 [] (omega arith))

abbrev pub unled_tree : List Param → Given
unled_tree ps = record { me = None; params = ps }

unled_cases : (m : Option Me) (ps : List Param) (us : Tokens) → HasMe None m → parameters m ps us
    → (q : List Param) × (record { me = m; params = ps } ≡ unled_tree q) × comma_list param q us
unled_cases None ps us has d = (ps, refl, d)
unled_cases (Some m) ps us has d = let no : Some m ≡ None = has in absurd cc

unled_to : (l : Limit) (ps : List Param) → AtMostParams 16 l ps → FewGiven l (unled_tree ps)
unled_to Statements ps v = tt
unled_to Levels ps v = tt
unled_to Depth ps v = tt
unled_to Params ps v = omega (arith, v)

unled_from : (l : Limit) (ps : List Param) → FewGiven l (unled_tree ps) → AtMostParams 16 l ps
unled_from Statements ps v = tt
unled_from Levels ps v = tt
unled_from Depth ps v = tt
unled_from Params ps v = omega (arith, v)

unled_along : (ts : Tokens) → Along (given_to_method None) (comma_list param) FewGiven (AtMostParams 16) ts unled_tree
unled_along ts = record {
  intro = λ q us d. (refl, d);
  cases = λ y us r d h. unled_cases y.me y.params us d.0 d.1;
  to = λ q us d l v. unled_to l q v;
  from = λ q us d l v. unled_from l q v;
}

pub unled_took : (class : Option ℕ) (ts rest : Tokens) (ps : List Param) → class ≡ None
    → Took (comma_list param) (AtMostParams 16) Closing ts ps rest → Took (given_to_method class) FewGiven Closing ts
    (unled_tree ps) rest
unled_took class ts rest ps e t =
    let P : Option ℕ → Type 0 = λ k. Took (given_to_method k) FewGiven Closing ts (unled_tree ps) rest in
    subst P (sym e) (took_as (given_to_method None) (comma_list param) unled_tree (unled_along ts) t)

pub unled_failed : (class : Option ℕ) (ts : Tokens) (e : Fail) → class ≡ None
    → Failed (comma_list param) (AtMostParams 16) Closing ts e → Failed (given_to_method class) FewGiven Closing ts e
unled_failed class ts e is f =
    let P : Option ℕ → Type 0 = λ k. Failed (given_to_method k) FewGiven Closing ts e in
    subst P (sym is) (failed_as (given_to_method None) (comma_list param) unled_tree (unled_along ts) f)

few_none : (l : Limit) → FewGiven l (unled_tree [])
few_none l = unled_to l [] (at_most 16 [] (omega arith) l)

-- a method of each kind may be given nothing more
pub has_given : (class : Option ℕ) → Has (given_to_method class) FewGiven
has_given None = record { tree = unled_tree []; tokens = []; is = (refl, refl); known = tt; within = few_none }
has_given (Some c) =
    let b : Has led_body (Pair Free (AtMostParams 15)) = has_both has_me has_furthers in
    record {
      tree = led_tree b.tree;
      tokens = b.tokens;
      is = ((λ e. cc), b.is);
      known = b.known;
      within =
          λ l. led_to l b.tree.0 b.tree.1 (b.within l).1;
    }
