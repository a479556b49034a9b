-- Needs and methods: how each production is read.
use Rattle.std.proofs.Common.{◌≡◌, ℕ, ◌++◌, List, [], ◌∷◌, Option, Some, None, refl, sym, ap, ◌∙◌, subst}
use Rattle.ae_text.specs.declared.token.Keyword.{Keyword}
use Rattle.ae_text.specs.declared.token.Keyword.TheVariants as word
use Rattle.ae_text.specs.declared.token.Sign.TheVariants as sign
use Rattle.ae_tree.specs.declared.lexeme.Lexeme.{Lexeme}
use Rattle.ae_tree.specs.declared.lexeme.Lexical.TheVariants as tok
use Rattle.ae_tree.specs.declared.limits.Limit.{Limit}
use Rattle.ae_tree.specs.declared.limits.Limit.TheVariants.{Statements, Levels, Depth, Params}
use Rattle.ae_tree.specs.declared.tree.NameAt.{NameAt}
use Rattle.ae_tree.specs.declared.tree.Ty.{Ty}
use Rattle.ae_tree.specs.declared.tree.Need.{Need}
use Rattle.ae_tree.specs.declared.tree.Need.TheVariants as need_of
use Rattle.ae_tree.specs.declared.tree.GroupNeed.{GroupNeed}
use Rattle.ae_tree.specs.Plain.{Lines, End, Definition}
use Rattle.ae_tree.specs.Grammar.{Tokens, Then, ◌⨾◌, one_token, separated, name, groups, type_, result, need_word}
use Rattle.ae_tree.specs.Grammar.{need, needs, method_body, IsMethodOf, method}
use Rattle.ae_tree.specs.Limits.{KeepsBlock, HasFewParams, KeepsMethod}
use Rattle.ae_reading.specs.declared.fail.Fail.{Fail}
use Rattle.ae_reading.specs.Reads.{head, Always, Is, Free, Took, Failed, TokenMark, Isnt}
use Rattle.ae_parser.proofs.from_reading.ReadsLemmas.{Lang, Bound, Follow, Links, Both, Pair, Has, Along, took_as}
use Rattle.ae_parser.proofs.from_reading.ReadsLemmas.{failed_as, has_mark, has_both, has_name, at_once, nowhere}
use Rattle.ae_parser.proofs.from_reading.ReadsLemmas.{When, took_nothing}
use Rattle.ae_parser.proofs.from_reading.Begins.{not_both, opens_so, Opens, opens_one, opens_mark, opens_is}
use Rattle.ae_parser.proofs.from_reading.Begins.{opens_other, of_other}
use Rattle.ae_parser.proofs.from_reading.Programs.{method_is}
use Rattle.ae_parser.proofs.from_statements.BlockLemmas.{none_few}
use Rattle.ae_parser.proofs.from_reading.TypeLemmas.{NoLess, has_groups}
use Rattle.ae_parser.specs.declared.params.Given.{Given}
use Rattle.ae_parser.specs.Productions.{BeginsType, HasMe, given_to_method, FewGiven, need_by, some_needs}
use Rattle.ae_parser.proofs.ParamLemmas.{begins_type, no_type, has_given}

-- ---- what a method returns

void_cases : (ts : Tokens) → Is (tok.Word word.Void) (head ts) → (y : Option Ty) (us r : Tokens) → result y us
    → head (us ++ r) ≡ head ts → NoLess (head r) → (q : Unit {0}) × (y ≡ None) × TokenMark (tok.Word word.Void) q us
    × Always (head r)
void_cases ts is None us r d h f = (tt, refl, d, tt)
void_cases ts is (Some t) us r d h f =
    let P : Option Lexeme → Type 0 = BeginsType in
    absurd (no_type (tok.Word word.Void) (head ts) (λ e. cc) (λ e. cc) (λ e. cc) (λ e. cc) (λ e. cc) (λ e. cc) is
    (subst P h (begins_type t us r d)))

pub void_when : (ts : Tokens) → Is (tok.Word word.Void) (head ts)
    → When result (TokenMark (tok.Word word.Void)) Free Free NoLess Always ts (λ q. None)
void_when ts is = record {
  intro = λ q us d. d;
  cases = void_cases ts is;
  to = λ q us d l v. tt;
  from =
      λ q us d l v. tt;
}

some_cases : (ts : Tokens) → (Is (tok.Word word.Void) (head ts) → ⊥) → (y : Option Ty) (us r : Tokens) → result y us
    → head (us ++ r) ≡ head ts → (q : Ty) × (y ≡ Some q) × type_ q us
some_cases ts other None us r d h = absurd (opens_other us r ts (opens_one us r d.1) h other)
some_cases ts other (Some t) us r d h = (t, refl, d)

pub some_along : (ts : Tokens) → (Is (tok.Word word.Void) (head ts) → ⊥) → Along result type_ Free Free ts (λ q. Some q)
some_along ts other = record {
  intro = λ q us d. d;
  cases = some_cases ts other;
  to = λ q us d l v. tt;
  from =
      λ q us d l v. tt;
}

pub has_result : Has result Free
has_result = record {
  tree = None;
  tokens = at_once (tok.Word word.Void);
  is = (nowhere, refl);
  known =
      (tt, tt);
  within = λ l. tt;
}

-- ---- one need

abbrev pub need_body : Keyword → Lang (Unit {0} × NameAt)
need_body w = Both (TokenMark (tok.Word w)) name

abbrev pub need_tree : Need → Unit {0} × NameAt → GroupNeed
need_tree n q = record { need = n; group = q.1 }

same_need : (n m : Need) → need_word n ≡ need_word m → n ≡ m
same_need need_of.Exclusive need_of.Exclusive e = refl
same_need need_of.Exclusive need_of.Shared e = absurd cc
same_need need_of.Exclusive need_of.Protected e = absurd cc
same_need need_of.Shared need_of.Exclusive e = absurd cc
same_need need_of.Shared need_of.Shared e = refl
same_need need_of.Shared need_of.Protected e = absurd cc
same_need need_of.Protected need_of.Exclusive e = absurd cc
same_need need_of.Protected need_of.Shared e = absurd cc
same_need need_of.Protected need_of.Protected e = refl

need_intro : (w : Keyword) (n : Need) → need_word n ≡ w → (q : Unit {0} × NameAt) (us : Tokens) → need_body w q us
    → need_by w (need_tree n q) us
need_intro w n e q us d = let P : Keyword → Type 0 =
    λ k. (one_token (tok.Word k) ⨾ name q.1) us in (e, subst P (sym e) d)

need_cases : (w : Keyword) (n : Need) → need_word n ≡ w → (y : GroupNeed) (us : Tokens) → need_by w y us
    → (q : Unit {0} × NameAt) × (y ≡ need_tree n q) × need_body w q us
need_cases w n e y us d =
    let P : Keyword → Type 0 = λ k. (one_token (tok.Word k) ⨾ name y.group) us in (
      (tt, y.group),
      ap (λ (m : Need). record { need = m; group = y.group }) (same_need y.need n (d.0 ∙ sym e)),
      subst P d.0 d.1,
    )

need_along : (w : Keyword) (n : Need) (ts : Tokens) → need_word n ≡ w
    → Along (need_by w) (need_body w) Free (Pair Free Free) ts (need_tree n)
need_along w n ts e = record {
  intro = need_intro w n e;
  cases = λ y us r d h. need_cases w n e y us d;
  to =
      λ q us d l v. tt;
  from = λ q us d l v. (tt, tt);
}

pub need_took : (w : Keyword) (n : Need) → need_word n ≡ w → (ts rest : Tokens) (g : NameAt)
    → Took (need_body w) (Pair Free Free) Always ts (tt, g) rest
    → Took (need_by w) Free Always ts (record { need = n; group = g }) rest
need_took w n e ts rest g t = took_as (need_by w) (need_body w) (need_tree n) (need_along w n ts e) t

pub need_failed : (w : Keyword) (n : Need) → need_word n ≡ w → (ts : Tokens) (e : Fail)
    → Failed (need_body w) (Pair Free Free) Always ts e → Failed (need_by w) Free Always ts e
need_failed w n is ts e f = failed_as (need_by w) (need_body w) (need_tree n) (need_along w n ts is) f

begins_need : (y : GroupNeed) (us r : Tokens) → need y us → Opens us r (tok.Word (need_word y.need))
begins_need y us r d = opens_mark us r d

-- the need of a word that is there
pub need_there : (w : Keyword) (ts : Tokens) → Is (tok.Word w) (head ts) → Along need (need_by w) Free Free ts (λ q. q)
need_there w ts is = record {
  intro = λ q us d. d.1;
  cases = λ y us r d h. let e : tok.Word (need_word y.need) ≡ tok.Word w = opens_is us r ts
      (begins_need y us r d) h is in (y, refl, (cc, d));
  to = λ q us d l v. tt;
  from = λ q us d l v. tt;
}

last_need : (ts : Tokens) → (Is (tok.Word word.Exclusive) (head ts) → ⊥) → (Is (tok.Word word.Shared) (head ts) → ⊥)
    → (n : Need) (us r : Tokens) → Opens us r (tok.Word (need_word n)) → head (us ++ r) ≡ head ts
    → need_word n ≡ word.Protected
last_need ts e s need_of.Exclusive us r b h = absurd (opens_other us r ts b h e)
last_need ts e s need_of.Shared us r b h = absurd (opens_other us r ts b h s)
last_need ts e s need_of.Protected us r b h = refl

-- the only need that is left
pub need_left : (ts : Tokens) → (Is (tok.Word word.Exclusive) (head ts) → ⊥)
    → (Is (tok.Word word.Shared) (head ts) → ⊥) → Along need (need_by word.Protected) Free Free ts (λ q. q)
need_left ts e s = record {
  intro = λ q us d. d.1;
  cases = λ y us r d h. (y, refl, (last_need ts e s y.need us r (begins_need y us r d) h, d));
  to = λ q us d l v. tt;
  from = λ q us d l v. tt;
}

pub has_need : Has need Free
has_need =
    let b : Has (need_body word.Exclusive) (Pair Free Free) = has_both (has_mark (tok.Word word.Exclusive) tt)
    has_name in
    record {
      tree = need_tree need_of.Exclusive b.tree;
      tokens = b.tokens;
      is = b.is;
      known = b.known;
      within =
          λ l. tt;
    }

-- ---- needs

abbrev pub Opening : Follow
Opening = Is (tok.Sign sign.OpenBrace)

-- `{` is no comma
pub needs_end : (o : Option Lexeme) → Opening o → Isnt (tok.Sign sign.Comma) o
needs_end = of_other (tok.Sign sign.OpenBrace) (tok.Sign sign.Comma) (λ e. cc)

pub comma_or_brace : (ts : Tokens) → Is (tok.Sign sign.Comma) (head ts) → Opening (head ts) → ⊥
comma_or_brace ts is also = not_both (tok.Sign sign.Comma) (tok.Sign sign.OpenBrace) (λ e. cc) (head ts) is also

abbrev pub with_body : Lang (Unit {0} × List GroupNeed)
with_body = Both (TokenMark (tok.Word word.With)) (separated need)

with_along : (ts : Tokens) → Along some_needs with_body Free (Pair Free Free) ts (λ q. q.1)
with_along ts = record {
  intro = λ q us d. d;
  cases = λ y us r d h. ((tt, y), refl, d);
  to = λ q us d l v. tt;
  from =
      λ q us d l v. (tt, tt);
}

pub with_took : (ts rest : Tokens) (ns : List GroupNeed) → Took with_body (Pair Free Free) Opening ts (tt, ns) rest
    → Took some_needs Free Opening ts ns rest
with_took ts rest ns t = took_as some_needs with_body (λ q. q.1) (with_along ts) t

pub with_failed : (ts : Tokens) (e : Fail) → Failed with_body (Pair Free Free) Opening ts e
    → Failed some_needs Free Opening ts e
with_failed ts e f = failed_as some_needs with_body (λ q. q.1) (with_along ts) f

needs_intro : (q : List GroupNeed) (us : Tokens) → some_needs q us → needs q us
needs_intro [] us d = absurd d.second
needs_intro (n ∷ ns) us d = d

needs_cases : (ts : Tokens) → Is (tok.Word word.With) (head ts) → (y : List GroupNeed) (us r : Tokens) → needs y us
    → head (us ++ r) ≡ head ts → Opening (head r) → (q : List GroupNeed) × (y ≡ q) × some_needs q us
    × Opening (head r)
needs_cases ts is [] us r d h f =
    let P : Tokens → Type 0 = λ l. head (l ++ r) ≡ head ts in
    let Q : Option Lexeme → Type 0 = Opening in
    absurd (not_both (tok.Word word.With) (tok.Sign sign.OpenBrace) (λ e. cc) (head ts) is (subst Q (subst P d h) f))
needs_cases ts is (n ∷ ns) us r d h f = (n ∷ ns, refl, d, f)

pub needs_when : (ts : Tokens) → Is (tok.Word word.With) (head ts)
    → When needs some_needs Free Free Opening Opening ts (λ q. q)
needs_when ts is = record {
  intro = needs_intro;
  cases = needs_cases ts is;
  to = λ q us d l v. tt;
  from =
      λ q us d l v. tt;
}

without_cases : (ts : Tokens) → (Is (tok.Word word.With) (head ts) → ⊥) → (y : List GroupNeed) (us r : Tokens)
    → needs y us → head (us ++ r) ≡ head ts → Opening (head r) → (y ≡ []) × (us ≡ [])
without_cases ts other [] us r d h f = (refl, d)
without_cases ts other (n ∷ ns) us r d h f = absurd (opens_other us r ts (opens_mark us r d) h other)

pub needs_none : (ts : Tokens) (ns : List GroupNeed) → ns ≡ [] → (Is (tok.Word word.With) (head ts) → ⊥)
    → Took needs Free Opening ts ns ts
needs_none ts ns e other =
    let P : List GroupNeed → Type 0 = λ l. Took needs Free Opening ts l ts in
    subst P (sym e) (took_nothing needs Free Opening ts [] refl (λ l. tt) (without_cases ts other))

pub has_needs : Has needs Free
has_needs = record { tree = []; tokens = []; is = refl; known = tt; within = λ l. tt }

-- ---- bodies

abbrev pub KeepsBody : Bound Lines
KeepsBody l b = KeepsBlock l 63 b

-- a body begins with a brace
pub body_opens : Links method_body Always Opening
body_opens y us r d f = opens_so us r (opens_mark us r d.3)

pub has_body : Has method_body KeepsBody
has_body = record {
  tree = End;
  tokens = at_once (tok.Sign sign.OpenBrace) ++ at_once (tok.Sign sign.CloseBrace);
  is = (
    End,
    None,
    refl,
    record {
      front = at_once (tok.Sign sign.OpenBrace);
      back = at_once (tok.Sign sign.CloseBrace);
      parts = refl;
      first = (nowhere, refl);
      second = record {
        front = [];
        back = at_once (tok.Sign sign.CloseBrace);
        parts = refl;
        first = record { front = []; back = []; parts = refl; first = refl; second = refl };
        second = (nowhere, refl);
      };
    },
  );
  known = (tt, (tt, tt));
  within = λ l. (none_few l, tt);
}

-- ---- methods

abbrev pub opening : Lang (Unit {0})
opening = TokenMark (tok.Sign sign.OpenParen)

abbrev pub closing : Lang (Unit {0})
closing = TokenMark (tok.Sign sign.CloseParen)

abbrev pub MethodParts : Type 0
MethodParts = Unit {0} × (Option Ty
    × (NameAt × (List NameAt × (Unit {0} × (Given × (Unit {0} × (List GroupNeed × Lines)))))))

abbrev pub whole_method : Option ℕ → Lang MethodParts
whole_method k = Both (TokenMark (tok.Word word.Method))
    (Both result (Both name (Both groups
    (Both opening (Both (given_to_method k) (Both closing (Both needs method_body)))))))

abbrev pub method_limit : Bound MethodParts
method_limit = Pair Free (Pair Free
    (Pair Free (Pair Free (Pair Free (Pair FewGiven (Pair Free (Pair Free KeepsBody)))))))

abbrev pub method_with : Option ℕ → Option Ty → NameAt → List NameAt → Given → List GroupNeed → ℕ → Lines → Definition
method_with k t x gs g ns n b =
    record {
      class = k;
      result = t;
      name = x;
      groups = gs;
      me = g.me;
      params = g.params;
      needs = ns;
      no = n;
      body =
          b;
    }

abbrev pub method_tree : Option ℕ → MethodParts → Definition
method_tree k q = method_with k q.1.0 q.1.1.0 q.1.1.1.0 q.1.1.1.1.1.0 q.1.1.1.1.1.1.1.0 0 q.1.1.1.1.1.1.1.1

behind : {p q r : Tokens → Type 0} → ((us : Tokens) → q us → r us) → (us : Tokens) → Then p q us → Then p r us
behind f us d = record { front = d.front; back = d.back; parts = d.parts; first = d.first; second = f d.back d.second }

in_front : {p q r : Tokens → Type 0} → ((us : Tokens) → p us → r us) → (us : Tokens) → Then p q us → Then r q us
in_front f us d = record {
  front = d.front;
  back = d.back;
  parts = d.parts;
  first = f d.front d.first;
  second =
      d.second;
}

-- what is given stands at the sixth place
given_at : (k : Option ℕ) (q : MethodParts) (us : Tokens) → whole_method k q us → HasMe k q.1.1.1.1.1.0.me
given_at k q us d = d.second.second.second.second.second.first.0

is_of : (k : Option ℕ) (q : MethodParts) → HasMe k q.1.1.1.1.1.0.me → IsMethodOf k (method_tree k q)
is_of None q h = (refl, h)
is_of (Some c) q h = (refl, h)

of_me : (k : Option ℕ) (m : Definition) → IsMethodOf k m → HasMe k m.me
of_me None m i = i.1
of_me (Some c) m i = i.1

method_intro : (k : Option ℕ) (q : MethodParts) (us : Tokens) → whole_method k q us → method k (method_tree k q) us
method_intro k q us d = (
  is_of k q (given_at k q us d),
  refl,
  behind (behind (behind (behind (behind (in_front (λ us g. g.1)))))) us d,
)

abbrev parts_of : Definition → MethodParts
parts_of m = (
  tt,
  (
    m.result,
    (
      m.name,
      (m.groups, (tt, (record { me = m.me; params = m.params }, (tt, (m.needs, m.body))))),
    ),
  ),
)

method_cases : (k : Option ℕ) (m : Definition) (us : Tokens) → method k m us
    → (q : MethodParts) × (m ≡ method_tree k q) × whole_method k q us
method_cases k m us d = (
  parts_of m,
  method_is k m d.0 d.1,
  behind (behind (behind (behind (behind (in_front (λ us g. (of_me k m d.0, g))))))) us d.2,
)

few_params : (l : Limit) (m : Definition) → FewGiven l (record { me = m.me; params = m.params }) → HasFewParams l m
few_params Statements m v = tt
few_params Levels m v = tt
few_params Depth m v = tt
few_params Params m v = v

few_given : (l : Limit) (m : Definition) → HasFewParams l m → FewGiven l (record { me = m.me; params = m.params })
few_given Statements m v = tt
few_given Levels m v = tt
few_given Depth m v = tt
few_given Params m v = v

method_to : (k : Option ℕ) (l : Limit) (q : MethodParts) → method_limit l q → KeepsMethod l (method_tree k q)
method_to k l q v = (few_params l (method_tree k q) v.1.1.1.1.1.0, v.1.1.1.1.1.1.1.1)

method_along : (k : Option ℕ) (ts : Tokens) → Along (method k) (whole_method k) KeepsMethod method_limit ts
    (method_tree k)
method_along k ts = record {
  intro = method_intro k;
  cases = λ m us r d h. method_cases k m us d;
  to = λ q us d l v. method_to k l q v;
  from = λ q us d l v. (tt, (tt, (tt, (tt, (tt, (few_given l (method_tree k q) v.0, (tt, (tt, v.1))))))));
}

pub method_took : (k : Option ℕ) (ts rest : Tokens) (t : Option Ty) (x : NameAt) (gs : List NameAt) (g : Given)
    (ns : List GroupNeed) (b : Lines) →
    Took (whole_method k) method_limit Always ts (tt, (t, (x, (gs, (tt, (g, (tt, (ns, b)))))))) rest
    → Took (method k) KeepsMethod Always ts (method_with k t x gs g ns 0 b) rest
method_took k ts rest t x gs g ns b s = took_as (method k) (whole_method k) (method_tree k) (method_along k ts) s

pub method_failed : (k : Option ℕ) (ts : Tokens) (e : Fail) → Failed (whole_method k) method_limit Always ts e
    → Failed (method k) KeepsMethod Always ts e
method_failed k ts e f = failed_as (method k) (whole_method k) (method_tree k) (method_along k ts) f

-- completions behind each part

pub has_needed : Has (Both needs method_body) (Pair Free KeepsBody)
has_needed = has_both has_needs has_body

pub has_closed : Has (Both closing (Both needs method_body)) (Pair Free (Pair Free KeepsBody))
has_closed = has_both (has_mark (tok.Sign sign.CloseParen) tt) has_needed

pub has_filled : (k : Option ℕ) → Has (Both (given_to_method k) (Both closing (Both needs method_body)))
    (Pair FewGiven (Pair Free (Pair Free KeepsBody)))
has_filled k = has_both (has_given k) has_closed

pub has_opened : (k : Option ℕ)
    → Has (Both opening (Both (given_to_method k) (Both closing (Both needs method_body))))
    (Pair Free (Pair FewGiven (Pair Free (Pair Free KeepsBody))))
has_opened k = has_both (has_mark (tok.Sign sign.OpenParen) tt) (has_filled k)

pub has_grouped : (k : Option ℕ)
    → Has (Both groups (Both opening (Both (given_to_method k) (Both closing (Both needs method_body)))))
    (Pair Free (Pair Free (Pair FewGiven (Pair Free (Pair Free KeepsBody)))))
has_grouped k = has_both has_groups (has_opened k)

pub has_named : (k : Option ℕ)
    → Has (Both name (Both groups (Both opening (Both (given_to_method k) (Both closing (Both needs method_body))))))
    (Pair Free (Pair Free (Pair Free (Pair FewGiven (Pair Free (Pair Free KeepsBody))))))
has_named k = has_both has_name (has_grouped k)

pub has_returned : (k : Option ℕ)
    → Has (Both result (Both name (Both groups
    (Both opening (Both (given_to_method k) (Both closing (Both needs method_body)))))))
    (Pair Free (Pair Free (Pair Free (Pair Free (Pair FewGiven (Pair Free (Pair Free KeepsBody)))))))
has_returned k = has_both has_result (has_named k)

pub has_method : (k : Option ℕ) → Has (method k) KeepsMethod
has_method k =
    let b : Has (whole_method k) method_limit = has_both (has_mark (tok.Word word.Method) tt) (has_returned k) in
    record {
      tree = method_tree k b.tree;
      tokens = b.tokens;
      is = method_intro k b.tree b.tokens b.is;
      known =
          b.known;
      within = λ l. method_to k l b.tree (b.within l);
    }

begins_method : (k : Option ℕ) (m : Definition) (us r : Tokens) → method k m us → Opens us r (tok.Word word.Method)
begins_method k m us r d = opens_mark us r d.2

pub method_begins : (k : Option ℕ) (m : Definition) (us r : Tokens) → method k m us
    → Is (tok.Word word.Method) (head (us ++ r))
method_begins k m us r d = opens_so us r (opens_mark us r d.2)
