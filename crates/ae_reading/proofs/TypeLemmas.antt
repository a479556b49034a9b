-- Groups, permissions and types: how each production is read.
use Rattle.std.proofs.Common.{◌≡◌, ◌++◌, List, [], ◌∷◌, Option, refl, sym, subst}
use Rattle.ae_text.specs.declared.refusal.Spot.{Spot}
use Rattle.ae_text.specs.declared.token.Keyword.{Keyword}
use Rattle.ae_text.specs.declared.token.Keyword.TheVariants as word
use Rattle.ae_text.specs.declared.token.Sign.TheVariants as sign
use Rattle.ae_tree.specs.declared.lexeme.Lexeme.{Lexeme}
use Rattle.ae_tree.specs.declared.lexeme.Lexical.TheVariants as tok
use Rattle.ae_tree.specs.declared.tree.NameAt.{NameAt}
use Rattle.ae_tree.specs.declared.tree.PermAt.{PermAt}
use Rattle.ae_tree.specs.declared.tree.PermAt.TheVariants as perm_at
use Rattle.ae_tree.specs.declared.tree.KindAt.{KindAt}
use Rattle.ae_tree.specs.declared.tree.KindAt.TheVariants as kind_at
use Rattle.ae_tree.specs.declared.tree.Ty.{Ty}
use Rattle.ae_tree.specs.declared.tree.Ty.TheVariants as ty
use Rattle.ae_tree.specs.declared.limits.Limit.{Limit}
use Rattle.ae_tree.specs.Grammar.{Tokens, separated, name, groups, permission, kind, type_}
use Rattle.ae_reading.specs.declared.fail.Fail.{Fail}
use Rattle.ae_reading.specs.Reads.{head, Always, Is, Isnt, Free, Took, Failed, Token, TokenMark}
use Rattle.ae_reading.proofs.ReadsLemmas.{Lang, Follow, Both, Pair, Has, Along, Links, took_as, failed_as, has_mark}
use Rattle.ae_reading.proofs.ReadsLemmas.{has_both, has_name, nowhere, at_once, When, took_nothing}
use Rattle.ae_reading.proofs.Parts.{has_separated}
use Rattle.ae_reading.proofs.Begins.{Opens, opens_one, opens_at, opens_mark, opens_first, opens_is, opens_other}
use Rattle.ae_reading.proofs.Begins.{opens_isnt, is_isnt}
use Rattle.ae_reading.specs.Parts.{angled, shared_permission, class, object}

-- ---- groups

abbrev pub NoLess : Follow
NoLess = Isnt (tok.Sign sign.Less)

abbrev pub greater : Lang (Unit {0})
greater = TokenMark (tok.Sign sign.Greater)

abbrev pub less : Lang (Unit {0})
less = TokenMark (tok.Sign sign.Less)

abbrev pub Angled : Type 0
Angled = Unit {0} × (List NameAt × Unit {0})

abbrev pub angled_body : Lang Angled
angled_body = Both less (Both (separated name) greater)

angled_along : (ts : Tokens) → Along angled angled_body Free (Pair Free (Pair Free Free)) ts (λ q. q.1.0)
angled_along ts = record {
  intro = λ q us d. d;
  cases = λ y us r d h. ((tt, (y, tt)), refl, d);
  to =
      λ q us d l v. tt;
  from = λ q us d l v. (tt, (tt, tt));
}

pub angled_took : (ts rest : Tokens) (gs : List NameAt) → Took angled_body (Pair Free (Pair Free Free)) Always ts
    (tt, (gs, tt)) rest → Took angled Free Always ts gs rest
angled_took ts rest gs t = took_as angled angled_body (λ q. q.1.0) (angled_along ts) t

pub angled_failed : (ts : Tokens) (e : Fail) → Failed angled_body (Pair Free (Pair Free Free)) Always ts e
    → Failed angled Free Always ts e
angled_failed ts e f = failed_as angled angled_body (λ q. q.1.0) (angled_along ts) f

-- `>` is no comma
pub greater_ends : Links greater Always (Isnt (tok.Sign sign.Comma))
greater_ends y us r d f = opens_isnt us r (opens_one us r d.1) (λ e. cc)

pub has_angled_rest : Has (Both (separated name) greater) (Pair Free Free)
has_angled_rest = has_both (has_separated name has_name) (has_mark (tok.Sign sign.Greater) tt)

begins_groups : (g : NameAt) (gs : List NameAt) (us r : Tokens) → groups (g ∷ gs) us → Opens us r (tok.Sign sign.Less)
begins_groups g gs us r d = opens_mark us r d

groups_intro : (q : List NameAt) (us : Tokens) → angled q us → groups q us
groups_intro [] us d = absurd d.second.first
groups_intro (g ∷ gs) us d = d

angled_cases : (ts : Tokens) → Is (tok.Sign sign.Less) (head ts) → (y : List NameAt) (us r : Tokens) → groups y us
    → head (us ++ r) ≡ head ts → NoLess (head r) → (q : List NameAt) × (y ≡ q) × angled q us × Always (head r)
angled_cases ts is [] us r d h f =
    let P : Tokens → Type 0 = λ l. head (l ++ r) ≡ head ts in
    let Q : Option Lexeme → Type 0 = NoLess in
    absurd (is_isnt (tok.Sign sign.Less) (head ts) is (subst Q (subst P d h) f))
angled_cases ts is (g ∷ gs) us r d h f = (g ∷ gs, refl, d, tt)

pub angled_when : (ts : Tokens) → Is (tok.Sign sign.Less) (head ts)
    → When groups angled Free Free NoLess Always ts (λ q. q)
angled_when ts is = record {
  intro = groups_intro;
  cases = angled_cases ts is;
  to = λ q us d l v. tt;
  from =
      λ q us d l v. tt;
}

none_cases : (ts : Tokens) → (Is (tok.Sign sign.Less) (head ts) → ⊥) → (y : List NameAt) (us r : Tokens) → groups y us
    → head (us ++ r) ≡ head ts → NoLess (head r) → (y ≡ []) × (us ≡ [])
none_cases ts other [] us r d h f = (refl, d)
none_cases ts other (g ∷ gs) us r d h f = absurd (opens_other us r ts (begins_groups g gs us r d) h other)

pub groups_none : (ts : Tokens) (xs : List NameAt) → xs ≡ [] → (Is (tok.Sign sign.Less) (head ts) → ⊥)
    → Took groups Free NoLess ts xs ts
groups_none ts xs e other =
    let P : List NameAt → Type 0 = λ l. Took groups Free NoLess ts l ts in
    subst P (sym e) (took_nothing groups Free NoLess ts [] refl (λ l. tt) (none_cases ts other))

pub has_groups : Has groups Free
has_groups = record { tree = []; tokens = []; is = refl; known = tt; within = λ l. tt }

-- ---- permissions

abbrev pub perm_word : PermAt → Keyword
perm_word (perm_at.Unique at) = word.Unique
perm_word (perm_at.Immutable at) = word.Immutable
perm_word (perm_at.Lent at) = word.Lent
perm_word (perm_at.Shared at g) = word.Shared

pub begins_permission : (p : PermAt) (us r : Tokens) → permission p us → Opens us r (tok.Word (perm_word p))
begins_permission (perm_at.Unique at) us r d = opens_one us r d
begins_permission (perm_at.Immutable at) us r d = opens_one us r d
begins_permission (perm_at.Lent at) us r d = opens_one us r d
begins_permission (perm_at.Shared at g) us r d = opens_at us r d

perm_is : (w : Keyword) (ts : Tokens) → Is (tok.Word w) (head ts) → (p : PermAt) (us r : Tokens) → permission p us
    → head (us ++ r) ≡ head ts → perm_word p ≡ w
perm_is w ts is p us r d h = let e : tok.Word (perm_word p) ≡ tok.Word w = opens_is us r ts
    (begins_permission p us r d) h is in cc

unique_cases : (p : PermAt) (us : Tokens) → perm_word p ≡ word.Unique → permission p us
    → (at : Spot) × (p ≡ perm_at.Unique at) × Token (tok.Word word.Unique) at us
unique_cases (perm_at.Unique at) us e d = (at, refl, d)
unique_cases (perm_at.Immutable at) us e d = absurd cc
unique_cases (perm_at.Lent at) us e d = absurd cc
unique_cases (perm_at.Shared at g) us e d = absurd cc

pub unique_along : (ts : Tokens) → Is (tok.Word word.Unique) (head ts)
    → Along permission (Token (tok.Word word.Unique)) Free Free ts perm_at.Unique
unique_along ts is = record {
  intro = λ q us d. d;
  cases =
      λ y us r d h. unique_cases y us (perm_is word.Unique ts is y us r d h) d;
  to = λ q us d l v. tt;
  from =
      λ q us d l v. tt;
}

immutable_cases : (p : PermAt) (us : Tokens) → perm_word p ≡ word.Immutable → permission p us
    → (at : Spot) × (p ≡ perm_at.Immutable at) × Token (tok.Word word.Immutable) at us
immutable_cases (perm_at.Unique at) us e d = absurd cc
immutable_cases (perm_at.Immutable at) us e d = (at, refl, d)
immutable_cases (perm_at.Lent at) us e d = absurd cc
immutable_cases (perm_at.Shared at g) us e d = absurd cc

pub immutable_along : (ts : Tokens) → Is (tok.Word word.Immutable) (head ts)
    → Along permission (Token (tok.Word word.Immutable)) Free Free ts perm_at.Immutable
immutable_along ts is = record {
  intro = λ q us d. d;
  cases = λ y us r d h. immutable_cases y us (perm_is word.Immutable ts is y us r d h) d;
  to
      = λ q us d l v. tt;
  from = λ q us d l v. tt;
}

lent_cases : (p : PermAt) (us : Tokens) → perm_word p ≡ word.Lent → permission p us
    → (at : Spot) × (p ≡ perm_at.Lent at) × Token (tok.Word word.Lent) at us
lent_cases (perm_at.Unique at) us e d = absurd cc
lent_cases (perm_at.Immutable at) us e d = absurd cc
lent_cases (perm_at.Lent at) us e d = (at, refl, d)
lent_cases (perm_at.Shared at g) us e d = absurd cc

pub lent_along : (ts : Tokens) → Is (tok.Word word.Lent) (head ts)
    → Along permission (Token (tok.Word word.Lent)) Free Free ts perm_at.Lent
lent_along ts is = record {
  intro = λ q us d. d;
  cases =
      λ y us r d h. lent_cases y us (perm_is word.Lent ts is y us r d h) d;
  to = λ q us d l v. tt;
  from =
      λ q us d l v. tt;
}

shared_intro : (q : PermAt) (us : Tokens) → shared_permission q us → permission q us
shared_intro q us d = let P : PermAt → Type 0 = λ p. permission p us in subst P (sym d.2) d.3

shared_cases : (ts : Tokens) → (Is (tok.Word word.Unique) (head ts) → ⊥)
    → (Is (tok.Word word.Immutable) (head ts) → ⊥) → (Is (tok.Word word.Lent) (head ts) → ⊥) →
    (p : PermAt) (us r : Tokens) → permission p us → head (us ++ r) ≡ head ts
    → (q : PermAt) × (p ≡ q) × shared_permission q us
shared_cases ts u i n (perm_at.Unique at) us r d h = absurd (opens_other us r ts (opens_one us r d) h u)
shared_cases ts u i n (perm_at.Immutable at) us r d h = absurd (opens_other us r ts (opens_one us r d) h i)
shared_cases ts u i n (perm_at.Lent at) us r d h = absurd (opens_other us r ts (opens_one us r d) h n)
shared_cases ts u i n (perm_at.Shared at g) us r d h = (perm_at.Shared at g, refl, (at, g, refl, d))

pub shared_along : (ts : Tokens) → (Is (tok.Word word.Unique) (head ts) → ⊥)
    → (Is (tok.Word word.Immutable) (head ts) → ⊥) → (Is (tok.Word word.Lent) (head ts) → ⊥)
    → Along permission shared_permission Free Free ts (λ q. q)
shared_along ts u i n = record {
  intro = shared_intro;
  cases = shared_cases ts u i n;
  to = λ q us d l v. tt;
  from =
      λ q us d l v. tt;
}

abbrev pub Sharing : Type 0
Sharing = Spot × (Unit {0} × (NameAt × Unit {0}))

abbrev pub shared_body : Lang Sharing
shared_body = Both (Token (tok.Word word.Shared)) (Both less (Both name greater))

abbrev pub shared_limit : Limit → Sharing → Type 0
shared_limit = Pair Free (Pair Free (Pair Free Free))

abbrev pub shared_tree : Sharing → PermAt
shared_tree q = perm_at.Shared q.0 q.1.1.0

shared_body_along : (ts : Tokens) → Along shared_permission shared_body Free shared_limit ts shared_tree
shared_body_along ts = record {
  intro = λ q us d. (q.0, q.1.1.0, refl, d);
  cases =
      λ y us r d h. ((d.0, (tt, (d.1, tt))), d.2, d.3);
  to = λ q us d l v. tt;
  from =
      λ q us d l v. (tt, (tt, (tt, tt)));
}

pub shared_took : (ts rest : Tokens) (at : Spot) (g : NameAt)
    → Took shared_body shared_limit Always ts (at, (tt, (g, tt))) rest
    → Took shared_permission Free Always ts (perm_at.Shared at g) rest
shared_took ts rest at g t = took_as shared_permission shared_body shared_tree (shared_body_along ts) t

pub shared_failed : (ts : Tokens) (e : Fail) → Failed shared_body shared_limit Always ts e
    → Failed shared_permission Free Always ts e
shared_failed ts e f = failed_as shared_permission shared_body shared_tree (shared_body_along ts) f

pub has_grouped : Has (Both name greater) (Pair Free Free)
has_grouped = has_both has_name (has_mark (tok.Sign sign.Greater) tt)

pub has_sharing : Has (Both less (Both name greater)) (Pair Free (Pair Free Free))
has_sharing = has_both (has_mark (tok.Sign sign.Less) tt) has_grouped

pub has_permission : Has permission Free
has_permission = record {
  tree = perm_at.Unique nowhere;
  tokens = at_once (tok.Word word.Unique);
  is = refl;
  known =
      (tt, tt);
  within = λ l. tt;
}

-- ---- kinds

ints_cases : (ts : Tokens) → Is (tok.Word word.Ints) (head ts) → (k : KindAt) (us r : Tokens) → kind k us
    → head (us ++ r) ≡ head ts → NoLess (head r) → (at : Spot) × (k ≡ kind_at.Ints at)
    × Token (tok.Word word.Ints) at us × Always (head r)
ints_cases ts is (kind_at.Ints at) us r d h f = (at, refl, d, tt)
ints_cases ts is (kind_at.Class c gs) us r d h f = let no : tok.Name c.name ≡ tok.Word word.Ints = opens_is us r ts
    (opens_at us r d) h is in absurd cc

pub ints_when : (ts : Tokens) → Is (tok.Word word.Ints) (head ts)
    → When kind (Token (tok.Word word.Ints)) Free Free NoLess Always ts kind_at.Ints
ints_when ts is = record {
  intro = λ q us d. d;
  cases = ints_cases ts is;
  to = λ q us d l v. tt;
  from =
      λ q us d l v. tt;
}

class_intro : (q : KindAt) (us : Tokens) → class q us → kind q us
class_intro q us d = let P : KindAt → Type 0 = λ k. kind k us in subst P (sym d.2) d.3

class_cases : (ts : Tokens) → (Is (tok.Word word.Ints) (head ts) → ⊥) → (k : KindAt) (us r : Tokens) → kind k us
    → head (us ++ r) ≡ head ts → (q : KindAt) × (k ≡ q) × class q us
class_cases ts other (kind_at.Ints at) us r d h = absurd (opens_other us r ts (opens_one us r d) h other)
class_cases ts other (kind_at.Class c gs) us r d h = (kind_at.Class c gs, refl, (c, gs, refl, d))

pub class_along : (ts : Tokens) → (Is (tok.Word word.Ints) (head ts) → ⊥) → Along kind class Free Free ts (λ q. q)
class_along ts other = record {
  intro = class_intro;
  cases = class_cases ts other;
  to = λ q us d l v. tt;
  from =
      λ q us d l v. tt;
}

abbrev pub class_body : Lang (NameAt × List NameAt)
class_body = Both name groups

class_body_along : (ts : Tokens) → Along class class_body Free (Pair Free Free) ts (λ q. kind_at.Class q.0 q.1)
class_body_along ts = record {
  intro = λ q us d. (q.0, q.1, refl, d);
  cases =
      λ y us r d h. ((d.0, d.1), d.2, d.3);
  to = λ q us d l v. tt;
  from = λ q us d l v. (tt, tt);
}

pub class_took : (ts rest : Tokens) (c : NameAt) (gs : List NameAt)
    → Took class_body (Pair Free Free) NoLess ts (c, gs) rest → Took class Free NoLess ts (kind_at.Class c gs) rest
class_took ts rest c gs t = took_as class class_body (λ q. kind_at.Class q.0 q.1) (class_body_along ts) t

pub class_failed : (ts : Tokens) (e : Fail) → Failed class_body (Pair Free Free) NoLess ts e
    → Failed class Free NoLess ts e
class_failed ts e f = failed_as class class_body (λ q. kind_at.Class q.0 q.1) (class_body_along ts) f

pub has_kind : Has kind Free
has_kind = record {
  tree = kind_at.Ints nowhere;
  tokens = at_once (tok.Word word.Ints);
  is = refl;
  known =
      (tt, tt);
  within = λ l. tt;
}

-- ---- types

int_cases : (ts : Tokens) → Is (tok.Word word.Int) (head ts) → (t : Ty) (us r : Tokens) → type_ t us
    → head (us ++ r) ≡ head ts → NoLess (head r) → (at : Spot) × (t ≡ ty.Int at) × Token (tok.Word word.Int) at us
    × Always (head r)
int_cases ts is (ty.Int at) us r d h f = (at, refl, d, tt)
int_cases ts is (ty.Bool at) us r d h f = let no : tok.Word word.Bool ≡ tok.Word word.Int = opens_is us r ts
    (opens_one us r d) h is in absurd cc
int_cases ts is (ty.Object p k) us r d h f = no_object p
    (opens_is us r ts (opens_first us r d (begins_permission p d.front (d.back ++ r) d.first)) h is)
  where
    no_object : (p : PermAt) → tok.Word (perm_word p) ≡ tok.Word word.Int → (at : Spot) × (ty.Object p k ≡ ty.Int at)
        × Token (tok.Word word.Int) at us × Always (head r)
    no_object (perm_at.Unique at) e = absurd cc
    no_object (perm_at.Immutable at) e = absurd cc
    no_object (perm_at.Lent at) e = absurd cc
    no_object (perm_at.Shared at g) e = absurd cc

pub int_when : (ts : Tokens) → Is (tok.Word word.Int) (head ts)
    → When type_ (Token (tok.Word word.Int)) Free Free NoLess Always ts ty.Int
int_when ts is = record { intro = λ q us d. d; cases = int_cases ts is; to = λ q us d l v. tt; from = λ q us d l v. tt }

bool_cases : (ts : Tokens) → Is (tok.Word word.Bool) (head ts) → (t : Ty) (us r : Tokens) → type_ t us
    → head (us ++ r) ≡ head ts → NoLess (head r) → (at : Spot) × (t ≡ ty.Bool at) × Token (tok.Word word.Bool) at us
    × Always (head r)
bool_cases ts is (ty.Int at) us r d h f = let no : tok.Word word.Int ≡ tok.Word word.Bool = opens_is us r ts
    (opens_one us r d) h is in absurd cc
bool_cases ts is (ty.Bool at) us r d h f = (at, refl, d, tt)
bool_cases ts is (ty.Object p k) us r d h f = no_object p
    (opens_is us r ts (opens_first us r d (begins_permission p d.front (d.back ++ r) d.first)) h is)
  where
    no_object : (p : PermAt) → tok.Word (perm_word p) ≡ tok.Word word.Bool
        → (at : Spot) × (ty.Object p k ≡ ty.Bool at) × Token (tok.Word word.Bool) at us × Always (head r)
    no_object (perm_at.Unique at) e = absurd cc
    no_object (perm_at.Immutable at) e = absurd cc
    no_object (perm_at.Lent at) e = absurd cc
    no_object (perm_at.Shared at g) e = absurd cc

pub bool_when : (ts : Tokens) → Is (tok.Word word.Bool) (head ts)
    → When type_ (Token (tok.Word word.Bool)) Free Free NoLess Always ts ty.Bool
bool_when ts is = record {
  intro = λ q us d. d;
  cases = bool_cases ts is;
  to = λ q us d l v. tt;
  from =
      λ q us d l v. tt;
}

object_intro : (q : Ty) (us : Tokens) → object q us → type_ q us
object_intro q us d = let P : Ty → Type 0 = λ t. type_ t us in subst P (sym d.2) d.3

object_cases : (ts : Tokens) → (Is (tok.Word word.Int) (head ts) → ⊥) → (Is (tok.Word word.Bool) (head ts) → ⊥)
    → (t : Ty) (us r : Tokens) → type_ t us → head (us ++ r) ≡ head ts → (q : Ty) × (t ≡ q) × object q us
object_cases ts i b (ty.Int at) us r d h = absurd (opens_other us r ts (opens_one us r d) h i)
object_cases ts i b (ty.Bool at) us r d h = absurd (opens_other us r ts (opens_one us r d) h b)
object_cases ts i b (ty.Object p k) us r d h = (ty.Object p k, refl, (p, k, refl, d))

pub object_along : (ts : Tokens) → (Is (tok.Word word.Int) (head ts) → ⊥) → (Is (tok.Word word.Bool) (head ts) → ⊥)
    → Along type_ object Free Free ts (λ q. q)
object_along ts i b = record {
  intro = object_intro;
  cases = object_cases ts i b;
  to = λ q us d l v. tt;
  from =
      λ q us d l v. tt;
}

abbrev pub object_body : Lang (PermAt × KindAt)
object_body = Both permission kind

object_body_along : (ts : Tokens) → Along object object_body Free (Pair Free Free) ts (λ q. ty.Object q.0 q.1)
object_body_along ts = record {
  intro = λ q us d. (q.0, q.1, refl, d);
  cases =
      λ y us r d h. ((d.0, d.1), d.2, d.3);
  to = λ q us d l v. tt;
  from = λ q us d l v. (tt, tt);
}

pub object_took : (ts rest : Tokens) (p : PermAt) (k : KindAt)
    → Took object_body (Pair Free Free) NoLess ts (p, k) rest → Took object Free NoLess ts (ty.Object p k) rest
object_took ts rest p k t = took_as object object_body (λ q. ty.Object q.0 q.1) (object_body_along ts) t

pub object_failed : (ts : Tokens) (e : Fail) → Failed object_body (Pair Free Free) NoLess ts e
    → Failed object Free NoLess ts e
object_failed ts e f = failed_as object object_body (λ q. ty.Object q.0 q.1) (object_body_along ts) f

pub has_type : Has type_ Free
has_type = record {
  tree = ty.Int nowhere;
  tokens = at_once (tok.Word word.Int);
  is = refl;
  known = (tt, tt);
  within =
      λ l. tt;
}
