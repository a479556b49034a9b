-- Declarations, one after another, and the end behind them.
use Rattle.std.proofs.Common.{◌≡◌, ℕ, ◌+◌, ◌<◌, ◌≤◌, ◌++◌, List, [], ◌∷◌, length, Some, None, refl, sym, ap, ◌∙◌}
use Rattle.std.proofs.Common.{append_assoc, append-nil, subst, arith, length-append, map, Result, Ok, Err, IsErrAnd}
use Rattle.std.proofs.Common.{Bor}
use Rattle.std.specs.Prelude.{All}
use Rattle.std.proofs.lemmas.List.{map-append, length-map}
use Rattle.std.proofs.lemmas.List.Elements.{All-append, All-nil, All-head, All-tail}
use Rattle.ae_text.specs.declared.token.Keyword.TheVariants as word
use Rattle.ae_tree.specs.declared.lexeme.Lexical.TheVariants as tok
use Rattle.ae_tree.specs.declared.limits.Limit.{Limit}
use Rattle.ae_tree.specs.declared.tree.Class.{Class}
use Rattle.ae_tree.specs.declared.tree.Method.{Method}
use Rattle.ae_tree.specs.declared.tree.Decl.{Decl}
use Rattle.ae_tree.specs.declared.tree.Decl.TheVariants as decl
use Rattle.ae_tree.specs.Shown as shown
use Rattle.ae_tree.specs.Plain.{Definition}
use Rattle.ae_tree.specs.Grammar.{Tokens, method, Declaration, OfClass, OfMethod, classes_in, methods_in, declared}
use Rattle.ae_tree.specs.Grammar.{declaration, declarations, classes_of, methods_of, decls_of}
use Rattle.ae_tree.specs.Limits.{KeepsMethod}
use Rattle.ae_reading.specs.declared.fail.Fail.{Fail}
use Rattle.ae_reading.specs.Reads.{head, Always, Is, Free, Took, Failed, TokenMark, chain, state_after}
use Rattle.ae_parser.proofs.from_reading.ReadsLemmas.{Lang, Follow, Links, Both, Pair, Along, NoneAt, took_as}
use Rattle.ae_parser.proofs.from_reading.ReadsLemmas.{failed_as, has_mark, first}
use Rattle.ae_parser.proofs.from_reading.Chains.{Chain, after-append, chain_start, chain_more, chain_end, chain_failed}
use Rattle.ae_parser.proofs.from_reading.Begins.{opens_so, opens_one, opens_mark, opens_is, opens_other}
use Rattle.ae_parser.proofs.from_reading.Programs.{Counts2, counted, one_of, to_all, from_all}
use Rattle.ae_parser.specs.declared.classes.WithMethods.{WithMethods}
use Rattle.ae_parser.specs.declared.declarations.Parts.{Parts}
use Rattle.ae_parser.specs.Reading.{whole_program, KeepsAll, KeepsAllWhole, HasRead, ReadsAll}
use Rattle.ae_parser.specs.Productions.{KeepsOne, shown_class, class_behind, method_behind, Added, ReadsOne}
use Rattle.ae_parser.proofs.ClassLemmas.{all_one, method_long, methods_long}

-- ---- one declaration

method_along : (c m : ℕ) (ts : Tokens) → Along (method_behind c m) (method None) KeepsOne KeepsMethod ts OfMethod
method_along c m ts = record {
  intro = λ q us d. (q, refl, d);
  cases = λ y us r d h. (d.0, d.1, d.2);
  to = λ q us d l v. all_one (KeepsMethod l) q v;
  from = λ q us d l v. All-head (KeepsMethod l) q [] v;
}

pub method_fails : (c m : ℕ) (ts : Tokens) (e : Fail) → Failed (method None) KeepsMethod Always ts e
    → Failed (method_behind c m) KeepsOne Always ts e
method_fails c m ts e f = failed_as (method_behind c m) (method None) OfMethod (method_along c m ts) f

pub added_method : (before behind : Parts) (ts rest : Tokens) (x : Method) → behind.classes ≡ before.classes
    → behind.methods ≡ before.methods ++ x ∷ [] → behind.decls ≡ before.decls ++ decl.Method (length before.methods)
    ∷ [] →
    Took (method None) KeepsMethod Always ts (shown.definition x) rest → Added method_behind before behind ts rest
added_method before behind ts rest x cs ms ds t = record {
  one = OfMethod (shown.definition x);
  took = took_as (method_behind (length before.classes) (length before.methods)) (method None) OfMethod
      (method_along (length before.classes) (length before.methods) ts) t;
  classes = cs ∙ sym (append-nil before.classes);
  methods = ap (λ (l : List Method). map shown.definition l) ms ∙ map-append shown.definition before.methods (x ∷ []);
  decls = ds;
}

pub added_class : (before behind : Parts) (ts rest : Tokens) (w : WithMethods) → behind.classes ≡ before.classes
    ++ w.class ∷ [] → behind.methods ≡ before.methods ++ w.methods → behind.decls ≡ before.decls
    ++ decl.Class (length before.classes) ∷ [] →
    Took (class_behind (length before.classes) (length before.methods)) KeepsOne Always ts (shown_class w) rest
    → Added class_behind before behind ts rest
added_class before behind ts rest w cs ms ds t = record {
  one = shown_class w;
  took = t;
  classes = cs;
  methods = ap (λ (l : List Method). map shown.definition l) ms ∙ map-append shown.definition before.methods w.methods;
  decls = ds;
}

class_intro : (c m : ℕ) (q : Declaration) (us : Tokens) → class_behind c m q us → declaration c m q us
class_intro c m q us d = let P : Declaration → Type 0 = λ x. declaration c m x us in subst P (sym d.2) d.3

class_cases : (c m : ℕ) (ts : Tokens) → Is (tok.Word word.Class) (head ts) → (y : Declaration) (us r : Tokens)
    → declaration c m y us → head (us ++ r) ≡ head ts → (q : Declaration) × (y ≡ q) × class_behind c m q us
class_cases c m ts is (OfClass k ms) us r d h = (OfClass k ms, refl, (k, ms, refl, d))
class_cases c m ts is (OfMethod x) us r d h = let no : tok.Word word.Method ≡ tok.Word word.Class = opens_is us r ts
    (opens_mark us r d.2) h is in absurd cc

pub class_there : (ts : Tokens) → Is (tok.Word word.Class) (head ts) → (c m : ℕ)
    → Along (declaration c m) (class_behind c m) KeepsOne KeepsOne ts (λ q. q)
class_there ts is c m = record {
  intro = class_intro c m;
  cases = class_cases c m ts is;
  to = λ q us d l v. v;
  from =
      λ q us d l v. v;
}

method_intro : (c m : ℕ) (q : Declaration) (us : Tokens) → method_behind c m q us → declaration c m q us
method_intro c m q us d = let P : Declaration → Type 0 = λ x. declaration c m x us in subst P (sym d.1) d.2

method_cases : (c m : ℕ) (ts : Tokens) → (Is (tok.Word word.Class) (head ts) → ⊥) → (y : Declaration) (us r : Tokens)
    → declaration c m y us → head (us ++ r) ≡ head ts → (q : Declaration) × (y ≡ q) × method_behind c m q us
method_cases c m ts other (OfClass k ms) us r d h = absurd (opens_other us r ts (opens_mark us r d.1) h other)
method_cases c m ts other (OfMethod x) us r d h = (OfMethod x, refl, (x, refl, d))

pub method_there : (ts : Tokens) → (Is (tok.Word word.Class) (head ts) → ⊥) → (c m : ℕ)
    → Along (declaration c m) (method_behind c m) KeepsOne KeepsOne ts (λ q. q)
method_there ts other c m = record {
  intro = method_intro c m;
  cases = method_cases c m ts other;
  to =
      λ q us d l v. v;
  from = λ q us d l v. v;
}

-- one of the forms is a declaration
pub is_declaration : (D : ℕ → ℕ → Lang Declaration) (before behind : Parts) (ts : Tokens)
    (r : Result (Bor Tokens) Fail) →
    ((c m : ℕ) → Along (declaration c m) (D c m) KeepsOne KeepsOne ts (λ q. q)) → ReadsOne D before behind ts r
    → ReadsOne declaration before behind ts r
is_declaration D before behind ts (Ok rest) a s = record {
  one = s.one;
  took = took_as (declaration (length before.classes) (length before.methods))
      (D (length before.classes) (length before.methods)) (λ q. q) (a (length before.classes) (length before.methods))
      s.took;
  classes = s.classes;
  methods = s.methods;
  decls = s.decls;
}
is_declaration D before behind ts (Err e) a s =
    failed_as (declaration (length before.classes) (length before.methods))
    (D (length before.classes) (length before.methods)) (λ q. q)
    (a (length before.classes) (length before.methods)) s

-- what the exit of a `?` returns
pub leaves_one : (D : ℕ → ℕ → Lang Declaration) (before behind : Parts) (ts : Tokens) (r : Result (Bor Tokens) Fail)
    (e : Fail) →
    Failed (D (length before.classes) (length before.methods)) KeepsOne Always ts e → IsErrAnd r (λ y. y ≡ e)
    → ReadsOne D before behind ts r
leaves_one D before behind ts (Ok x) e f h = absurd h
leaves_one D before behind ts (Err y) e f h = let P : Fail
    → Type 0 = Failed (D (length before.classes) (length before.methods)) KeepsOne Always ts in subst P (sym h) f

-- ---- lengths

one_long : (c m : ℕ) (x : Declaration) (us : Tokens) → declaration c m x us
    → (1 ≤ length us) × (length (classes_in x) ≤ length us) × (length (methods_in x) ≤ length us)
one_long c m (OfClass k ms) us d =
    let a = d.1 in
    let b = a.second in
    let e = b.second in
    let f = e.second in
    let g = f.second in
    let h = g.second in
    let some : 1 ≤ length us = omega (arith, ap length a.parts, length-append a.front a.back, ap length a.first.1) in (
      some,
      omega (arith, some),
      omega (
        arith,
        ap length a.parts,
        length-append a.front a.back,
        ap length b.parts,
        length-append b.front b.back,
        ap length e.parts,
        length-append e.front e.back,
        ap length f.parts,
        length-append f.front f.back,
        ap length g.parts,
        length-append g.front g.back,
        ap length h.parts,
        length-append h.front h.back,
        methods_long (Some c) ms h.front h.first,
      ),
    )
one_long c m (OfMethod x) us d = let some = method_long None x us d in (some, omega arith, omega (arith, some))

pub add_smaller : (before behind : Parts) (ts rest : Tokens) → Added declaration before behind ts rest
    → length rest < length ts
add_smaller before behind ts rest a =
    let t = a.took in
    omega (
      arith,
      ap length t.whole,
      length-append t.taken rest,
      (one_long (length before.classes) (length before.methods) a.one t.taken t.derives).0,
    )

-- ---- all declarations

abbrev pub Ending : Follow
Ending = Is tok.End

abbrev pub all_of : Lang (List Declaration)
all_of = chain one_of counted (0, 0)

all_along : (ts : Tokens) → Along (declarations 0 0) all_of KeepsAll KeepsAll ts (λ q. q)
all_along ts = record {
  intro = from_all 0 0;
  cases = λ y us r d h. (y, refl, to_all 0 0 y us d);
  to =
      λ q us d l v. v;
  from = λ q us d l v. v;
}

-- ---- appending

classes_append : (xs : List Declaration) (x : Declaration) → classes_of (xs ++ x ∷ []) ≡ classes_of xs ++ classes_in x
classes_append [] x = append-nil (classes_in x)
classes_append (y ∷ xs) x = ap (λ (l : List Class). classes_in y ++ l) (classes_append xs x)
    ∙ sym (append_assoc (classes_in y) (classes_of xs) (classes_in x))

methods_append : (xs ys : List Declaration) → methods_of (xs ++ ys) ≡ methods_of xs ++ methods_of ys
methods_append [] ys = refl
methods_append (y ∷ xs) ys = ap (λ (l : List Definition). methods_in y ++ l) (methods_append xs ys)
    ∙ sym (append_assoc (methods_in y) (methods_of xs) (methods_of ys))

methods_one : (xs : List Declaration) (x : Declaration) → methods_of (xs ++ x ∷ []) ≡ methods_of xs ++ methods_in x
methods_one xs x = methods_append xs (x ∷ []) ∙ ap (λ (l : List Definition). methods_of xs ++ l)
    (append-nil (methods_in x))

decls_append : (c m : ℕ) (xs : List Declaration) (x : Declaration) → decls_of c m (xs ++ x ∷ []) ≡ decls_of c m xs
    ++ declared (state_after counted (c, m) xs).0 (state_after counted (c, m) xs).1 x ∷ []
decls_append c m [] x = refl
decls_append c m (y ∷ xs) x = ap (λ (l : List Decl). declared c m y ∷ l)
    (decls_append (c + length (classes_in y)) (m + length (methods_in y)) xs x)

all_cons : {X : Type 0} (P : X → Type 0) (x : X) (xs : List X) → P x → All P xs → All P (x ∷ xs)
all_cons P x xs p a = All-append P (x ∷ []) xs (all_one P x p) a

all_front : {X : Type 0} (P : X → Type 0) (xs ys : List X) → All P (xs ++ ys) → All P xs
all_front P [] ys a = All-nil P
all_front P (x ∷ xs) ys a = all_cons P x xs (All-head P x (xs ++ ys) a) (all_front P xs ys (All-tail P x (xs ++ ys) a))

all_back : {X : Type 0} (P : X → Type 0) (xs ys : List X) → All P (xs ++ ys) → All P ys
all_back P [] ys a = a
all_back P (x ∷ xs) ys a = all_back P xs ys (All-tail P x (xs ++ ys) a)

keeps_more : (l : Limit) (xs : List Declaration) (x : Declaration) → KeepsAll l xs → KeepsOne l x
    → KeepsAll l (xs ++ x ∷ [])
keeps_more l xs x a p =
    let P : List Definition → Type 0 = All (KeepsMethod l) in
    subst P (sym (methods_one xs x)) (All-append (KeepsMethod l) (methods_of xs) (methods_in x) a p)

keeps_one : (l : Limit) (xs : List Declaration) (x : Declaration) (ys : List Declaration) → KeepsAll l (xs ++ x ∷ ys)
    → KeepsOne l x
keeps_one l xs x ys a =
    let P : List Definition → Type 0 = All (KeepsMethod l) in
    all_front (KeepsMethod l) (methods_in x) (methods_of ys)
    (all_back (KeepsMethod l) (methods_of xs) (methods_in x ++ methods_of ys)
    (subst P (methods_append xs (x ∷ ys)) a))

-- ---- the loop

-- the parts of the declarations that have been read
pub record ReadParts (ts : Tokens) (p : Parts) (rest : Tokens) : Type 0 where
  pub list : List Declaration
  pub run : Chain one_of counted KeepsAll Ending (0, 0) ts list rest
  pub state : state_after counted (0, 0) list ≡ (length p.classes, length p.methods)
  pub classes : p.classes ≡ classes_of list
  pub methods : map shown.definition p.methods ≡ methods_of list
  pub decls : p.decls ≡ decls_of 0 0 list
  pub few_classes : length p.classes + length rest ≤ length ts
  pub few_methods : length p.methods + length rest ≤ length ts

pub parts_start : (ts : Tokens) (p : Parts) → p.classes ≡ [] → p.methods ≡ [] → p.decls ≡ [] → ReadParts ts p ts
parts_start ts p cs ms ds = record {
  list = [];
  run = chain_start one_of counted KeepsAll Ending (0, 0) ts (λ l. All-nil (KeepsMethod l));
  state = sym (ap (λ (l : List Class). (length l, length p.methods)) cs ∙ ap (λ (l : List Method). (0, length l)) ms);
  classes = cs;
  methods = ap (λ (l : List Method). map shown.definition l) ms;
  decls = ds;
  few_classes = omega (arith, ap (λ (l : List Class). length l) cs);
  few_methods = omega (arith, ap (λ (l : List Method). length l) ms);
}

state_more : (before behind : Parts) (ts rest rest' : Tokens) (p : ReadParts ts before rest)
    (a : Added declaration before behind rest rest') →
    state_after counted (0, 0) (p.list ++ a.one ∷ []) ≡ (length behind.classes, length behind.methods)
state_more before behind ts rest rest' p a =
    let cs : length before.classes + length (classes_in a.one) ≡ length behind.classes =
    sym (ap (λ (l : List Class). length l) a.classes ∙ length-append before.classes (classes_in a.one)) in
    let ms : length before.methods + length (methods_in a.one) ≡ length behind.methods =
    ap (λ (n : ℕ). n + length (methods_in a.one)) (sym (length-map before.methods shown.definition))
    ∙ sym (sym (length-map behind.methods shown.definition) ∙ ap (λ (l : List Definition). length l) a.methods
    ∙ length-append (map shown.definition before.methods) (methods_in a.one)) in
    after-append counted (0, 0) p.list (a.one ∷ []) ∙ ap (λ (s : Counts2). counted s a.one) p.state
    ∙ ap (λ (n : ℕ). (n, length before.methods + length (methods_in a.one))) cs
    ∙ ap (λ (n : ℕ). (length behind.classes, n)) ms

pub parts_more : (before behind : Parts) (ts rest rest' : Tokens) → (Ending (head rest) → ⊥)
    → ReadParts ts before rest → Added declaration before behind rest rest' → ReadParts ts behind rest'
parts_more before behind ts rest rest' other p a =
    let S : Counts2 → Type 0 = λ s. Took (one_of s) KeepsOne Always rest a.one rest' in
    let took : S (state_after counted (0, 0) p.list) = subst S (sym p.state) a.took in
    let long = one_long (length before.classes) (length before.methods) a.one a.took.taken a.took.derives in
    record {
      list = p.list ++ a.one ∷ [];
      run = chain_more (λ s zs vs r m f. tt) other (λ l. keeps_more l p.list a.one (p.run.within l) (a.took.within l))
          p.run took;
      state = state_more before behind ts rest rest' p a;
      classes = a.classes ∙ ap (λ (l : List Class). l ++ classes_in a.one) p.classes
          ∙ sym (classes_append p.list a.one);
      methods = a.methods ∙ ap (λ (l : List Definition). l ++ methods_in a.one) p.methods
          ∙ sym (methods_one p.list a.one);
      decls = a.decls ∙ ap (λ (l : List Decl). l ++ declared (length before.classes) (length before.methods) a.one
          ∷ []) p.decls
          ∙ ap (λ (s : Counts2). decls_of 0 0 p.list ++ declared s.0 s.1 a.one ∷ []) (sym p.state)
          ∙ sym (decls_append 0 0 p.list a.one);
      few_classes = omega (
        arith,
        p.few_classes,
        ap (λ (l : List Class). length l) a.classes,
        length-append before.classes (classes_in a.one),
        ap length a.took.whole,
        length-append a.took.taken rest',
        long.1,
      );
      few_methods = omega (
        arith,
        p.few_methods,
        length-map before.methods shown.definition,
        length-map behind.methods shown.definition,
        ap (λ (l : List Definition). length l) a.methods,
        length-append (map shown.definition before.methods) (methods_in a.one),
        ap length a.took.whole,
        length-append a.took.taken rest',
        long.2,
      );
    }

no_declaration : (c m : ℕ) (rest : Tokens) → Ending (head rest) → NoneAt (declaration c m) rest
no_declaration c m rest is (OfClass k ms) us r d h = let no : tok.Word word.Class ≡ tok.End = opens_is us r rest
    (opens_mark us r d.1) h is in absurd cc
no_declaration c m rest is (OfMethod x) us r d h = let no : tok.Word word.Method ≡ tok.End = opens_is us r rest
    (opens_mark us r d.2) h is in absurd cc

pub parts_end : (ts rest : Tokens) (p : Parts) → Ending (head rest) → ReadParts ts p rest → HasRead ts p
parts_end ts rest p is r =
    let s : Counts2 = state_after counted (0, 0) r.list in
    record {
      list = r.list;
      rest = rest;
      took = took_as (declarations 0 0) all_of (λ q. q) (all_along ts)
          (chain_end (no_declaration s.0 s.1 rest is) r.run);
      end = is;
      classes = r.classes;
      methods = r.methods;
      decls = r.decls;
    }

-- ---- the end

end_follows : Links (TokenMark tok.End) Always Ending
end_follows y us r d f = opens_so us r (opens_one us r d.1)

whole_along : (ts : Tokens) → Along whole_program (Both (declarations 0 0) (TokenMark tok.End)) KeepsAllWhole
    (Pair KeepsAll Free) ts (λ q. q)
whole_along ts = record {
  intro = λ q us d. d;
  cases = λ y us r d h. (y, refl, d);
  to = λ q us d l v. v.0;
  from =
      λ q us d l v. (v, tt);
}

pub parts_failed : (ts rest : Tokens) (p : Parts) (e : Fail) → (Ending (head rest) → ⊥) → ReadParts ts p rest
    → Failed (declaration (length p.classes) (length p.methods)) KeepsOne Always rest e
    → Failed whole_program KeepsAllWhole Always ts e
parts_failed ts rest p e other r f =
    let S : Counts2 → Type 0 = λ s. Failed (one_of s) KeepsOne Always rest e in
    let fails : S (state_after counted (0, 0) r.list) = subst S (sym r.state) f in
    let all : Failed all_of KeepsAll Ending ts e = chain_failed (λ s zs vs r m f. tt) other
    (λ l z w. keeps_more l r.list z (r.run.within l) w) (λ l z zs w. keeps_one l r.list z zs w) r.run fails in
    failed_as whole_program (Both (declarations 0 0) (TokenMark tok.End)) (λ q. q) (whole_along ts)
    (first end_follows (has_mark tok.End tt) (failed_as (declarations 0 0) all_of (λ q. q) (all_along ts) all))

pub leaves_all : (ts : Tokens) (r : Result Parts Fail) (e : Fail) → Failed whole_program KeepsAllWhole Always ts e
    → IsErrAnd r (λ y. y ≡ e) → ReadsAll ts r
leaves_all ts (Ok x) e f h = absurd h
leaves_all ts (Err y) e f h = let P : Fail → Type 0 = Failed whole_program KeepsAllWhole Always ts in subst P (sym h) f

-- ---- numbers that are lengths

pub failed_counts : (c d m n : ℕ) (ts : Tokens) (e : Fail) → c ≡ d → m ≡ n
    → Failed (class_behind c m) KeepsOne Always ts e → Failed (class_behind d n) KeepsOne Always ts e
failed_counts c d m n ts e p q f =
    let P : ℕ → Type 0 = λ k. Failed (class_behind k n) KeepsOne Always ts e in
    let Q : ℕ → Type 0 = λ k. Failed (class_behind c k) KeepsOne Always ts e in
    subst P p (subst Q q f)

pub took_counts : (c d m n : ℕ) (ts rest : Tokens) (x : Declaration) → c ≡ d → m ≡ n
    → Took (class_behind c m) KeepsOne Always ts x rest → Took (class_behind d n) KeepsOne Always ts x rest
took_counts c d m n ts rest x p q t =
    let P : ℕ → Type 0 = λ k. Took (class_behind k n) KeepsOne Always ts x rest in
    let Q : ℕ → Type 0 = λ k. Took (class_behind c k) KeepsOne Always ts x rest in
    subst P p (subst Q q t)
