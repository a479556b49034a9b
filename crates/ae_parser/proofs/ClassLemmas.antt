-- Fields and classes: how each production is read.
use Rattle.std.proofs.Common.{◌≡◌, ℕ, zero, suc, ◌+◌, ◌<◌, ◌≤◌, ◌++◌, List, [], ◌∷◌, length, Option, Some, refl, sym}
use Rattle.std.proofs.Common.{ap, ◌∙◌, subst, arith, length-append, map}
use Rattle.std.specs.Prelude.{All}
use Rattle.std.proofs.lemmas.List.{map-append}
use Rattle.std.proofs.lemmas.List.Elements.{All-append, All-nil, All-head, All-tail}
use Rattle.ae_text.specs.declared.token.Keyword.TheVariants as word
use Rattle.ae_text.specs.declared.token.Sign.TheVariants as sign
use Rattle.ae_tree.specs.declared.lexeme.Lexeme.{Lexeme}
use Rattle.ae_tree.specs.declared.lexeme.Lexical.TheVariants as tok
use Rattle.ae_tree.specs.declared.tree.NameAt.{NameAt}
use Rattle.ae_tree.specs.declared.tree.Ty.{Ty}
use Rattle.ae_tree.specs.declared.tree.Field.{Field}
use Rattle.ae_tree.specs.declared.tree.Class.{Class}
use Rattle.ae_tree.specs.declared.tree.Method.{Method}
use Rattle.ae_tree.specs.Shown as shown
use Rattle.ae_tree.specs.Plain.{Definition}
use Rattle.ae_tree.specs.Grammar.{Tokens, one_by_one, name, groups, type_, field, method, numbers_from, Declaration}
use Rattle.ae_tree.specs.Grammar.{OfClass}
use Rattle.ae_tree.specs.Limits.{KeepsMethod}
use Rattle.ae_reading.specs.declared.fail.Fail.{Fail}
use Rattle.ae_reading.specs.Reads.{head, Always, Is, Isnt, Free, IsWithinAll, Took, Failed, TokenMark}
use Rattle.ae_parser.proofs.from_reading.ReadsLemmas.{Lang, Bound, Follow, Links, Both, Pair, Has, Along, took_as}
use Rattle.ae_parser.proofs.from_reading.ReadsLemmas.{failed_as, has_mark, has_both, has_name}
use Rattle.ae_parser.proofs.from_reading.Begins.{begins_both, begins_not, opens_one, opens_isnt, is_isnt}
use Rattle.ae_parser.proofs.from_reading.Runs.{Run, run_start, run_more, run_end, run_failed}
use Rattle.ae_parser.proofs.from_reading.TypeLemmas.{has_groups}
use Rattle.ae_parser.specs.Productions.{BeginsType, NoType, AllMethodsKeep, KeepsOne, class_behind}
use Rattle.ae_parser.proofs.ParamLemmas.{begins_type, no_type}
use Rattle.ae_parser.proofs.MethodLemmas.{method_begins}

-- ---- fields

abbrev pub semicolon : Lang (Unit {0})
semicolon = TokenMark (tok.Sign sign.Semicolon)

abbrev pub FieldParts : Type 0
FieldParts = Ty × (NameAt × Unit {0})

abbrev pub field_body : Lang FieldParts
field_body = Both type_ (Both name semicolon)

abbrev pub field_limit : Bound FieldParts
field_limit = Pair Free (Pair Free Free)

abbrev pub field_tree : FieldParts → Field
field_tree q = record { ty = q.0; name = q.1.0 }

field_along : (ts : Tokens) → Along field field_body Free field_limit ts field_tree
field_along ts = record {
  intro = λ q us d. d;
  cases = λ y us r d h. ((y.ty, (y.name, tt)), refl, d);
  to =
      λ q us d l v. tt;
  from = λ q us d l v. (tt, (tt, tt));
}

pub field_took : (ts rest : Tokens) (q : FieldParts) → Took field_body field_limit Always ts q rest
    → Took field Free Always ts (field_tree q) rest
field_took ts rest q t = took_as field field_body field_tree (field_along ts) t

pub field_failed : (ts : Tokens) (e : Fail) → Failed field_body field_limit Always ts e → Failed field Free Always ts e
field_failed ts e f = failed_as field field_body field_tree (field_along ts) f

pub has_ended : Has (Both name semicolon) (Pair Free Free)
has_ended = has_both has_name (has_mark (tok.Sign sign.Semicolon) tt)

begins_field : (y : Field) (us r : Tokens) → field y us → BeginsType (head (us ++ r))
begins_field y us r d = begins_both type_ (λ t. Both name semicolon) BeginsType begins_type (y.ty, (y.name, tt)) us r d

pub type_goes_on : (ts : Tokens) → BeginsType (head ts) → NoType (head ts) → ⊥
type_goes_on ts is other = other is

pub fields_end : (ts rest : Tokens) (fs : List Field) → NoType (head rest) → Run field Free NoType ts fs rest
    → Took (one_by_one field) Free NoType ts fs rest
fields_end ts rest fs other t = run_end (begins_not field BeginsType rest begins_field other) t

pub field_smaller : (ts rest : Tokens) (f : Field) → Took field Free Always ts f rest → length rest < length ts
field_smaller ts rest f s =
    let n = s.derives.second in
    omega (
      arith,
      ap length s.whole,
      length-append s.taken rest,
      ap length s.derives.parts,
      length-append s.derives.front s.derives.back,
      ap length n.parts,
      length-append n.front n.back,
      ap length n.first,
    )

-- ---- the methods of a class

abbrev pub NoMethod : Follow
NoMethod = Isnt (tok.Word word.Method)

abbrev pub ReadMethods : ℕ → Tokens → List Definition → Tokens → Type 0
ReadMethods c ts ms rest = Run (method (Some c)) AllMethodsKeep NoMethod ts ms rest

method_goes_on : (ts : Tokens) → Is (tok.Word word.Method) (head ts) → NoMethod (head ts) → ⊥
method_goes_on ts is = is_isnt (tok.Word word.Method) (head ts) is

pub all_one : {X : Type 0} (P : X → Type 0) (x : X) → P x → All P (x ∷ [])
all_one P x p zero d less = p
all_one P x p (suc i) d less = absurd (omega (arith, less))

pub all_two : {X : Type 0} (P : X → Type 0) (xs : List X) (x : X) → All P xs → P x → All P (xs ++ x ∷ [])
all_two P xs x a p = All-append P xs (x ∷ []) a (all_one P x p)

pub all_last : {X : Type 0} (P : X → Type 0) (xs : List X) (x : X) (ys : List X) → All P (xs ++ x ∷ ys) → P x
all_last P [] x ys a = All-head P x ys a
all_last P (y ∷ xs) x ys a = all_last P xs x ys (All-tail P y (xs ++ x ∷ ys) a)

none_keep : IsWithinAll AllMethodsKeep []
none_keep l = All-nil (KeepsMethod l)

pub methods_start : (c : ℕ) (ts : Tokens) (ms : List Method) → ms ≡ [] → ReadMethods c ts (map shown.definition ms) ts
methods_start c ts ms e =
    let P : List Method → Type 0 = λ l. ReadMethods c ts (map shown.definition l) ts in
    subst P (sym e) (run_start (method (Some c)) AllMethodsKeep NoMethod ts none_keep)

pub methods_more : (c : ℕ) (ts rest rest' : Tokens) (ms ns : List Method) (m : Method)
    → Is (tok.Word word.Method) (head rest) → ns ≡ ms ++ m ∷ [] →
    ReadMethods c ts (map shown.definition ms) rest
    → Took (method (Some c)) KeepsMethod Always rest (shown.definition m) rest'
    → ReadMethods c ts (map shown.definition ns) rest'
methods_more c ts rest rest' ms ns m is e t u =
    let P : List Definition → Type 0 = λ l. ReadMethods c ts l rest' in
    subst P (sym (ap (λ (l : List Method). map shown.definition l) e ∙ map-append shown.definition ms (m ∷ [])))
    (run_more (λ zs vs r m f. tt) (method_goes_on rest is)
    (λ l. all_two (KeepsMethod l) (map shown.definition ms) (shown.definition m) (t.within l) (u.within l)) t u)

pub methods_failed : (c : ℕ) (ts rest : Tokens) (ms : List Definition) (e : Fail)
    → Is (tok.Word word.Method) (head rest) →
    ReadMethods c ts ms rest → Failed (method (Some c)) KeepsMethod Always rest e
    → Failed (one_by_one (method (Some c))) AllMethodsKeep NoMethod ts e
methods_failed c ts rest ms e is t f =
    run_failed (λ zs vs r m f. tt) (method_goes_on rest is) (λ l z w. all_two (KeepsMethod l) ms z (t.within l) w)
    (λ l z zs w. all_last (KeepsMethod l) ms z zs w) t f

pub methods_end : (c : ℕ) (ts rest : Tokens) (ms : List Definition) → (Is (tok.Word word.Method) (head rest) → ⊥)
    → ReadMethods c ts ms rest → Took (one_by_one (method (Some c))) AllMethodsKeep NoMethod ts ms rest
methods_end c ts rest ms other t =
    run_end (begins_not (method (Some c)) (Is (tok.Word word.Method)) rest (method_begins (Some c)) other) t

-- a method is one token at least
pub method_long : (k : Option ℕ) (m : Definition) (us : Tokens) → method k m us → 1 ≤ length us
method_long k m us d = omega (arith, ap length d.2.parts, length-append d.2.front d.2.back, ap length d.2.first.1)

pub method_smaller : (k : Option ℕ) (ts rest : Tokens) (m : Definition) → Took (method k) KeepsMethod Always ts m rest
    → length rest < length ts
method_smaller k ts rest m s =
    omega (arith, ap length s.whole, length-append s.taken rest, method_long k m s.taken s.derives)

pub run_shorter : {A : Type 0} {D : Lang A} {V : Bound (List A)} {F : Follow} {ts rest : Tokens} {xs : List A}
    → Run D V F ts xs rest → length rest ≤ length ts
run_shorter {rest = rest} t = omega (arith, ap length t.whole, length-append t.taken rest)

pub methods_long : (k : Option ℕ) (ms : List Definition) (us : Tokens) → one_by_one (method k) ms us
    → length ms ≤ length us
methods_long k [] us d = omega arith
methods_long k (m ∷ ms) us d =
    omega (
      arith,
      ap length d.parts,
      length-append d.front d.back,
      method_long k m d.front d.first,
      methods_long k ms d.back d.second,
    )

-- no more methods than tokens
pub methods_few : (c : ℕ) (ts rest : Tokens) (ms : List Definition)
    → Took (one_by_one (method (Some c))) AllMethodsKeep NoMethod ts ms rest → length ms + length rest ≤ length ts
methods_few c ts rest ms t = omega
    (arith, ap length t.whole, length-append t.taken rest, methods_long (Some c) ms t.taken t.derives)

-- ---- the numbers of methods

pub record Numbered (first count : ℕ) (numbers : List ℕ) (next left : ℕ) : Type 0 where
  pub all : numbers_from first count ≡ numbers ++ numbers_from next left
  pub total : next + left ≡ first + count

next_number : (n : ℕ) → 0 < n → (m : ℕ) × (n ≡ m + 1)
next_number zero less = absurd (omega (arith, less))
next_number (suc n) less = (n, omega arith)

pub numbered_more : (first count : ℕ) (numbers more : List ℕ) (next left left' : ℕ) → 0 < left → left ≡ left' + 1
    → more ≡ numbers ++ next ∷ [] → Numbered first count numbers next left
    → Numbered first count more (next + 1) left'
numbered_more first count numbers more next left left' some is e n = record {
  all = n.all ∙ ap (λ (k : ℕ). numbers ++ numbers_from next k) (is ∙ suc_is left')
      ∙ sym (append_one numbers next (numbers_from (next + 1) left'))
      ∙ ap (λ (l : List ℕ). l ++ numbers_from (next + 1) left') (sym e);
  total = omega (arith, n.total, is);
}
  where
    suc_is : (n : ℕ) → n + 1 ≡ suc n
    suc_is n = omega arith

    append_one : (a : List ℕ) (x : ℕ) (b : List ℕ) → (a ++ x ∷ []) ++ b ≡ a ++ x ∷ b
    append_one [] x b = refl
    append_one (y ∷ a) x b = ap (λ (l : List ℕ). y ∷ l) (append_one a x b)

-- ---- a class

abbrev pub opening : Lang (Unit {0})
opening = TokenMark (tok.Sign sign.OpenBrace)

abbrev pub closing : Lang (Unit {0})
closing = TokenMark (tok.Sign sign.CloseBrace)

abbrev pub ClassParts : Type 0
ClassParts = Unit {0} × (NameAt × (List NameAt × (Unit {0} × (List Field × (List Definition × Unit {0})))))

abbrev pub class_body : ℕ → Lang ClassParts
class_body c = Both (TokenMark (tok.Word word.Class))
    (Both name (Both groups (Both opening (Both (one_by_one field) (Both (one_by_one (method (Some c))) closing)))))

abbrev pub class_limit : Bound ClassParts
class_limit = Pair Free (Pair Free (Pair Free (Pair Free (Pair Free (Pair AllMethodsKeep Free)))))

abbrev pub class_with : NameAt → List NameAt → List Field → List ℕ → List Definition → Declaration
class_with x gs fs ns ms = OfClass (record { name = x; groups = gs; fields = fs; methods = ns }) ms

abbrev pub class_tree : ℕ → ClassParts → Declaration
class_tree m q = class_with q.1.0 q.1.1.0 q.1.1.1.1.0 (numbers_from m (length q.1.1.1.1.1.0)) q.1.1.1.1.1.0

class_intro : (c m : ℕ) (q : ClassParts) (us : Tokens) → class_body c q us → class_behind c m (class_tree m q) us
class_intro c m q us d = (
  record
      { name = q.1.0; groups = q.1.1.0; fields = q.1.1.1.1.0; methods = numbers_from m (length q.1.1.1.1.1.0) },
  q.1.1.1.1.1.0,
  refl,
  (refl, d),
)

class_cases : (c m : ℕ) (y : Declaration) (us : Tokens) → class_behind c m y us
    → (q : ClassParts) × (y ≡ class_tree m q) × class_body c q us
class_cases c m y us d =
    let k : Class = d.0 in (
      (tt, (k.name, (k.groups, (tt, (k.fields, (d.1, tt)))))),
      d.2 ∙ ap (λ (ns : List ℕ). class_with k.name k.groups k.fields ns d.1) d.3.0,
      d.3.1,
    )

class_along : (c m : ℕ) (ts : Tokens) → Along (class_behind c m) (class_body c) KeepsOne class_limit ts (class_tree m)
class_along c m ts = record {
  intro = class_intro c m;
  cases = λ y us r d h. class_cases c m y us d;
  to = λ q us d l v. v.1.1.1.1.1.0;
  from = λ q us d l v. (tt, (tt, (tt, (tt, (tt, (v, tt))))));
}

pub class_took : (c m : ℕ) (ts rest : Tokens) (x : NameAt) (gs : List NameAt) (fs : List Field) (ms : List Definition) →
    Took (class_body c) class_limit Always ts (tt, (x, (gs, (tt, (fs, (ms, tt)))))) rest
    → Took (class_behind c m) KeepsOne Always ts (class_with x gs fs (numbers_from m (length ms)) ms) rest
class_took c m ts rest x gs fs ms t = took_as (class_behind c m) (class_body c) (class_tree m) (class_along c m ts) t

pub class_failed : (c m : ℕ) (ts : Tokens) (e : Fail) → Failed (class_body c) class_limit Always ts e
    → Failed (class_behind c m) KeepsOne Always ts e
class_failed c m ts e f = failed_as (class_behind c m) (class_body c) (class_tree m) (class_along c m ts) f

-- methods and the closing brace are no field
no_field : (c : ℕ) (ms : List Definition) (u : Unit {0}) (us r : Tokens)
    → Both (one_by_one (method (Some c))) closing (ms, u) us → NoType (head (us ++ r))
no_field c [] u us r d =
    let at : head (us ++ r) ≡ Some (record { kind = tok.Sign sign.CloseBrace; at = d.second.0 }) =
    ap (λ l. head (l ++ r)) (d.parts ∙ ap (λ l. l ++ d.back) d.first ∙ d.second.1) in
    let P : Option Lexeme → Type 0 = NoType in
    subst P (sym at) (no_type (tok.Sign sign.CloseBrace)
    (Some (record { kind = tok.Sign sign.CloseBrace; at = d.second.0 })) (λ e. cc) (λ e. cc) (λ e. cc) (λ e. cc)
    (λ e. cc) (λ e. cc) refl)
no_field c (m ∷ ms) u us r d =
    let is = begins_both (Both (method (Some c)) (one_by_one (method (Some c)))) (λ m. closing)
    (Is (tok.Word word.Method))
    (begins_both (method (Some c)) (λ m. one_by_one (method (Some c))) (Is (tok.Word word.Method))
    (method_begins (Some c))) ((m, ms), u) us r d in
    no_type (tok.Word word.Method) (head (us ++ r)) (λ e. cc) (λ e. cc) (λ e. cc) (λ e. cc) (λ e. cc) (λ e. cc) is

pub methods_no_type : (c : ℕ) → Links (Both (one_by_one (method (Some c))) closing) Always NoType
methods_no_type c y us r d f = no_field c y.0 y.1 us r d

pub closing_no_method : Links closing Always NoMethod
closing_no_method y us r d f = opens_isnt us r (opens_one us r d.1) (λ e. cc)

-- completions behind each part

pub has_closed : Has closing Free
has_closed = has_mark (tok.Sign sign.CloseBrace) tt

has_no_methods : (c : ℕ) → Has (one_by_one (method (Some c))) AllMethodsKeep
has_no_methods c = record { tree = []; tokens = []; is = refl; known = tt; within = none_keep }

has_no_fields : Has (one_by_one field) Free
has_no_fields = record { tree = []; tokens = []; is = refl; known = tt; within = λ l. tt }

pub has_finished : (c : ℕ) → Has (Both (one_by_one (method (Some c))) closing) (Pair AllMethodsKeep Free)
has_finished c = has_both (has_no_methods c) has_closed

pub has_filled : (c : ℕ) → Has (Both (one_by_one field) (Both (one_by_one (method (Some c))) closing))
    (Pair Free (Pair AllMethodsKeep Free))
has_filled c = has_both has_no_fields (has_finished c)

pub has_opened : (c : ℕ) → Has (Both opening (Both (one_by_one field) (Both (one_by_one (method (Some c))) closing)))
    (Pair Free (Pair Free (Pair AllMethodsKeep Free)))
has_opened c = has_both (has_mark (tok.Sign sign.OpenBrace) tt) (has_filled c)

pub has_grouped : (c : ℕ) → Has
    (Both groups (Both opening (Both (one_by_one field) (Both (one_by_one (method (Some c))) closing))))
    (Pair Free (Pair Free (Pair Free (Pair AllMethodsKeep Free))))
has_grouped c = has_both has_groups (has_opened c)

pub has_named : (c : ℕ) → Has (Both name
    (Both groups (Both opening (Both (one_by_one field) (Both (one_by_one (method (Some c))) closing)))))
    (Pair Free (Pair Free (Pair Free (Pair Free (Pair AllMethodsKeep Free)))))
has_named c = has_both has_name (has_grouped c)
