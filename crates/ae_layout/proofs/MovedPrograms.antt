-- Programs at other places are the same but for places.
use Rattle.std.proofs.Common.{◌≡◌, ◌≢◌, ℕ, ◌+◌, List, [], ◌∷◌, ◌++◌, map, length, Option, None, Some, refl, sym, ap}
use Rattle.std.proofs.Common.{◌∙◌, subst}
use Rattle.std.proofs.lemmas.List.{map-append, length-map}
use Rattle.ae_text.specs.declared.refusal.Spot.{Spot}
use Rattle.ae_text.specs.declared.token.Keyword.TheVariants as word
use Rattle.ae_text.specs.declared.token.Sign.TheVariants as sign
use Rattle.ae_text.specs.declared.token.TokenKind.{TokenKind}
use Rattle.ae_text.specs.declared.token.Token.{Token}
use Rattle.ae_tree.specs.declared.lexeme.Lexical.TheVariants as tok
use Rattle.ae_tree.specs.declared.tree.NameAt.{NameAt}
use Rattle.ae_tree.specs.declared.tree.PermAt.{PermAt}
use Rattle.ae_tree.specs.declared.tree.Ty.{Ty}
use Rattle.ae_tree.specs.declared.tree.Me.{Me}
use Rattle.ae_tree.specs.declared.tree.Param.{Param}
use Rattle.ae_tree.specs.declared.tree.GroupNeed.{GroupNeed}
use Rattle.ae_tree.specs.declared.tree.Field.{Field}
use Rattle.ae_tree.specs.declared.tree.Class.{Class}
use Rattle.ae_tree.specs.Plain.{Lines, Definition, Code}
use Rattle.ae_tree.specs.Grammar.{◌⨾◌, further, result, away, param, me, parameters, need_word, need, needs}
use Rattle.ae_tree.specs.Grammar.{IsMethodOf, method, field, numbers_from, Declaration, OfClass, OfMethod}
use Rattle.ae_tree.specs.Grammar.{declaration, classes_in, methods_in, declared, declarations, decls_of, classes_of}
use Rattle.ae_tree.specs.Grammar.{methods_of, Derives}
use Rattle.ae_tree.specs.Names.{spelled_before, spellings, names_of, lexical, numbered}
use Rattle.ae_layout.specs.Places.{nowhere, optional, unplaced_type, unplaced_away, unplaced_param, unplaced_me}
use Rattle.ae_layout.specs.Places.{unplaced_need, unplaced_method, unplaced_field, unplaced_class, unplaced}
use Rattle.ae_layout.proofs.Moved.{ap2, ap3, ap4, kinds, Lang, Moves, Moved, moves_then, moves_at, moves_mark}
use Rattle.ae_layout.proofs.Moved.{moves_sign, moves_word, nothing_stays_nothing, moved_each, moved_further, moved_listed}
use Rattle.ae_layout.proofs.Moved.{moved_name, moved_groups, moved_permission, moved_type}
use Rattle.ae_layout.proofs.MovedLines.{moved_body}

-- ---- methods

moved_result : (t : Option Ty) → Moved result (optional unplaced_type) t
moved_result None us vs e d = let a = moves_word word.Void us vs e d in record { y = None; is = a.is; same = refl }
moved_result (Some t) us vs e d = let a = moved_type t us vs e d in record
    { y = Some a.y; is = a.is; same = ap Some a.same }

moved_away : (o : Option Spot) → Moved away unplaced_away o
moved_away None us vs e d = record { y = None; is = nothing_stays_nothing us vs e d; same = refl }
moved_away (Some at) us vs e d =
    let a = moves_then (moves_at (tok.Sign sign.Away) at) (moves_word word.None) us vs e d in
    record { y = Some a.y.0; is = a.is; same = refl }

param_of : Ty → NameAt → Option Spot → Param
param_of t x o = record { ty = t; name = x; away = o }

moved_param : (p : Param) → Moved param unplaced_param p
unfolding param_of
moved_param p us vs e d =
    let a = moves_then (moved_type p.ty) (moves_then (moved_name p.name) (moved_away p.away)) us vs e d in
    record { y = param_of a.y.0 a.y.1.0 a.y.1.1; is = a.is; same = ap3 param_of a.same.0 a.same.1.0 a.same.1.1 }

me_of : PermAt → Spot → Option Spot → Me
me_of p at o = record { perm = p; at = at; away = o }

moved_me : (m : Me) → Moved me unplaced_me m
unfolding me_of
moved_me m us vs e d =
    let a = moves_then (moved_permission m.perm) (moves_then (moves_at (tok.Word word.This) m.at) (moved_away m.away))
    us vs e d in
    record { y = me_of a.y.0 a.y.1.0 a.y.1.1; is = a.is; same = ap2 (λ p o. me_of p nowhere o) a.same.0 a.same.1.1 }

-- what stands between a method's parentheses
abbrev Inside : Lang (Option Me × List Param)
Inside x = parameters x.0 x.1

abbrev SameInside : Option Me → List Param → Option Me × List Param → Type 0
SameInside m ps y = (optional unplaced_me y.0 ≡ optional unplaced_me m)
    × (map unplaced_param y.1 ≡ map unplaced_param ps)

moved_parameters : (m : Option Me) (ps : List Param) → Moves (parameters m ps) Inside (SameInside m ps)
moved_parameters None ps us vs e d =
    let a = moved_listed param unplaced_param moved_param ps us vs e d in
    record { y = (None, a.y); is = a.is; same = (refl, a.same) }
moved_parameters (Some m) ps us vs e d =
    let a = moves_then (moved_me m)
    (moved_each (further param) unplaced_param (moved_further param unplaced_param moved_param) ps) us vs e d in
    record { y = (Some a.y.0, a.y.1); is = a.is; same = (ap Some a.same.0, a.same.1) }

moved_need : (n : GroupNeed) → Moved need unplaced_need n
moved_need n us vs e d =
    let a = moves_then (moves_word (need_word n.need)) (moved_name n.group) us vs e d in
    record {
      y = record { need = n.need; group = a.y.1 };
      is = a.is;
      same =
          ap (λ g. record { need = n.need; group = g }) a.same.1;
    }

moved_needs : (ns : List GroupNeed) → Moved needs (map unplaced_need) ns
moved_needs [] us vs e d = record { y = []; is = nothing_stays_nothing us vs e d; same = refl }
moved_needs (n ∷ ns) us vs e d =
    let a = moves_then (moves_word word.With)
    (moves_then (moved_need n) (moved_each (further need) unplaced_need
    (moved_further need unplaced_need moved_need) ns)) us vs e d in
    record { y = a.y.1.0 ∷ a.y.1.1; is = a.is; same = ap2 (λ z zs. z ∷ zs) a.same.1.0 a.same.1.1 }

none_again : {A : Type 0} (f : A → A) (x y : Option A) → optional f y ≡ optional f x → x ≡ None → y ≡ None
none_again f x None e n = refl
none_again f x (Some y) e n = let none : Some (f y) ≡ None = e ∙ ap (optional f) n in absurd (cc)

some_again : {A : Type 0} (f : A → A) (x y : Option A) → optional f y ≡ optional f x → x ≢ None → y ≢ None
some_again f x y e n none = n (none_again f y x (sym e) none)

-- a method with these parts is of the same class
of_again : (c : Option ℕ) (m k : Definition) → k.class ≡ m.class → optional unplaced_me k.me
    ≡ optional unplaced_me m.me → IsMethodOf c m → IsMethodOf c k
of_again None m k s e i = (s ∙ i.0, none_again unplaced_me m.me k.me e i.1)
of_again (Some c) m k s e i = (s ∙ i.0, some_again unplaced_me m.me k.me e i.1)

-- the parts of a method that have places
record Parts : Type 0 where
  result : Option Ty
  name : NameAt
  groups : List NameAt
  me : Option Me
  params : List Param
  needs : List GroupNeed
  body : Lines

parts_of : Option Ty → NameAt → List NameAt → Option Me → List Param → List GroupNeed → Lines → Parts
parts_of t x gs m ps ns b = record { result = t; name = x; groups = gs; me = m; params = ps; needs = ns; body = b }

-- the method with these parts in the place of its own
with_parts : Definition → Parts → Definition
with_parts m p = record {
  class = m.class;
  result = p.result;
  name = p.name;
  groups = p.groups;
  me = p.me;
  params = p.params;
  needs = p.needs;
  no = m.no;
  body = p.body;
}

same_parts : {t t' : Option Ty} {x x' : NameAt} {gs gs' : List NameAt} {m m' : Option Me} {ps ps' : List Param}
    {ns ns' : List GroupNeed} {b b' : Lines} →
    t ≡ t' → x ≡ x' → gs ≡ gs' → m ≡ m' → ps ≡ ps' → ns ≡ ns' → b ≡ b' → parts_of t x gs m ps ns b
    ≡ parts_of t' x' gs' m' ps' ns' b'
same_parts {t} {t'} {x} {x'} {gs} {gs'} {m} {m'} {ps} {ps'} {ns} {ns'} {b} {b'} e1 e2 e3 e4 e5 e6 e7 =
    ap3 (λ k l j. parts_of k l j m ps ns b) e1 e2 e3 ∙ ap4 (parts_of t' x' gs') e4 e5 e6 e7

moved_method : (c : Option ℕ) (m : Definition) → Moved (method c) unplaced_method m
unfolding parts_of with_parts
moved_method c m us vs e d =
    let a = moves_then (moves_word word.Method)
    (moves_then (moved_result m.result)
    (moves_then (moved_name m.name)
    (moves_then (moved_groups m.groups)
    (moves_then (moves_sign sign.OpenParen)
    (moves_then (moved_parameters m.me m.params)
    (moves_then (moves_sign sign.CloseParen) (moves_then (moved_needs m.needs) (moved_body m.body)))))))) us vs e
    d.2 in
    let inside : SameInside m.me m.params a.y.1.1.1.1.1.0 = a.same.1.1.1.1.1.0 in
    let k : Definition = with_parts m
    (parts_of a.y.1.0 a.y.1.1.0 a.y.1.1.1.0 a.y.1.1.1.1.1.0.0 a.y.1.1.1.1.1.0.1 a.y.1.1.1.1.1.1.1.0
    a.y.1.1.1.1.1.1.1.1) in
    record {
      y = k;
      is = (of_again c m k (refl {a = m.class}) inside.0 d.0, d.1, a.is);
      same = ap (with_parts m) (same_parts a.same.1.0 a.same.1.1.0 a.same.1.1.1.0 inside.0 inside.1
          a.same.1.1.1.1.1.1.1.0 a.same.1.1.1.1.1.1.1.1);
    }

-- ---- classes

moved_field : (f : Field) → Moved field unplaced_field f
moved_field f us vs e d =
    let a = moves_then (moved_type f.ty) (moves_then (moved_name f.name) (moves_sign sign.Semicolon)) us vs e d in
    record {
      y = record { ty = a.y.0; name = a.y.1.0 };
      is = a.is;
      same =
          ap2 (λ t x. record { ty = t; name = x }) a.same.0 a.same.1.0;
    }

class_of : List ℕ → NameAt → List NameAt → List Field → Class
class_of ns x gs fs = record { name = x; groups = gs; fields = fs; methods = ns }

unplaced_declaration : Declaration → Declaration
unplaced_declaration (OfClass k ms) = OfClass (unplaced_class k) (map unplaced_method ms)
unplaced_declaration (OfMethod m) = OfMethod (unplaced_method m)

same_length : {A B : Type 0} (f : A → B) (xs ys : List A) → map f ys ≡ map f xs → length xs ≡ length ys
same_length f xs ys e = sym (length-map xs f) ∙ ap length (sym e) ∙ length-map ys f

moved_declaration : (c m : ℕ) (x : Declaration) → Moved (declaration c m) unplaced_declaration x
unfolding class_of unplaced_declaration
moved_declaration c m (OfClass k ms) us vs e d =
    let a = moves_then (moves_word word.Class)
    (moves_then (moved_name k.name)
    (moves_then (moved_groups k.groups)
    (moves_then (moves_sign sign.OpenBrace)
    (moves_then (moved_each field unplaced_field moved_field k.fields)
    (moves_then (moved_each (method (Some c)) unplaced_method (moved_method (Some c)) ms)
    (moves_sign sign.CloseBrace)))))) us vs e d.1 in
    let ks : List Definition = a.y.1.1.1.1.1.0 in
    let same : map unplaced_method ks ≡ map unplaced_method ms = a.same.1.1.1.1.1.0 in
    record {
      y = OfClass (class_of k.methods a.y.1.0 a.y.1.1.0 a.y.1.1.1.1.0) ks;
      is = (d.0 ∙ ap (numbers_from m) (same_length unplaced_method ms ks same), a.is);
      same = ap2 OfClass (ap3 (class_of k.methods) a.same.1.0 a.same.1.1.0 a.same.1.1.1.1.0) same;
    }
moved_declaration c m (OfMethod x) us vs e d = let a = moved_method None x us vs e d in record
    { y = OfMethod a.y; is = a.is; same = ap OfMethod a.same }

-- ---- lists of declarations

bare_classes : (x : Declaration) → classes_in (unplaced_declaration x) ≡ map unplaced_class (classes_in x)
unfolding unplaced_declaration
bare_classes (OfClass k ms) = refl
bare_classes (OfMethod m) = refl

bare_methods : (x : Declaration) → methods_in (unplaced_declaration x) ≡ map unplaced_method (methods_in x)
unfolding unplaced_declaration
bare_methods (OfClass k ms) = refl
bare_methods (OfMethod m) = refl

bare_declared : (c m : ℕ) (x : Declaration) → declared c m (unplaced_declaration x) ≡ declared c m x
unfolding unplaced_declaration
bare_declared c m (OfClass k ms) = refl
bare_declared c m (OfMethod x) = refl

bare_count : (x : Declaration) → length (classes_in (unplaced_declaration x)) ≡ length (classes_in x)
bare_count x = ap length (bare_classes x) ∙ length-map (classes_in x) unplaced_class

bare_method_count : (x : Declaration) → length (methods_in (unplaced_declaration x)) ≡ length (methods_in x)
bare_method_count x = ap length (bare_methods x) ∙ length-map (methods_in x) unplaced_method

bare_classes_of : (xs : List Declaration) → classes_of (map unplaced_declaration xs)
    ≡ map unplaced_class (classes_of xs)
bare_classes_of [] = refl
bare_classes_of (x ∷ xs) = ap2 (λ k l. k ++ l) (bare_classes x) (bare_classes_of xs)
    ∙ sym (map-append unplaced_class (classes_in x) (classes_of xs))

bare_methods_of : (xs : List Declaration) → methods_of (map unplaced_declaration xs)
    ≡ map unplaced_method (methods_of xs)
bare_methods_of [] = refl
bare_methods_of (x ∷ xs) = ap2 (λ k l. k ++ l) (bare_methods x) (bare_methods_of xs)
    ∙ sym (map-append unplaced_method (methods_in x) (methods_of xs))

bare_decls : (c m : ℕ) (xs : List Declaration) → decls_of c m (map unplaced_declaration xs) ≡ decls_of c m xs
bare_decls c m [] = refl
bare_decls c m (x ∷ xs) =
    ap2 (λ d ds. d ∷ ds) (bare_declared c m x)
    (ap2 (λ k j. decls_of (c + k) (m + j) (map unplaced_declaration xs)) (bare_count x) (bare_method_count x)
    ∙ bare_decls (c + length (classes_in x)) (m + length (methods_in x)) xs)

moved_declarations : (c m : ℕ) (xs : List Declaration) → Moved (declarations c m) (map unplaced_declaration) xs
moved_declarations c m [] us vs e d = record { y = []; is = nothing_stays_nothing us vs e d; same = refl }
moved_declarations c m (x ∷ xs) us vs e d =
    let a = moves_then (moved_declaration c m x)
    (moved_declarations (c + length (classes_in x)) (m + length (methods_in x)) xs) us vs e d in
    let y : Declaration = a.y.0 in
    let e1 : length (classes_in x) ≡ length (classes_in y) = sym (bare_count x) ∙ ap (λ z. length (classes_in z))
    (sym a.same.0) ∙ bare_count y in
    let e2 : length (methods_in x) ≡ length (methods_in y) = sym (bare_method_count x)
    ∙ ap (λ z. length (methods_in z)) (sym a.same.0) ∙ bare_method_count y in
    let P : ℕ → Type 0 = λ k. (declaration c m y ⨾ declarations (c + k) (m + length (methods_in x)) a.y.1) vs in
    let Q : ℕ → Type 0 = λ k. (declaration c m y ⨾ declarations (c + length (classes_in y)) (m + k) a.y.1) vs in
    record { y = y ∷ a.y.1; is = subst Q e2 (subst P e1 a.is); same = ap2 (λ z zs. z ∷ zs) a.same.0 a.same.1 }

-- ---- programs

-- the kinds of tokens
abbrev pub token_kinds : List Token → List TokenKind
token_kinds = map (λ (t : Token). t.kind)

same_spellings : (ts us : List Token) → token_kinds ts ≡ token_kinds us → spellings ts ≡ spellings us
same_spellings [] [] e = refl
same_spellings [] (u ∷ us) e = absurd (cc)
same_spellings (t ∷ ts) [] e = absurd (cc)
same_spellings (t ∷ ts) (u ∷ us) e =
    let head : t.kind ≡ u.kind = cc in
    let tail : token_kinds ts ≡ token_kinds us = cc in
    ap2 spelled_before head (same_spellings ts us tail)

same_names : (ts us : List Token) → token_kinds ts ≡ token_kinds us → names_of ts ≡ names_of us
same_names ts us e = let same : spellings ts ≡ spellings us = same_spellings ts us e in cc

same_numbers : (names : List (List ℕ)) (ts us : List Token) → token_kinds ts ≡ token_kinds us
    → kinds (numbered names ts) ≡ kinds (numbered names us)
same_numbers names [] [] e = refl
same_numbers names [] (u ∷ us) e = absurd (cc)
same_numbers names (t ∷ ts) [] e = absurd (cc)
same_numbers names (t ∷ ts) (u ∷ us) e =
    let head : t.kind ≡ u.kind = cc in
    let tail : token_kinds ts ≡ token_kinds us = cc in
    ap2 (λ k l. k ∷ l) (ap (lexical names) head) (same_numbers names ts us tail)

-- a program for other tokens, the same but for places
pub record SameProgram (ts : List Token) (p : Code) : Type 0 where
  pub program : Code
  pub derives : Derives ts program
  pub same : unplaced program ≡ unplaced p

pub moved_program : (ts us : List Token) (p : Code) → token_kinds ts ≡ token_kinds us → Derives ts p → SameProgram us p
moved_program ts us p e d =
    let a = moves_then (moved_declarations 0 0 d.list) (moves_mark tok.End) (numbered p.names ts)
    (numbered p.names us) (same_numbers p.names ts us e) d.derives in
    let list : List Declaration = a.y.0 in
    let q : Code = record {
      names = p.names;
      classes = classes_of list;
      methods = methods_of list;
      decls = decls_of 0
          0 list;
    } in
    let e1 : map unplaced_class (classes_of list) ≡ map unplaced_class p.classes = sym (bare_classes_of list)
    ∙ ap classes_of a.same.0 ∙ bare_classes_of d.list ∙ ap (map unplaced_class) (sym d.classes) in
    let e2 : map unplaced_method (methods_of list) ≡ map unplaced_method p.methods = sym (bare_methods_of list)
    ∙ ap methods_of a.same.0 ∙ bare_methods_of d.list ∙ ap (map unplaced_method) (sym d.methods) in
    let e3 : decls_of 0 0 list ≡ p.decls = sym (bare_decls 0 0 list) ∙ ap (decls_of 0 0) a.same.0
    ∙ bare_decls 0 0 d.list ∙ sym d.decls in
    let names : p.names ≡ names_of us = d.names ∙ same_names ts us e in
    record {
      program = q;
      derives = record { list = list; names = names; classes = refl; methods = refl; decls = refl; derives = a.is };
      same = ap3 (λ k l j. record { names = p.names; classes = k; methods = l; decls = j }) e1 e2 e3;
    }
