-- Where no name among the tokens is spelled `this`, nothing is declared under that name.
use Rattle.std.proofs.Common.{arith, ◌≡◌, ◌≢◌, refl, sym, subst, ◌∙◌, ℕ, ◌+◌, ◌++◌, Bool, true, false, not, cond}
use Rattle.std.proofs.Common.{bytes_eq, List, [], ◌∷◌, length, Option, None, Some}
use Rattle.std.specs.Prelude.{All, codes}
use Rattle.std.specs.List.{position_or_len}
use Rattle.std.specs.Cmp.Lexicographic.{bytes_decides}
use Rattle.std.proofs.lemmas.List.Elements.{All-nil, All-cons, All-head, All-tail}
use Rattle.ae_text.specs.declared.token.TokenKind.{TokenKind}
use Rattle.ae_text.specs.declared.token.TokenKind.TheVariants as k
use Rattle.ae_text.specs.declared.token.Token.{Token}
use Rattle.ae_tree.specs.declared.lexeme.Lexical.{Lexical}
use Rattle.ae_tree.specs.declared.lexeme.Lexical.TheVariants as tok
use Rattle.ae_tree.specs.declared.tree.NameAt.{NameAt}
use Rattle.ae_tree.specs.declared.tree.Me.{Me}
use Rattle.ae_tree.specs.declared.tree.Param.{Param}
use Rattle.ae_tree.specs.declared.tree.Field.{Field}
use Rattle.ae_tree.specs.declared.tree.Class.{Class}
use Rattle.ae_tree.specs.Plain.{Definition}
use Rattle.ae_tree.specs.Plain.{Declares, Assigns, Stores, StoresAt, Calls, Chooses, ChoosesElse, Repeats, Groups}
use Rattle.ae_tree.specs.Plain.{Splits, Locks, Freezes, Shares, Prints, PrintsText, Asserts, Returns}
use Rattle.ae_tree.specs.Names.{this, first_names, name_number, lexical, numbered, spellings}
use Rattle.ae_tree.specs.Grammar.{◌⨾◌, one_token, name, groups, param, parameters, field, method, Declaration}
use Rattle.ae_tree.specs.Grammar.{OfClass, OfMethod, declarations, classes_of}
use Rattle.ae_tree.specs.WellShaped.{EachStatement}
use Rattle.ae_tree.specs.FreeThis.{IsNotThis, DeclaresOther, IsSpelledOther, DerivedHaveThisFree}
use Rattle.ae_tree.proofs.BelowLemmas.{EachToken, all_more, Of, head, tail, under, under_two}
use Rattle.ae_tree.proofs.NamedLemmas.{each_has, further_has, separated_has, listed_has}
use Rattle.ae_tree.proofs.BlockLemmas.{Gives, each_in_body, no_wish}
use Rattle.ae_tree.proofs.ProgramLemmas.{methods_have}

-- ---- tokens

abbrev IsOther : Lexical → Type 0
IsOther (tok.Name x) = x ≢ this
IsOther (tok.Int i) = Unit {0}
IsOther (tok.Text s) = Unit {0}
IsOther (tok.Word w) = Unit {0}
IsOther (tok.Sign g) = Unit {0}
IsOther tok.End = Unit {0}

abbrev third : Bool → Bool → Bool → ℕ → ℕ
third a b c n = cond (not a) (1 + cond (not b) (1 + cond (not c) (1 + n) 0) 0) 0

is_third : (a b c : Bool) (n : ℕ) → third a b c n ≡ 2 → c ≡ true
is_third true b c n e = absurd (omega (arith, e))
is_third false true c n e = absurd (omega (arith, e))
is_third false false true n e = refl
is_third false false false n e = absurd (omega (arith, e))

-- what has the number of `this` is spelled so
spelled_this : (names rest : List (List ℕ)) (s : List ℕ) → names ≡ first_names ++ rest → name_number names s ≡ this
    → s ≡ codes "this"
spelled_this names rest s e h =
    let f : name_number (first_names ++ rest) s ≡ 2 = subst (λ (l : List (List ℕ)). name_number l s ≡ 2) e h in
    (bytes_decides s (codes "this")).0
    (is_third (bytes_eq s (codes "io")) (bytes_eq s (codes "main")) (bytes_eq s (codes "this"))
    (position_or_len (bytes_eq s) rest) f)

kind_other : (names rest : List (List ℕ)) → names ≡ first_names ++ rest → (kind : TokenKind) → IsSpelledOther kind
    → IsOther (lexical names kind)
kind_other names rest e (k.Name s) h = λ (q : name_number names s ≡ this). h (spelled_this names rest s e q)
kind_other names rest e (k.Int i) h = tt
kind_other names rest e (k.Text s) h = tt
kind_other names rest e (k.Word w) h = tt
kind_other names rest e (k.Sign g) h = tt
kind_other names rest e k.End h = tt

tokens_other : (names rest : List (List ℕ)) → names ≡ first_names ++ rest → (ts : List Token)
    → All (λ (t : Token). IsSpelledOther t.kind) ts → EachToken IsOther (numbered names ts)
tokens_other names rest e [] h = tt
tokens_other names rest e (t ∷ ts) h = (kind_other names rest e t.kind (All-head (λ (x : Token). IsSpelledOther x.kind) t ts h), tokens_other names rest e ts (All-tail (λ (x : Token). IsSpelledOther x.kind) t ts h))

-- ---- declared names

name_other : (x : NameAt) → Of IsOther (name x) → IsNotThis x
name_other x d = (subst (EachToken IsOther) d.derives d.each).0

groups_other : (gs : List NameAt) → Of IsOther (groups gs) → All IsNotThis gs
groups_other [] d = All-nil IsNotThis
groups_other (g ∷ gs) d = separated_has name IsNotThis name_other (g ∷ gs) (head (tail d))

abbrev ParamOther : Param → Type 0
ParamOther x = IsNotThis x.name

param_other : (x : Param) → Of IsOther (param x) → ParamOther x
param_other x d = name_other x.name (head (tail d))

params_other : (o : Option Me) (xs : List Param) → Of IsOther (parameters o xs) → All ParamOther xs
params_other None xs d = listed_has param ParamOther param_other xs d
params_other (Some m) xs d = further_has param ParamOther param_other xs (tail d)

declares_other : Gives IsOther DeclaresOther
declares_other n at (Declares t x e) d = name_other x (head (tail (tail d)))
declares_other n at (Assigns x e) d = tt
declares_other n at (Stores p e) d = tt
declares_other n at (StoresAt p i e) d = tt
declares_other n at (Calls c) d = tt
declares_other n at (Chooses e j b) d = tt
declares_other n at (ChoosesElse e j b m c) d = tt
declares_other n at (Repeats e j b) d = tt
declares_other n at (Groups g) d = name_other g (head (tail d))
declares_other n at (Splits gs j b) d = tt
declares_other n at (Locks g j b) d = tt
declares_other n at (Freezes x) d = tt
declares_other n at (Shares x g) d = tt
declares_other n at (Prints e) d = tt
declares_other n at (PrintsText s) d = tt
declares_other n at (Asserts e) d = tt
declares_other n at (Returns e) d = tt

-- ---- declarations

abbrev HeadOther : Definition → Type 0
HeadOther m = IsNotThis m.name × All IsNotThis m.groups × All ParamOther m.params

abbrev MethodOther : Definition → Type 0
MethodOther m = HeadOther m × EachStatement DeclaresOther m.body

method_other : (o : Option ℕ) (m : Definition) → Of IsOther (method o m) → MethodOther m
method_other o m d =
    let s2 = tail (tail (under_two d)) in
    let s3 = tail s2 in
    let s5 = tail (tail s3) in (
      (name_other m.name (head s2), groups_other m.groups (head s3), params_other m.me m.params (head s5)),
      each_in_body DeclaresOther declares_other no_wish m.body (tail (tail (tail s5))),
    )

abbrev ClassOther : Class → Type 0
ClassOther c = IsNotThis c.name × All IsNotThis c.groups × All (λ (d : Field). IsNotThis d.name) c.fields

classes_other : (xs : List Declaration) (c m : ℕ) → Of IsOther (declarations c m xs) → All ClassOther (classes_of xs)
classes_other [] c m d = All-nil ClassOther
classes_other (OfClass x ms ∷ xs) c m d =
    let s1 = tail (under (head d)) in
    let s2 = tail s1 in
    All-cons ClassOther x (classes_of xs) (
      name_other x.name (head s1),
      groups_other x.groups (head s2),
      each_has field (λ (y : Field). IsNotThis y.name)
          (λ y e. name_other y.name (head (tail e))) x.fields (head (tail (tail s2))),
    )
    (classes_other xs _ _ (tail d))
classes_other (OfMethod x ∷ xs) c m d = classes_other xs _ _ (tail d)

-- nothing is declared under the name `this`
pub derived_have_this_free : DerivedHaveThisFree
derived_have_this_free tokens p h d =
    let more = all_more (spellings tokens) first_names in
    let whole : Of IsOther (declarations 0 0 d.list ⨾ one_token tok.End) =
    record {
      tokens = numbered p.names tokens;
      derives = d.derives;
      each = tokens_other p.names more.0
          (d.names ∙ more.1) tokens h;
    } in
    let ds : Of IsOther (declarations 0 0 d.list) = head whole in
    let all : All MethodOther p.methods = subst (All MethodOther) (sym d.methods)
    (methods_have MethodOther (length (classes_of d.list)) (λ o m l b. method_other o m b) d.list 0 0
    (omega arith) ds) in
    record {
      classes = subst (All ClassOther) (sym d.classes) (classes_other d.list 0 0 ds);
      methods = λ i x l. (all i x l).0;
      statements = λ i x l. (all i x l).1;
    }
