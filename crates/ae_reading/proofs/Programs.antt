-- A program as a list of declarations, and its methods and classes as those of the list.
use Rattle.std.proofs.Common.{◌≡◌, ℕ, ◌+◌, List, [], ◌∷◌, length, Option, Some, None, ap, ◌∙◌}
use Rattle.ae_text.specs.declared.token.Token.{Token as SourceToken}
use Rattle.ae_tree.specs.declared.tree.Class.{Class}
use Rattle.ae_tree.specs.declared.tree.Decl.{Decl}
use Rattle.ae_tree.specs.Plain.{Definition, Code}
use Rattle.ae_tree.specs.Names.{names_of}
use Rattle.ae_tree.specs.Grammar.{Tokens, IsMethodOf, Declaration, declaration, classes_in, methods_in, declarations}
use Rattle.ae_tree.specs.Grammar.{decls_of, classes_of, methods_of, Derives}
use Rattle.ae_reading.specs.Reads.{chain}
use Rattle.ae_reading.proofs.ReadsLemmas.{Lang}
use Rattle.ae_reading.proofs.from_tree.ProgramLemmas.{class_is}

-- ---- methods

-- the class and the number of a method that was read are those that its place tells
pub method_is : (k : Option ℕ) (m : Definition) → IsMethodOf k m → m.no ≡ 0 →
    m ≡ record {
      class = k;
      result = m.result;
      name = m.name;
      groups = m.groups;
      me = m.me;
      params = m.params;
      needs =
          m.needs;
      no = 0;
      body = m.body;
    }
method_is k m of none =
    ap (λ (c : Option ℕ). record {
      class = c;
      result = m.result;
      name = m.name;
      groups = m.groups;
      me = m.me;
      params =
          m.params;
      needs = m.needs;
      no = m.no;
      body = m.body;
    }) (class_is k m of)
    ∙ ap (λ (n : ℕ). record {
      class = k;
      result = m.result;
      name = m.name;
      groups = m.groups;
      me = m.me;
      params =
          m.params;
      needs = m.needs;
      no = n;
      body = m.body;
    }) none

-- ---- declarations

-- how many classes and methods stand before
abbrev pub Counts2 : Type 0
Counts2 = ℕ × ℕ

abbrev pub counted : Counts2 → Declaration → Counts2
counted s x = (s.0 + length (classes_in x), s.1 + length (methods_in x))

abbrev pub one_of : Counts2 → Lang Declaration
one_of s = declaration s.0 s.1

-- declarations are a chain
pub to_all : (c m : ℕ) (xs : List Declaration) (us : Tokens) → declarations c m xs us
    → chain one_of counted (c, m) xs us
to_all c m [] us d = d
to_all c m (x ∷ xs) us d = record {
  front = d.front;
  back = d.back;
  parts = d.parts;
  first = d.first;
  second =
      to_all (c + length (classes_in x)) (m + length (methods_in x)) xs d.back d.second;
}

pub from_all : (c m : ℕ) (xs : List Declaration) (us : Tokens) → chain one_of counted (c, m) xs us
    → declarations c m xs us
from_all c m [] us d = d
from_all c m (x ∷ xs) us d = record {
  front = d.front;
  back = d.back;
  parts = d.parts;
  first = d.first;
  second =
      from_all (c + length (classes_in x)) (m + length (methods_in x)) xs d.back d.second;
}

-- ---- programs

-- the program of a list of declarations
abbrev pub code_of : List (List ℕ) → List Declaration → Code
code_of names xs = record { names = names; classes = classes_of xs; methods = methods_of xs; decls = decls_of 0 0 xs }

pub code_is : (p : Code) (tokens : List SourceToken) (d : Derives tokens p) → p ≡ code_of (names_of tokens) d.list
code_is p tokens d =
    ap (λ (n : List (List ℕ)). record { names = n; classes = p.classes; methods = p.methods; decls = p.decls }) d.names
    ∙ ap (λ (c : List Class). record { names = names_of tokens; classes = c; methods = p.methods; decls = p.decls })
    d.classes
    ∙ ap (λ (m : List Definition). record {
      names = names_of tokens;
      classes = classes_of d.list;
      methods = m;
      decls =
          p.decls;
    }) d.methods
    ∙ ap (λ (l : List Decl). record
    { names = names_of tokens; classes = classes_of d.list; methods = methods_of d.list; decls = l }) d.decls
