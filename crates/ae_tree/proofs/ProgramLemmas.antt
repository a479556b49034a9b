-- Methods and declarations: what a derived program has of its shape.
use Rattle.std.proofs.Common.{arith, ◌≡◌, ◌≢◌, ◌<◌, ◌≤◌, refl, sym, ap, ap₂, ◌∙◌, subst, ℕ, ◌+◌, nat_eq, true, List}
use Rattle.std.proofs.Common.{[], ◌∷◌, length, Option, None, Some}
use Rattle.std.specs.Prelude.{All, is_some, filter_map}
use Rattle.std.specs.List.{IsDistinct}
use Rattle.std.proofs.lemmas.List.Elements.{All-nil, All-cons, All-append}
use Rattle.ae_tree.specs.declared.lexeme.Lexical.{Lexical}
use Rattle.ae_tree.specs.declared.tree.Me.{Me}
use Rattle.ae_tree.specs.Plain.{Definition}
use Rattle.ae_tree.specs.Grammar.{IsMethodOf, opened_in, method, field, numbers_from, Declaration, OfClass, OfMethod}
use Rattle.ae_tree.specs.Grammar.{declarations, decls_of, classes_of, methods_of}
use Rattle.ae_tree.specs.WellShaped.{EachStatement, IfThere, ActionNamed, MethodNamed, FieldNamed, ClassNamed}
use Rattle.ae_tree.specs.WellShaped.{HasField, HasGroup, ReturnsLast, block_numbers, BlocksInOrder, class_in}
use Rattle.ae_tree.proofs.BelowLemmas.{IsBelow, Of, head, tail, under, under_two}
use Rattle.ae_tree.proofs.NamedLemmas.{each_has, name_named, groups_named, action_named, result_named, me_named}
use Rattle.ae_tree.proofs.NamedLemmas.{params_named, needs_named, field_named, returning_named}
use Rattle.ae_tree.proofs.BlockLemmas.{each_in_body, has_field, has_group, numbers_from-one, in_order, numbers_apart}
use Rattle.ae_tree.proofs.BlockLemmas.{body_returns, body_numbered, no_wish}

-- ---- methods

-- what a method has that tokens stand for
pub record MethodShape (n : ℕ) (o : Option ℕ) (m : Definition) : Type 0 where
  pub named : MethodNamed n m
  pub is_of : m.class ≡ o
  pub receiver : is_some m.me ≡ is_some m.class
  pub fields : EachStatement HasField m.body
  pub splits : EachStatement HasGroup m.body
  pub returns : ReturnsLast m.body
  pub blocks : BlocksInOrder m
  pub apart : IsDistinct nat_eq (block_numbers m)

there : (o : Option Me) → o ≢ None → is_some o ≡ true
there None h = absurd (h refl)
there (Some x) h = refl

receiver_is : (o : Option ℕ) (m : Definition) → IsMethodOf o m → is_some m.me ≡ is_some m.class
receiver_is None m h = ap is_some h.1 ∙ sym (ap is_some h.0)
receiver_is (Some c) m h = there m.me h.1 ∙ sym (ap is_some h.0)

pub class_is : (o : Option ℕ) (m : Definition) → IsMethodOf o m → m.class ≡ o
class_is None m h = h.0
class_is (Some c) m h = h.0

-- a method that tokens stand for has its shape
pub method_shape : (n : ℕ) (o : Option ℕ) (m : Definition) → Of (IsBelow n) (method o m) → MethodShape n o m
method_shape n o m d =
    let s1 = tail (under_two d) in
    let s2 = tail s1 in
    let s3 = tail s2 in
    let s5 = tail (tail s3) in
    let s7 = tail (tail s5) in
    let b = tail s7 in
    let is : IsMethodOf o m = d.derives.0 in
    let numbers : block_numbers m ≡ numbers_from 0 (1 + opened_in b.derives.0) =
    ap₂ (λ (x : ℕ) (l : List ℕ). x ∷ l) d.derives.1 (body_numbered m.body b)
    ∙ numbers_from-one 0 (opened_in b.derives.0) in
    record {
      named = record {
        result = result_named n m.result (head s1);
        name = name_named n m.name (head s2);
        groups = groups_named n m.groups (head s3);
        me = me_named n m.me m.params (head s5);
        params = params_named n m.me m.params (head s5);
        needs = needs_named n m.needs (head s7);
        body = each_in_body (ActionNamed n) (action_named n) (returning_named n) m.body b;
      };
      is_of = class_is o m is;
      receiver = receiver_is o m is;
      fields = each_in_body HasField (has_field (IsBelow n)) no_wish m.body b;
      splits = each_in_body HasGroup (has_group (IsBelow n)) no_wish m.body b;
      returns = body_returns m.body b;
      blocks = in_order 0 (1 + opened_in b.derives.0) (block_numbers m) numbers;
      apart = subst (IsDistinct nat_eq) (sym numbers) (numbers_apart 0 (1 + opened_in b.derives.0));
    }

-- ---- declarations

-- what each method has, where each that tokens stand for has it, and classes are numbered below a bound
pub methods_have : {L : Lexical → Type 0} (P : Definition → Type 0) (bound : ℕ)
    → ((o : Option ℕ) (m : Definition) → IfThere (λ (c : ℕ). c < bound) o → Of L (method o m) → P m)
    → (xs : List Declaration) (c m : ℕ) → c + length (classes_of xs) ≤ bound → Of L (declarations c m xs)
    → All P (methods_of xs)
methods_have P bound f [] c m l d = All-nil P
methods_have P bound f (OfClass k ms ∷ xs) c m l d =
    let s = under (head d) in
    All-append P ms (methods_of xs)
    (each_has (method (Some c)) P (λ x e. f (Some c) x (omega (arith, l)) e) ms
    (head (tail (tail (tail (tail (tail s)))))))
    (methods_have P bound f xs _ _ (omega (arith, l)) (tail d))
methods_have P bound f (OfMethod x ∷ xs) c m l d =
    All-cons P x (methods_of xs) (f None x tt (head d)) (methods_have P bound f xs _ _ (omega (arith, l)) (tail d))

-- the names of the classes
pub classes_named : (n : ℕ) (xs : List Declaration) (c m : ℕ) → Of (IsBelow n) (declarations c m xs)
    → All (ClassNamed n) (classes_of xs)
classes_named n [] c m d = All-nil (ClassNamed n)
classes_named n (OfClass k ms ∷ xs) c m d =
    let s1 = tail (under (head d)) in
    let s2 = tail s1 in
    All-cons (ClassNamed n) k (classes_of xs) (
      name_named n k.name (head s1),
      groups_named n k.groups (head s2),
      each_has field (FieldNamed n)
          (field_named n) k.fields (head (tail (tail s2))),
    )
    (classes_named n xs _ _ (tail d))
classes_named n (OfMethod x ∷ xs) c m d = classes_named n xs _ _ (tail d)

-- classes are declared in order
pub classes_in_order : (xs : List Declaration) (c m : ℕ) → filter_map class_in (decls_of c m xs)
    ≡ numbers_from c (length (classes_of xs))
classes_in_order [] c m = refl
classes_in_order (OfClass k ms ∷ xs) c m = ap (λ (l : List ℕ). c ∷ l) (classes_in_order xs _ _)
classes_in_order (OfMethod x ∷ xs) c m =
    let e : c + 0 ≡ c = omega arith in
    classes_in_order xs _ _ ∙ ap (λ (z : ℕ). numbers_from z (length (classes_of xs))) e
