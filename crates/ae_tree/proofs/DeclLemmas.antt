-- The classes and methods of a derived program under their numbers, and its whole shape.
use Rattle.std.proofs.Common.{arith, ◌≡◌, ◌<◌, refl, sym, ap, ap₂, ◌∙◌, subst, ℕ, zero, suc, ◌+◌, ◌++◌, List, []}
use Rattle.std.proofs.Common.{◌∷◌, length, slice_get, bytes_eq, Option, None, Some, append_assoc, length-append}
use Rattle.std.specs.Prelude.{All, filter_map}
use Rattle.std.specs.List.{IsDistinct, flat_map}
use Rattle.std.proofs.lemmas.List.Elements.{All-nil, All-cons, All-head, All-tail}
use Rattle.ae_tree.specs.declared.lexeme.Lexical.TheVariants as tok
use Rattle.ae_tree.specs.declared.tree.Class.{Class}
use Rattle.ae_tree.specs.declared.tree.Decl.TheVariants as decl
use Rattle.ae_tree.specs.Names.{this, first_names, numbered, spellings}
use Rattle.ae_tree.specs.Plain.{Definition, Code}
use Rattle.ae_tree.specs.Grammar.{method, numbers_from, Declaration, OfClass, OfMethod, declarations, decls_of}
use Rattle.ae_tree.specs.Grammar.{classes_of, methods_of, ◌⨾◌, one_token}
use Rattle.ae_tree.specs.WellShaped.{IfThere, ClassNamed, class_in, own_methods, methods_at, IsMethodOf, DeclaresTop}
use Rattle.ae_tree.specs.WellShaped.{DerivedAreWellShaped}
use Rattle.ae_tree.proofs.BelowLemmas.{IsBelow, EachToken, all_more, all_apart, tokens_below, Of, head, tail, under}
use Rattle.ae_tree.proofs.NamedLemmas.{each_has}
use Rattle.ae_tree.proofs.BlockLemmas.{numbers_from-append}
use Rattle.ae_tree.proofs.ProgramLemmas.{MethodShape, method_shape, methods_have, classes_named, classes_in_order}

-- ---- by number

at_seam : {A : Type 0} (xs : List A) (y : A) (ys : List A) → slice_get (xs ++ y ∷ ys) (length xs) ≡ Some y
at_seam [] y ys = refl
at_seam (x ∷ xs) y ys = at_seam xs y ys

-- what stands behind others has the next number
found_at : {A : Type 0} (all xs : List A) (y : A) (ys : List A) (n : ℕ) → all ≡ xs ++ y ∷ ys → n ≡ length xs
    → slice_get all n ≡ Some y
found_at all xs y ys n e f = ap₂ slice_get e f ∙ at_seam xs y ys

-- methods that stand behind others, by their numbers
are_methods_of : (p : Code) (o : Option ℕ) (ms before behind : List Definition) (m : ℕ)
    → All (λ (x : Definition). x.class ≡ o) ms
    → p.methods ≡ before ++ (ms ++ behind) → m ≡ length before → All (IsMethodOf p o) (numbers_from m (length ms))
are_methods_of p o [] before behind m h e f = All-nil (IsMethodOf p o)
are_methods_of p o (x ∷ ms) before behind m h e f =
    let found : slice_get p.methods m ≡ Some x = found_at p.methods before x (ms ++ behind) m e f in
    let rest : p.methods ≡ (before ++ x ∷ []) ++ (ms ++ behind) = e
    ∙ sym (append_assoc before (x ∷ []) (ms ++ behind)) in
    let count : m + 1 ≡ length (before ++ x ∷ []) = omega (arith, f, length-append before (x ∷ [])) in
    All-cons (IsMethodOf p o) m (numbers_from (m + 1) (length ms))
    (record { method = x; found = found; is_of = All-head (λ (y : Definition). y.class ≡ o) x ms h })
    (are_methods_of p o ms (before ++ x ∷ []) behind (m + 1) (All-tail (λ (y : Definition). y.class ≡ o) x ms h) rest
    count)

-- ---- declarations behind others

-- the classes and methods of a program, where some stand before these declarations
record Stand (p : Code) (c m : ℕ) (xs : List Declaration) : Type 0 where
  classes : List Class
  methods : List Definition
  all_classes : p.classes ≡ classes ++ classes_of xs
  all_methods : p.methods ≡ methods ++ methods_of xs
  class_count : c ≡ length classes
  method_count : m ≡ length methods

behind_class : (p : Code) (c m : ℕ) (k : Class) (ms : List Definition) (xs : List Declaration)
    → Stand p c m (OfClass k ms ∷ xs) → Stand p (c + 1) (m + length ms) xs
behind_class p c m k ms xs s = record {
  classes = s.classes ++ k ∷ [];
  methods = s.methods ++ ms;
  all_classes = s.all_classes ∙ sym (append_assoc s.classes (k ∷ []) (classes_of xs));
  all_methods = s.all_methods ∙ sym (append_assoc s.methods ms (methods_of xs));
  class_count = omega (arith, s.class_count, length-append s.classes (k ∷ []));
  method_count = omega (arith, s.method_count, length-append s.methods ms);
}

behind_method : (p : Code) (c m : ℕ) (x : Definition) (xs : List Declaration) → Stand p c m (OfMethod x ∷ xs)
    → Stand p (c + 0) (m + 1) xs
behind_method p c m x xs s = record {
  classes = s.classes;
  methods = s.methods ++ x ∷ [];
  all_classes = s.all_classes;
  all_methods = s.all_methods ∙ sym (append_assoc s.methods (x ∷ []) (methods_of xs));
  class_count = omega (arith, s.class_count);
  method_count = omega (arith, s.method_count, length-append s.methods (x ∷ []));
}

-- each method is declared once, in order
methods_in_order : (p : Code) {n : ℕ} (xs : List Declaration) (c m : ℕ) → Stand p c m xs
    → Of (IsBelow n) (declarations c m xs)
    → flat_map (methods_at p) (decls_of c m xs) ≡ numbers_from m (length (methods_of xs))
methods_in_order p [] c m s d = refl
methods_in_order p (OfClass k ms ∷ xs) c m s d =
    let found : slice_get p.classes c ≡ Some k = found_at p.classes s.classes k
    (classes_of xs) c s.all_classes s.class_count in
    let own : own_methods (slice_get p.classes c) ≡ numbers_from m (length ms) = ap own_methods found
    ∙ (head d).derives.0 in
    ap₂ (λ (u v : List ℕ). u ++ v) own (methods_in_order p xs _ _ (behind_class p c m k ms xs s) (tail d))
    ∙ numbers_from-append m (length ms) (length (methods_of xs))
    ∙ ap (numbers_from m) (sym (length-append ms (methods_of xs)))
methods_in_order p (OfMethod x ∷ xs) c m s d = ap (λ (l : List ℕ). m ∷ l)
    (methods_in_order p xs _ _ (behind_method p c m x xs s) (tail d))

-- the methods of a class are of it
members_are : (p : Code) {n : ℕ} (xs : List Declaration) (c m i : ℕ) (k : Class) → Stand p c m xs
    → Of (IsBelow n) (declarations c m xs)
    → slice_get (classes_of xs) i ≡ Some k → All (IsMethodOf p (Some (c + i))) k.methods
members_are p [] c m i k s d e = absurd (cc)
members_are p {n} (OfClass x ms ∷ xs) c m zero k s d e =
    let same : x ≡ k = cc in
    let at : c ≡ c + 0 = omega arith in
    let a = under (head d) in
    let own : All (λ (y : Definition). y.class ≡ Some c) ms = each_has (method (Some c))
    (λ (y : Definition). y.class ≡ Some c) (λ y b. (method_shape n (Some c) y b).is_of) ms
    (head (tail (tail (tail (tail (tail a)))))) in
    let h : All (IsMethodOf p (Some c)) x.methods = subst (All (IsMethodOf p (Some c))) (sym (head d).derives.0)
    (are_methods_of p (Some c) ms s.methods (methods_of xs) m own s.all_methods s.method_count) in
    subst (λ (z : ℕ). All (IsMethodOf p (Some z)) k.methods) at
    (subst (λ (y : Class). All (IsMethodOf p (Some c)) y.methods) same h)
members_are p (OfClass x ms ∷ xs) c m (suc i) k s d e =
    let at : c + 1 + i ≡ c + suc i = omega arith in
    subst (λ (z : ℕ). All (IsMethodOf p (Some z)) k.methods) at
    (members_are p xs _ _ i k (behind_class p c m x ms xs s) (tail d) e)
members_are p (OfMethod x ∷ xs) c m i k s d e =
    let at : c + 0 + i ≡ c + i = omega arith in
    subst (λ (z : ℕ). All (IsMethodOf p (Some z)) k.methods) at
    (members_are p xs _ _ i k (behind_method p c m x xs s) (tail d) e)

-- the methods at the top are of none
tops_are : (p : Code) {n : ℕ} (xs : List Declaration) (c m : ℕ) → Stand p c m xs
    → Of (IsBelow n) (declarations c m xs) → All (DeclaresTop p) (decls_of c m xs)
tops_are p [] c m s d = All-nil (DeclaresTop p)
tops_are p (OfClass k ms ∷ xs) c m s d = All-cons (DeclaresTop p) (decl.Class c) (decls_of (c + 1) (m + length ms) xs)
    tt (tops_are p xs _ _ (behind_class p c m k ms xs s) (tail d))
tops_are p {n} (OfMethod x ∷ xs) c m s d =
    let top : IsMethodOf p None m =
    record {
      method = x;
      found = found_at p.methods s.methods x (methods_of xs) m s.all_methods s.method_count;
      is_of = (method_shape n None x (head d)).is_of;
    } in
    All-cons (DeclaresTop p) (decl.Method m) (decls_of (c + 0) (m + 1) xs) top
    (tops_are p xs _ _ (behind_method p c m x xs s) (tail d))

-- ---- the whole

-- a method, and that its class is there
record Owned (n bound : ℕ) (m : Definition) : Type 0 where
  of : Option ℕ
  shape : MethodShape n of m
  within : IfThere (λ (c : ℕ). c < bound) of

class_below : (bound : ℕ) (o : Option ℕ) → IfThere (λ (c : ℕ). c < bound) o → (c : ℕ) → o ≡ Some c → c < bound
class_below bound None h c e = absurd (cc)
class_below bound (Some x) h c e = let s : x ≡ c = cc in subst (λ (y : ℕ). y < bound) s h

-- `io`, `main` and `this` differ
first_apart : IsDistinct bytes_eq first_names
unfolding IsDistinct
first_apart = ((refl, (refl, tt)), ((refl, tt), (tt, tt)))

-- a derived program is well shaped
pub derived_are_well_shaped : DerivedAreWellShaped
derived_are_well_shaped tokens p d =
    let n : ℕ = length p.names in
    let first : (rest : List (List ℕ)) × (p.names ≡ first_names ++ rest) = let m = all_more
    (spellings tokens) first_names in (m.0, d.names ∙ m.1) in
    let three : this < n = let l : n ≡ length (first_names ++ first.0) = ap length first.1 in omega (arith, l) in
    let below : EachToken (IsBelow n) (numbered p.names tokens) =
    subst (λ (names : List (List ℕ)). EachToken (IsBelow (length names)) (numbered names tokens)) (sym d.names)
    (tokens_below tokens first_names (subst (λ (names : List (List ℕ)). this < length names) d.names three)) in
    let whole : Of (IsBelow n) (declarations 0 0 d.list ⨾ one_token tok.End) =
    record { tokens = numbered p.names tokens; derives = d.derives; each = below } in
    let s : Stand p 0 0 d.list = record {
      classes = [];
      methods = [];
      all_classes = d.classes;
      all_methods = d.methods;
      class_count =
          refl;
      method_count = refl;
    } in
    let ds : Of (IsBelow n) (declarations 0 0 d.list) = head whole in
    let bound : ℕ = length (classes_of d.list) in
    let owned : All (Owned n bound) p.methods = subst (All (Owned n bound)) (sym d.methods)
    (methods_have (Owned n bound) bound (λ o x h b. record { of = o; shape = method_shape n o x b; within = h })
    d.list 0 0 (omega arith) ds) in
    let count : bound ≡ length p.classes = ap length (sym d.classes) in
    record {
      first = first;
      distinct = subst (IsDistinct bytes_eq) (sym d.names) (all_apart (spellings tokens) first_names first_apart);
      class_names = subst (All (ClassNamed n)) (sym d.classes) (classes_named n d.list 0 0 ds);
      method_names = λ i x l. (owned i x l).shape.named;
      classes = ap (filter_map class_in) d.decls ∙ classes_in_order d.list 0 0 ∙ ap (numbers_from 0) count;
      methods = ap (flat_map (methods_at p)) d.decls ∙ methods_in_order p d.list 0 0 s ds
          ∙ ap (λ (l : List Definition). numbers_from 0 (length l)) (sym d.methods);
      members = λ i k e.
          let same : 0 + i ≡ i = omega arith in
          subst (λ (c : ℕ). All (IsMethodOf p (Some c)) k.methods) same
          (members_are p d.list 0 0 i k s ds (ap (λ (l : List Class). slice_get l i) (sym d.classes) ∙ e));
      tops = subst (All (DeclaresTop p)) (sym d.decls) (tops_are p d.list 0 0 s ds);
      owners = λ i x l c e. let o = owned i x l in subst (λ (z : ℕ). c < z) count
          (class_below bound o.of o.within c (sym o.shape.is_of ∙ e));
      receivers = λ i x l. (owned i x l).shape.receiver;
      fields = λ i x l. (owned i x l).shape.fields;
      splits = λ i x l. (owned i x l).shape.splits;
      returns = λ i x l. (owned i x l).shape.returns;
      blocks = λ i x l. (owned i x l).shape.blocks;
      apart = λ i x l. (owned i x l).shape.apart;
    }
