-- Forms compared, and forms with groups in the place of a declaration's own.
use Rattle.std.specs.Prelude.{ℕ, nat_eq, Bool, true, false, ◌&&◌, if◌then◌else◌, List, [], ◌∷◌, map}
use Rattle.ae_tree.specs.declared.form.Perm.{Perm}
use Rattle.ae_tree.specs.declared.form.Perm.TheVariants as perm
use Rattle.ae_tree.specs.declared.form.Kind.{Kind}
use Rattle.ae_tree.specs.declared.form.Kind.TheVariants as kind
use Rattle.ae_tree.specs.declared.form.Form.{Form}
use Rattle.ae_tree.specs.declared.form.Form.TheVariants as f

abbrev pub same_names : List ℕ → List ℕ → Bool
same_names [] [] = true
same_names (x ∷ xs) (y ∷ ys) = nat_eq x y && same_names xs ys
same_names _ _ = false

abbrev pub same_perm : Perm → Perm → Bool
same_perm perm.Unique perm.Unique = true
same_perm perm.Immutable perm.Immutable = true
same_perm perm.Lent perm.Lent = true
same_perm (perm.Shared g) (perm.Shared h) = nat_eq g h
same_perm _ _ = false

abbrev pub same_kind : Kind → Kind → Bool
same_kind kind.Ints kind.Ints = true
same_kind (kind.Class x gs) (kind.Class y hs) = nat_eq x y && same_names gs hs
same_kind _ _ = false

abbrev pub is_unique_perm : Perm → Bool
is_unique_perm q = same_perm perm.Unique q

-- both are integers, or both are booleans
abbrev pub same_value : Form → Form → Bool
same_value f.Int f.Int = true
same_value f.Bool f.Bool = true
same_value _ _ = false

-- the same form
abbrev pub same_form : Form → Form → Bool
same_form (f.Object p k) (f.Object q l) = same_perm p q && same_kind k l
same_form form other = same_value form other

abbrev pub is_object : Form → Bool
is_object f.Int = false
is_object f.Bool = false
is_object (f.Object q k) = true

-- an object of this kind
abbrev pub is_object_of : Kind → Form → Bool
is_object_of k f.Int = false
is_object_of k f.Bool = false
is_object_of k (f.Object q l) = same_kind k l

abbrev pub is_ints : Form → Bool
is_ints form = is_object_of kind.Ints form

abbrev pub is_unique : Form → Bool
is_unique f.Int = false
is_unique f.Bool = false
is_unique (f.Object q k) = is_unique_perm q

-- the name at the place in the second list that this name has in the first, or else the name itself
abbrev pub in_place : List ℕ → List ℕ → ℕ → ℕ
in_place [] ys g = g
in_place (x ∷ xs) [] g = g
in_place (x ∷ xs) (y ∷ ys) g = if nat_eq x g then y else in_place xs ys g

abbrev pub perm_with : (ℕ → ℕ) → Perm → Perm
perm_with new perm.Unique = perm.Unique
perm_with new perm.Immutable = perm.Immutable
perm_with new perm.Lent = perm.Lent
perm_with new (perm.Shared g) = perm.Shared (new g)

abbrev pub kind_with : (ℕ → ℕ) → Kind → Kind
kind_with new kind.Ints = kind.Ints
kind_with new (kind.Class x gs) = kind.Class x (map new gs)

-- the form with each group replaced
abbrev pub form_with : (ℕ → ℕ) → Form → Form
form_with new f.Int = f.Int
form_with new f.Bool = f.Bool
form_with new (f.Object q k) = f.Object (perm_with new q) (kind_with new k)
