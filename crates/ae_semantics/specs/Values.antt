-- Values: numbers, truths, null, trees of objects, and references to the members of a group.
use Rattle.std.specs.Prelude.{ℕ, zero, suc, ◌+◌, nat_eq, nat_lt, max, ℤ, Bool, true, false, ◌&&◌, List, [], ◌∷◌}
use Rattle.std.specs.Prelude.{length, Option, None, Some}
use Rattle.std.specs.List.{list_all}
use Rattle.ae_tree.specs.declared.tree.Class.{Class}
use Rattle.ae_tree.specs.declared.form.Perm.{Perm}
use Rattle.ae_tree.specs.declared.form.Perm.TheVariants as perm
use Rattle.ae_tree.specs.declared.form.Kind.{Kind}
use Rattle.ae_tree.specs.declared.form.Kind.TheVariants as kind
use Rattle.ae_tree.specs.declared.form.Form.{Form}
use Rattle.ae_tree.specs.declared.form.Form.TheVariants as f
use Rattle.ae_tree.specs.Plain.{Code}
use Rattle.ae_rules.specs.Verdict.{given}
use Rattle.ae_rules.specs.Lookups.{class_called}

mutual
  -- a number, a truth, null, an object that stands here, or the number of a member of a group
  pub data Val : Type 0 where
    OfInt : ℤ → Val
    OfBool : Bool → Val
    Null : Val
    Owned : Tree → Val
    Member : ℕ → Val

  -- an object of a class with its fields in order, or an array of integers
  pub data Tree : Type 0 where
    Object : ℕ → Values → Tree
    Array : List ℤ → Tree

  pub data Values : Type 0 where
    NoValue : Values
    AndValue : Val → Values → Values

-- the members of a group, by their numbers
abbrev pub Store : Type 0
Store = List Tree

-- ---- heights

abbrev mutual
  -- an object is one higher than the highest object in its fields, so that one without objects in it has height 1
  pub height : Val → ℕ
  height (OfInt n) = 0
  height (OfBool b) = 0
  height Null = 0
  height (Owned t) = tree_height t
  height (Member n) = 0

  pub tree_height : Tree → ℕ
  tree_height (Object c xs) = highest xs + 1
  tree_height (Array ns) = 1

  pub highest : Values → ℕ
  highest NoValue = 0
  highest (AndValue v xs) = max (height v) (highest xs)

-- a local or a member is not higher than 1,000
abbrev pub is_low : Val → Bool
is_low v = nat_lt (height v) 1001

-- no member is too high
abbrev pub all_low : Store → Bool
all_low st = list_all (λ t. is_low (Owned t)) st

-- ---- which value fits which form

-- how many values there are
abbrev pub value_count : Values → ℕ
value_count NoValue = 0
value_count (AndValue v xs) = value_count xs + 1

-- a tree is of a class by its name and its number of fields; what stands in the fields does not count
abbrev pub is_of_kind : Code → Kind → Tree → Bool
is_of_kind p kind.Ints (Array ns) = true
is_of_kind p kind.Ints (Object x xs) = false
is_of_kind p (kind.Class c gs) (Array ns) = false
is_of_kind p (kind.Class c gs) (Object x xs) = nat_eq c x && given (class_called p c) false
    (λ (d : Class). nat_eq (length d.fields) (value_count xs))

-- a shared place takes null and references, any other place for objects takes null and trees
abbrev pub fits_object : Code → Perm → Kind → Val → Bool
fits_object p (perm.Shared g) k Null = true
fits_object p (perm.Shared g) k (Member n) = true
fits_object p (perm.Shared g) k _ = false
fits_object p q k Null = true
fits_object p q k (Owned t) = is_of_kind p k t
fits_object p q k _ = false

-- the value fits a place of this form
abbrev pub value_fits : Code → Form → Val → Bool
value_fits p f.Int (OfInt n) = true
value_fits p f.Int _ = false
value_fits p f.Bool (OfBool b) = true
value_fits p f.Bool _ = false
value_fits p (f.Object q k) v = fits_object p q k v

-- ---- fields by number

-- the value with this number
abbrev pub value_at : Values → ℕ → Option Val
value_at NoValue i = None
value_at (AndValue v xs) zero = Some v
value_at (AndValue v xs) (suc i) = value_at xs i

-- the values with one of them changed
abbrev pub with_changed : Values → ℕ → (Val → Val) → Values
with_changed NoValue i new = NoValue
with_changed (AndValue v xs) zero new = AndValue (new v) xs
with_changed (AndValue v xs) (suc i) new = AndValue v (with_changed xs i new)

-- a list as values
abbrev pub values : List Val → Values
values [] = NoValue
values (v ∷ vs) = AndValue v (values vs)

-- a new value in a tree, at the place to which these fields lead
abbrev pub put_at : List ℕ → Val → Val → Val
put_at [] new old = new
put_at (i ∷ is) new (Owned (Object c xs)) = Owned (Object c (with_changed xs i (put_at is new)))
put_at (i ∷ is) new old = old
