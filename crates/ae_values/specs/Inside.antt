-- What stands inside a value: at the place to which the numbers of fields lead, one after another.
use Rattle.std.specs.Prelude.{ℕ, zero, suc, max, ℤ, List, [], ◌∷◌, Option, None, Some, slice_get, slice_set}
use Rattle.ae_rules.specs.Verdict.{given}
use Rattle.ae_semantics.specs.Values.{Val, Tree, Store, Owned, Object, Array, Values, NoValue, AndValue, value_at}
use Rattle.ae_semantics.specs.Values.{put_at, highest, height}

-- the value at a place, if there is one
abbrev pub value_inside : List ℕ → Val → Option Val
value_inside [] v = Some v
value_inside (i ∷ is) (Owned (Object c xs)) = given (value_at xs i) None (value_inside is)
value_inside (i ∷ is) v = None

-- the items of a value that is an array
abbrev pub items_of : Val → Option (List ℤ)
items_of (Owned (Array ns)) = Some ns
items_of v = None

-- the items of the array at a place, if there is one
abbrev pub array_inside : List ℕ → Val → Option (List ℤ)
array_inside is v = given (value_inside is v) None items_of

-- a value with one item of the array at a place changed
abbrev pub item_changed : List ℕ → ℕ → ℤ → Val → Val
item_changed is k n v = given (array_inside is v) v (λ ns. put_at is (Owned (Array (slice_set ns k n))) v)

-- how high the fields are besides the one with this number
abbrev pub highest_besides : Values → ℕ → ℕ
highest_besides NoValue i = 0
highest_besides (AndValue v xs) zero = highest xs
highest_besides (AndValue v xs) (suc i) = max (height v) (highest_besides xs i)

-- the items of an object that is an array
abbrev pub tree_items : Tree → Option (List ℤ)
tree_items (Array ns) = Some ns
tree_items (Object c xs) = None

-- the object that a value is, or else this one
abbrev pub object_or : Tree → Val → Tree
object_or t (Owned u) = u
object_or t v = t

-- the members with a new value inside one of them; a member stays an object
abbrev pub put_in_member : ℕ → List ℕ → Val → Store → Store
put_in_member n is new st = given (slice_get st n) st (λ t. slice_set st n (object_or t (put_at is new (Owned t))))

-- the members with one item of an array inside one of them changed
abbrev pub item_set_in_member : ℕ → List ℕ → ℕ → ℤ → Store → Store
item_set_in_member n is k m st =
    given (slice_get st n) st (λ t. slice_set st n (object_or t (item_changed is k m (Owned t))))
