-- What stands at an address in a state, and how one item of an array that stands there is written.
use Rattle.std.specs.Prelude.{◌≡◌, ℕ, nat_eq, ℤ, Bool, false, List, Option, None, Some, option_map}
use Rattle.std.specs.Prelude.{slice_get, slice_set}
use Rattle.ae_rules.specs.Verdict.{given}
use Rattle.ae_semantics.specs.Values.{Val, Null, Owned, Tree, Array, put_at}
use Rattle.ae_semantics.specs.Places.{Outcome, ◌>>=◌, there, Bound, State, Base, InLocal, InGroup, members, group_of}
use Rattle.ae_semantics.specs.Places.{Fine, with, with_bound, write_in}
use Rattle.ae_values.specs.Inside.{value_inside, array_inside}

-- the whole value in which the places of a base lie: that of a local, or a member
abbrev pub whole_at : State → Base → Option Val
whole_at s (InLocal x) = option_map (λ (b : Bound). b.value) (s.locals x)
whole_at s (InGroup g n) = given (members (group_of s g)) None (λ st. option_map Owned (slice_get st n))

-- the value stands there
abbrev pub StandsIn : State → Base → List ℕ → Val → Type 0
StandsIn s base fields v = (whole : Val) × (whole_at s base ≡ Some whole) × (value_inside fields whole ≡ Some v)

-- the value that stands there, if there is one
abbrev pub value_standing : State → Base → List ℕ → Option Val
value_standing s base fields = given (whole_at s base) None (value_inside fields)

-- the value that stands there is taken out of its place, and null stands there then
abbrev pub taken_at : State → Base → List ℕ → Outcome (Val × State)
taken_at s base fields = there (value_standing s base fields)
    >>= λ v. write_in s base fields Null
    >>= λ t. Fine (v, t)

-- what stands at a place in a local, or else null
abbrev pub standing_or_null : State → ℕ → List ℕ → Val
standing_or_null s x fields = given (value_standing s (InLocal x) fields) Null (λ v. v)

-- a local with null at a place in it
abbrev pub nulled : List ℕ → Bound → Bound
nulled fields b = record { form = b.form; value = put_at fields Null b.value }

-- null stands at a place in a local
abbrev pub nulled_in : ℕ → List ℕ → State → State
nulled_in x fields s = record s { locals = with x (option_map (nulled fields) (s.locals x)) s.locals }

-- the items of the array that stands there, if there is one
abbrev pub array_at : State → Base → List ℕ → Option (List ℤ)
array_at s base fields = given (whole_at s base) None (array_inside fields)

-- one item of the array that stands there is another
abbrev pub item_written : State → Base → List ℕ → ℕ → ℤ → Outcome State
item_written s base fields k n = there (array_at s base fields)
    >>= λ ns. write_in s base fields (Owned (Array (slice_set ns k n)))

-- an object with this value at this place in it is an object
abbrev pub KeepsObject : List ℕ → Val → Type 0
KeepsObject fields new = (t : Tree) → (u : Tree) × (put_at fields new (Owned t) ≡ Owned u)

-- the base is this local
abbrev pub is_local : ℕ → Base → Bool
is_local x (InLocal y) = nat_eq x y
is_local x (InGroup g n) = false

-- the value of a local moves to this place, and the local has no value then
abbrev pub moved_into : State → ℕ → Base → List ℕ → Outcome State
moved_into s x base fields = there (s.locals x)
    >>= λ b. write_in s base fields b.value
    >>= λ t. Fine (with_bound x None t)
