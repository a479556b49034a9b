-- What is seen of values and arrays.
use Rattle.std.specs.Prelude.{ℤ, neg_ℤ, not, List, Option}
use Rattle.std.specs.Borrow.{Bor}
use Rattle.ae_tree.specs.Plain.{Code}
use Rattle.ae_semantics.specs.Values as meant
use Rattle.ae_semantics.specs.Values.{OfInt, OfBool, Null, Owned, Member}
use Rattle.ae_semantics.specs.Places.{Outcome, Fine, ◌>>=◌, there, Bound, State, PlaceFound, open_place}
use Rattle.ae_semantics.specs.Expressions.{index, item_at, numbers, number, truth, fitted}
use Rattle.ae_values.specs.Shown.{shown_tree}
use Rattle.ae_reads.specs.declared.found.Sight.{Sight}
use Rattle.ae_reads.specs.declared.found.Sight.TheVariants as seen

-- the value that is looked at
abbrev pub seen_value : Sight → meant.Val
seen_value (seen.Int n) = OfInt n
seen_value (seen.Bool b) = OfBool b
seen_value seen.Null = Null
seen_value (seen.Object x) = Owned (shown_tree x.object.now)
seen_value (seen.Ref n) = Member n

-- an answer that shows the list to which it refers
abbrev pub list_behind : Bor (List ℤ) → List ℤ
list_behind xs = xs.now

-- the item at an index
abbrev pub item_of : List ℤ → ℤ → Outcome meant.Val
item_of ns n = index ns n >>= item_at ns

-- the integers of the array at a place
abbrev pub array_in : Code → State → PlaceFound → Outcome (List ℤ)
array_in p s x = open_place p s x >>= λ o. numbers o.tree

-- the value of a local, which has to be there
abbrev pub held_in : Option Bound → Outcome meant.Val
held_in b = there b >>= λ x. Fine x.value

-- the opposite of a truth
abbrev pub opposite : Outcome meant.Val → Outcome meant.Val
opposite o = o >>= λ v. truth v >>= λ b. Fine (OfBool (not b))

-- the negation of a number
abbrev pub negation : Outcome meant.Val → Outcome meant.Val
negation o = o >>= λ v. number v >>= λ n. fitted (neg_ℤ n)
