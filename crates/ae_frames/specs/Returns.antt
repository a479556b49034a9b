-- What comes back from a call that is left, once it was taken out of the callee.
use Rattle.std.specs.Prelude.{◌≡◌, ℕ, Bool, true, false, List, [], ◌∷◌, map, Option, None, Some, option_map}
use Rattle.ae_rules.specs.Lookups.{has_name}
use Rattle.ae_semantics.specs.Values.{Val, OfInt, OfBool, Null, Owned, Member}
use Rattle.ae_semantics.specs.Places.{Outcome, Fine, ◌>>=◌, there, State, Bound, Group, Address, Base, InLocal, InGroup}
use Rattle.ae_semantics.specs.Places.{write, with}
use Rattle.ae_values.specs.Environments.{group_bound}
use Rattle.ae_values.specs.Shapes.{NameShape, OfGroup, shape_in}
use Rattle.ae_values.specs.Shown.{shown}
use Rattle.ae_reads.specs.Answers.{one_name}
use Rattle.ae_reads.specs.Views.{address}
use Rattle.ae_frames.specs.declared.granted.Back.{Back}
use Rattle.ae_frames.specs.declared.granted.Lent.{Lent}
use Rattle.ae_frames.specs.declared.returned.Came.{Came}
use Rattle.ae_frames.specs.declared.returned.Returned.{Returned}
use Rattle.ae_frames.specs.Granting.{LentGroup}
use Rattle.ae_frames.specs.Kept.{ComesBack}

-- the place to which a value comes back, with what these locals have of it
abbrev pub value_returned : (ℕ → Option Bound) → ComesBack → Address × Option Val
value_returned locals x = (x.at, option_map (λ (b : Bound). b.value) (locals x.name))

-- all of them in order
abbrev pub values_from : (ℕ → Option Bound) → List ComesBack → List (Address × Option Val)
values_from locals bs = map (value_returned locals) bs

-- a value, which has to be there, is written to its place
abbrev pub one_written : Address × Option Val → State → Outcome State
one_written x s = there x.1 >>= write s x.0

-- in order
abbrev pub all_written : List (Address × Option Val) → State → Outcome State
all_written [] s = Fine s
all_written (x ∷ xs) s = one_written x s >>= all_written xs

-- a value that was taken out of the callee, with its place
abbrev pub came_of : Came → Address × Option Val
came_of c = (address c.base c.fields.items, option_map shown c.value)

abbrev pub cames_of : List Came → List (Address × Option Val)
cames_of cs = map came_of cs

-- the caller's name of a lent group, with what these groups have of it
abbrev pub group_from : (ℕ → Option Group) → LentGroup → ℕ × Option Group
group_from groups l = (l.holder, groups l.group)

-- all of them in order
abbrev pub groups_from : (ℕ → Option Group) → List LentGroup → List (ℕ × Option Group)
groups_from groups ls = map (group_from groups) ls

-- a group stands under this name
abbrev pub group_put : ℕ × Option Group → State → State
group_put x s = record s { groups = with x.0 x.1 s.groups }

-- in order
abbrev pub groups_put : List (ℕ × Option Group) → State → State
groups_put [] s = s
groups_put (x ∷ xs) s = groups_put xs (group_put x s)

-- a group that was taken out of the callee, with the caller's name for it
abbrev pub returned_of : Returned → ℕ × Option Group
returned_of r = (r.holder, group_bound one_name r.bound)

abbrev pub returneds_of : List Returned → List (ℕ × Option Group)
returneds_of rs = map returned_of rs

-- the names of the caller under which these groups stand again
abbrev pub holders_of : List Returned → List ℕ
holders_of rs = map (λ (r : Returned). r.holder) rs

-- the callee's names of the values that come back
abbrev pub back_names : List Back → List ℕ
back_names bs = map (λ (b : Back). b.name) bs

-- the callee's names of the groups that were lent, and the caller's
abbrev pub lent_names : List Lent → List ℕ
lent_names ls = map (λ (l : Lent). l.group) ls

abbrev pub lent_holders : List Lent → List ℕ
lent_holders ls = map (λ (l : Lent). l.holder) ls

-- each of these is the own name of a group among these names
abbrev pub AreGroups : List ℕ → List (ℕ × NameShape) → Type 0
AreGroups gs names = (g : ℕ) → has_name gs g ≡ true → shape_in names g ≡ Some (OfGroup None)

-- the value is an object of its own
abbrev pub is_owned : Val → Bool
is_owned (Owned t) = true
is_owned (OfInt n) = false
is_owned (OfBool b) = false
is_owned Null = false
is_owned (Member n) = false

-- such a value can stand at this place: a member of a group is an object
abbrev pub can_stand : Base → List ℕ → Val → Bool
can_stand (InLocal x) fields v = true
can_stand (InGroup g n) (k ∷ is) v = true
can_stand (InGroup g n) [] v = is_owned v
