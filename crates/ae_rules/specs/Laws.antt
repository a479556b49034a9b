-- What follows from the rules: a verdict is one thing, and what is taken can be given back.
use Rattle.std.specs.Prelude.{◌≡◌, ◌≢◌, ◌⊎◌, ℕ, nat_eq, Bool, true, false, ◌&&◌, not, List, [], ◌∷◌, ◌++◌, length}
use Rattle.std.specs.Prelude.{Option, Some, None, is_some}
use Rattle.std.specs.List.{list_all}
use Rattle.ae_text.specs.declared.refusal.Spot.{Spot}
use Rattle.ae_text.specs.declared.refusal.Rule.{Rule}
use Rattle.ae_tree.specs.declared.tree.NameAt.{NameAt}
use Rattle.ae_tree.specs.declared.tree.Path.{Path}
use Rattle.ae_tree.specs.declared.form.Perm.{Perm}
use Rattle.ae_tree.specs.declared.form.Perm.TheVariants as need
use Rattle.ae_tree.specs.Plain.{Action, Expression, Invocation, Definition, Code}
use Rattle.ae_tree.specs.WellShaped.{WellShaped}
use Rattle.ae_rules.specs.declared.held.Held.{Held}
use Rattle.ae_rules.specs.declared.held.Held.TheVariants as held
use Rattle.ae_rules.specs.declared.held.GroupPerm.{GroupPerm}
use Rattle.ae_rules.specs.declared.held.GroupPerm.TheVariants as group
use Rattle.ae_rules.specs.Shares.{splits, Splits, Joins}
use Rattle.ae_rules.specs.Context.{Local, Context, same_held, is_held_alone, held_in}
use Rattle.ae_tree.specs.declared.form.Form.{Form}
use Rattle.ae_tree.specs.Form.{bare_names}
use Rattle.ae_rules.specs.Verdict.{Holds, ◌>>=◌, in_turn}
use Rattle.ae_rules.specs.Groups.{Groups, declare, forget, enter_split, exclusive_again, enter_atomic}
use Rattle.ae_rules.specs.Walks.{step, walk, owner}
use Rattle.ae_rules.specs.Into.{into, name_into}
use Rattle.ae_rules.specs.Calls.{Callee, Called, judge_callee, judge_callee_with, slots, givens, may_be_lent}
use Rattle.ae_rules.specs.Calls.{LentPart, after_call}
use Rattle.ae_rules.specs.Judges.{Judges, Breaks, Accepts, FirstBroken}

-- each statement is judged or broken
abbrev pub JudgedOrBroken : Type 0
JudgedOrBroken = (p : Code) (m : Definition) (at : Spot) (a : Action) (c : Context)
    → ((d : Context) × Judges p m at a c d) ⊎ ((rule : Rule) × (spot : Spot) × Breaks p m at a c rule spot)

-- no statement is both
abbrev pub NeverBoth : Type 0
NeverBoth = (p : Code) (m : Definition) (at : Spot) (a : Action) (c d : Context) (rule : Rule) (spot : Spot)
    → Judges p m at a c d → Breaks p m at a c rule spot → ⊥

-- each program is accepted, or breaks a rule first
abbrev pub AcceptedOrBroken : Type 0
AcceptedOrBroken = (p : Code) → Accepts p ⊎ ((rule : Rule) × (spot : Spot) × FirstBroken p rule spot)

-- no program is both
abbrev pub NeverAcceptedAndBroken : Type 0
NeverAcceptedAndBroken = (p : Code) (rule : Rule) (spot : Spot) → Accepts p → FirstBroken p rule spot → ⊥

-- a program breaks one rule first, at one place
abbrev pub FirstIsOne : Type 0
FirstIsOne = (p : Code) (r s : Rule) (at spot : Spot) → FirstBroken p r at → FirstBroken p s spot
    → (r ≡ s) × (at ≡ spot)

-- what was taken and what was left make the whole again
abbrev pub TakenIsGivenBack : Type 0
TakenIsGivenBack = (whole : Held) (n : Perm) (part rest : Held) → Splits whole n part rest → Joins rest part whole

-- nothing can be taken of what holds nothing, nor of what is inside a group's member
abbrev pub NothingToTake : Type 0
NothingToTake = (n : Perm) → (splits held.None n ≡ None) × ((g : ℕ) → splits (held.Inner g) n ≡ None)

-- a share can be taken exactly where what is held meets the need; of what is split this is not said
abbrev pub TakingTellsPermission : Type 0
TakingTellsPermission = (h : Held) → (is_held_alone h ≡ is_some (splits h need.Unique))
    × (same_held held.Immutable h ≡ is_some (splits h need.Immutable))
    × ((g : ℕ) → same_held h (held.Shared g) ≡ is_some (splits h (need.Shared g)))
    × (((n : ℕ) → h ≢ held.Split n) → may_be_lent h ≡ is_some (splits h need.Lent))

-- a walk to a field goes to the object that has it, and then one step
abbrev pub WalksGoByOwners : Type 0
WalksGoByOwners = (p : Code) (c : Context) (path : Path) (xs : List NameAt) (x : NameAt) → path.steps ≡ xs ++ x ∷ []
    → walk p c path ≡ (walk p c (owner path) >>= step p c path.root.at x)

-- the name that moves with an expression is told by its text alone
abbrev pub MovesByItsText : Type 0
MovesByItsText = (p : Code) (c : Context) (form : Form) (e : Expression) (name : Option ℕ)
    → into p c form e ≡ Holds name → name ≡ name_into form e

-- no part of this local is given away for good
abbrev pub none_away : List LentPart → ℕ → Bool
none_away xs y = list_all (λ (x : LentPart). not (nat_eq x.root y && x.away)) xs

-- after a call a local of which no part is given away is as before
abbrev pub CallsGiveBack : Type 0
CallsGiveBack = (xs : List LentPart) (c : Context) (y : ℕ) → none_away xs y ≡ true → (after_call xs c).local y
    ≡ c.local y

-- these are no parts of this local
abbrev pub none_of : List LentPart → ℕ → Bool
none_of xs y = list_all (λ (x : LentPart). not (nat_eq x.root y)) xs

-- after a call a name that was given away as unique holds nothing
abbrev pub GivenAwayIsGone : Type 0
GivenAwayIsGone = (xs ys : List LentPart) (x : LentPart) (c : Context)
    → none_of xs x.root ≡ true → x.need ≡ need.Unique → x.away ≡ true → held_in c x.root ≡ held.Unique
    → held_in (after_call (xs ++ x ∷ ys) c) x.root ≡ held.None

-- in a well-shaped program a judged call gives to each slot of the method that is called, and to no more
abbrev pub EverySlotIsGiven : Type 0
EverySlotIsGiven = (p : Code) → WellShaped p → (c : Context) (i : Invocation) (k : Callee) (d : Called)
    → judge_callee p c i.on i.method ≡ Holds k → judge_callee_with p c i k ≡ Holds d
    → (new : ℕ → ℕ) → length (slots p new k.method) ≡ length (givens i)

-- each local that was visible still is, and differs at most in what is held of it; each group keeps its permission
pub record Keeps (before after : Context) : Type 0 where
  pub local : (x : ℕ) (l : Local) → before.local x ≡ Some l
      → (h : Held) × (after.local x ≡ Some (record l { held = h }))
  pub group : (g : ℕ) (q : GroupPerm) → before.group g ≡ Some q → after.group g ≡ Some q

-- a judged statement takes nothing out of the context
abbrev pub StatementsKeep : Type 0
StatementsKeep = (p : Code) (m : Definition) (at : Spot) (a : Action) (c d : Context) → Judges p m at a c d → Keeps c d

-- after a split block its groups, with those that the block declares forgotten, are as before
abbrev pub SplitIsUndone : Type 0
SplitIsUndone = (gs xs : List NameAt) (before inside after : Groups) → enter_split gs before ≡ Holds inside
    → in_turn declare xs inside ≡ Holds after
    → exclusive_again gs (forget (bare_names xs) after) ≡ before

-- in an atomic block its group is protected, and no group is shared; what is not shared outside is as it was, but for that group
pub record HeldBackInside (g : ℕ) (before inside : Groups) : Type 0 where
  pub own : inside g ≡ Some group.Protected
  pub none_shared : (h : ℕ) → inside h ≢ Some group.Shared
  pub others : (h : ℕ) → nat_eq g h ≡ false → before h ≢ Some group.Shared → inside h ≡ before h

-- so is each atomic block that may be entered
abbrev pub AtomicHoldsBack : Type 0
AtomicHoldsBack = (g : NameAt) (before inside : Groups) → enter_atomic g before ≡ Holds inside
    → HeldBackInside g.name before inside
