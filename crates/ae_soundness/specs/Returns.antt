-- Laws on what a method leaves to its caller: its result, and what comes back.
use Rattle.std.specs.Prelude.{◌≡◌, ℕ, Bool, true, false, List, [], ◌∷◌, if◌then◌else◌, filter_map, Option, None}
use Rattle.std.specs.Prelude.{Some, ⊤}
use Rattle.ae_text.specs.declared.refusal.Spot.{Spot}
use Rattle.ae_tree.specs.declared.tree.Ty.{Ty}
use Rattle.ae_tree.specs.declared.tree.Path.{Path}
use Rattle.ae_tree.specs.declared.form.Perm.TheVariants as perm
use Rattle.ae_tree.specs.declared.tree.GroupNeed.{GroupNeed}
use Rattle.ae_tree.specs.Form.{form}
use Rattle.ae_tree.specs.Plain.{Code, Definition, Expression, Invocation, Action, Returns}
use Rattle.ae_tree.specs.WellShaped.{WellShaped}
use Rattle.ae_tree.specs.FreeThis.{ThisIsFree}
use Rattle.ae_rules.specs.Table.{TableHolds}
use Rattle.ae_rules.specs.declared.held.Held.TheVariants as held
use Rattle.ae_rules.specs.Verdict.{Holds, fine, in_turn}
use Rattle.ae_rules.specs.Context.{Context}
use Rattle.ae_rules.specs.Walks.{Place, walk}
use Rattle.ae_rules.specs.Into.{name_into}
use Rattle.ae_rules.specs.Calls.{Callee, Called, judge_callee, judge_callee_with}
use Rattle.ae_rules.specs.Calls.{Roots, no_roots, ParamSlot, to_slot, argument_parts, after_call}
use Rattle.ae_rules.specs.Statements.{judge_lines, end_block}
use Rattle.ae_rules.specs.Judges.{Judges, is_return, start, end_method}
use Rattle.ae_semantics.specs.Values.{Val}
use Rattle.ae_semantics.specs.Places.{Outcome, Fine, Traps, Lacks, Bound, Group, Here, Away, As, State, PlaceFound}
use Rattle.ae_semantics.specs.Places.{walk_to, write}
use Rattle.ae_semantics.specs.Observations.{Seen, Notes}
use Rattle.ae_semantics.specs.Runs.{Run, Went, Ends, Stops, Where, Machine, Below}
use Rattle.ae_semantics.specs.Calls.{without_moved, groups_back, Taker, value_comes_back}
use Rattle.ae_semantics.specs.Calls.{CallFrame, enter, leave}
use Rattle.ae_semantics.specs.Meaning.{with_perm, one}
use Rattle.ae_soundness.specs.Fits.{AreWhole, HasMembers, IsOfForm, FieldsHaveMembers, FitsContext, NoneAway}
use Rattle.ae_soundness.specs.Laws.{is_without_calls}

-- ---- results

-- where there is a result type, there is a value of its form
abbrev pub IsResultOf : Code → Option Ty → Option Val → Type 0
IsResultOf p None r = Unit {0}
IsResultOf p (Some t) None = ⊥
IsResultOf p (Some t) (Some v) = IsOfForm p (form t) v

-- the state has a result of the method's form, where the method has one
abbrev pub HasResult : Code → Definition → State → Type 0
HasResult p m s = IsResultOf p m.result s.result

-- a run that goes on has a result of the method's form then
abbrev pub LeavesResult : {W : Type 0} → Code → Definition → Run W → Type 0
LeavesResult p m (Went s n) = HasResult p m s
LeavesResult p m (Ends ending n) = Unit {0}
LeavesResult p m (Stops n) = Unit {0}

-- a run that goes on has this result then
abbrev pub KeepsResult : {W : Type 0} → Option Val → Run W → Type 0
KeepsResult r (Went s n) = s.result ≡ r
KeepsResult r (Ends ending n) = Unit {0}
KeepsResult r (Stops n) = Unit {0}

-- with these machines a judged `return` gives a result of its method's form, from a state that fits
abbrev pub ReturnsGiveBy : Type 0 → Type 0
ReturnsGiveBy W = (m : Machine W) (below : Option (Below W)) (here : Where) (at : Spot) (e : Expression) (d : Context)
    (s : State) (n : Notes W) → FieldsHaveMembers m.code → Judges m.code here.method at (Returns e) here.context d
    → FitsContext m.code here.context s → LeavesResult m.code here.method (one m below here at (Returns e) s n)

-- with these machines no other statement without blocks and calls changes the result
abbrev pub ResultsStayBy : Type 0 → Type 0
ResultsStayBy W = (m : Machine W) (below : Option (Below W)) (here : Where) (at : Spot) (a : Action)
    (s : State) (n : Notes W) → is_without_calls a ≡ true → is_return a ≡ false
    → KeepsResult s.result (one m below here at a s n)

-- with machines that note nothing more, and with those that list what they were answered, `return` gives a result of
-- the method's form, and no other statement without blocks and calls changes it
abbrev pub ReturnsGiveResults : Type 0
ReturnsGiveResults = (ReturnsGiveBy ⊤ × ReturnsGiveBy (List Seen)) × (ResultsStayBy ⊤ × ResultsStayBy (List Seen))

-- ---- groups

-- members are here
abbrev pub is_here : Option Group → Bool
is_here (Some (Here st)) = true
is_here _ = false

-- What a method left of a group may come back to where there is this: members that are whole in place of members, what
-- there is, or another name, under which the members come back.
abbrev pub MayComeBack : Code → Option Group → Option Group → Type 0
MayComeBack p o None = o ≡ None
MayComeBack p o (Some (Here st)) = AreWhole p st × (is_here o ≡ true)
MayComeBack p o (Some (Away cell)) = o ≡ Some (Away cell)
MayComeBack p o (Some (As h)) = Unit {0}

-- what the method left of the groups of these needs may come back to the state under the caller's names
abbrev pub EachMayComeBack : Code → (ℕ → ℕ) → State → State → List GroupNeed → Type 0
EachMayComeBack p groups s after [] = Unit {0}
EachMayComeBack p groups s after (n ∷ ns) = MayComeBack p (s.groups (groups n.group.name)) (after.groups n.group.name)
    × EachMayComeBack p groups s after ns

-- a group whose members the method has where it ends may come back to members
abbrev pub MembersMayComeBack : Type 0
MembersMayComeBack = (p : Code) (o : Option Group) (t : State) (g : ℕ) → HasMembers p t g → is_here o ≡ true
    → MayComeBack p o (t.groups g)

-- a state keeps fitting where groups come back to it
abbrev pub GroupsComeBack : Type 0
GroupsComeBack = (p : Code) (c : Context) (s after : State) (groups : ℕ → ℕ) (ns : List GroupNeed) → FitsContext p c s
    → EachMayComeBack p groups s after ns → FitsContext p c (groups_back groups ns after s)

-- ---- names

-- the name that goes away with what a slot is given
abbrev pub name_away : ParamSlot × Expression → Option ℕ
name_away x = if x.0.away then name_into x.0.form x.1 else None

-- where arguments are judged, and names go away with them, the state fits what is known after the call
abbrev pub NamesGoAway : Type 0
NamesGoAway = (p : Code) (c : Context) (s : State) (xs : List (ParamSlot × Expression)) (roots : Roots)
    → FitsContext p c s → in_turn (to_slot p c) xs no_roots ≡ Holds roots
    → FitsContext p (after_call (argument_parts c xs) c) (without_moved (filter_map name_away xs) s)

-- ---- values

-- a state that fits, or a trap; nothing is lacking
abbrev pub IsStateOf : Code → Context → Outcome State → Type 0
IsStateOf p d (Fine s) = FitsContext p d s
IsStateOf p d (Traps code) = Unit {0}
IsStateOf p d Lacks = ⊥

-- Where a walk is judged to lead to what is held Unique, and came to a place in a state that fits, a unique value of
-- the same form may be written there in each state that fits a context in which the walk's root is known as before.
abbrev pub ValuesComeBack : Type 0
ValuesComeBack = (p : Code) (c d : Context) (s t : State) (path : Path) (w : Place) (x : PlaceFound) (v : Val)
    → FieldsHaveMembers p → FitsContext p c s → walk p c path ≡ Holds w → w.held ≡ held.Unique
    → walk_to p s path ≡ Fine x → FitsContext p d t → d.local path.root.name ≡ c.local path.root.name
    → IsOfForm p (with_perm perm.Unique w.form) v → IsStateOf p d (write t x.at v)

-- ---- calls

-- a parameter whose value comes back has one of its form
abbrev pub IsThereFor : Code → State → Taker → Type 0
IsThereFor p t x = value_comes_back x.1 ≡ true
    → (b : Bound) × (t.locals x.0 ≡ Some b) × IsOfForm p x.1.form b.value

-- each of these parameters whose value comes back has one of its form
abbrev pub EachIsThere : Code → State → List Taker → Type 0
EachIsThere p t [] = Unit {0}
EachIsThere p t (x ∷ xs) = IsThereFor p t x × EachIsThere p t xs

-- In a well-shaped program whose declarations hold a call that was judged, and entered from a state that fits, is left
-- with a state that fits what is known after it, or it is a trap; nothing is lacking. Where the method ends its
-- parameters have to have the values that come back, and what it left of its groups may come back.
abbrev pub CallsAreLeft : Type 0
CallsAreLeft = (p : Code) → WellShaped p → TableHolds p → (c : Context) (s t : State) (here : Where) (i : Invocation)
    (k : Callee) (d : Called) (f : CallFrame) → FitsContext p c s → judge_callee p c i.on i.method ≡ Holds k
    → judge_callee_with p c i k ≡ Holds d → enter p here i s ≡ Fine f → EachIsThere p t f.takers
    → EachMayComeBack p f.groups s t k.method.needs → IsStateOf p d.after (leave f i s t)

-- ---- a method's end

-- the method may end in this context: that after its body, where what the body declares is known no more
abbrev pub EndsIn : Code → Definition → Context → Type 0
EndsIn p m d = (c : Context) × (judge_lines p m m.body (start p m) ≡ Holds c)
    × (end_block p (start p m) m.body c ≡ Holds d) × (end_method p m d ≡ fine)

-- In a well-shaped program whose declarations hold, and none of which is under the name `this`: where a judged call was
-- entered from a state that fits, and its method ends in a state that fits a context in which it may end, its
-- parameters have the values that come back, and what it left of its groups may come back; no group is away before and
-- after it.
abbrev pub MethodsGiveBack : Type 0
MethodsGiveBack = (p : Code) → WellShaped p → ThisIsFree p → TableHolds p → (c : Context) (s t : State) (here : Where)
    (i : Invocation) (k : Callee) (d : Called) (f : CallFrame) (last : Context) → FitsContext p c s → NoneAway s
    → judge_callee p c i.on i.method ≡ Holds k → judge_callee_with p c i k ≡ Holds d → enter p here i s ≡ Fine f
    → EndsIn p k.method last → FitsContext p last t → NoneAway t
    → EachIsThere p t f.takers × EachMayComeBack p f.groups s t k.method.needs
