-- Laws: where a state fits, what is judged is found, statements without blocks and calls keep it, calls are entered.
use Rattle.std.specs.Prelude.{◌≡◌, ℕ, ℤ, Bool, true, false, List, [], ◌∷◌, Option, Some, ⊤}
use Rattle.std.specs.List.{list_all}
use Rattle.ae_text.specs.declared.refusal.Spot.{Spot}
use Rattle.ae_tree.specs.declared.tree.Path.{Path}
use Rattle.ae_tree.specs.declared.tree.Me.{Me}
use Rattle.ae_tree.specs.declared.tree.Param.{Param}
use Rattle.ae_tree.specs.declared.form.Form.{Form}
use Rattle.ae_tree.specs.declared.form.Perm.{Perm}
use Rattle.ae_tree.specs.declared.form.Kind.{Kind}
use Rattle.ae_tree.specs.declared.form.Form.TheVariants as f
use Rattle.ae_tree.specs.Form.{form}
use Rattle.ae_tree.specs.Plain.{Expression, Invocation, Definition}
use Rattle.ae_tree.specs.Plain.{Code}
use Rattle.ae_tree.specs.Plain.{Action}
use Rattle.ae_tree.specs.Plain.{Locks}
use Rattle.ae_tree.specs.WellShaped.{WellShaped, HasField}
use Rattle.ae_rules.specs.declared.held.Held.{Held}
use Rattle.ae_rules.specs.Verdict.{Holds, fine}
use Rattle.ae_rules.specs.Table.{TableHolds}
use Rattle.ae_rules.specs.Context.{Context, access}
use Rattle.ae_rules.specs.Lookups.{method_at, groups_of, field_of_kind}
use Rattle.ae_rules.specs.Walks.{Place, held_in_field, walk, is_name}
use Rattle.ae_rules.specs.Expressions.{judge_value}
use Rattle.ae_rules.specs.Into.{into}
use Rattle.ae_rules.specs.Calls.{me_form, Callee, ParamSlot, slots, Called, judge_callee, judge_callee_with}
use Rattle.ae_rules.specs.Judges.{Judges, start}
use Rattle.ae_rules.specs.Paths.{is_simple}
use Rattle.ae_semantics.specs.Values.{Val, Owned, is_of_kind, put_at}
use Rattle.ae_semantics.specs.Places.{Outcome, Fine, Traps, Lacks, State, PlaceFound, OpenedObject, into_field}
use Rattle.ae_semantics.specs.Places.{walk_to, reach, field_value, ObjectField, slot}
use Rattle.ae_semantics.specs.Expressions.{value}
use Rattle.ae_semantics.specs.declared.report.Ending.TheVariants.{Done, Trap, Fuel}
use Rattle.ae_semantics.specs.Observations.{Seen, Notes}
use Rattle.ae_semantics.specs.Runs.{Run, Went, Ends, Stops, Where, Machine, Below}
use Rattle.ae_semantics.specs.Calls.{Argument, CallFrame, enter}
use Rattle.ae_semantics.specs.Meaning.{one}
use Rattle.ae_semantics.specs.Means.{Start, run_start}
use Rattle.ae_soundness.specs.Fits.{IsOfForm, IsWhole, IsWholeTree, FitsPlace, has_value, has_members, form_has_members}
use Rattle.ae_soundness.specs.Fits.{FieldsHaveMembers, FitsContext}

-- in a program whose declarations hold no field is of a form with `io` for a group
abbrev pub FieldsAreOfGroups : Type 0
FieldsAreOfGroups = (p : Code) → WellShaped p → TableHolds p → FieldsHaveMembers p

-- where a program with declarations that hold begins, the state fits
abbrev pub BeginningsFit : Type 0
BeginningsFit = (p : Code) → WellShaped p → TableHolds p → (ints : List ℤ) (x : Start) → run_start p ints ≡ Some x
    → FitsContext p x.here.context x.state

-- a place that fits what is known of it, or trap 3, that of null; nothing is lacking
abbrev pub IsFoundAs : Code → Place → Outcome PlaceFound → Type 0
IsFoundAs p w (Fine x) = FitsPlace p w x.form x.value
IsFoundAs p w (Traps code) = code ≡ 3
IsFoundAs p w Lacks = ⊥

-- Where a walk is judged, and the state fits, the walk comes to a place that fits what is known of it, or is trap 3.
-- A bare name has to have a value.
abbrev pub PathsAreFound : Type 0
PathsAreFound = (p : Code) (c : Context) (s : State) (path : Path) (w : Place) → FieldsHaveMembers p → FitsContext p c s
    → walk p c path ≡ Holds w → (is_name path ≡ true → has_value w ≡ true) → IsFoundAs p w (walk_to p s path)

-- an object of this kind that is whole, or trap 3; nothing is lacking
abbrev pub IsReachedAs : Code → Kind → Outcome OpenedObject → Type 0
IsReachedAs p k (Fine o) = (o.kind ≡ k) × (is_of_kind p k o.tree ≡ true) × IsWholeTree p o.tree
IsReachedAs p k (Traps code) = code ≡ 3
IsReachedAs p k Lacks = ⊥

-- where a walk leads to an object that may be reached, and the state fits, the object is there, or it is trap 3
abbrev pub ObjectsAreReached : Type 0
ObjectsAreReached = (p : Code) (c : Context) (s : State) (path : Path) (w : Place) (q : Perm) (k : Kind) (at : Spot)
    → FieldsHaveMembers p → FitsContext p c s → walk p c path ≡ Holds w → w.form ≡ f.Object q k
    → access c at w.held ≡ fine → IsReachedAs p k (reach p s path)

-- there is a place that fits what is known of it
abbrev pub IsThereAs : Code → Place → Outcome PlaceFound → Type 0
IsThereAs p w o = (x : PlaceFound) × (o ≡ Fine x) × FitsPlace p w x.form x.value

-- a declared field of an object that is whole is there, and never counts as null
abbrev pub FieldsAreThere : Type 0
FieldsAreThere = (p : Code) → FieldsHaveMembers p → (k : Kind) (x : ℕ) (t : Form) → field_of_kind p k x ≡ Some t
    → list_all has_members (groups_of k) ≡ true → (o : OpenedObject) → IsReachedAs p k (Fine o) → (h : Held)
    → IsThereAs p (record { form = t; held = held_in_field h t }) (into_field p o x)

-- a value of this form, or a trap; nothing is lacking
abbrev pub IsValueOf : Code → Form → Outcome Val → Type 0
IsValueOf p t (Fine v) = IsOfForm p t v
IsValueOf p t (Traps code) = Unit {0}
IsValueOf p t Lacks = ⊥

-- where an expression is judged to be a number or a truth, and the state fits, it comes to one, or traps
abbrev pub ValuesAreFound : Type 0
ValuesAreFound = (p : Code) (c : Context) (s : State) (e : Expression) (t : Form) → FieldsHaveMembers p
    → FitsContext p c s → judge_value p c e ≡ Holds t → IsValueOf p t (value p s e)

-- where an expression is judged to go into a form, and the state fits, it comes to a value of that form, or traps
abbrev pub WhatGoesInFits : Type 0
WhatGoesInFits = (p : Code) (c : Context) (s : State) (t : Form) (e : Expression) (name : Option ℕ)
    → FieldsHaveMembers p → FitsContext p c s → into p c t e ≡ Holds name → IsValueOf p t (value p s e)

-- a field of an object that is whole, also with any other value of this form in that field, with a value of the form in
-- it, or trap 3; nothing is lacking
abbrev pub IsSlotOf : Code → Form → Outcome ObjectField → Type 0
IsSlotOf p t (Fine x) = IsReachedAs p x.object.kind (Fine x.object) × (x.part.form ≡ t)
    × ((w : Val) → IsOfForm p t w → IsWhole p (put_at (x.part.number ∷ []) w (Owned x.object.tree)))
    × (v : Val) × (field_value x.object.tree x.part.number ≡ Some v) × IsOfForm p t v
IsSlotOf p t (Traps code) = code ≡ 3
IsSlotOf p t Lacks = ⊥

-- where a walk with a step is judged, and the state fits, the field to which it leads is there, or it is trap 3
abbrev pub SlotsAreFound : Type 0
SlotsAreFound = (p : Code) (c : Context) (s : State) (path : Path) (w : Place) → FieldsHaveMembers p
    → FitsContext p c s → walk p c path ≡ Holds w → is_name path ≡ false → IsSlotOf p w.form (slot p s path)

-- ---- statements

-- the statement has no block and calls no method
abbrev pub is_without_calls : Action → Bool
is_without_calls (Locks g n b) = false
is_without_calls a = is_simple a

-- a run that goes on with a state that fits, or ends by a trap or for want of fuel; nothing is lacking
abbrev pub KeepsFitting : {W : Type 0} → Code → Context → Run W → Type 0
KeepsFitting p d (Went s n) = FitsContext p d s
KeepsFitting p d (Ends Done n) = ⊥
KeepsFitting p d (Ends (Trap code at) n) = Unit {0}
KeepsFitting p d (Ends (Fuel at) n) = Unit {0}
KeepsFitting p d (Stops n) = ⊥

-- With these machines a judged statement that has no block and calls no method goes on from a state that fits to one
-- that fits what is known after it, or is a trap; nothing is lacking. The path to a field that it takes or writes has a
-- step, as the grammar says.
abbrev pub StatementsFitBy : Type 0 → Type 0
StatementsFitBy W = (m : Machine W) (below : Option (Below W)) (here : Where) (at : Spot) (a : Action) (d : Context)
    (s : State) (n : Notes W) → FieldsHaveMembers m.code → is_without_calls a ≡ true → HasField a
    → Judges m.code here.method at a here.context d → FitsContext m.code here.context s
    → KeepsFitting m.code d (one m below here at a s n)

-- so it is with machines that note nothing more, and with those that list what they were answered
abbrev pub StatementsWithoutCallsFit : Type 0
StatementsWithoutCallsFit = StatementsFitBy ⊤ × StatementsFitBy (List Seen)

-- ---- calls

-- each argument is of its parameter's form, and there are as many as parameters
abbrev pub AreOfSlots : Code → List ParamSlot → List Argument → Type 0
AreOfSlots p [] [] = Unit {0}
AreOfSlots p [] (x ∷ xs) = ⊥
AreOfSlots p (t ∷ ts) [] = ⊥
AreOfSlots p (t ∷ ts) (x ∷ xs) = IsOfForm p t.form x.value × AreOfSlots p ts xs

-- no group of the receiver's form, nor of these parameters' forms, is `io`
abbrev pub ParamsHaveMembers : Code → Definition → Option Me → List Param → Type 0
ParamsHaveMembers p m o ps = ((me : Me) → o ≡ Some me → form_has_members (me_form p m me) ≡ true)
    × (list_all (λ (z : Param). form_has_members (form z.ty)) ps ≡ true)

-- this method is entered, each parameter has a value of its form, and the state fits what is known where the method
-- begins, or it is a trap; nothing is lacking
abbrev pub IsEnteredAs : Code → Callee → Outcome CallFrame → Type 0
IsEnteredAs p k (Fine f) = (f.callee ≡ k) × AreOfSlots p (slots p (λ g. g) k.method) f.arguments
    × FitsContext p (start p k.method) f.state
IsEnteredAs p k (Traps code) = Unit {0}
IsEnteredAs p k Lacks = ⊥

-- In a well-shaped program whose declarations hold a judged call enters the method that it is judged to call, from a
-- state that fits, with values of its parameters' forms, and the state fits where that begins; or it is a trap.
abbrev pub CallsAreEntered : Type 0
CallsAreEntered = (p : Code) → WellShaped p → TableHolds p → (c : Context) (s : State) (here : Where)
    (i : Invocation) (k : Callee) (d : Called) → FitsContext p c s → judge_callee p c i.on i.method ≡ Holds k
    → judge_callee_with p c i k ≡ Holds d → IsEnteredAs p k (enter p here i s)

-- in a well-shaped program whose declarations hold no group of a receiver's or a parameter's form is `io`
abbrev pub MethodsHaveMembers : Type 0
MethodsHaveMembers = (p : Code) → WellShaped p → TableHolds p → (n : ℕ) (m : Definition) → method_at p n ≡ Some m
    → ParamsHaveMembers p m m.me m.params
