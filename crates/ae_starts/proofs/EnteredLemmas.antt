-- That the names with which the body of a called method begins are known there.
use Rattle.std.proofs.Common.{◌≡◌, refl, sym, ap, ◌∙◌, subst, ℕ, suc, nat_eq, Bool, true, false, not}
use Rattle.std.proofs.Common.{if◌then◌else◌}
use Rattle.std.proofs.Common.{List, [], ◌∷◌, ◌++◌, map, zip, length, arith, Option, None, Some}
use Rattle.std.specs.Prelude.{option_map, is_some, filter_map}
use Rattle.std.specs.List.{cons_option}
use Rattle.std.proofs.lemmas.Option.{same_Some}
use Rattle.ae_text.specs.declared.refusal.Spot.{Spot}
use Rattle.ae_text.specs.declared.refusal.Rule.TheVariants as rule
use Rattle.ae_tree.specs.declared.tree.Me.{Me}
use Rattle.ae_tree.specs.declared.tree.Param.{Param}
use Rattle.ae_tree.specs.declared.tree.GroupNeed.{GroupNeed}
use Rattle.ae_tree.specs.declared.form.Form.{Form}
use Rattle.ae_tree.specs.Form.{form}
use Rattle.ae_tree.specs.Names.{this}
use Rattle.ae_tree.specs.Plain.{RightSide, Value, Taken, Zeros, Made, Returned, Expression, Invocation}
use Rattle.ae_tree.specs.Plain.{Definition, Code}
use Rattle.ae_tree.specs.Plain.{Action, Declares, Assigns, Stores, StoresAt, Calls, Chooses, ChoosesElse, Repeats}
use Rattle.ae_tree.specs.Plain.{Groups, Splits, Locks, Freezes, Shares, Prints, PrintsText, Asserts, Returns}
use Rattle.ae_rules.specs.Verdict.{Holds, require, found, given}
use Rattle.ae_rules.specs.declared.held.GroupPerm.{GroupPerm}
use Rattle.ae_rules.specs.Types.{forms_type}
use Rattle.ae_rules.specs.Lookups.{method_at}
use Rattle.ae_rules.specs.Groups.{known}
use Rattle.ae_rules.specs.Context.{Context, is_visible}
use Rattle.ae_rules.specs.Calls.{Callee, Called, me_slot, param_slot, if_some, slots, givens, judge_callee}
use Rattle.ae_rules.specs.Calls.{judge_callee_with, judge_call}
use Rattle.ae_rules.specs.Statements.{judge_right, judge_statement}
use Rattle.ae_rules.specs.Table.{table_verdict}
use Rattle.ae_rules.specs.Judges.{need_for, knows, start}
use Rattle.ae_rules.specs.Laws.{EverySlotIsGiven}
use Rattle.ae_semantics.specs.Places.{Fine, ◌>>=◌, Group, Here, Away, As, State}
use Rattle.ae_semantics.specs.Calls.{Argument, Taker, takers, argument, each_argument, called_method, group_given}
use Rattle.ae_semantics.specs.Calls.{groups_needed}
use Rattle.ae_values.specs.Shapes.{NameShape, OfGroup, shape_in}
use Rattle.ae_frames.specs.Entries.{EnteredCall, entered_call, group_shape, param_shape, need_shape}
use Rattle.ae_frames.specs.Entries.{names_entered}
use Rattle.ae_names.specs.Known.{local_form, is_of_group, form_in, AreKnown}
use Rattle.ae_starts.specs.Mains.{taker_shape}
use Rattle.ae_starts.specs.Laws.{call_right, call_in, BeginsKnown, EnteredNamesAreKnown}
use Rattle.ae_starts.proofs.ApartLemmas.{MethodFree}
use Rattle.ae_starts.proofs.TakenLemmas.{taken_are_known, taken_are_locals}
use Rattle.ae_starts.proofs.CalleeLemmas.{called_is_judged, judged_has_number}
use Rattle.ae_starts.proofs.from_rules.PathLemmas.{first_holds}
use Rattle.ae_starts.proofs.from_rules.BelowLemmas.{found_has}
use Rattle.ae_starts.proofs.from_soundness.StandLemmas.{fine_first}
use Rattle.ae_starts.proofs.from_soundness.NeedLemmas.{NeedsAreKnown, method_is_held, needs_are_known}

-- ---- the groups that are needed

-- the groups that are needed, as names
abbrev needed : (ℕ → Option Group) → List GroupNeed → List (ℕ × NameShape)
needed groups ns = filter_map (need_shape groups) ns

-- the name of a group, before others that are no locals, is no local
no_local_first : (x : ℕ) (other : Option ℕ) (rest : List (ℕ × NameShape)) (y : ℕ) → form_in rest y ≡ None
    → form_in ((x, OfGroup other) ∷ rest) y ≡ None
no_local_first x other rest y later = by_test (nat_eq x y)
  where
    by_test : (t : Bool) → given (if t then Some (OfGroup other) else shape_in rest y) None local_form ≡ None
    by_test true = refl
    by_test false = later

-- no group that is needed is a local
needed_are_no_locals : (groups : ℕ → Option Group) (ns : List GroupNeed) (y : ℕ) → form_in (needed groups ns) y ≡ None
needed_are_no_locals groups [] y = refl
needed_are_no_locals groups (n ∷ ns) y = by_group (groups n.group.name) (needed_are_no_locals groups ns y)
  where
    by_group : (o : Option Group) → form_in (needed groups ns) y ≡ None
        → form_in (cons_option (option_map (λ (x : NameShape). (n.group.name, x)) (group_shape o)) (needed groups ns)) y
        ≡ None
    by_group None later = later
    by_group (Some (Here st)) later = no_local_first n.group.name None (needed groups ns) y later
    by_group (Some (Away cell)) later = no_local_first n.group.name None (needed groups ns) y later
    by_group (Some (As h)) later = no_local_first n.group.name (Some h) (needed groups ns) y later

-- a need of this name
abbrev IsNeeded : List GroupNeed → ℕ → Type 0
IsNeeded ns y = (n : GroupNeed) × (need_for ns y ≡ Some n)

need_first : (n : GroupNeed) (ns : List GroupNeed) (y : ℕ) (s : NameShape) (rest : List (ℕ × NameShape))
    → (is_of_group (shape_in rest y) ≡ true → IsNeeded ns y)
    → is_of_group (shape_in ((n.group.name, s) ∷ rest) y) ≡ true → IsNeeded (n ∷ ns) y
need_first n ns y s rest later e = by_test (nat_eq n.group.name y) e
  where
    by_test : (t : Bool) → is_of_group (if t then Some s else shape_in rest y) ≡ true
        → (k : GroupNeed) × ((if t then Some n else need_for ns y) ≡ Some k)
    by_test true i = (n, refl)
    by_test false i = later i

need_later : (n : GroupNeed) (ns : List GroupNeed) (y : ℕ) → IsNeeded ns y → IsNeeded (n ∷ ns) y
need_later n ns y h = by_test (nat_eq n.group.name y)
  where
    by_test : (t : Bool) → (k : GroupNeed) × ((if t then Some n else need_for ns y) ≡ Some k)
    by_test true = (n, refl)
    by_test false = h

-- each of these groups is needed
needed_are_needs : (groups : ℕ → Option Group) (ns : List GroupNeed) (y : ℕ)
    → is_of_group (shape_in (needed groups ns) y) ≡ true → IsNeeded ns y
needed_are_needs groups [] y e = absurd (cc e)
needed_are_needs groups (n ∷ ns) y e = by_group (groups n.group.name) (needed_are_needs groups ns y) e
  where
    by_group : (o : Option Group) → (is_of_group (shape_in (needed groups ns) y) ≡ true → IsNeeded ns y)
        → is_of_group (shape_in (cons_option (option_map (λ (x : NameShape). (n.group.name, x)) (group_shape o))
        (needed groups ns)) y) ≡ true → IsNeeded (n ∷ ns) y
    by_group None later i = need_later n ns y (later i)
    by_group (Some (Here st)) later i = need_first n ns y (OfGroup None) (needed groups ns) later i
    by_group (Some (Away cell)) later i = need_first n ns y (OfGroup None) (needed groups ns) later i
    by_group (Some (As h)) later i = need_first n ns y (OfGroup (Some h)) (needed groups ns) later i

-- ---- as many arguments as parameters

arguments_counted : (p : Code) (s : State) (es : List Expression) (xs : List Argument)
    → each_argument p s es ≡ Fine xs → length es ≡ length xs
arguments_counted p s [] xs e =
    let none : [] ≡ xs = same_arguments [] xs e in ap length none
  where
    same_arguments : (a b : List Argument) → Fine a ≡ Fine b → a ≡ b
    same_arguments a b k = cc k
arguments_counted p s (g ∷ es) xs e =
    let a = fine_first (argument p s g)
    (λ (x : Argument). each_argument p s es >>= λ (ys : List Argument). Fine (x ∷ ys)) xs e in
    let b = fine_first (each_argument p s es) (λ (ys : List Argument). Fine (a.0 ∷ ys)) xs a.2 in
    let same : a.0 ∷ b.0 ≡ xs = same_arguments (a.0 ∷ b.0) xs b.2 in
    ap suc (arguments_counted p s es b.0 b.1) ∙ ap length same
  where
    same_arguments : (a b : List Argument) → Fine a ≡ Fine b → a ≡ b
    same_arguments a b k = cc k

params_counted : (ps : List Param) → length (zip (map (λ (x : Param). x.name.name) ps) (map (param_slot (λ g. g)) ps))
    ≡ length (map (param_slot (λ g. g)) ps)
params_counted [] = refl
params_counted (x ∷ ps) = ap suc (params_counted ps)

-- there are as many parameters as slots
takers_counted : (p : Code) (m : Definition) → length (takers p m) ≡ length (slots p (λ g. g) m)
takers_counted p m = by_me m.me
  where
    by_me : (o : Option Me) → length (zip (if_some (option_map (λ (x : Me). this) o) (map (λ (x : Param). x.name.name)
        m.params))
        (if_some (option_map (me_slot p (λ g. g) m) o) (map (param_slot (λ g. g)) m.params)))
        ≡ length (if_some (option_map (me_slot p (λ g. g) m) o) (map (param_slot (λ g. g)) m.params))
    by_me None = params_counted m.params
    by_me (Some me) = ap suc (params_counted m.params)

-- parameters with as many arguments have the shapes in which they are declared
shapes_declared : (ts : List Taker) (xs : List Argument) → length ts ≡ length xs
    → map param_shape (zip ts xs) ≡ map taker_shape ts
shapes_declared [] xs e = refl
shapes_declared (t ∷ ts) [] e = absurd (omega (arith, e))
shapes_declared (t ∷ ts) (x ∷ xs) e = ap (λ (zs : List (ℕ × NameShape)). taker_shape t ∷ zs)
    (shapes_declared ts xs (omega arith))

-- ---- the call of a statement

-- the call is judged
abbrev IsJudgedCall : Code → Context → Invocation → Type 0
IsJudgedCall p c i = (d : Called) × (judge_call p c i ≡ Holds d)

right_is_judged : (p : Code) (c d : Context) (t : Form) (e : RightSide) (i : Invocation) → judge_right p c t e ≡ Holds d
    → call_right e ≡ Some i → IsJudgedCall p c i
right_is_judged p c d t (Value e) i h k = absurd (cc k)
right_is_judged p c d t (Taken path at) i h k = absurd (cc k)
right_is_judged p c d t (Zeros e at) i h k = absurd (cc k)
right_is_judged p c d t (Made x gs args at) i h k = absurd (cc k)
right_is_judged p c d t (Returned j) i h k =
    let a = first_holds (judge_call p c j) _ d h in
    subst (λ (z : Invocation). IsJudgedCall p c z) (same_Some j i k) (a.0, a.1)

-- the call of a judged statement is judged
call_is_judged : (p : Code) (m : Definition) (at : Spot) (a : Action) (c d : Context) (i : Invocation)
    → judge_statement p m at a c ≡ Holds d → call_in a ≡ Some i → IsJudgedCall p c i
call_is_judged p m at (Declares t x e) c d i h k =
    let a = first_holds (forms_type p (known c.group) false t) _ d h in
    let b = first_holds (require (not (is_visible c x.name)) rule.DuplicateLocal x.at) _ d a.2 in
    let r = first_holds (judge_right p c (form t) e) _ d b.2
    in right_is_judged p c r.0 (form t) e i r.1 k
call_is_judged p m at (Assigns x e) c d i h k =
    let a = first_holds (found (c.local x.name) rule.UnknownName x.at) _ d h in
    let b = first_holds (require (not a.0.stays) rule.ParameterMoved x.at) _ d a.2 in
    let r = first_holds (judge_right p c a.0.form e) _ d b.2
    in right_is_judged p c r.0 a.0.form e i r.1 k
call_is_judged p m at (Calls j) c d i h k =
    let a = first_holds (judge_call p c j) _ d h in
    subst (λ (z : Invocation). IsJudgedCall p c z) (same_Some j i k) (a.0, a.1)
call_is_judged p m at (Stores path e) c d i h k = absurd (cc k)
call_is_judged p m at (StoresAt path j e) c d i h k = absurd (cc k)
call_is_judged p m at (Chooses e n b) c d i h k = absurd (cc k)
call_is_judged p m at (ChoosesElse e n b l f) c d i h k = absurd (cc k)
call_is_judged p m at (Repeats e n b) c d i h k = absurd (cc k)
call_is_judged p m at (Groups g) c d i h k = absurd (cc k)
call_is_judged p m at (Splits gs n b) c d i h k = absurd (cc k)
call_is_judged p m at (Locks g n b) c d i h k = absurd (cc k)
call_is_judged p m at (Freezes y) c d i h k = absurd (cc k)
call_is_judged p m at (Shares y g) c d i h k = absurd (cc k)
call_is_judged p m at (Prints e) c d i h k = absurd (cc k)
call_is_judged p m at (PrintsText t) c d i h k = absurd (cc k)
call_is_judged p m at (Asserts e) c d i h k = absurd (cc k)
call_is_judged p m at (Returns e) c d i h k = absurd (cc k)

-- ---- the names of the body

-- where a method knows what it needs, the names with which its body begins are known
names_are_known : (p : Code) (s : State) (k : Callee) (groups : ℕ → ℕ) (xs : List Argument) → MethodFree k.method
    → NeedsAreKnown p k.method → length (takers p k.method) ≡ length xs
    → AreKnown (start p k.method) (names_entered (entered_call p s k groups xs))
names_are_known p s k groups xs free needs many =
    subst (λ (zs : List (ℕ × NameShape)). AreKnown (start p m) (zs ++ needed now m.needs))
    (sym (shapes_declared (takers p m) xs many)) (record {
      local = λ y. taken_are_known p m (needed now m.needs) y free.2 (needed_are_no_locals now m.needs y);
      group = λ y e.
          let n = needed_are_needs now m.needs y (taken_are_locals (takers p m) (needed now m.needs) y e) in
          is_known _ (knows p m y) (needs y n.0 n.1);
    })
  where
    m : Definition
    m = k.method

    now : ℕ → Option Group
    now = groups_needed groups s k.method.needs

    is_known : (q : GroupPerm) (t : Bool) → t ≡ true → is_some (if t then Some q else None) ≡ true
    is_known q true e = refl
    is_known q false e = absurd (cc e)

-- where the call of a judged statement is entered, and the names of the caller are known, those of the method are
pub entered_are_known : EverySlotIsGiven → EnteredNamesAreKnown
entered_are_known law p w free accepted m at a c d i cells r bs s x h call names same e =
    let table = first_holds (table_verdict p) _ tt accepted in
    let j = call_is_judged p m at a c d i h call in
    let k = first_holds (judge_callee p c i.on i.method) (judge_callee_with p c i) j.0 j.1 in
    let called = fine_first (called_method p s i) (λ (y : Callee). each_argument p s (givens i)
    >>= λ (xs : List Argument). Fine (entered_call p s y (group_given s y i) xs)) x e in
    let given_so = fine_first (each_argument p s (givens i))
    (λ (xs : List Argument). Fine (entered_call p s called.0 (group_given s called.0 i) xs)) x called.2 in
    let entry : entered_call p s called.0 (group_given s called.0 i) given_so.0 ≡ x = same_entry _ x given_so.2 in
    let own : k.0 ≡ called.0 = called_is_judged p c cells r bs i k.0 called.0 names k.1
    (subst (λ (z : State). called_method p z i ≡ Fine called.0) same called.1) in
    let number : method_at p k.0.number ≡ Some k.0.method = judged_has_number p c i.on i.method k.0 k.1 in
    let many : length (takers p k.0.method) ≡ length given_so.0 = takers_counted p k.0.method
    ∙ law p w c i k.0 j.0 k.1 k.2 (λ g. g) ∙ arguments_counted p s (givens i) given_so.0 given_so.1 in
    let known_there : AreKnown (start p k.0.method)
    (names_entered (entered_call p s k.0 (group_given s called.0 i) given_so.0)) =
    names_are_known p s k.0 (group_given s called.0 i) given_so.0
    (found_has MethodFree p.methods k.0.number k.0.method free.methods number)
    (needs_are_known p k.0.method (method_is_held p w table.1 k.0.number k.0.method number)).0 many in
    subst (BeginsKnown p) entry
    (subst (λ (z : Callee). BeginsKnown p (entered_call p s z (group_given s called.0 i) given_so.0)) own
    (known_there, number))
  where
    same_entry : (y z : EnteredCall) → Fine y ≡ Fine z → y ≡ z
    same_entry y z k = cc k
