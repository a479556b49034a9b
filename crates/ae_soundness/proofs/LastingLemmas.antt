-- What small changes of a state leave as it is, statements without blocks and calls leave so, and calls at their end.
use Rattle.std.proofs.Common.{not, ◌≡◌, refl, ℕ, nat_lt, Bool, true, false, List, [], ◌∷◌, if◌then◌else◌}
use Rattle.std.proofs.Common.{Option, Some, None}
use Rattle.std.specs.Prelude as prelude
use Rattle.ae_text.specs.declared.refusal.Spot.{Spot}
use Rattle.ae_tree.specs.declared.tree.GroupNeed.{GroupNeed}
use Rattle.ae_tree.specs.declared.tree.Path.{Path}
use Rattle.ae_tree.specs.declared.form.Form.{Form}
use Rattle.ae_tree.specs.Form.{form}
use Rattle.ae_tree.specs.Plain.{Code, Expression, Invocation, Action}
use Rattle.ae_tree.specs.Plain.{RightSide, Value, Taken, Zeros, Made, Returned}
use Rattle.ae_tree.specs.Plain.{Declares, Assigns, Stores, StoresAt, Calls, Chooses, ChoosesElse, Repeats}
use Rattle.ae_tree.specs.Plain.{Groups, Splits, Locks, Freezes, Shares, Prints, PrintsText, Asserts, Returns}
use Rattle.ae_rules.specs.Verdict as rules
use Rattle.ae_rules.specs.Paths.{is_call}
use Rattle.ae_rules.specs.Judges.{is_return}
use Rattle.ae_rules.specs.Context.{Local}
use Rattle.ae_rules.specs.Calls.{givens}
use Rattle.ae_semantics.specs.Values.{Val, OfInt, OfBool, Null, Owned, Member, Store}
use Rattle.ae_semantics.specs.Places.{Outcome, Fine, Traps, Lacks, ◌>>=◌, there, Group, Here, Away, As, Bound, State}
use Rattle.ae_semantics.specs.Places.{with_bound, with_store, store_of, Base, InLocal, InGroup, low, bind}
use Rattle.ae_semantics.specs.Places.{with_member, rewrite_member, write_in, Address}
use Rattle.ae_semantics.specs.Places.{ObjectField, OpenedObject, slot, reach, write_field, met, field_place}
use Rattle.ae_semantics.specs.Places.{field_value}
use Rattle.ae_semantics.specs.Expressions.{value, number_of, truth_of, numbers, index}
use Rattle.ae_semantics.specs.Equations.{one-Declares, one-Assigns, one-Stores, one-StoresAt, one-Groups, one-Freezes}
use Rattle.ae_semantics.specs.Equations.{one-Calls, one-Shares, one-Prints, one-PrintsText, one-Asserts, one-Returns}
use Rattle.ae_semantics.specs.declared.report.Ending.TheVariants.{Trap}
use Rattle.ae_semantics.specs.Observations.{Notes}
use Rattle.ae_semantics.specs.Runs.{Run, Went, Ends, Stops, Act, and_then, outcome_given, paid, chosen, Where}
use Rattle.ae_semantics.specs.Runs.{Machine, Below}
use Rattle.ae_semantics.specs.Calls.{without_moved, group_back, groups_back, value_comes_back, put_back, values_back}
use Rattle.ae_semantics.specs.Calls.{Taker, Argument, CallFrame, enter, leave, given_away}
use Rattle.ae_semantics.specs.Meaning.{made, right_moved, assigned, sets, take_from, stored, stored_at, name_moved}
use Rattle.ae_semantics.specs.Meaning.{printed_value, asserts, result_moved}
use Rattle.ae_semantics.specs.Meaning.{shared_value, shares_into, does, each_value, zeros, one}
use Rattle.ae_semantics.specs.Meaning.{calls_method, call_run, body_run}
use Rattle.ae_semantics.specs.Meaning.{result_to}
use Rattle.ae_soundness.specs.Laws.{is_without_calls}
use Rattle.ae_soundness.specs.Whole.{is_calling}

-- ---- what an outcome gives

-- this holds of the outcome, if there is one
abbrev pub Gives : {A : Type 0} → (A → Type 0) → Outcome A → Type 0
Gives P (Fine x) = P x
Gives P (Traps code) = Unit {0}
Gives P Lacks = Unit {0}

-- Whatever the one is, the next gives it.
pub next_gives : {A B : Type 0} (Q : B → Type 0) (o : Outcome A) (next : A → Outcome B)
    → ((x : A) → Gives Q (next x)) → Gives Q (o >>= next)
next_gives Q (Fine x) next k = k x
next_gives Q (Traps code) next k = tt
next_gives Q Lacks next k = tt

-- What the one gives, the next goes on from.
pub then_gives : {A B : Type 0} (P : A → Type 0) (Q : B → Type 0) (o : Outcome A) (next : A → Outcome B) → Gives P o
    → ((x : A) → P x → Gives Q (next x)) → Gives Q (o >>= next)
then_gives P Q (Fine x) next h k = k x h
then_gives P Q (Traps code) next h k = tt
then_gives P Q Lacks next h k = tt

-- this holds of the state, where a run goes on
abbrev pub Leaves : {W : Type 0} → (State → Type 0) → Run W → Type 0
Leaves P (Went s n) = P s
Leaves P (Ends ending n) = Unit {0}
Leaves P (Stops n) = Unit {0}

-- What an outcome gives, a run leaves.
pub given_leaves : {A W : Type 0} (P : A → Type 0) (Q : State → Type 0) (o : Outcome A) (at : Spot)
    (n : Notes W) (go : A → Run W) → Gives P o → ((x : A) → P x → Leaves Q (go x)) → Leaves Q (outcome_given o at n go)
given_leaves P Q (Fine x) at n go h k = k x h
given_leaves P Q (Traps code) at n go h k = tt
given_leaves P Q Lacks at n go h k = tt

-- Whatever an outcome is, a run leaves it.
pub any_leaves : {A W : Type 0} (Q : State → Type 0) (o : Outcome A) (at : Spot) (n : Notes W)
    (go : A → Run W) → ((x : A) → Leaves Q (go x)) → Leaves Q (outcome_given o at n go)
any_leaves Q (Fine x) at n go k = k x
any_leaves Q (Traps code) at n go k = tt
any_leaves Q Lacks at n go k = tt

-- ---- small changes

-- this stays where a local has another value, or a group has other members here
pub record Lasts (P : State → Type 0) : Type 0 where
  pub bound : (x : ℕ) (b : Option Bound) (s : State) → P s → P (with_bound x b s)
  pub store : (g : ℕ) (st : Store) (s : State) → P s → P (with_store g (Some (Here st)) s)

-- Where names move it stays.
pub moved_lasts : (P : State → Type 0) → Lasts P → (xs : List ℕ) (s : State) → P s → P (without_moved xs s)
moved_lasts P k [] s h = h
moved_lasts P k (x ∷ xs) s h = moved_lasts P k xs (with_bound x None s) (k.bound x None s h)

bind_lasts : (P : State → Type 0) → Lasts P → (x : ℕ) (t : Form) (v : Val) (s : State) → P s
    → Gives P (bind x t v s)
bind_lasts P k x t v s h = next_gives P (low v) (λ w. Fine (with_bound x (Some (record { form = t; value = w })) s))
    (λ w. k.bound x (Some (record { form = t; value = w })) s h)

member_lasts : (P : State → Type 0) → Lasts P → (s : State) (g n : ℕ) (st : Store) (v : Val) → P s
    → Gives P (with_member s g n st v)
member_lasts P k s g n st (OfInt i) h = tt
member_lasts P k s g n st (OfBool b) h = tt
member_lasts P k s g n st Null h = tt
member_lasts P k s g n st (Owned t) h = k.store g (prelude.set st n t) s h
member_lasts P k s g n st (Member i) h = tt

write_lasts : (P : State → Type 0) → Lasts P → (s : State) (b : Base) (fields : List ℕ) (new : Val) → P s
    → Gives P (write_in s b fields new)
write_lasts P k s (InLocal x) fields new h = next_gives P (there (s.locals x)) _
    (λ (b : Bound). bind_lasts P k x b.form _ s h)
write_lasts P k s (InGroup g n) fields new h = next_gives P (store_of s g) (rewrite_member s g n fields new)
    (λ st. next_gives P (there (prelude.slice_get st n)) _
    (λ t. next_gives P (low _) (with_member s g n st) (λ v. member_lasts P k s g n st v h)))

-- ---- right sides

-- of the state of the two this holds
abbrev OfSecond : (State → Type 0) → Val × State → Type 0
OfSecond P y = P y.1

taken_lasts : (P : State → Type 0) → Lasts P → (p : Code) (s : State) (x : ObjectField) → P s
    → Gives (OfSecond P) (take_from p s x)
taken_lasts P k p s x h = next_gives (OfSecond P) (there (field_value x.object.tree x.part.number)) _
    (λ v. next_gives (OfSecond P) (met p (field_place x.object x.part v)) _
    (λ place. then_gives P (OfSecond P) (write_field s x.object x.part.number Null)
    (λ t. Fine (place.value, t)) (write_lasts P k s x.object.at.base _ Null h) (λ t i. i)))

made_lasts : (P : State → Type 0) → Lasts P → (p : Code) (e : RightSide) (s : State) → not (is_call e) ≡ true → P s
    → Gives (OfSecond P) (made p e s)
made_lasts P k p (Value e) s o h = next_gives (OfSecond P) (value p s e) (λ v. Fine (v, s)) (λ v. h)
made_lasts P k p (Taken path at) s o h = next_gives (OfSecond P) (slot p s path) (take_from p s)
    (λ x. taken_lasts P k p s x h)
made_lasts P k p (Zeros e at) s o h =
    next_gives (OfSecond P) (number_of p s e) (λ n. zeros n >>= λ v. Fine (v, s))
    (λ n. next_gives (OfSecond P) (zeros n) (λ v. Fine (v, s)) (λ v. h))
made_lasts P k p (Made c gs args at) s o h = next_gives (OfSecond P) (each_value p s args) _ (λ vs. h)
made_lasts P k p (Returned i) s o h = absurd (cc o)

-- A local gets a value.
pub assigned_lasts : {W : Type 0} (P : State → Type 0) → Lasts P → (at : Spot) (x : ℕ) (t : Form) (v : Val)
    (s : State) (n : Notes W) → P s → Leaves P (assigned at x t v s n)
assigned_lasts P k at x t v s n h = given_leaves P P (bind x t v s) at n _ (bind_lasts P k x t v s h) (λ y i. i)

set_made : {W : Type 0} (P : State → Type 0) → Lasts P → (p : Code) (at : Spot) (x : ℕ) (t : Form) (e : RightSide)
    (s : State) (n : Notes W) → not (is_call e) ≡ true → P s → Leaves P (outcome_given (made p e s) at n
    (λ r. assigned at x t r.0 (without_moved (right_moved p t e) r.1) n))
set_made P k p at x t e s n o h = given_leaves (OfSecond P) P (made p e s) at n
    (λ r. assigned at x t r.0 (without_moved (right_moved p t e) r.1) n) (made_lasts P k p e s o h)
    (λ y i. assigned_lasts P k at x t y.0 (without_moved (right_moved p t e) y.1) n
    (moved_lasts P k (right_moved p t e) y.1 i))

set_lasts : {W : Type 0} (P : State → Type 0) → Lasts P → (m : Machine W) (below : Option (Below W)) (here : Where)
    (at : Spot) (x : ℕ) (t : Form) (e : RightSide) (s : State) (n : Notes W) → not (is_call e) ≡ true → P s
    → Leaves P (sets m below here at x t e s n)
set_lasts P k m below here at x t (Value e) s n o h = set_made P k m.code at x t (Value e) s n o h
set_lasts P k m below here at x t (Taken path y) s n o h = set_made P k m.code at x t (Taken path y) s n o h
set_lasts P k m below here at x t (Zeros e y) s n o h = set_made P k m.code at x t (Zeros e y) s n o h
set_lasts P k m below here at x t (Made y gs es z) s n o h = set_made P k m.code at x t (Made y gs es z) s n o h
set_lasts P k m below here at x t (Returned i) s n o h = absurd (cc o)

-- ---- statements

does_lasts : {W : Type 0} (P : State → Type 0) (at : Spot) (n : Notes W) (o : Outcome State) → Gives P o
    → Leaves P (does at n o)
does_lasts P at n o h = given_leaves P P o at n _ h (λ s i. i)

stored_lasts : (P : State → Type 0) → Lasts P → (p : Code) (path : Path) (e : Expression) (s : State) → P s
    → Gives P (stored p path e s)
stored_lasts P k p path e s h = next_gives P (value p s e) _
    (λ v. next_gives P (slot p s path) _
    (λ (x : ObjectField). then_gives P P (write_field s x.object x.part.number v) _
    (write_lasts P k s x.object.at.base _ v h) (λ t i. moved_lasts P k (name_moved x.part.form e) t i)))

stored_at_lasts : (P : State → Type 0) → Lasts P → (p : Code) (path : Path) (i e : Expression) (s : State) → P s
    → Gives P (stored_at p path i e s)
stored_at_lasts P k p path i e s h = next_gives P (number_of p s i) _
    (λ n. next_gives P (number_of p s e) _
    (λ v. next_gives P (reach p s path) _
    (λ (o : OpenedObject). next_gives P (numbers o.tree) _
    (λ ns. next_gives P (index ns n) _
    (λ j. write_lasts P k s o.at.base o.at.fields _ h)))))

share_lasts : (P : State → Type 0) → Lasts P → (x g : ℕ) (b : Bound) (v : Val) (s : State) (st : Store) → P s
    → Gives P (shared_value x g b v s st)
share_lasts P k x g b (OfInt i) s st h = tt
share_lasts P k x g b (OfBool i) s st h = tt
share_lasts P k x g b Null s st h = k.bound x _ s h
share_lasts P k x g b (Owned t) s st h = k.bound x _ _ (k.store g _ s h)
share_lasts P k x g b (Member i) s st h = tt

shares_lasts : (P : State → Type 0) → Lasts P → (x g : ℕ) (s : State) → P s → Gives P (shares_into x g s)
shares_lasts P k x g s h = next_gives P (there (s.locals x)) _
    (λ (b : Bound). next_gives P (store_of s g) (shared_value x g b b.value s)
    (λ st. share_lasts P k x g b b.value s st h))

assert_lasts : {W : Type 0} (P : State → Type 0) (at : Spot) (test : Bool) (s : State) (n : Notes W) → P s
    → Leaves P (asserts at test s n)
assert_lasts P at true s n h = h
assert_lasts P at false s n h = tt

-- this stays where there is another result
abbrev pub LastsResult : (State → Type 0) → Type 0
LastsResult P = (v : Option Val) (s : State) → P s → P (record s { result = v })

-- What small changes leave as it is, each statement without blocks and calls leaves so. A `return` changes the result.
pub statement_lasts : {W : Type 0} (P : State → Type 0) → Lasts P → (m : Machine W) (below : Option (Below W))
    (here : Where) (at : Spot) (a : Action) (s : State) (n : Notes W) → (is_return a ≡ true → LastsResult P)
    → is_without_calls a ≡ true → P s → Leaves P (one m below here at a s n)
statement_lasts P k m below here at (Declares ty x e) s n v o h =
    rw (one-Declares m below here at ty x e s n) (set_lasts P k m below here at x.name (form ty) e s n o h)
statement_lasts P k m below here at (Assigns x e) s n v o h =
    rw (one-Assigns m below here at x e s n) (any_leaves P (there (here.context.local x.name)) at n _
    (λ (l : Local). set_lasts P k m below here at x.name l.form e s n o h))
statement_lasts P k m below here at (Stores path e) s n v o h =
    rw (one-Stores m below here at path e s n) (does_lasts P at n _ (stored_lasts P k m.code path e s h))
statement_lasts P k m below here at (StoresAt path i e) s n v o h =
    rw (one-StoresAt m below here at path i e s n) (does_lasts P at n _ (stored_at_lasts P k m.code path i e s h))
statement_lasts P k m below here at (Calls i) s n v o h = absurd (cc o)
statement_lasts P k m below here at (Chooses e j b) s n v o h = absurd (cc o)
statement_lasts P k m below here at (ChoosesElse e j b l b') s n v o h = absurd (cc o)
statement_lasts P k m below here at (Repeats e j b) s n v o h = absurd (cc o)
statement_lasts P k m below here at (Groups g) s n v o h =
    rw (one-Groups m below here at g s n) (k.store g.name [] s h)
statement_lasts P k m below here at (Splits gs j b) s n v o h = absurd (cc o)
statement_lasts P k m below here at (Locks g j b) s n v o h = absurd (cc o)
statement_lasts P k m below here at (Freezes x) s n v o h =
    rw (one-Freezes m below here at x s n) (does_lasts P at n _
    (next_gives P (there (s.locals x.name)) _ (λ (b : Bound). k.bound x.name _ s h)))
statement_lasts P k m below here at (Shares x g) s n v o h =
    rw (one-Shares m below here at x g s n) (does_lasts P at n _ (shares_lasts P k x.name g.name s h))
statement_lasts P k m below here at (Prints e) s n v o h =
    rw (one-Prints m below here at e s n) (any_leaves P (value m.code s e >>= printed_value) at n _
    (λ bytes. h))
statement_lasts P k m below here at (PrintsText text) s n v o h = rw (one-PrintsText m below here at text s n) h
statement_lasts P k m below here at (Asserts e) s n v o h =
    rw (one-Asserts m below here at e s n) (any_leaves P (truth_of m.code s e) at n _
    (λ test. assert_lasts P at test s n h))
statement_lasts P k m below here at (Returns e) s n v o h =
    rw (one-Returns m below here at e s n) (does_lasts P at n _
    (next_gives P (value m.code s e) _
    (λ x. v refl (Some x) _ (moved_lasts P k (result_moved here.method e) s h))))

-- ---- a call's end

-- what there is under a name is no other name
abbrev pub is_no_name : Option Group → Bool
is_no_name None = true
is_no_name (Some (Here st)) = true
is_no_name (Some (Away cell)) = true
is_no_name (Some (As h)) = false

-- this stays where anything but another name stands under a name
abbrev pub LastsBack : (State → Type 0) → Type 0
LastsBack P = (g : ℕ) (o : Option Group) (s : State) → is_no_name o ≡ true → P s → P (with_store g o s)

-- Where anything but another name may stand under a name, what comes back of a group may.
pub back_lasts : (P : State → Type 0) → LastsBack P → (g : ℕ) (o : Option Group) (s : State) → P s
    → P (group_back g o s)
back_lasts P k g None s h = k g None s refl h
back_lasts P k g (Some (Here st)) s h = k g (Some (Here st)) s refl h
back_lasts P k g (Some (Away cell)) s h = k g (Some (Away cell)) s refl h
back_lasts P k g (Some (As x)) s h = h

-- this stays where what a method left of a group comes back
abbrev pub LastsAfter : (State → Type 0) → State → Type 0
LastsAfter P after = (g h : ℕ) (s : State) → P s → P (group_back g (after.groups h) s)

backs_last : (P : State → Type 0) (after : State) → LastsAfter P after → (groups : ℕ → ℕ) (ns : List GroupNeed)
    (s : State) → P s → P (groups_back groups ns after s)
backs_last P after k groups [] s h = h
backs_last P after k groups (n ∷ ns) s h = backs_last P after k groups ns
    (group_back (groups n.group.name) (after.groups n.group.name) s)
    (k (groups n.group.name) n.group.name s h)

put_lasts : (P : State → Type 0) → Lasts P → (x : Taker × Argument) (after s : State) → P s
    → Gives P (put_back x after s)
put_lasts P k x after s h = by_test (value_comes_back x.0.1) x.1.from
  where
    by_place : (o : Option Address)
        → Gives P (rules.given o (Fine s)
        (λ at. there (after.locals x.0.0) >>= λ b. write_in s at.base at.fields b.value))
    by_place None = h
    by_place (Some at) = next_gives P (there (after.locals x.0.0)) _
        (λ (b : Bound). write_lasts P k s at.base at.fields b.value h)

    by_test : (b : Bool) (o : Option Address) → Gives P (if b then
        rules.given o (Fine s) (λ at. there (after.locals x.0.0) >>= λ b. write_in s at.base at.fields b.value)
        else Fine s)
    by_test true o = by_place o
    by_test false o = h

values_last : (P : State → Type 0) → Lasts P → (xs : List (Taker × Argument)) (after s : State) → P s
    → Gives P (values_back xs after s)
values_last P k [] after s h = h
values_last P k (x ∷ xs) after s h = then_gives P P (put_back x after s) (values_back xs after)
    (put_lasts P k x after s h) (λ t i. values_last P k xs after t i)

-- Where a call is left it stays.
pub leave_lasts : (P : State → Type 0) → Lasts P → (f : CallFrame) (i : Invocation) (s t : State) → LastsAfter P t
    → P s → Gives P (leave f i s t)
leave_lasts P k f i s t b h = values_last P k (prelude.zip f.takers f.arguments) t _
    (backs_last P t b f.groups f.callee.method.needs _
    (moved_lasts P k (prelude.filter_map given_away (prelude.zip f.takers (givens i))) s h))

-- A call, and then what is done with its result.
call_lasts : {W : Type 0} (P : State → Type 0) → Lasts P → LastsBack P → (m : Machine W) (below : Option (Below W))
    (here : Where) (at : Spot) (i : Invocation) (s : State) (n : Notes W) (go : Option Val → Act W) → P s
    → ((r : Option Val) (t : State) (x : Notes W) → P t → Leaves P (go r t x))
    → Leaves P (calls_method m below here at i s n go)
call_lasts {W} P k b m below here at i s n go h next = any_leaves P (enter m.code here i s) at n
    (call_run below here at i s n go) (λ f. by_depth f (nat_lt here.depth 1000) below)
  where
    by_body : (f : CallFrame) (r : Run W)
        → Leaves P (and_then r (λ t x. outcome_given (leave f i s t) at x (λ u. go t.result u x)))
    by_body f (Went t x) = given_leaves P P (leave f i s t) at x (λ u. go t.result u x)
        (leave_lasts P k f i s t (λ g y. back_lasts P b g (t.groups y)) h)
        (λ u j. next t.result u x j)
    by_body f (Ends ending x) = tt
    by_body f (Stops x) = tt

    by_depth : (f : CallFrame) (test : Bool) (less : Option (Below W)) → Leaves P
        (chosen test (λ _. paid less at n (body_run at i f s n go)) (λ _. Ends (Trap 6 at) n))
    by_depth f true None = tt
    by_depth f true (Some run) = by_body f (run.block f.here f.callee.method.body f.state n)
    by_depth f false less = tt

set_call : {W : Type 0} (P : State → Type 0) → Lasts P → LastsBack P → (m : Machine W) (below : Option (Below W))
    (here : Where) (at : Spot) (x : ℕ) (t : Form) (i : Invocation) (s : State) (n : Notes W) → P s
    → Leaves P (sets m below here at x t (Returned i) s n)
set_call P k b m below here at x t i s n h = call_lasts P k b m below here at i s n (result_to at x t) h
    (λ r u y j. any_leaves P (there r) at y _ (λ v. assigned_lasts P k at x t v u y j))

declares_lasts : {W : Type 0} (P : State → Type 0) → Lasts P → LastsBack P → (m : Machine W)
    (below : Option (Below W)) (here : Where) (at : Spot) (x : ℕ) (t : Form) (e : RightSide) (s : State) (n : Notes W)
    → is_call e ≡ true → P s → Leaves P (sets m below here at x t e s n)
declares_lasts P k b m below here at x t (Value e) s n o h = absurd (cc o)
declares_lasts P k b m below here at x t (Taken path y) s n o h = absurd (cc o)
declares_lasts P k b m below here at x t (Zeros e y) s n o h = absurd (cc o)
declares_lasts P k b m below here at x t (Made y gs es z) s n o h = absurd (cc o)
declares_lasts P k b m below here at x t (Returned i) s n o h = set_call P k b m below here at x t i s n h

-- A statement that calls leaves as it is what small changes and a call's end leave so.
pub calling_lasts : {W : Type 0} (P : State → Type 0) → Lasts P → LastsBack P → (m : Machine W)
    (below : Option (Below W)) (here : Where) (at : Spot) (a : Action) (s : State) (n : Notes W)
    → is_calling a ≡ true → P s → Leaves P (one m below here at a s n)
calling_lasts P k b m below here at (Declares ty x e) s n o h =
    rw (one-Declares m below here at ty x e s n) (declares_lasts P k b m below here at x.name (form ty) e s n o h)
calling_lasts P k b m below here at (Assigns x e) s n o h =
    rw (one-Assigns m below here at x e s n) (any_leaves P (there (here.context.local x.name)) at n _
    (λ (l : Local). declares_lasts P k b m below here at x.name l.form e s n o h))
calling_lasts P k b m below here at (Stores path e) s n o h = absurd (cc o)
calling_lasts P k b m below here at (StoresAt path i e) s n o h = absurd (cc o)
calling_lasts P k b m below here at (Calls i) s n o h =
    rw (one-Calls m below here at i s n) (call_lasts P k b m below here at i s n (λ r t x. Went t x) h (λ r t x j. j))
calling_lasts P k b m below here at (Chooses e j x) s n o h = absurd (cc o)
calling_lasts P k b m below here at (ChoosesElse e j x l y) s n o h = absurd (cc o)
calling_lasts P k b m below here at (Repeats e j x) s n o h = absurd (cc o)
calling_lasts P k b m below here at (Groups g) s n o h = absurd (cc o)
calling_lasts P k b m below here at (Splits gs j x) s n o h = absurd (cc o)
calling_lasts P k b m below here at (Locks g j x) s n o h = absurd (cc o)
calling_lasts P k b m below here at (Freezes x) s n o h = absurd (cc o)
calling_lasts P k b m below here at (Shares x g) s n o h = absurd (cc o)
calling_lasts P k b m below here at (Prints e) s n o h = absurd (cc o)
calling_lasts P k b m below here at (PrintsText text) s n o h = absurd (cc o)
calling_lasts P k b m below here at (Asserts e) s n o h = absurd (cc o)
calling_lasts P k b m below here at (Returns e) s n o h = absurd (cc o)
