-- Inside a running atomic block nothing is asked: no group is away, so what it does goes by its values alone.
use Rattle.std.proofs.Common.{◌≡◌, refl, subst, ℕ, nat_eq, Bool, true, false, if◌then◌else◌, List, [], ◌∷◌, ◌++◌}
use Rattle.std.proofs.Common.{zip, Option, None, Some}
use Rattle.std.specs.Prelude.{option_map, filter_map, slice_get}
use Rattle.ae_tree.specs.declared.tree.Path.{Path}
use Rattle.ae_tree.specs.declared.tree.GroupNeed.{GroupNeed}
use Rattle.ae_rules.specs.declared.uses.Resource.TheVariants as resource
use Rattle.ae_tree.specs.declared.form.Form.{Form}
use Rattle.ae_tree.specs.Plain.{Expression, Invocation, RightSide, Value, Taken, Zeros, Made, Returned, Definition}
use Rattle.ae_tree.specs.Plain.{Code}
use Rattle.ae_tree.specs.Plain.{Action, Stores, StoresAt, Freezes, Shares, Returns}
use Rattle.ae_rules.specs.Verdict as rules
use Rattle.ae_rules.specs.Calls.{givens}
use Rattle.ae_rules.specs.Context.{Context}
use Rattle.ae_rules.specs.Uses.{is_seen}
use Rattle.ae_semantics.specs.Values.{Val, Owned, Null, Store, put_at}
use Rattle.ae_semantics.specs.Places.{Outcome, Fine, Traps, Lacks, ◌>>=◌, there, Group, Bound, Here, Away, As, State}
use Rattle.ae_semantics.specs.Places.{with_bound, with_store, name_of, Base, InLocal, InGroup, low, bind}
use Rattle.ae_semantics.specs.Places.{with_member, rewrite_member, write_in, write, write_field, field_value, met}
use Rattle.ae_semantics.specs.Places.{field_place, slot, reach, Address, store_of}
use Rattle.ae_semantics.specs.Runs.{Where}
use Rattle.ae_semantics.specs.Expressions.{value, number_of, numbers, index}
use Rattle.ae_semantics.specs.Meaning.{stored, stored_at, frozen, shares_into, shared_value, returns_value}
use Rattle.ae_semantics.specs.Meaning.{result_moved, name_moved, zeros, each_value, made, forgotten}
use Rattle.ae_semantics.specs.Calls.{Argument, Taker, CallFrame, called_method, each_argument, group_given, enter}
use Rattle.ae_semantics.specs.Calls.{leave, groups_needed, without_moved, value_comes_back, given_away, group_back}
use Rattle.ae_semantics.specs.Calls.{groups_back, put_back, values_back}
use Rattle.ae_semantics.proofs.Related.{HasEffect}

-- ---- outcomes

-- what holds of what is fine
abbrev pub AllFine : {A : Type 0} → (A → Type 0) → Outcome A → Type 0
AllFine P (Fine x) = P x
AllFine P (Traps code) = Unit {0}
AllFine P Lacks = Unit {0}

fine_then : {A B : Type 0} (P : B → Type 0) (o : Outcome A) (next : A → Outcome B) → ((x : A) → AllFine P (next x))
    → AllFine P (o >>= next)
fine_then P (Fine x) next h = h x
fine_then P (Traps code) next h = tt
fine_then P Lacks next h = tt

fine_both : {A B : Type 0} (Q : A → Type 0) (P : B → Type 0) (o : Outcome A) (next : A → Outcome B) → AllFine Q o
    → ((x : A) → Q x → AllFine P (next x)) → AllFine P (o >>= next)
fine_both Q P (Fine x) next h i = i x h
fine_both Q P (Traps code) next h i = tt
fine_both Q P Lacks next h i = tt

pub is_fine : {A : Type 0} (P : A → Type 0) (o : Outcome A) (x : A) → AllFine P o → o ≡ Fine x → P x
is_fine P o x h e = subst (AllFine P) e h

-- ---- no group is away

abbrev pub IsNear : Option Group → Type 0
IsNear (Some (Away c)) = ⊥
IsNear _ = Unit {0}

-- no group of the state is away
abbrev pub AllNear : State → Type 0
AllNear s = (g : ℕ) → IsNear (s.groups g)

pub near_if : (b : Bool) (x y : Option Group) → IsNear x → IsNear y → IsNear (if b then x else y)
near_if true x y h i = h
near_if false x y h i = i

pub near_with : (g : ℕ) (c : Option Group) (s : State) → IsNear c → AllNear s → AllNear (with_store g c s)
near_with g c s h i x = near_if (nat_eq (name_of s g) x) c (s.groups x) h (i x)

pub near_moved : (xs : List ℕ) (s : State) → AllNear s → AllNear (without_moved xs s)
near_moved [] s h = h
near_moved (x ∷ xs) s h = near_moved xs (with_bound x None s) h

pub near_forgotten : (c : Context) (s : State) → AllNear s → AllNear (forgotten c s)
near_forgotten c s h g = near_if (is_seen c (resource.Group g)) (s.groups g) None (h g) tt

pub near_bind : (x : ℕ) (form : Form) (v : Val) (s : State) → AllNear s → AllFine AllNear (bind x form v s)
near_bind x form v s h = fine_then AllNear (low v) _ (λ w. h)

near_member : (s : State) (g n : ℕ) (st : Store) (v : Val) → AllNear s → AllFine AllNear (with_member s g n st v)
near_member s g n st (Owned t) h = near_with g (Some (Here _)) s tt h
near_member s g n st _ h = tt

near_write_in : (s : State) (b : Base) (fields : List ℕ) (v : Val) → AllNear s → AllFine AllNear (write_in s b fields v)
near_write_in s (InLocal x) fields v h = fine_then AllNear (there (s.locals x)) _
    (λ (b : Bound). near_bind x b.form _ s h)
near_write_in s (InGroup g n) fields v h = fine_then AllNear (store_of s g) (rewrite_member s g n fields v)
    (λ st. fine_then AllNear (there (slice_get st n)) _
    (λ t. fine_then AllNear (low (put_at fields v (Owned t))) (with_member s g n st) (λ w. near_member s g n st w h)))

-- ---- what statements without blocks do

near_stored : (p : Code) (path : Path) (e : Expression) (s : State) → AllNear s → AllFine AllNear (stored p path e s)
near_stored p path e s h = fine_then AllNear (value p s e) _
    (λ v. fine_then AllNear (slot p s path) _
    (λ x. fine_both AllNear AllNear (write_field s x.object x.part.number v) _
    (near_write_in s x.object.at.base (x.object.at.fields ++ (x.part.number ∷ [])) v h)
    (λ t i. near_moved (name_moved x.part.form e) t i)))

near_stored_at : (p : Code) (path : Path) (i e : Expression) (s : State) → AllNear s
    → AllFine AllNear (stored_at p path i e s)
near_stored_at p path i e s h = fine_then AllNear (number_of p s i) _
    (λ n. fine_then AllNear (number_of p s e) _ (λ v. fine_then AllNear (reach p s path) _ (λ o.
    fine_then AllNear (numbers o.tree) _
    (λ ns. fine_then AllNear (index ns n) _ (λ k. near_write_in s o.at.base o.at.fields _ h)))))

near_frozen : (x : ℕ) (s : State) → AllNear s → AllFine AllNear (frozen x s)
near_frozen x s h = fine_then AllNear (there (s.locals x)) _ (λ b. h)

near_shared_value : (x g : ℕ) (b : Bound) (v : Val) (s : State) (st : Store) → AllNear s
    → AllFine AllNear (shared_value x g b v s st)
near_shared_value x g b (Owned t) s st h = near_with g (Some (Here _)) s tt h
near_shared_value x g b Null s st h = h
near_shared_value x g b _ s st h = tt

near_shared : (x g : ℕ) (s : State) → AllNear s → AllFine AllNear (shares_into x g s)
near_shared x g s h = fine_then AllNear (there (s.locals x)) _
    (λ b. fine_then AllNear (store_of s g) _ (λ st. near_shared_value x g b b.value s st h))

near_returns : (p : Code) (m : Definition) (e : Expression) (s : State) → AllNear s
    → AllFine AllNear (returns_value p m e s)
near_returns p m e s h = fine_then AllNear (value p s e) _ (λ v. near_moved (result_moved m e) s h)

pub near_effect : (p : Code) (here : Where) (a : Action) (f : State → Outcome State) → HasEffect p here a f
    → (s : State) → AllNear s → AllFine AllNear (f s)
near_effect p here (Stores path e) f d s h = subst (λ (f : State → Outcome State). AllFine AllNear (f s)) d
    (near_stored p path e s h)
near_effect p here (StoresAt path i e) f d s h = subst (λ (f : State → Outcome State). AllFine AllNear (f s)) d
    (near_stored_at p path i e s h)
near_effect p here (Freezes x) f d s h = subst (λ (f : State → Outcome State). AllFine AllNear (f s)) d
    (near_frozen x.name s h)
near_effect p here (Shares x g) f d s h = subst (λ (f : State → Outcome State). AllFine AllNear (f s)) d
    (near_shared x.name g.name s h)
near_effect p here (Returns e) f d s h = subst (λ (f : State → Outcome State). AllFine AllNear (f s)) d
    (near_returns p here.method e s h)
near_effect p here _ f d s h = absurd d

-- the state behind what stands right of a =
abbrev pub NearBehind : Val × State → Type 0
NearBehind r = AllNear r.1

pub near_made : (p : Code) (e : RightSide) (s : State) → AllNear s → AllFine NearBehind (made p e s)
near_made p (Value e) s h = fine_then NearBehind (value p s e) _ (λ v. h)
near_made p (Taken path at) s h = fine_then NearBehind (slot p s path) _
    (λ x. fine_then NearBehind (there (field_value x.object.tree x.part.number)) _ (λ v.
    fine_then NearBehind (met p (field_place x.object x.part v)) _
    (λ place. fine_both AllNear NearBehind (write_field s x.object x.part.number Null) _
    (near_write_in s x.object.at.base (x.object.at.fields ++ (x.part.number ∷ [])) Null h) (λ t i. i))))
near_made p (Zeros e at) s h = fine_then NearBehind (number_of p s e) _ (λ n. fine_then NearBehind (zeros n) _ (λ v. h))
near_made p (Made c gs args at) s h = fine_then NearBehind (each_value p s args) _ (λ vs. h)
near_made p (Returned i) s h = tt

-- ---- calls

near_as : (x : Option Group) (h : ℕ) → IsNear (option_map (λ y. As h) x)
near_as None h = tt
near_as (Some x) h = tt

near_needed : (groups : ℕ → ℕ) (s : State) → AllNear s → (ns : List GroupNeed) (g : ℕ)
    → IsNear (groups_needed groups s ns g)
near_needed groups s h [] g = tt
near_needed groups s h (n ∷ ns) g = near_if (nat_eq n.group.name g) _ _ (h (groups g))
    (near_if (nat_eq (groups n.group.name) (groups g)) _ _ (near_as (groups_needed groups s ns g) n.group.name)
    (near_needed groups s h ns g))

-- a call's body stands inside an atomic block where the call does, and no group is away
pub record EntersNear (here : Where) (f : CallFrame) : Type 0 where
  pub near : AllNear f.state
  pub inside : f.here.inside ≡ here.inside

pub near_enter : (p : Code) (here : Where) (i : Invocation) (s : State) → AllNear s
    → AllFine (EntersNear here) (enter p here i s)
near_enter p here i s h = fine_then (EntersNear here) (called_method p s i) _
    (λ c. fine_then (EntersNear here) (each_argument p s (givens i)) _
    (λ xs. record { near = λ g. near_needed (group_given s c i) s h c.method.needs g; inside = refl }))

near_back : (g : ℕ) (c : Option Group) (s : State) → IsNear c → AllNear s → AllNear (group_back g c s)
near_back g (Some (As x)) s h i = i
near_back g (Some (Here st)) s h i = near_with g (Some (Here st)) s tt i
near_back g (Some (Away c)) s h i = absurd h
near_back g None s h i = near_with g None s tt i

near_groups_back : (groups : ℕ → ℕ) (ns : List GroupNeed) (after s : State) → AllNear after → AllNear s
    → AllNear (groups_back groups ns after s)
near_groups_back groups [] after s h i = i
near_groups_back groups (n ∷ ns) after s h i = near_groups_back groups ns after
    (group_back (groups n.group.name) (after.groups n.group.name) s) h
    (near_back (groups n.group.name) (after.groups n.group.name) s (h n.group.name) i)

near_put_back : (x : Taker × Argument) (after s : State) → AllNear s → AllFine AllNear (put_back x after s)
near_put_back x after s h = by_slot (value_comes_back x.0.1)
  where
    by_place : (o : Option Address)
        → AllFine AllNear (rules.given o (Fine s) (λ at. there (after.locals x.0.0) >>= λ b. write s at b.value))
    by_place None = h
    by_place (Some at) = fine_then AllNear (there (after.locals x.0.0)) _
        (λ b. near_write_in s at.base at.fields b.value h)

    by_slot : (b : Bool) → AllFine AllNear
        (if b then rules.given x.1.from (Fine s) (λ at. there (after.locals x.0.0) >>= λ b. write s at b.value) else
        Fine s)
    by_slot true = by_place x.1.from
    by_slot false = h

near_values_back : (xs : List (Taker × Argument)) (after s : State) → AllNear s
    → AllFine AllNear (values_back xs after s)
near_values_back [] after s h = h
near_values_back (x ∷ xs) after s h = fine_both AllNear AllNear (put_back x after s) _ (near_put_back x after s h)
    (λ t i. near_values_back xs after t i)

pub near_leave : (f : CallFrame) (i : Invocation) (before after : State) → AllNear before → AllNear after
    → AllFine AllNear (leave f i before after)
near_leave f i before after h k = near_values_back (zip f.takers f.arguments) after _
    (near_groups_back f.groups f.callee.method.needs after _ k
    (near_moved (filter_map given_away (zip f.takers (givens i))) before h))
