-- Facts on groups declared, and on objects that become immutable or members of a group.
use Rattle.std.proofs.Common.{◌≡◌, ◌∙◌, refl, sym, ap, ℕ, nat_eq, Bool, true, false, List, [], ◌∷◌, ◌++◌, length}
use Rattle.std.proofs.Common.{Option, None, Some}
use Rattle.std.specs.Prelude.{option_map, is_some, if◌then◌else◌}
use Rattle.std.proofs.lemmas.Bool.{false≢true}
use Rattle.std.proofs.lemmas.Option.{none-some, same_Some}
use Rattle.ae_tree.specs.declared.form.Perm.{Perm}
use Rattle.ae_tree.specs.declared.form.Perm.TheVariants as perm
use Rattle.ae_tree.specs.declared.form.Form.{Form}
use Rattle.ae_rules.specs.Verdict.{given}
use Rattle.ae_semantics.specs.Values as values
use Rattle.ae_semantics.specs.Values.{OfInt, OfBool, Null, Owned, Member, Tree, Store}
use Rattle.ae_semantics.specs.Places as meant
use Rattle.ae_semantics.specs.Places.{Outcome, Fine, Traps, Lacks, ◌>>=◌, there, Here, State, with, with_bound}
use Rattle.ae_semantics.specs.Places.{with_store, name_of, other_name, members, group_of}
use Rattle.ae_semantics.specs.Meaning.{with_perm, frozen, shared_value, shares_into}
use Rattle.ae_values.specs.declared.env.Env.{Env}
use Rattle.ae_values.specs.declared.env.Bind.{Bind}
use Rattle.ae_values.specs.declared.env.Bound.{Bound}
use Rattle.ae_values.specs.declared.env.Bound.TheVariants as bound
use Rattle.ae_values.specs.declared.env.Image.TheVariants as image
use Rattle.ae_values.specs.Binding.{bound_in}
use Rattle.ae_values.specs.Environments.{state_in, local_bound, group_bound, locals_in, bound_under}
use Rattle.ae_values.specs.Environments.{running_binds}
use Rattle.ae_values.specs.Shapes.{name_shape, shapes, shape_in}
use Rattle.ae_reads.specs.Answers.{one_name}
use Rattle.ae_names.specs.Known.{form_in, local_form}
use Rattle.ae_values.specs.Shown.{shown}
use Rattle.ae_acts.specs.Doing.{value_in, is_null, joined_to, without_kind}
use Rattle.ae_acts.proofs.from_values.ShapeLemmas.{perm_twice}
use Rattle.ae_acts.proofs.from_text.Basics.{number_is_itself}
use Rattle.ae_acts.proofs.from_values.BindLemmas.{groups_change, with_twice as locals_twice}
use Rattle.ae_acts.proofs.ChangeLemmas.{permitted_local}

-- ---- a group declared

-- a group is declared under a name to which nothing was bound
pub group_declared : (r : Option values.Val) (e g : Env) (x : ℕ) → bound_under e x ≡ None
    → bound_under g ≡ with x (Some (bound.Whole (image.Store []))) (bound_under e)
    → state_in one_name r g ≡ with_store x (Some (Here [])) (state_in one_name r e)
group_declared r e g x free same =
    let own : x ≡ name_of (state_in one_name r e) x =
    ap (λ (o : Option Bound). other_name x (given o None (group_bound one_name))) (sym free) in
    groups_change one_name r e g x (Some (bound.Whole (image.Store [])))
    (same ∙ ap (λ y. with y (Some (bound.Whole (image.Store []))) (bound_under e)) own)
    (ap (λ y. locals_in (bound_under e) y) (sym own)
    ∙ ap (λ (o : Option Bound). given o None local_bound) free)
    refl

-- ---- another permission

-- a local that has a value
pub has_value : (s : State) (x : ℕ) (b : Bool) → Some b ≡ option_map is_null (value_in s x)
    → (l : meant.Bound) × (s.locals x ≡ Some l)
has_value s x b known = by_cases (s.locals x) known
  where
    by_cases : (o : Option meant.Bound)
        → Some b ≡ option_map is_null (option_map (λ (l : meant.Bound). l.value) o)
        → (l : meant.Bound) × (o ≡ Some l)
    by_cases None is = absurd (none-some b (sym is))
    by_cases (Some l) is = (l, refl)

-- a local with a value becomes immutable
pub frozen_there : (s : State) (x : ℕ) (b : Bool) → Some b ≡ option_map is_null (value_in s x)
    → frozen x s ≡ Fine (with_bound x (option_map (permitted_local perm.Immutable) (s.locals x)) s)
frozen_there s x b known =
    let l = has_value s x b known in
    ap (λ (o : Option meant.Bound). there o >>= λ (y : meant.Bound).
    Fine (with_bound x (Some (record y { form = with_perm perm.Immutable y.form })) s)) l.1
    ∙ ap (λ o. Fine (with_bound x (option_map (permitted_local perm.Immutable) o) s)) (sym l.1)

-- ---- what is shared

-- what is shared of a local that is there, by the members
abbrev shared_by : ℕ → ℕ → State → Option meant.Bound → Option Store → Outcome State
shared_by x g s o ms = there o >>= λ (b : meant.Bound). there ms >>= shared_value x g b b.value s

-- where the members are not here nothing is shared
pub shared_away : (s : State) (x g : ℕ) → is_some (members (group_of s g)) ≡ false → shares_into x g s ≡ Lacks
shared_away s x g away = by_cases (s.locals x) (members (group_of s g)) away
  where
    by_cases : (o : Option meant.Bound) (ms : Option Store) → is_some ms ≡ false → shared_by x g s o ms ≡ Lacks
    by_cases None ms h = refl
    by_cases (Some b) None h = refl
    by_cases (Some b) (Some st) h = absurd (false≢true (sym h))

null_is : (v : values.Val) → is_null v ≡ true → v ≡ Null
null_is Null is = refl
null_is (OfInt n) is = absurd (false≢true is)
null_is (OfBool b) is = absurd (false≢true is)
null_is (Owned t) is = absurd (false≢true is)
null_is (Member n) is = absurd (false≢true is)

-- the same, with the members
null_shared : (s : State) (x g : ℕ) (st : Store) → Some true ≡ option_map is_null (value_in s x)
    → members (group_of s g) ≡ Some st
    → shares_into x g s ≡ Fine (with_bound x (option_map (permitted_local (perm.Shared g)) (s.locals x)) s)
null_shared s x g st known here =
    let l = has_value s x true known in
    let null : l.0.value ≡ Null = null_is l.0.value (same_Some (is_null l.0.value) true
    (ap (λ (o : Option meant.Bound). option_map is_null (option_map (λ (b : meant.Bound). b.value) o)) (sym l.1)
    ∙ sym known)) in
    ap (λ o. shared_by x g s o (members (group_of s g))) l.1
    ∙ ap (shared_by x g s (Some l.0)) here
    ∙ ap (λ v. shared_value x g l.0 v s st) null
    ∙ ap (λ v. Fine (with_bound x (Some (record { form = with_perm (perm.Shared g) l.0.form; value = v })) s))
    (sym null)
    ∙ ap (λ o. Fine (with_bound x (option_map (permitted_local (perm.Shared g)) o) s)) (sym l.1)

-- null stays null, and only the permission changes
pub null_shared_here : (s : State) (x g : ℕ) → Some true ≡ option_map is_null (value_in s x)
    → is_some (members (group_of s g)) ≡ true
    → shares_into x g s ≡ Fine (with_bound x (option_map (permitted_local (perm.Shared g)) (s.locals x)) s)
null_shared_here s x g known here = by_cases (members (group_of s g)) refl here
  where
    by_cases : (ms : Option Store) → members (group_of s g) ≡ ms → is_some ms ≡ true
        → shares_into x g s ≡ Fine (with_bound x (option_map (permitted_local (perm.Shared g)) (s.locals x)) s)
    by_cases None is h = absurd (false≢true h)
    by_cases (Some st) is h = null_shared s x g st known is

-- a local with this value
held_there : (s : State) (x : ℕ) (v : values.Val) → Some v ≡ value_in s x
    → (l : meant.Bound) × (s.locals x ≡ Some l) × (l.value ≡ v)
held_there s x v known = by_cases (s.locals x) known
  where
    by_cases : (o : Option meant.Bound) → Some v ≡ option_map (λ (l : meant.Bound). l.value) o
        → (l : meant.Bound) × (o ≡ Some l) × (l.value ≡ v)
    by_cases None is = absurd (none-some v (sym is))
    by_cases (Some l) is = (l, refl, same_Some l.value v (sym is))

-- what is bound has a shape
shape_there : (bs : List Bind) (x : ℕ) (b : Bound) → bound_in bs x ≡ Some b
    → (q : Perm) × (shape_in (shapes bs) x ≡ Some (name_shape q b))
shape_there [] x b is = absurd (none-some b is)
shape_there (c ∷ cs) x b is = by_test (nat_eq c.name x) is (shape_there cs x b)
  where
    by_test : (t : Bool) → (if t then Some c.bound else bound_in cs x) ≡ Some b
        → (bound_in cs x ≡ Some b → (q : Perm) × (shape_in (shapes cs) x ≡ Some (name_shape q b)))
        → (q : Perm) × ((if t then Some (name_shape c.declared c.bound) else shape_in (shapes cs) x)
        ≡ Some (name_shape q b))
    by_test true h rest = (c.declared, ap (λ y. Some (name_shape c.declared y)) (same_Some c.bound b h))
    by_test false h rest = rest h

-- a local was declared in the form of what it holds, but for the permission
declared_alike : (r : Option values.Val) (e : Env) (x : ℕ) (l : meant.Bound)
    → (state_in one_name r e).locals x ≡ Some l
    → (form : Form) × (form_in (shapes (running_binds e)) x ≡ Some form)
    × ((q : Perm) → with_perm q form ≡ with_perm q l.form)
declared_alike r e x l held = by_cases (bound_under e x) held (shape_there (running_binds e) x)
  where
    by_cases : (o : Option Bound) → given o None local_bound ≡ Some l
        → ((b : Bound) → o ≡ Some b → (q : Perm) × (shape_in (shapes (running_binds e)) x ≡ Some (name_shape q b)))
        → (form : Form) × (form_in (shapes (running_binds e)) x ≡ Some form)
        × ((q : Perm) → with_perm q form ≡ with_perm q l.form)
    by_cases None is shape = absurd (none-some l is)
    by_cases (Some (bound.Value form v)) is shape =
        let s = shape (bound.Value form v) refl in (
          with_perm s.0 form,
          ap (λ o. given o None local_form) s.1,
          λ q. perm_twice q s.0 form
              ∙ ap (λ (b : meant.Bound). with_perm q b.form)
              (same_Some (record { form = form; value = shown v }) l is),
        )
    by_cases (Some (bound.Moved form)) is shape = absurd (none-some l is)
    by_cases (Some (bound.Whole i)) is shape = absurd (none-some l is)
    by_cases (Some (bound.Other g)) is shape = absurd (none-some l is)
    by_cases (Some (bound.Cell n)) is shape = absurd (none-some l is)
    by_cases (Some (bound.Pieces ps)) is shape = absurd (none-some l is)

-- a local that gets something twice has the second
bound_twice : (x : ℕ) (a b : Option meant.Bound) (s : State) → with_bound x b (with_bound x a s) ≡ with_bound x b s
bound_twice x a b s = ap (λ (ls : ℕ → Option meant.Bound). record s { locals = ls }) (locals_twice x a b s.locals)

-- the object that is taken out of a local is shared
pub object_shared : (r : Option values.Val) (e : Env) (x g : ℕ) (t : Tree)
    → Some (Owned t) ≡ value_in (state_in one_name r e) x
    → shares_into x g (state_in one_name r e)
    ≡ joined_to (form_in (shapes (running_binds e))) x g t (with_bound x None (state_in one_name r e))
object_shared r e x g t known =
    let s = state_in one_name r e in
    let l = held_there s x (Owned t) known in
    let d = declared_alike r e x l.0 l.1 in
    ap (λ o. shared_by x g s o (members (group_of s g))) l.1
    ∙ by_members l.0 d.0 (members (group_of s g)) l.2 (d.2 (perm.Shared g))
    ∙ ap (λ (o : Option Form). there o >>= λ form. joins form (members (group_of s g))) (sym d.1)
  where
    joins : Form → Option Store → Outcome State
    joins form ms = there ms >>= λ st.
        Fine (with_bound x (Some (record { form = with_perm (perm.Shared g) form; value = Member (length st) }))
        (with_store g (Some (Here (st ++ (t ∷ [])))) (with_bound x None (state_in one_name r e))))

    by_members : (b : meant.Bound) (form : Form) (ms : Option Store) → b.value ≡ Owned t
        → with_perm (perm.Shared g) form ≡ with_perm (perm.Shared g) b.form
        → shared_by x g (state_in one_name r e) (Some b) ms ≡ joins form ms
    by_members b form None is same = refl
    by_members b form (Some st) is same =
        ap (λ v. shared_value x g b v (state_in one_name r e) st) is
        ∙ ap (λ y. Fine (with_bound x (Some (record { form = y; value = Member (length st) }))
        (with_store g (Some (Here (st ++ (t ∷ [])))) (state_in one_name r e)))) (sym same)
        ∙ ap Fine (sym (bound_twice x None
        (Some (record { form = with_perm (perm.Shared g) form; value = Member (length st) }))
        (with_store g (Some (Here (st ++ (t ∷ [])))) (state_in one_name r e))))

-- an object joined_to a group whose members are here, and its local got the number in a form that is shared
pub member_joined : (forms : ℕ → Option Form) (x g n : ℕ) (t : Tree) (w : Form) (s a b c : State)
    → Some w ≡ option_map without_kind (forms x)
    → Some n ≡ option_map (λ (st : Store). length st) (members (group_of s g))
    → ((st : Store) → members (group_of s g) ≡ Some st → a ≡ with_store g (Some (Here (st ++ (t ∷ [])))) s)
    → ((form : Form) → forms x ≡ Some form → b ≡ with_bound x (Some (record { form = form; value = Member n })) a)
    → c ≡ with_bound x (option_map (permitted_local (perm.Shared g)) (b.locals x)) b
    → joined_to forms x g t s ≡ Fine c
member_joined forms x g n t w s a b c known count added assigned shared =
    by_cases (forms x) (members (group_of s g)) known count added assigned
  where
    last : (form : Form) → b ≡ with_bound x (Some (record { form = form; value = Member n })) a
        → c ≡ with_bound x (Some (record { form = with_perm (perm.Shared g) form; value = Member n })) a
    last form is = shared
        ∙ ap (λ (y : State). with_bound x (option_map (permitted_local (perm.Shared g)) (y.locals x)) y) is
        ∙ ap (λ t. with_bound x (option_map (permitted_local (perm.Shared g))
        (if t then Some (record { form = form; value = Member n }) else a.locals x))
        (with_bound x (Some (record { form = form; value = Member n })) a)) (number_is_itself x)
        ∙ bound_twice x (Some (record { form = form; value = Member n }))
        (Some (record { form = with_perm (perm.Shared g) form; value = Member n })) a

    by_cases : (o : Option Form) (ms : Option Store) → Some w ≡ option_map without_kind o
        → Some n ≡ option_map (λ (st : Store). length st) ms
        → ((st : Store) → ms ≡ Some st → a ≡ with_store g (Some (Here (st ++ (t ∷ [])))) s)
        → ((form : Form) → o ≡ Some form → b ≡ with_bound x (Some (record { form = form; value = Member n })) a)
        → (there o >>= λ form. there ms >>= λ st.
        Fine (with_bound x (Some (record { form = with_perm (perm.Shared g) form; value = Member (length st) }))
        (with_store g (Some (Here (st ++ (t ∷ [])))) s))) ≡ Fine c
    by_cases None ms is number add put = absurd (none-some w (sym is))
    by_cases (Some form) None is number add put = absurd (none-some n (sym number))
    by_cases (Some form) (Some st) is number add put =
        ap (λ m. Fine (with_bound x (Some (record { form = with_perm (perm.Shared g) form; value = Member m }))
        (with_store g (Some (Here (st ++ (t ∷ [])))) s))) (same_Some (length st) n (sym number))
        ∙ ap (λ y. Fine (with_bound x (Some (record { form = with_perm (perm.Shared g) form; value = Member n })) y))
        (sym (add st refl))
        ∙ ap Fine (sym (last form (put form refl)))

-- nothing joins a group whose members are not here
pub joined_nowhere : (forms : ℕ → Option Form) (x g : ℕ) (t : Tree) (w : Form) (s : State)
    → Some w ≡ option_map without_kind (forms x)
    → None ≡ option_map (λ (st : Store). length st) (members (group_of s g)) → joined_to forms x g t s ≡ Lacks
joined_nowhere forms x g t w s known count = by_cases (forms x) (members (group_of s g)) known count
  where
    by_cases : (o : Option Form) (ms : Option Store) → Some w ≡ option_map without_kind o
        → None ≡ option_map (λ (st : Store). length st) ms
        → (there o >>= λ form. there ms >>= λ st.
        Fine (with_bound x (Some (record { form = with_perm (perm.Shared g) form; value = Member (length st) }))
        (with_store g (Some (Here (st ++ (t ∷ [])))) s))) ≡ Lacks
    by_cases None ms is number = absurd (none-some w (sym is))
    by_cases (Some form) None is number = refl
    by_cases (Some form) (Some st) is number = absurd (none-some (length st) number)
