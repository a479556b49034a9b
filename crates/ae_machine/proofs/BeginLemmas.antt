-- What `main` begins with.
use Rattle.std.proofs.Common.{◌≡◌, inl, inr, refl, ap, sym, ◌∙◌, ℕ, ℤ, nat_eq, Bool, true, false, if◌then◌else◌}
use Rattle.std.proofs.Common.{List, [], ◌∷◌, length, subst, Option, None, Some}
use Rattle.std.specs.Prelude.{option_map, slice_get}
use Rattle.std.proofs.lemmas.Option.{same_Some}
use Rattle.ae_tree.specs.declared.form.Form.{Form}
use Rattle.ae_tree.specs.declared.tree.Param.{Param}
use Rattle.ae_tree.specs.Form.{form}
use Rattle.ae_tree.specs.Plain.{Definition, Code}
use Rattle.ae_rules.specs.Judges.{start}
use Rattle.ae_rules.specs.Lookups.{method_at}
use Rattle.ae_semantics.specs.Values as meant
use Rattle.ae_semantics.specs.Values.{Owned, Array}
use Rattle.ae_semantics.specs.Places as place
use Rattle.ae_semantics.specs.Places.{Group, State, with}
use Rattle.ae_semantics.specs.Means.{main_state}
use Rattle.ae_values.specs.declared.env.Bind.{Bind}
use Rattle.ae_values.specs.declared.env.Bound.TheVariants as bound
use Rattle.ae_values.specs.declared.env.Env.{Env}
use Rattle.ae_values.specs.declared.value.Val.{Val}
use Rattle.ae_values.specs.Binding.{bound_in}
use Rattle.ae_values.specs.Environments.{BindsChangeOneName, bound_under, groups_in, locals_in, state_in, waiting_binds}
use Rattle.ae_values.specs.Shapes.{NameShape}
use Rattle.ae_values.specs.Shown.{shown}
use Rattle.ae_names.specs.Known.{AreKnown}
use Rattle.ae_reads.specs.Answers.{one_name}
use Rattle.ae_running.specs.declared.running.Running.{Running}
use Rattle.ae_running.specs.Seen.{seen}
use Rattle.ae_starts.specs.Mains.{BeginsSo, HasBeginning, HasMain, integers, main_names, no_locals}
use Rattle.ae_levels.specs.EndLaws.{RunsMeanSo}
use Rattle.ae_levels.specs.Going.{Going, IsSound}
use Rattle.ae_levels.specs.Levels.{InBlock}
use Rattle.ae_machine.specs.Tasks.{IsAt, IsUntouched, code_in, names_in, whole_of}
use Rattle.ae_machine.specs.declared.task.Task.{Task}
use Rattle.ae_machine.proofs.from_text.Basics.{functions_agree}

-- a state by its parts
abbrev made_state : (ℕ → Option place.Bound) → (ℕ → Option Group) → Option meant.Val → State
made_state l g r = record { locals = l; groups = g; result = r }

same_state : (l m : ℕ → Option place.Bound) (g h : ℕ → Option Group) (r q : Option meant.Val) → l ≡ m → g ≡ h → r ≡ q
    → made_state l g r ≡ made_state m h q
same_state l m g h r q a b c = ap (λ x. made_state x g r) a ∙ ap (λ x. made_state m x r) b
    ∙ ap (λ x. made_state m h x) c

-- a local alone is no group
no_group : (n y : ℕ) (bs : List Bind) → bs ≡ [] → with n None (groups_in one_name (bound_in bs)) y ≡ None
no_group n y bs none = by_name (nat_eq n y)
  where
    by_name : (same : Bool) → (if same then None else groups_in one_name (bound_in bs) y) ≡ None
    by_name true = refl
    by_name false = ap (λ zs. groups_in one_name (bound_in zs) y) none

-- where nothing was bound, and the integers are bound to the parameter of `main`, that is the state in which it begins
pub main_bound : BindsChangeOneName → (p : Code) (m : Definition) (ints : List ℤ) (run : Running) (e : Env) (x : Param)
    (value : Val) (f : Form) → IsUntouched run → BeginsSo p m → slice_get m.params 0 ≡ Some x
    → shown value ≡ Owned (Array ints) → f ≡ form x.ty
    → bound_under e ≡ with x.name.name (Some (bound.Value f value)) (bound_under run.env)
    → state_in one_name (option_map shown run.result) e ≡ main_state p m ints
main_bound law p m ints run e x value f none (inl alone) first is same binds =
    absurd (cc (first, ap (λ (ys : List Param). slice_get ys 0) alone.params))
main_bound law p m ints run e x value f none (inr b) first is same binds =
    let n : ℕ = x.name.name in
    let c = law n (Some (bound.Value f value)) (bound_under run.env) in
    let one : b.param ≡ x = same_Some b.param x
    (sym (ap (λ (ys : List Param). slice_get ys 0) b.params) ∙ first) in
    let typed : f ≡ integers = same ∙ ap (λ (y : Param). form y.ty) (sym one) ∙ b.form in
    same_state (locals_in (bound_under e)) _ (groups_in one_name (bound_under e)) (λ g. None)
    (option_map shown run.result) None
    (ap locals_in binds ∙ c.locals
    ∙ ap (λ (z : Option place.Bound). with n z (locals_in (bound_under run.env)))
    (ap (λ (t : Form). Some (record { form = t; value = shown value })) typed
    ∙ ap (λ (w : meant.Val). Some (record { form = integers; value = w })) is)
    ∙ ap (λ (zs : List Bind). with n (Some (record { form = integers; value = Owned (Array ints) }))
    (locals_in (bound_in zs))) none.running
    ∙ ap (λ (y : Param). with y.name.name (Some (record { form = integers; value = Owned (Array ints) })) no_locals) (sym one)
    ∙ sym (b.locals ints))
    (ap (groups_in one_name) binds ∙ c.groups one_name
    ∙ functions_agree (with n None (groups_in one_name (bound_under run.env))) (λ g. None)
    (λ y. no_group n y _ none.running))
    (ap (option_map shown) none.returned)

-- the `main` that begins is the one that the program has
pub main_is : (p : Code) (n : ℕ) (m : Definition) → HasMain p n m → (b : HasBeginning p) → b.method ≡ m
main_is p n m h b =
    let same : b.number ≡ n = same_Some b.number n (sym b.has.number ∙ h.number) in
    same_Some b.method m (sym b.has.method ∙ ap (method_at p) same ∙ h.method)

-- where `main` has its names and its state, its body is what is to be done
pub body_begins : RunsMeanSo → (task : Task) (n : ℕ) (m : Definition) (run : Running) → IsSound (code_in task)
    → HasMain (code_in task) n m → HasBeginning (code_in task) → names_in run ≡ main_names (code_in task) m
    → seen run ≡ main_state (code_in task) m task.ints.now → waiting_binds run.env ≡ [] → run.out.items ≡ []
    → IsAt task run (InBlock task.fuel 1 m m.body (length (names_in run)) ∷ [])
body_begins law task n m run sound h b names state waiting out =
    let p : Code = code_in task in
    let at : List Bind → List ℕ → Type 0 = λ (w : List Bind) (bytes : List ℕ).
    Going p (whole_of task) (names_in run) w (seen run) bytes (InBlock task.fuel 1 m m.body (length (names_in run)) ∷ []) in
    let known : AreKnown (start p m) (names_in run) =
    subst (λ (ns : List (ℕ × NameShape)). AreKnown (start p m) ns) (sym names)
    (subst (λ (d : Definition). AreKnown (start p d) (main_names p d)) (main_is p n m h b) b.known) in
    subst (λ (w : List Bind). at w run.out.items) (sym waiting)
    (subst (λ (bytes : List ℕ). at [] bytes) (sym out)
    (law.run_begins p task.ints.now task.fuel n m (names_in run) (seen run) sound h.number h.method known state))
