-- What a call that comes back gives to its caller.
use Rattle.std.proofs.Common.{◌≡◌, refl, ap, sym, ◌∙◌, ℕ, List, Option, None, Some}
use Rattle.std.specs.Prelude.{option_map}
use Rattle.std.proofs.Common.{Bor}
use Rattle.ae_tree.specs.Form.{form}
use Rattle.ae_tree.specs.declared.form.Form.{Form}
use Rattle.ae_tree.specs.declared.tree.Ty.{Ty}
use Rattle.ae_tree.specs.Plain.{Invocation, Code}
use Rattle.ae_rules.specs.Lookups.{method_at}
use Rattle.ae_semantics.specs.Values.{Val}
use Rattle.ae_semantics.specs.Places.{Outcome, Fine, ◌>>=◌, there, State, bind}
use Rattle.ae_semantics.specs.Calls.{leave}
use Rattle.ae_semantics.specs.Runs.{Where}
use Rattle.ae_semantics.specs.Stacks.{ResultPlace}
use Rattle.ae_values.specs.declared.env.Bind.{Bind}
use Rattle.ae_values.specs.declared.value.Val as v
use Rattle.ae_values.specs.Environments.{waiting_binds}
use Rattle.ae_values.specs.Shapes.{OfLocal, shapes}
use Rattle.ae_values.specs.Shown.{shown}
use Rattle.ae_names.specs.Known.{DeclaredAreFree, form_in}
use Rattle.ae_running.specs.declared.running.Running.{Running}
use Rattle.ae_running.specs.Seen.{seen}
use Rattle.ae_frames.specs.Awaiting.{left_as_kept}
use Rattle.ae_frames.specs.Entering.{waiting_state}
use Rattle.ae_frames.specs.Entries.{CallsEnterAlike, EnteredCall, NamesApart, entered, frame_of}
use Rattle.ae_frames.specs.Leaving.{CallsLeaveAlike, NeededGroupsStay}
use Rattle.ae_frames.specs.Shown.{backs_of, lents_of}
use Rattle.ae_frames.specs.declared.left.Left as kept
use Rattle.ae_acts.specs.Doing.{assigned_to}
use Rattle.ae_levels.specs.Callers.{LeadsBack}
use Rattle.ae_levels.specs.Levels.{Aim, Nowhere, ToNew, ToOld, IsDeclared, IsPlace, NamesInOrder, OpenCall}
use Rattle.ae_levels.specs.Receiving.{back_received, received}
use Rattle.ae_machine.specs.Frames.{aim}
use Rattle.ae_machine.specs.declared.frame.Target as code
use Rattle.ae_machine.specs.declared.frame.Target.TheVariants as t
use Rattle.ae_machine.specs.Results.{IsFree, received_as}
use Rattle.ae_machine.specs.Tasks.{names_in}
use Rattle.ae_machine.proofs.from_acts.ShapeLemmas.{unbound_is_free}
use Rattle.ae_machine.proofs.from_steps.CostLemmas.{entered_is_of}

-- a result goes to the place for which its aim stands
pub received_is : (names : NamesInOrder) (to : Aim) (place : Option ResultPlace) (r : Option Val) (s : State)
    → IsPlace names to place → received_as names to r s ≡ received place r s
received_is names Nowhere place r s is = ap (λ (o : Option ResultPlace). received o r s) (sym is)
received_is names (ToNew form x) place r s is = ap (λ (o : Option ResultPlace). received o r s) (sym is)
received_is names (ToOld x) place r s is = (old_form) names x is.0 r s is.2
    ∙ ap (λ (o : Option ResultPlace). received o r s) (sym is.1)
  where
    bound_old : (names : NamesInOrder) (x : ℕ) (form : Form) (w : Val) (s : State) → form_in names x ≡ Some form
        → assigned_to (form_in names) x w s ≡ bind x form w s
    bound_old names x form w s e = ap (λ (o : Option Form). there o >>= λ (f : Form). bind x f w s) e

    old_form : (names : NamesInOrder) (x : ℕ) (form : Form) (r : Option Val) (s : State) → form_in names x ≡ Some form
        → received_as names (ToOld x) r s ≡ received (Some (record { name = x; form = form })) r s
    old_form names x form None s e = refl
    old_form names x form (Some w) s e = bound_old names x form w s e

-- the method of a call that was entered stands in the program
pub callee_stands : CallsEnterAlike → (p : Code) (here : Where) (i : Invocation) (s : State) (x : EnteredCall)
    → entered p i s ≡ Fine x → (n : ℕ) × (method_at p n ≡ Some x.callee.method)
callee_stands law p here i s x e = entered_is_of p here i s (frame_of p here x) (law p here i s
    ∙ ap (λ (o : Outcome EnteredCall). o >>= λ (y : EnteredCall). Fine (frame_of p here y)) e)

-- what comes back by what was kept of a caller is what the meaning leaves
pub left_is : CallsEnterAlike → CallsLeaveAlike → NeededGroupsStay → (p : Code) (here : Where) (i : Invocation)
    (left : kept.Left) (x : EnteredCall) (before : State) (run : Running) → NamesApart p
    → LeadsBack p left x i before (names_in run) (waiting_binds run.env)
    → left_as_kept left run ≡ leave (frame_of p here x) i before (seen run)
left_is enters leaves stays p here i left x before run apart l =
    let c = callee_stands enters p here i before x l.was_entered in
    leaves p here i before (seen run) (waiting_state left.waiting.base left.result run.env) x
    (backs_of left.waiting.back.items) (lents_of left.waiting.lent.items) left.gone.items l.was_entered l.kept l.caller
    (stays p i before x run.env (option_map shown run.result) l.was_entered (apart c.0 x.callee.method c.1) l.names_are)

-- where the caller is left so, its result is received as its aim says
pub back_is : (p : Code) (i : Invocation) (o : OpenCall) (to : Aim) (names : NamesInOrder) (s t : State)
    (r : Option Val) → leave (frame_of p o.here o.entry) i o.before s ≡ Fine t → r ≡ s.result → IsPlace names to o.place
    → back_received p i o s ≡ received_as names to r t
back_is p i o to names s t r e same is = ap (λ (y : Outcome State). y >>= received o.place s.result) e
    ∙ ap (λ (q : Option Val). received o.place q t) (sym same) ∙ sym (received_is names to o.place r t is)

-- the name that a judged statement declares is free
pub aim_is_free : DeclaredAreFree → (p : Code) (to : Aim) (bs : List Bind) → IsDeclared p (shapes bs) to
    → IsFree (shapes bs) to
aim_is_free law p Nowhere bs d = tt
aim_is_free law p (ToNew form x) bs d = unbound_is_free bs x
    (law p d.method d.at d.action d.before d.after bs d.judged d.known x (OfLocal form) d.declares)
aim_is_free law p (ToOld x) bs d = tt

-- where a new local is wanted, and there is a result, it is declared with that
pub new_received : (names : NamesInOrder) (to : code.Target) (ty : Bor Ty) (x : ℕ) (returned : Option v.Val) (value : v.Val)
    (f : Form) (s : State) → to ≡ t.New ty x → returned ≡ Some value → f ≡ form ty.now
    → received_as names (aim to) (option_map shown returned) s ≡ bind x f (shown value) s
new_received names to ty x returned value f s is has same = cc
