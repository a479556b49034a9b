-- What comes back of what was taken is what a call that is left leaves.
use Rattle.std.proofs.Common.{◌≡◌, ◌∙◌, ℕ, List, Option, None, Some, true, ap, sym}
use Rattle.std.specs.Prelude.{drop, option_map, IfSome}
use Rattle.ae_semantics.specs.Places.{State, Group}
use Rattle.ae_semantics.specs.Calls.{without_moved}
use Rattle.ae_values.specs.declared.env.Env.{Env}
use Rattle.ae_values.specs.declared.env.Bind.{Bind}
use Rattle.ae_values.specs.declared.value.Val.{Val}
use Rattle.ae_values.specs.Binding.{bound_in}
use Rattle.ae_values.specs.Environments.{bound_under, locals_in, groups_in, running_binds, waiting_binds, state_in}
use Rattle.ae_rules.specs.Lookups.{has_name}
use Rattle.ae_values.specs.Shapes.{NameShape, shapes, shape_in}
use Rattle.ae_values.specs.Shown.{shown, IsMeasured}
use Rattle.ae_reads.specs.Answers.{one_name}
use Rattle.ae_running.specs.Results.{result_measured}
use Rattle.ae_running.specs.Seen.{seen}
use Rattle.ae_running.specs.declared.running.Running.{Running}
use Rattle.ae_frames.specs.declared.left.Left.{Left}
use Rattle.ae_frames.specs.declared.opening.Waiting.{Waiting}
use Rattle.ae_frames.specs.declared.returned.Came.{Came}
use Rattle.ae_frames.specs.declared.returned.Returned.{Returned}
use Rattle.ae_frames.specs.Awaiting.{Awaits, left_as_kept}
use Rattle.ae_frames.specs.Entering.{waiting_state}
use Rattle.ae_frames.specs.Granting.{groups_seen}
use Rattle.ae_frames.specs.Returns.{all_written, cames_of, values_from, groups_put, groups_from, returneds_of}
use Rattle.ae_frames.specs.Returns.{holders_of}
use Rattle.ae_frames.specs.Returns.{AreGroups}
use Rattle.ae_frames.specs.Shown.{backs_of, lents_of}
use Rattle.ae_frames.proofs.ComeLemmas.{comes_as_taken}
use Rattle.ae_frames.proofs.ReturnLemmas.{holders_are}

-- the state of these binds, where this was returned
abbrev state_of : Option Val → List Bind → State
state_of r bs = record {
  locals = locals_in (bound_in bs);
  groups = groups_in one_name (bound_in bs);
  result = option_map shown r;
}

-- what is left of a caller comes back as it was taken out of its callee
pub left_as_taken : (left : Left) (old : Running) (f : Env) (cs : List Came) (rs : List Returned)
    (groups : ℕ → Option Group) (w : List Bind) (r : Option Val) → r ≡ left.result
    → cames_of cs ≡ values_from (locals_in (bound_under old.env)) (backs_of left.waiting.back.items)
    → returneds_of rs ≡ groups_from groups (lents_of left.waiting.lent.items) → groups ≡ groups_seen old.env
    → running_binds f ≡ drop left.waiting.base w → w ≡ waiting_binds old.env
    → left_as_kept left old
    ≡ all_written (cames_of cs) (groups_put (returneds_of rs) (without_moved left.gone.items
    (state_in one_name (option_map shown r) f)))
left_as_taken left old f cs rs groups w r none came returned same runs waits =
    comes_as_taken (backs_of left.waiting.back.items) (lents_of left.waiting.lent.items) left.gone.items (seen old)
    (waiting_state left.waiting.base left.result old.env)
    ∙ ap (λ zs. all_written zs (groups_put (groups_from (groups_seen old.env) (lents_of left.waiting.lent.items))
    (without_moved left.gone.items (waiting_state left.waiting.base left.result old.env)))) (sym came)
    ∙ ap (λ zs. all_written (cames_of cs) (groups_put zs
    (without_moved left.gone.items (waiting_state left.waiting.base left.result old.env))))
    (ap (λ g. groups_from g (lents_of left.waiting.lent.items)) (sym same) ∙ sym returned)
    ∙ ap (λ s. all_written (cames_of cs) (groups_put (returneds_of rs) (without_moved left.gone.items s)))
    (ap (state_of left.result) (sym (runs ∙ ap (drop left.waiting.base) waits))
    ∙ ap (λ (o : Option Val). state_in one_name (option_map shown o) f) (sym none))

-- the names from which groups were lent stand in the caller that runs again
pub holders_stand : (w : Waiting) (old f : Env) (rs : List Returned) (groups : ℕ → Option Group) (waits : List Bind)
    → Awaits w (shapes (running_binds old)) (waiting_binds old)
    → returneds_of rs ≡ groups_from groups (lents_of w.lent.items) → running_binds f ≡ drop w.base waits
    → waits ≡ waiting_binds old → AreGroups (holders_of rs) (shapes (running_binds f))
holders_stand w old f rs groups waits awaits returned runs same g has =
    ap shape_of (runs ∙ ap (drop w.base) same)
    ∙ awaits.held g (ap (λ zs. has_name zs g) (sym (holders_are rs w.lent.items groups returned)) ∙ has)
  where
    shape_of : List Bind → Option NameShape
    shape_of bs = shape_in (shapes bs) g

-- what was returned is well measured
pub result_is_measured : (o : Option Val) → result_measured o ≡ true → IfSome o (λ v. IsMeasured v)
result_is_measured None h = tt
result_is_measured (Some v) h = h
