use Rattle.std.proofs.Common.{ap, refl, ◌∙◌}
use Rattle.std.specs.Prelude.{zip, filter_map, option_map, drop}
use Rattle.ae_tree.specs.Shown.{definition, invocation}
use Rattle.ae_rules.specs.Calls.{group_in, givens}
use Rattle.ae_semantics.specs.Calls.{given_away}
use Rattle.ae_values.specs.Shown.{shown}
use Rattle.ae_values.specs.Binding.{bound_in}
use Rattle.ae_values.specs.Environments.{bound_under, waiting_binds}
use Rattle.ae_judge.specs.Tabled.{code_of}
use Rattle.ae_calls.specs.Callee.{callee_shown}
use Rattle.ae_frames.specs.Givens.{takers_of}
use Rattle.ae_frames.proofs.TakerLemmas.{taken_apart}
use Rattle.ae_frames.specs.Granting.{groups_seen, holder_by}
use Rattle.ae_frames.proofs.AwaitLemmas.{opened_awaits}
use Rattle.ae_frames.proofs.EnterLemmas.{begun_keeps_locals, call_is_entered}
use Rattle.ae_frames.proofs.entering.open_body.Goals as goal

pub open-requires : goal.open-requires
open-requires c = taken_apart (code_of c.args.tabled.now) (definition c.args.callee.method.now) c.args.takers.items
    c.as_slice-needs.result.now
    (c.requires.apart c.args.callee.number (definition c.args.callee.method.now) c.requires.number)
    c.requires.takers c.as_slice-needs.ensures

pub returns-in-Ok-open-clause-entered : goal.returns-in-Ok-open-clause-entered
returns-in-Ok-open-clause-entered c =
    let i = invocation c.args.call.now in
    call_is_entered (code_of c.args.tabled.now) i (bound_under c.args.run.now.env)
    (option_map shown c.args.run.now.result) (callee_shown c.args.callee) c.in-Ok-groups_in.new
    c.as_slice-needs.result.now c.args.takers.items c.args.args.items _ _
    (c.requires.apart c.args.callee.number (definition c.args.callee.method.now) c.requires.number)
    c.requires.takers c.replace-result.ensures.after (ap (option_map shown) c.replace-result.ensures.value) refl refl
    (c.in-Ok-groups_in.ensures ∙ ap (group_in (callee_shown c.args.callee)) c.as_slice-2.ensures)
    c.as_slice-needs.ensures
    (record {
      locals = c.in-Ok-open.ensures.locals;
      seen_groups = c.in-Ok-open.ensures.groups;
      shaped = c.in-Ok-open.ensures.shapes;
      back = c.in-Ok-open.ensures.back;
      lent = c.in-Ok-open.ensures.lent;
      waits = c.in-Ok-open.ensures.waits;
      gone = c.in-Ok.ensures
          ∙ ap (λ zs. filter_map given_away (zip (takers_of zs) (givens i))) c.as_slice.ensures.value;
    })

pub returns-in-Ok-open-clause-awaits : goal.returns-in-Ok-open-clause-awaits
returns-in-Ok-open-clause-awaits c =
    let e = c.args.run.now.env in
    opened_awaits c.args.takers.items c.args.args.items c.as_slice-needs.result.now
    (holder_by (groups_seen e) c.in-Ok-groups_in.new) (groups_seen e) c.in-Ok-open.waiting _ _ (bound_under e)
    (taken_apart (code_of c.args.tabled.now) (definition c.args.callee.method.now) c.args.takers.items
    c.as_slice-needs.result.now
    (c.requires.apart c.args.callee.number (definition c.args.callee.method.now) c.requires.number)
    c.requires.takers c.as_slice-needs.ensures)
    c.in-Ok-open.ensures.call c.in-Ok-open.ensures.back c.in-Ok-open.ensures.lent c.in-Ok-open.ensures.shapes
    c.in-Ok-open.ensures.waits

pub returns-in-Ok-open-clause-locals : goal.returns-in-Ok-open-clause-locals
returns-in-Ok-open-clause-locals c =
    let e = c.args.run.now.env in
    begun_keeps_locals (holder_by (groups_seen e) c.in-Ok-groups_in.new) (bound_under e) c.as_slice-needs.result.now
    c.in-Ok-open.waiting.lent.items (bound_in (drop c.in-Ok-open.waiting.base (waiting_binds c.open.new.env)))
    c.in-Ok-open.ensures.lent c.in-Ok-open.ensures.waits
