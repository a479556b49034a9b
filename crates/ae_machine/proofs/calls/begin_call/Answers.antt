use Rattle.std.proofs.Common.{◌≡◌, ap, sym, subst, arith, ℕ, suc, ◌+◌, ◌-◌, ◌∷◌, List, length, Some}
use Rattle.std.proofs.lemmas.Bool.{le-ltb, lt-ltb}
use Rattle.ae_tree.specs.Shown.{definition, invocation}
use Rattle.ae_semantics.specs.declared.report.Ending.TheVariants.{Fuel, Trap}
use Rattle.ae_values.specs.Environments.{waiting_binds}
use Rattle.ae_running.specs.Seen.{seen}
use Rattle.ae_steps.specs.Costs.{costs}
use Rattle.ae_levels.specs.Going.{CallBegun, ComesTo}
use Rattle.ae_levels.specs.Halting.{HaltsAs, halt_at}
use Rattle.ae_levels.specs.Levels.{InBlock, InCall, Level, levels_cost}
use Rattle.ae_levels.specs.declared.halt.Halt.{Halt}
use Rattle.ae_machine.specs.Frames.{aim, levels}
use Rattle.ae_machine.specs.Tasks.{IsPast, code_in, names_in, whole_of}
use Rattle.ae_machine.proofs.CallingLemmas.{IsEnteredCall, call_costs_more, call_goes_on}
use Rattle.ae_machine.proofs.TaskLemmas.{leads_when_ok}
use Rattle.ae_machine.proofs.calls.begin_call.Goals as goal

pub enter-requires : goal.enter-requires
enter-requires c = c.names_stand_apart.ensures (code_in c.args.task.now) c.requires.sound.shaped c.requires.sound.free
    c.requires.sound.accepted

pub returns-in-Err : goal.returns-in-Err
returns-in-Err c =
    subst (λ (h : Halt). HaltsAs (whole_of c.args.task.now) c.enter.new.run.out.items h) (sym c.stopped_at.ensures)
    (subst (λ (out : List ℕ). HaltsAs (whole_of c.args.task.now) out (halt_at c.args.at c.in-Err.stop))
    (sym (ap (λ y. y.items) c.enter.ensures.out))
    (c.calls_come_back.ensures.call_faults (code_in c.args.task.now) (whole_of c.args.task.now) (names_in c.args.run.now)
    (waiting_binds c.args.run.now.env) (seen c.args.run.now) c.args.run.now.out.items c.args.fuel c.args.depth c.args.at
    (invocation c.args.call.now) (aim c.args.target) (levels c.args.frames.now.items) c.in-Err.stop c.requires.begun
    c.in-Err.ensures.entered))

pub returns-then-depth-ge1000 : goal.returns-then-depth-ge1000
returns-then-depth-ge1000 c =
    subst (λ (out : List ℕ). ComesTo (whole_of c.args.task.now) (Some (Trap 6 c.args.at)) out)
    (sym (ap (λ y. y.items) c.enter.ensures.out))
    (c.calls_come_back.ensures.call_too_deep (code_in c.args.task.now) (whole_of c.args.task.now)
    (names_in c.args.run.now) (waiting_binds c.args.run.now.env) (seen c.args.run.now) c.args.run.now.out.items c.args.fuel
    c.args.depth c.args.at (invocation c.args.call.now) (aim c.args.target) (levels c.args.frames.now.items)
    c.in-Ok.ensures.entered.0 c.requires.begun c.in-Ok.ensures.entered.1
    (le-ltb c.args.depth 1000 c.if-depth-ge1000.true))

pub returns-then-fuel-eq0 : goal.returns-then-fuel-eq0
returns-then-fuel-eq0 c =
    subst (λ (out : List ℕ). ComesTo (whole_of c.args.task.now) (Some (Fuel c.args.at)) out)
    (sym (ap (λ y. y.items) c.enter.ensures.out))
    (c.calls_come_back.ensures.call_wants_fuel (code_in c.args.task.now) (whole_of c.args.task.now)
    (names_in c.args.run.now) (waiting_binds c.args.run.now.env) (seen c.args.run.now) c.args.run.now.out.items
    c.args.depth c.args.at (invocation c.args.call.now) (aim c.args.target) (levels c.args.frames.now.items)
    c.in-Ok.ensures.entered.0
    (subst (λ (n : ℕ). CallBegun (code_in c.args.task.now) (whole_of c.args.task.now) (names_in c.args.run.now)
    (waiting_binds c.args.run.now.env) (seen c.args.run.now) c.args.run.now.out.items n c.args.depth c.args.at
    (invocation c.args.call.now) (aim c.args.target) (levels c.args.frames.now.items)) c.if-fuel-eq0.true c.requires.begun)
    c.in-Ok.ensures.entered.1 (lt-ltb c.args.depth 1000 (omega arith)))

pub returns-in-Ok-push : goal.returns-in-Ok-push
returns-in-Ok-push c =
    let same : c.args.fuel ≡ suc (c.args.fuel - 1) = omega arith in
    let k : IsEnteredCall c.args.task.now (invocation c.args.call.now) c.args.run.now c.enter.new.run
    c.in-Ok.ensures.entered.0 c.in-Ok.entered = record {
      enters = c.in-Ok.ensures.entered.1;
      has = c.in-Ok.ensures.entered.2;
      names = c.in-Ok.ensures.waiting_shapes;
      outer = c.in-Ok.ensures.outer;
      awaits = c.in-Ok.ensures.awaits;
      out = c.enter.ensures.out;
    } in
    let begun = subst (λ (n : ℕ). CallBegun (code_in c.args.task.now) (whole_of c.args.task.now)
    (names_in c.args.run.now) (waiting_binds c.args.run.now.env) (seen c.args.run.now) c.args.run.now.out.items n
    c.args.depth c.args.at (invocation c.args.call.now) (aim c.args.target) (levels c.args.frames.now.items)) same
    c.requires.begun in
    let cost : ℕ → ℕ =
    λ (n : ℕ). suc (suc (costs (code_in c.args.task.now) n).call)
    + levels_cost (code_in c.args.task.now) (levels c.args.frames.now.items) in
    let top : List Level → List Level = λ (ls : List Level). InBlock (c.args.fuel - 1) (c.args.depth + 1)
    (definition c.in-Ok.entered.method.now) (definition c.in-Ok.entered.method.now).body
    (length (names_in c.enter.new.run)) ∷ ls in
    let waits : Level = InCall c.args.at (invocation c.args.call.now) c.in-Ok.entered.left (aim c.args.target) in
    leads_when_ok (whole_of c.args.task.now) c.enter.new.run.out.items
    (λ (ls : List Level). IsPast c.args.task.now c.enter.new.run ls (cost c.args.fuel))
    c.open.result (levels c.open.new.frames.items) (top (levels c.push.new.frames.items)) c.open.ensures.opened
    c.open.ensures.refused
    (subst (λ (ls : List Level). IsPast c.args.task.now c.enter.new.run (top ls) (cost c.args.fuel))
    (sym c.in-Ok-push.ensures.pushed)
    (subst (λ (n : ℕ). IsPast c.args.task.now c.enter.new.run (top (waits ∷ levels c.args.frames.now.items)) (cost n))
    (sym same) (
      call_goes_on c.calls_come_back.ensures c.entered_names_are_known.ensures c.args.task.now
          (invocation c.args.call.now) c.args.run.now c.enter.new.run c.in-Ok.ensures.entered.0 c.in-Ok.entered
          (c.args.fuel - 1) c.args.depth c.args.at (aim c.args.target) (levels c.args.frames.now.items) c.requires.sound
          begun c.requires.judged k (lt-ltb c.args.depth 1000 (omega arith)),
      call_costs_more c.levels_cost_less.ensures c.entered_names_are_known.ensures c.args.task.now
          (invocation c.args.call.now) c.args.run.now c.enter.new.run c.in-Ok.ensures.entered.0 c.in-Ok.entered
          (c.args.fuel - 1) c.args.depth c.args.at (aim c.args.target) (levels c.args.frames.now.items) c.requires.sound
          c.requires.judged k,
    )))
