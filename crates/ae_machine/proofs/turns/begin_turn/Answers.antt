use Rattle.std.proofs.Common.{◌≡◌, sym, subst, arith, ℕ, suc, ◌+◌, ◌-◌, ◌∷◌, List, length}
use Rattle.ae_tree.specs.Shown.{braced, definition, expression}
use Rattle.ae_values.specs.Environments.{waiting_binds}
use Rattle.ae_running.specs.Seen.{seen}
use Rattle.ae_levels.specs.Levels.{InBlock, InLoop, Level, level_cost, levels_cost}
use Rattle.ae_machine.specs.Frames.{levels}
use Rattle.ae_machine.specs.Tasks.{IsAt, IsPast, code_in, names_in, whole_of}
use Rattle.ae_machine.proofs.TaskLemmas.{leads_when_ok}
use Rattle.ae_machine.proofs.turns.begin_turn.Goals as goal

pub returns-then-turns-eq0 : goal.returns-then-turns-eq0
returns-then-turns-eq0 c =
    c.loops_turn.ensures.loop_wants_fuel (code_in c.args.task.now) (whole_of c.args.task.now) (names_in c.args.run.now)
    (waiting_binds c.args.run.now.env) (seen c.args.run.now) c.args.run.now.out.items c.args.turns.depth
    (definition c.args.turns.method.now) c.args.turns.at (expression c.args.turns.test.now)
    (braced c.args.turns.body.now).lines (levels c.args.frames.now.items)
    (subst (λ (n : ℕ). IsAt c.args.task.now c.args.run.now (InLoop n c.args.turns.depth
    (definition c.args.turns.method.now) c.args.turns.at (expression c.args.turns.test.now)
    (braced c.args.turns.body.now).lines ∷ levels c.args.frames.now.items)) c.if-turns-eq0.true c.requires.at)
    c.requires.holds

pub returns-in-Ok : goal.returns-in-Ok
returns-in-Ok c =
    let p = code_in c.args.task.now in
    let same : c.args.turns.fuel ≡ suc (c.args.turns.fuel - 1) = omega arith in
    let loop : ℕ → Level = λ (n : ℕ). InLoop n c.args.turns.depth (definition c.args.turns.method.now) c.args.turns.at
    (expression c.args.turns.test.now) (braced c.args.turns.body.now).lines in
    let so : ℕ → List Level → Type 0 = λ (n : ℕ) (ls : List Level). IsPast c.args.task.now c.args.run.now ls
    (level_cost p (loop n) + levels_cost p (levels c.args.frames.now.items)) in
    let top : List Level → List Level = λ (ls : List Level). InBlock (c.args.turns.fuel - 1) c.args.turns.depth
    (definition c.args.turns.method.now) (braced c.args.turns.body.now).lines (length (names_in c.args.run.now)) ∷ ls in
    leads_when_ok (whole_of c.args.task.now) c.args.run.now.out.items (so c.args.turns.fuel) c.open.result
    (levels c.open.new.frames.items) (top (levels c.push.new.frames.items)) c.open.ensures.opened
    c.open.ensures.refused
    (subst (λ (ls : List Level). so c.args.turns.fuel (top ls)) (sym c.in-Ok.ensures.pushed)
    (subst (λ (n : ℕ). so n (top (loop (c.args.turns.fuel - 1) ∷ levels c.args.frames.now.items))) (sym same) (
      c.loops_turn.ensures.loop_goes_on p (whole_of c.args.task.now) (names_in c.args.run.now)
          (waiting_binds c.args.run.now.env) (seen c.args.run.now) c.args.run.now.out.items (c.args.turns.fuel - 1)
          c.args.turns.depth (definition c.args.turns.method.now) c.args.turns.at (expression c.args.turns.test.now)
          (braced c.args.turns.body.now).lines (levels c.args.frames.now.items)
          (subst (λ (n : ℕ). IsAt c.args.task.now c.args.run.now (loop n ∷ levels c.args.frames.now.items)) same
          c.requires.at)
          c.requires.holds,
      omega (arith, c.levels_cost_less.ensures.turn_costs p (c.args.turns.fuel - 1) (braced c.args.turns.body.now).lines),
    )))
