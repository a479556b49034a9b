use Rattle.std.proofs.Common.{arith, sym, refl, ◌≤◌, length}
use Rattle.ae_scope.proofs.ChangeLemmas.{undone, hold_past}
use Rattle.ae_scope.proofs.scope.Scope.undo.Goals as goal

pub returns-then-change-len-clause-locals : goal.returns-then-change-len-clause-locals
returns-then-change-len-clause-locals c =
    let s = c.args.self.now in
    undone s.trail.items c.pop.new.self.items c.set_held.new.self.trail.items c.in-Some.change s.locals.items
    c.set_held.new.self.locals.items c.in-Some.ensures.items c.set_held.ensures.trail c.set_held.ensures.locals

pub returns-else-change-len-clause-locals : goal.returns-else-change-len-clause-locals
returns-else-change-len-clause-locals c =
    let s = c.args.self.now in
    let l : length s.locals.items ≤ c.in-Some.change.slot = omega (arith, s.locals.ok.0) in
    undone s.trail.items c.pop.new.self.items c.pop.new.self.items c.in-Some.change s.locals.items s.locals.items
    c.in-Some.ensures.items refl (sym (hold_past s.locals.items c.in-Some.change.slot c.in-Some.change.held l))
