use Rattle.std.proofs.Common.{List, sym, subst}
use Rattle.ae_scope.specs.declared.slot.Slot.{Slot}
use Rattle.ae_scope.specs.Slots.{Tied, names}
use Rattle.ae_scope.proofs.ChangeLemmas.{set_hold, tied_hold}
use Rattle.ae_scope.proofs.scope.Scope.set_held.Goals as goal

pub invariant_of-self : goal.invariant_of-self
invariant_of-self c =
    let s = c.args.self.now in
    let P : List Slot → Type 0 = λ xs. Tied s.at.items (names xs) in
    record {
      tied = subst P (sym (set_hold s.locals.items c.args.at c.args.held c.index_mut.result.now c.requires
          c.index_mut.ensures.value)) (tied_hold s.at.items s.locals.items c.args.at c.args.held s.tied);
      listed = s.listed;
      rising = s.rising;
      sized = s.sized;
    }

pub returns-clause-locals : goal.returns-clause-locals
returns-clause-locals c =
    set_hold c.args.self.now.locals.items c.args.at c.args.held c.index_mut.result.now c.requires
    c.index_mut.ensures.value
