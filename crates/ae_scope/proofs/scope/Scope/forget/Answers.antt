use Rattle.std.proofs.Common.{arith, ◌<◌, length, sym, ◌∙◌}
use Rattle.std.proofs.lemmas.List.{length-set}
use Rattle.ae_scope.proofs.ChangeLemmas.{forgotten, last_in_table}
use Rattle.ae_scope.proofs.scope.Scope.forget.Goals as goal

pub index_mut-requires : goal.index_mut-requires
index_mut-requires c =
    let s = c.args.self.now in
    let l : c.in-Some.slot.name < length s.at.items =
    last_in_table s.at.items s.locals.items _ c.in-Some.slot c.in-Some.ensures.items s.tied in
    omega (arith, s.at.ok.0)

pub invariant_of-self : goal.invariant_of-self
invariant_of-self c =
    let s = c.args.self.now in
    record {
      tied = forgotten s.at.items s.locals.items _ c.in-Some.slot c.in-Some.ensures.items s.tied;
      listed = s.listed;
      rising = s.rising;
      sized = s.sized ∙ sym (length-set s.at.items _ _);
    }
