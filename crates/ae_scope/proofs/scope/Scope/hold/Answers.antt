use Rattle.std.proofs.Common.{arith, ◌<◌, length, sym, ◌∙◌, ap}
use Rattle.ae_scope.proofs.SlotLemmas.{within, lost}
use Rattle.ae_scope.proofs.ContextLemmas.{context_held, context_not_held}
use Rattle.ae_scope.proofs.GrowLemmas.{grows_held, grows_same}
use Rattle.ae_groups.specs.declared.context.GroupContext.{GroupContext}
use Rattle.ae_scope.proofs.scope.Scope.hold.Goals as goal

pub index-requires : goal.index-requires
index-requires c =
    let s = c.args.self.now in
    let l : c.in-Some.at < length s.locals.items = within s.at.items s.locals.items c.args.name c.in-Some.at s.tied
    (sym c.in-Some.ensures) in
    omega (arith, s.locals.ok.0)

pub set_held-requires : goal.set_held-requires
set_held-requires c =
    let s = c.args.self.now in
    within s.at.items s.locals.items c.args.name c.in-Some.at s.tied (sym c.in-Some.ensures)

pub returns-in_ok-push-in-Some : goal.returns-in_ok-push-in-Some
returns-in_ok-push-in-Some c =
    let s = c.args.self.now in
    let t = c.set_held.new.self in
    record {
      context = context_held s t c.args.name c.in-Some.at c.args.held
          (sym c.in-Some.ensures) c.set_held.ensures.locals (ap (λ (g : GroupContext). g.perms.items) c.set_held.ensures.groups);
      grows = grows_held s t c.in-Some.at c.args.held c.index.result.now
          (within s.at.items s.locals.items c.args.name c.in-Some.at s.tied
          (sym c.in-Some.ensures)) c.index.ensures c.set_held.ensures.locals (c.set_held.ensures.trail
          ∙ c.in_ok-push-in-Some.ensures.items) (ap (λ (g : GroupContext). g.perms.items) c.set_held.ensures.groups)
          c.set_held.ensures.group_trail (ap length c.set_held.ensures.at);
    }

pub returns-in-None : goal.returns-in-None
returns-in-None c =
    let s = c.args.self.now in
    record {
      context = context_not_held s c.args.name c.args.held
          (lost s.at.items s.locals.items c.args.name s.tied (sym c.in-None.ensures));
      grows = grows_same s;
    }
