use Rattle.std.proofs.Common.{◌<◌, List, sym, ◌∙◌, refl, subst, length}
use Rattle.std.proofs.lemmas.List.{length-set}
use Rattle.ae_scope.specs.declared.slot.Slot.{Slot}
use Rattle.ae_scope.specs.Slots.{Tied, names}
use Rattle.ae_scope.proofs.ChangeLemmas.{tied_declared}
use Rattle.ae_scope.proofs.ContextLemmas.{context_declared}
use Rattle.ae_scope.proofs.GrowLemmas.{grows_declared}
use Rattle.ae_scope.proofs.scope.Scope.add.Goals as goal

pub invariant_of-self : goal.invariant_of-self
invariant_of-self c =
    let s = c.args.self.now in
    record {
      tied = subst (λ (xs : List Slot). Tied s.at.items (names xs)) (sym c.in_err-push.ensures.items) s.tied;
      listed = s.listed;
      rising = s.rising;
      sized = s.sized;
    }

pub invariant_of-self-2 : goal.invariant_of-self-2
invariant_of-self-2 c =
    let s = c.args.self.now in
    let w : c.args.name < length s.at.items = c.requires.within in
    record {
      tied = tied_declared s.at.items s.locals.items c.push.new.self.items c.args.name c.len-at.result _ s.tied
          c.requires.new c.in_ok-push.ensures.items refl (c.len-at.ensures ∙ s.locals.ok.0) w;
      listed = s.listed;
      rising = s.rising;
      sized = s.sized ∙ sym (length-set s.at.items c.args.name _);
    }

pub returns : goal.returns
returns c =
    let s = c.args.self.now in
    let d = context_declared s c.args.name c.args.form c.args.stays c.held_of-held.result s.locals.items
    c.push.new.self.items s.groups.perms.items c.requires.new refl c.held_of-held.ensures c.in_ok-push.ensures.items
    refl in
    record {
      context = d.1;
      grows = grows_declared s _ _ d.0 refl refl refl (length-set s.at.items c.args.name _);
    }
