use Rattle.std.proofs.Common.{ℕ, List, ◌++◌, ap, ◌∙◌}
use Rattle.std.specs.List.{filter}
use Rattle.ae_scope.specs.Scope.{context_of}
use Rattle.ae_uses.specs.Outside.{is_local_outside, is_group_outside}
use Rattle.ae_uses.proofs.OutsideLemmas.{what_is_outside_more}
use Rattle.ae_uses.proofs.used.Used.adds_outside.Goals as goal

pub returns : goal.returns
returns c =
    let d = context_of c.args.scope.now in
    let u = c.args.self.now in
    what_is_outside_more u _ c.args.inside.now d c.args.but
    (c.in_ok-put_locals.ensures
    ∙ ap (λ (l : List ℕ). u.read.items ++ filter (is_local_outside d) l) c.deref.ensures.value)
    (c.in_ok-put_locals-2.ensures
    ∙ ap (λ (l : List ℕ). u.written.items ++ filter (is_local_outside d) l) c.deref-2.ensures.value)
    (c.in_ok-put_groups.ensures
    ∙ ap (λ (l : List ℕ). u.together.items ++ filter (is_group_outside d c.args.but) l) c.deref-3.ensures.value)
    (c.in_ok-put_groups-2.ensures
    ∙ ap (λ (l : List ℕ). u.whole.items ++ filter (is_group_outside d c.args.but) l) c.deref-4.ensures.value)
