use Rattle.std.proofs.Common.{ℕ, nat_eq, List, ◌++◌, map, ap, ◌∙◌}
use Rattle.std.specs.HashSet.{contains}
use Rattle.ae_rules.specs.declared.uses.Use.{Use}
use Rattle.ae_rules.specs.Lookups.{has_name}
use Rattle.ae_uses.specs.Joined.{local_as, group_as}
use Rattle.ae_uses.proofs.FootprintLemmas.{joined_names_are_a_footprint}
use Rattle.ae_uses.proofs.used.Used.footprint.Goals as goal

pub returns : goal.returns
returns c =
    let w = contains nat_eq c.in_ok-written.written in
    let s = contains nat_eq c.in_ok-whole.whole in
    joined_names_are_a_footprint c.args.self.now w s c.in_ok-locals.locals.items c.in_ok-groups.groups.items
    c.put_groups.new.uses
    (c.in_ok-put_groups.ensures
    ∙ ap (λ (l : List ℕ). c.put_locals.new.uses ++ map (group_as s) l) c.deref-8.ensures.value
    ∙ ap (λ (us : List Use). us ++ map (group_as s) c.in_ok-groups.groups.items)
    (c.in_ok-put_locals.ensures ∙ ap (λ (l : List ℕ). c.new-uses.result ++ map (local_as w) l) c.deref-7.ensures.value
    ∙ ap (λ (us : List Use). us ++ map (local_as w) c.in_ok-locals.locals.items) c.new-uses.ensures))
    (rw c.deref-3.ensures.value at (rw c.deref-4.ensures.value at c.in_ok-locals.ensures))
    (rw c.deref-5.ensures.value at (rw c.deref-6.ensures.value at c.in_ok-groups.ensures))
    (λ x. c.in_ok-written.ensures x ∙ ap (λ (l : List ℕ). has_name l x) c.deref.ensures.value)
    (λ x. c.in_ok-whole.ensures x ∙ ap (λ (l : List ℕ). has_name l x) c.deref-2.ensures.value)
