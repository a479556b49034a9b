use Rattle.std.proofs.Common.{◌≡◌, Some, option_map, ap, sym, ◌∙◌, subst, slice_get, rules, w64, to_z, of_z}
use Rattle.ae_semantics.specs.Values.{Owned, Array, put_at}
use Rattle.ae_semantics.specs.Places.{with}
use Rattle.ae_values.specs.declared.env.Bound.TheVariants as bound
use Rattle.ae_values.specs.Binding.{with_members}
use Rattle.ae_values.specs.Inside.{item_changed, item_set_in_member}
use Rattle.std.specs.Prelude.{slice_set}
use Rattle.std.proofs.lemmas.Option.{same_Some}
use Rattle.ae_values.specs.Environments.{bound_under}
use Rattle.ae_values.specs.Shapes.{name_shape}
use Rattle.ae_values.proofs.BindLemmas.{changed_there, changed_nothing}
use Rattle.ae_values.proofs.ChangeLemmas.{member_as_meant, item_alike}
use Rattle.ae_values.proofs.BindLemmas.{put_back, nothing_put}
use Rattle.ae_values.proofs.ShapeLemmas.{shapes_put, shapes_same, members_shape}
use Rattle.ae_values.proofs.env.Env.set_member_item.Goals as goal

pub returns-in-Some-clause-bound : goal.returns-in-Some-clause-bound
returns-in-Some-clause-bound c = λ cells r.
    let e = c.args.self.now in
    let same : to_z w64 (of_z w64 c.args.n) ≡ c.args.n = search rules in
    let change = with_members (item_set_in_member c.args.number c.args.fields.now c.args.at c.args.n) in
    subst (λ x. bound_under c.replace-in-Some.new.self ≡ with x (option_map change (bound_under e x)) (bound_under e))
    (c.holder-name.ensures cells r)
    (changed_there c.holder-name.result (bound_under e) (bound_under c.replace.new.self) (bound_under c.replace-in-Some.new.self)
    c.in-Some.bound (bound.Cell 0) c.member_item_set-bound.result change (sym c.replace.ensures.was ∙ c.in-Some.is)
    c.replace.ensures.bound c.replace-in-Some.ensures.bound (c.member_item_set-bound.ensures.changed
    ∙ ap (λ m. with_members (item_set_in_member c.args.number c.args.fields.now c.args.at m) c.in-Some.bound) same))

pub returns-in-None-clause-bound : goal.returns-in-None-clause-bound
returns-in-None-clause-bound c = λ cells r.
    let e = c.args.self.now in
    let change = with_members (item_set_in_member c.args.number c.args.fields.now c.args.at c.args.n) in
    subst (λ x. bound_under c.replace.new.self ≡ with x (option_map change (bound_under e x)) (bound_under e))
    (c.holder-name.ensures cells r)
    (changed_nothing c.holder-name.result (bound_under e) (bound_under c.replace.new.self) (bound.Cell 0) change
    (sym c.replace.ensures.was ∙ c.in-None.is) c.replace.ensures.bound)

pub returns-in-Some-clause-meant : goal.returns-in-Some-clause-meant
returns-in-Some-clause-meant c = λ cells r st t ns s seen at inside.
    let change = item_changed c.args.fields.now c.args.at c.args.n in
    let new = Owned (Array (slice_set ns c.args.at c.args.n)) in
    member_as_meant cells r c.args.self.now c.replace-in-Some.new.self c.args.group c.args.number c.args.fields.now
    new change s (λ st' t' seen' at'.
    let stores = same_Some st' st (sym seen' ∙ seen) in
    let trees = same_Some t' t (sym at' ∙ ap (λ k. slice_get k c.args.number) stores ∙ at) in
    ap (λ k. change (Owned k)) trees
    ∙ item_alike c.args.fields.now c.args.at c.args.n (Owned t) ns inside
    ∙ ap (λ k. put_at c.args.fields.now new (Owned k)) (sym trees))
    (returns-in-Some-clause-bound c cells r)

pub returns-in-None-clause-meant : goal.returns-in-None-clause-meant
returns-in-None-clause-meant c = λ cells r st t ns s seen at inside.
    let change = item_changed c.args.fields.now c.args.at c.args.n in
    let new = Owned (Array (slice_set ns c.args.at c.args.n)) in
    member_as_meant cells r c.args.self.now c.replace.new.self c.args.group c.args.number c.args.fields.now
    new change s (λ st' t' seen' at'.
    let stores = same_Some st' st (sym seen' ∙ seen) in
    let trees = same_Some t' t (sym at' ∙ ap (λ k. slice_get k c.args.number) stores ∙ at) in
    ap (λ k. change (Owned k)) trees
    ∙ item_alike c.args.fields.now c.args.at c.args.n (Owned t) ns inside
    ∙ ap (λ k. put_at c.args.fields.now new (Owned k)) (sym trees))
    (returns-in-None-clause-bound c cells r)

pub returns-in-Some-clause-shapes : goal.returns-in-Some-clause-shapes
returns-in-Some-clause-shapes c =
    let e = c.args.self.now in
    let x = c.holder-name.result in
    let there : bound_under e x ≡ Some c.in-Some.bound = sym c.replace.ensures.was ∙ c.in-Some.is in
    shapes_put e c.replace-in-Some.new.self x c.member_item_set-bound.result c.in-Some.bound
    (c.replace-in-Some.ensures.stays.heads_stay ∙ c.replace.ensures.stays.heads_stay) there
    (put_back x (bound_under e) (bound_under c.replace.new.self) (bound_under c.replace-in-Some.new.self) c.in-Some.bound
    (bound.Cell 0) c.member_item_set-bound.result there c.replace.ensures.bound c.replace-in-Some.ensures.bound)
    (λ q.
    let same : to_z w64 (of_z w64 c.args.n) ≡ c.args.n = search rules in
    ap (name_shape q) (c.member_item_set-bound.ensures.changed
    ∙ ap (λ m. with_members (item_set_in_member c.args.number c.args.fields.now c.args.at m) c.in-Some.bound) same)
    ∙ members_shape (item_set_in_member c.args.number c.args.fields.now c.args.at c.args.n) q c.in-Some.bound)

pub returns-in-None-clause-shapes : goal.returns-in-None-clause-shapes
returns-in-None-clause-shapes c = shapes_same c.args.self.now c.replace.new.self c.replace.ensures.stays.heads_stay
    (nothing_put c.holder-name.result (bound_under c.args.self.now) (bound_under c.replace.new.self) (bound.Cell 0)
    (sym c.replace.ensures.was ∙ c.in-None.is) c.replace.ensures.bound)
