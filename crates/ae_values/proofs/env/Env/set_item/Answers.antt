use Rattle.std.proofs.Common.{◌≡◌, Some, ap, sym, ◌∙◌, subst, rules, w64, to_z, of_z}
use Rattle.std.proofs.lemmas.Option.{none-some, same_Some}
use Rattle.ae_semantics.specs.Values.{Owned, Array, put_at}
use Rattle.std.specs.Prelude.{slice_set}
use Rattle.ae_values.specs.declared.env.Bound.TheVariants as bound
use Rattle.ae_values.specs.Binding.{IsChanged}
use Rattle.ae_values.specs.Inside.{item_changed}
use Rattle.ae_values.specs.Environments.{bound_under}
use Rattle.ae_values.proofs.BindLemmas.{put_back, nothing_put}
use Rattle.ae_values.proofs.ChangeLemmas.{local_as_meant, item_alike}
use Rattle.ae_values.proofs.ShapeLemmas.{shapes_put, shapes_same, changed_shape}
use Rattle.ae_values.proofs.env.Env.set_item.Goals as goal

pub returns-in-Some-clause-changed : goal.returns-in-Some-clause-changed
returns-in-Some-clause-changed c = λ b at.
    let f = bound_under c.args.self.now in
    let same : to_z w64 (of_z w64 c.args.n) ≡ c.args.n = search rules in
    let there : f c.args.name ≡ Some c.in-Some.bound = sym c.replace.ensures.was ∙ c.in-Some.is in (
      c.item_set-bound.result,
      subst (λ k. IsChanged (item_changed c.args.fields.now c.args.at c.args.n) k c.item_set-bound.result)
          (same_Some c.in-Some.bound b (sym there ∙ at))
          (subst (λ m. IsChanged (item_changed c.args.fields.now c.args.at m) c.in-Some.bound c.item_set-bound.result)
          same c.item_set-bound.ensures.changed),
      put_back c.args.name f (bound_under c.replace.new.self) (bound_under c.replace-in-Some.new.self) c.in-Some.bound
          (bound.Cell 0)
          c.item_set-bound.result there c.replace.ensures.bound c.replace-in-Some.ensures.bound,
    )

pub returns-in-Some-clause-meant : goal.returns-in-Some-clause-meant
returns-in-Some-clause-meant c = λ cells r b ns s at inside.
    local_as_meant cells r c.args.self.now c.replace-in-Some.new.self c.args.name c.args.fields.now
    (Owned (Array (slice_set ns c.args.at c.args.n))) (item_changed c.args.fields.now c.args.at c.args.n) s
    (λ d here. ap (λ k. item_changed c.args.fields.now c.args.at c.args.n k.value) (same_Some d b (sym here ∙ at))
    ∙ item_alike c.args.fields.now c.args.at c.args.n b.value ns inside
    ∙ ap (λ k. put_at c.args.fields.now (Owned (Array (slice_set ns c.args.at c.args.n))) k.value)
    (sym (same_Some d b (sym here ∙ at))))
    (returns-in-Some-clause-changed c)

pub returns-in-Some-clause-absent : goal.returns-in-Some-clause-absent
returns-in-Some-clause-absent c = λ none.
    absurd (none-some c.in-Some.bound (sym none ∙ sym c.replace.ensures.was ∙ c.in-Some.is))

pub returns-in-None-clause-changed : goal.returns-in-None-clause-changed
returns-in-None-clause-changed c = λ b at.
    absurd (none-some b (sym (sym c.replace.ensures.was ∙ c.in-None.is) ∙ at))

pub returns-in-None-clause-meant : goal.returns-in-None-clause-meant
returns-in-None-clause-meant c = λ cells r b ns s at inside.
    local_as_meant cells r c.args.self.now c.replace.new.self c.args.name c.args.fields.now
    (Owned (Array (slice_set ns c.args.at c.args.n))) (item_changed c.args.fields.now c.args.at c.args.n) s
    (λ d here. ap (λ k. item_changed c.args.fields.now c.args.at c.args.n k.value) (same_Some d b (sym here ∙ at))
    ∙ item_alike c.args.fields.now c.args.at c.args.n b.value ns inside
    ∙ ap (λ k. put_at c.args.fields.now (Owned (Array (slice_set ns c.args.at c.args.n))) k.value)
    (sym (same_Some d b (sym here ∙ at))))
    (returns-in-None-clause-changed c)

pub returns-in-None-clause-absent : goal.returns-in-None-clause-absent
returns-in-None-clause-absent c = λ none.
    nothing_put c.args.name (bound_under c.args.self.now) (bound_under c.replace.new.self) (bound.Cell 0) none
    c.replace.ensures.bound

pub returns-in-Some-clause-shapes : goal.returns-in-Some-clause-shapes
returns-in-Some-clause-shapes c =
    let e = c.args.self.now in
    let same : to_z w64 (of_z w64 c.args.n) ≡ c.args.n = search rules in
    let there : bound_under e c.args.name ≡ Some c.in-Some.bound = sym c.replace.ensures.was ∙ c.in-Some.is in
    shapes_put e c.replace-in-Some.new.self c.args.name c.item_set-bound.result c.in-Some.bound
    (c.replace-in-Some.ensures.stays.heads_stay ∙ c.replace.ensures.stays.heads_stay) there
    (put_back c.args.name (bound_under e) (bound_under c.replace.new.self) (bound_under c.replace-in-Some.new.self) c.in-Some.bound
    (bound.Cell 0) c.item_set-bound.result there c.replace.ensures.bound c.replace-in-Some.ensures.bound)
    (changed_shape (item_changed c.args.fields.now c.args.at c.args.n) c.in-Some.bound c.item_set-bound.result
    (subst (λ m. IsChanged (item_changed c.args.fields.now c.args.at m) c.in-Some.bound c.item_set-bound.result)
    same c.item_set-bound.ensures.changed))

pub returns-in-None-clause-shapes : goal.returns-in-None-clause-shapes
returns-in-None-clause-shapes c = shapes_same c.args.self.now c.replace.new.self c.replace.ensures.stays.heads_stay
    (nothing_put c.args.name (bound_under c.args.self.now) (bound_under c.replace.new.self) (bound.Cell 0)
    (sym c.replace.ensures.was ∙ c.in-None.is) c.replace.ensures.bound)
