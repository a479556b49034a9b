use Rattle.std.proofs.Common.{◌≡◌, None, Some, sym, ◌∙◌, subst, refl}
use Rattle.std.proofs.lemmas.Option.{none-some, same_Some}
use Rattle.ae_semantics.specs.Values as meant
use Rattle.ae_semantics.specs.Values.{put_at}
use Rattle.ae_values.specs.declared.env.Bound.TheVariants as bound
use Rattle.ae_values.specs.Binding.{IsWritten}
use Rattle.ae_values.specs.Environments.{bound_under}
use Rattle.ae_stores.proofs.from_values.BindLemmas.{put_back, nothing_put}
use Rattle.ae_stores.proofs.from_values.ChangeLemmas.{local_as_meant}
use Rattle.ae_stores.proofs.from_values.ShapeLemmas.{shapes_put, shapes_same, changed_shape}
use Rattle.ae_stores.proofs.EmptyLemmas.{IsNulled, nulled_is_seen, nothing_is_nulled, written_is_nulled}
use Rattle.ae_stores.proofs.EmptyLemmas.{null_is_shown, stands_in_bound, nothing_stands}
use Rattle.ae_stores.proofs.emptying.take_in_local.Goals as goal

pub returns-in-Some-clause-meant : goal.returns-in-Some-clause-meant
returns-in-Some-clause-meant c = λ cells r s.
    let f = bound_under c.args.env.now in
    let there : f c.args.name ≡ Some c.in-Some.bound = sym c.replace.ensures.was ∙ c.in-Some.is in
    local_as_meant cells r c.args.env.now c.replace-in-Some.new.self c.args.name c.args.fields.now meant.Null
    (put_at c.args.fields.now meant.Null) s (λ b at. refl) (λ b at. (
      c.emptied-bound.result.0,
      subst (λ k. IsWritten c.args.fields.now meant.Null k c.emptied-bound.result.0)
          (same_Some c.in-Some.bound b (sym there ∙ at)) c.emptied-bound.ensures.written,
      put_back c.args.name f (bound_under c.replace.new.self) (bound_under c.replace-in-Some.new.self) c.in-Some.bound
          (bound.Cell 0) c.emptied-bound.result.0 there c.replace.ensures.bound c.replace-in-Some.ensures.bound,
    ))

pub returns-in-Some-clause-value : goal.returns-in-Some-clause-value
returns-in-Some-clause-value c = λ form v at.
    c.emptied-bound.ensures.value form v
    (same_Some c.in-Some.bound (bound.Value form v) (sym (sym c.replace.ensures.was ∙ c.in-Some.is) ∙ at))

pub returns-in-Some-clause-shapes : goal.returns-in-Some-clause-shapes
returns-in-Some-clause-shapes c =
    let e = c.args.env.now in
    let there : bound_under e c.args.name ≡ Some c.in-Some.bound = sym c.replace.ensures.was ∙ c.in-Some.is in
    shapes_put e c.replace-in-Some.new.self c.args.name c.emptied-bound.result.0 c.in-Some.bound
    (c.replace-in-Some.ensures.stays.heads_stay ∙ c.replace.ensures.stays.heads_stay) there
    (put_back c.args.name (bound_under e) (bound_under c.replace.new.self) (bound_under c.replace-in-Some.new.self)
    c.in-Some.bound (bound.Cell 0) c.emptied-bound.result.0 there c.replace.ensures.bound c.replace-in-Some.ensures.bound)
    (changed_shape (put_at c.args.fields.now meant.Null) c.in-Some.bound
    c.emptied-bound.result.0 c.emptied-bound.ensures.written)

pub returns-in-None-clause-meant : goal.returns-in-None-clause-meant
returns-in-None-clause-meant c = λ cells r s.
    local_as_meant cells r c.args.env.now c.replace.new.self c.args.name c.args.fields.now meant.Null
    (put_at c.args.fields.now meant.Null) s (λ b at. refl)
    (λ b at. absurd (none-some b (sym (sym c.replace.ensures.was ∙ c.in-None.is) ∙ at)))

pub returns-in-None-clause-value : goal.returns-in-None-clause-value
returns-in-None-clause-value c = λ form v at.
    absurd (none-some (bound.Value form v) (sym (sym c.replace.ensures.was ∙ c.in-None.is) ∙ at))

pub returns-in-None-clause-shapes : goal.returns-in-None-clause-shapes
returns-in-None-clause-shapes c = shapes_same c.args.env.now c.replace.new.self c.replace.ensures.stays.heads_stay
    (nothing_put c.args.name (bound_under c.args.env.now) (bound_under c.replace.new.self) (bound.Cell 0)
    (sym c.replace.ensures.was ∙ c.in-None.is) c.replace.ensures.bound)

pub returns-in-Some-clause-nulled : goal.returns-in-Some-clause-nulled
returns-in-Some-clause-nulled c = λ cells r.
    let f = bound_under c.args.env.now in
    let there : f c.args.name ≡ Some c.in-Some.bound = sym c.replace.ensures.was ∙ c.in-Some.is in
    nulled_is_seen cells r c.args.env.now c.replace-in-Some.new.self c.args.name c.args.fields.now
    (Some c.emptied-bound.result.0)
    (put_back c.args.name f (bound_under c.replace.new.self) (bound_under c.replace-in-Some.new.self) c.in-Some.bound
    (bound.Cell 0) c.emptied-bound.result.0 there c.replace.ensures.bound c.replace-in-Some.ensures.bound)
    (subst (λ o. IsNulled cells c.args.fields.now o (Some c.emptied-bound.result.0)) (sym there)
    (written_is_nulled cells c.args.fields.now c.in-Some.bound c.emptied-bound.result.0 c.emptied-bound.ensures.written))

pub returns-in-Some-clause-standing : goal.returns-in-Some-clause-standing
returns-in-Some-clause-standing c = λ cells r.
    c.emptied-bound.ensures.standing
    ∙ stands_in_bound c.args.fields.now (bound_under c.args.env.now c.args.name) c.in-Some.bound
    (sym c.replace.ensures.was ∙ c.in-Some.is)

pub returns-in-None-clause-nulled : goal.returns-in-None-clause-nulled
returns-in-None-clause-nulled c = λ cells r.
    let none : bound_under c.args.env.now c.args.name ≡ None = sym c.replace.ensures.was ∙ c.in-None.is in
    nothing_is_nulled cells r c.args.env.now c.replace.new.self c.args.name c.args.fields.now
    (nothing_put c.args.name (bound_under c.args.env.now) (bound_under c.replace.new.self) (bound.Cell 0)
    none c.replace.ensures.bound) none

pub returns-in-None-clause-standing : goal.returns-in-None-clause-standing
returns-in-None-clause-standing c = λ cells r.
    null_is_shown
    ∙ nothing_stands c.args.fields.now (bound_under c.args.env.now c.args.name) (sym c.replace.ensures.was ∙ c.in-None.is)
