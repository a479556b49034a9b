use Rattle.std.proofs.Common.{◌≡◌, Some, ap, sym, ◌∙◌, subst, refl}
use Rattle.ae_semantics.specs.Values.{put_at}
use Rattle.std.proofs.lemmas.Option.{none-some, same_Some}
use Rattle.ae_values.specs.declared.env.Bound.TheVariants as bound
use Rattle.ae_values.specs.Binding.{IsWritten}
use Rattle.ae_values.specs.Shown.{shown}
use Rattle.ae_values.specs.Environments.{bound_under}
use Rattle.ae_values.proofs.BindLemmas.{put_back, nothing_put}
use Rattle.ae_values.proofs.ChangeLemmas.{local_as_meant}
use Rattle.ae_values.proofs.ShapeLemmas.{shapes_put, shapes_same, changed_shape}
use Rattle.ae_values.proofs.env.Env.write.Goals as goal

pub written-bound-requires-clause-room : goal.written-bound-requires-clause-room
written-bound-requires-clause-room c = λ form v is.
    c.requires.room form v (sym c.replace.ensures.was ∙ c.in-Some.is ∙ ap Some is)

pub returns-in-Some-clause-written : goal.returns-in-Some-clause-written
returns-in-Some-clause-written c = λ b at.
    let f = bound_under c.args.self.now in
    let there : f c.args.name ≡ Some c.in-Some.bound = sym c.replace.ensures.was ∙ c.in-Some.is in (
      c.written-bound.result,
      subst (λ k. IsWritten c.args.fields.now (shown c.args.new) k c.written-bound.result)
          (same_Some c.in-Some.bound b (sym there ∙ at)) c.written-bound.ensures.written,
      put_back c.args.name f (bound_under c.replace.new.self) (bound_under c.replace-in-Some.new.self) c.in-Some.bound
          (bound.Cell 0)
          c.written-bound.result there c.replace.ensures.bound c.replace-in-Some.ensures.bound,
    )

pub returns-in-Some-clause-absent : goal.returns-in-Some-clause-absent
returns-in-Some-clause-absent c = λ none.
    absurd (none-some c.in-Some.bound (sym none ∙ sym c.replace.ensures.was ∙ c.in-Some.is))

pub returns-in-None-clause-written : goal.returns-in-None-clause-written
returns-in-None-clause-written c = λ b at.
    absurd (none-some b (sym (sym c.replace.ensures.was ∙ c.in-None.is) ∙ at))

pub returns-in-None-clause-absent : goal.returns-in-None-clause-absent
returns-in-None-clause-absent c = λ none.
    nothing_put c.args.name (bound_under c.args.self.now) (bound_under c.replace.new.self) (bound.Cell 0) none
    c.replace.ensures.bound

pub returns-in-Some-clause-meant : goal.returns-in-Some-clause-meant
returns-in-Some-clause-meant c = λ cells r s.
    local_as_meant cells r c.args.self.now c.replace-in-Some.new.self c.args.name c.args.fields.now (shown c.args.new)
    (put_at c.args.fields.now (shown c.args.new)) s (λ b at. refl) (returns-in-Some-clause-written c)

pub returns-in-None-clause-meant : goal.returns-in-None-clause-meant
returns-in-None-clause-meant c = λ cells r s.
    local_as_meant cells r c.args.self.now c.replace.new.self c.args.name c.args.fields.now (shown c.args.new)
    (put_at c.args.fields.now (shown c.args.new)) s (λ b at. refl) (returns-in-None-clause-written c)

pub returns-in-Some-clause-shapes : goal.returns-in-Some-clause-shapes
returns-in-Some-clause-shapes c =
    let e = c.args.self.now in
    let there : bound_under e c.args.name ≡ Some c.in-Some.bound = sym c.replace.ensures.was ∙ c.in-Some.is in
    shapes_put e c.replace-in-Some.new.self c.args.name c.written-bound.result c.in-Some.bound
    (c.replace-in-Some.ensures.stays.heads_stay ∙ c.replace.ensures.stays.heads_stay) there
    (put_back c.args.name (bound_under e) (bound_under c.replace.new.self) (bound_under c.replace-in-Some.new.self) c.in-Some.bound
    (bound.Cell 0) c.written-bound.result there c.replace.ensures.bound c.replace-in-Some.ensures.bound)
    (changed_shape (put_at c.args.fields.now (shown c.args.new)) c.in-Some.bound
    c.written-bound.result c.written-bound.ensures.written)

pub returns-in-None-clause-shapes : goal.returns-in-None-clause-shapes
returns-in-None-clause-shapes c = shapes_same c.args.self.now c.replace.new.self c.replace.ensures.stays.heads_stay
    (nothing_put c.args.name (bound_under c.args.self.now) (bound_under c.replace.new.self) (bound.Cell 0)
    (sym c.replace.ensures.was ∙ c.in-None.is) c.replace.ensures.bound)
