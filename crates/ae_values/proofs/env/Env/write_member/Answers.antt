use Rattle.std.proofs.Common.{◌≡◌, ℕ, [], None, Some, option_map, refl, ap, sym, ◌∙◌, subst}
use Rattle.ae_semantics.specs.Values.{put_at}
use Rattle.ae_semantics.specs.Places.{CellName, with}
use Rattle.ae_values.specs.declared.env.Bound.TheVariants as bound
use Rattle.ae_values.specs.Binding.{with_members}
use Rattle.ae_values.specs.Inside.{put_in_member}
use Rattle.ae_values.specs.Shown.{shown}
use Rattle.ae_values.specs.Environments.{bound_under}
use Rattle.ae_values.specs.Shapes.{name_shape}
use Rattle.ae_values.proofs.BindLemmas.{changed_there, changed_nothing}
use Rattle.ae_values.proofs.ChangeLemmas.{member_as_meant, members_held}
use Rattle.ae_values.proofs.BindLemmas.{put_back, nothing_put}
use Rattle.ae_values.proofs.ShapeLemmas.{shapes_put, shapes_same, members_shape}
use Rattle.ae_values.proofs.env.Env.write_member.Goals as goal

pub member_written-bound-requires-clause-room : goal.member_written-bound-requires-clause-room
member_written-bound-requires-clause-room c = λ st t seen at.
    let e = c.args.self.now in
    let cells : ℕ → CellName = λ n. record { path = []; group = 0 } in
    c.requires.room cells None st t
    (members_held cells None e c.args.group c.holder-name.result (Some c.in-Some.bound)
    (c.holder-name.ensures cells None)
    (sym c.replace.ensures.was ∙ c.in-Some.is) ∙ seen) at

pub returns-in-Some-clause-bound : goal.returns-in-Some-clause-bound
returns-in-Some-clause-bound c = λ cells r.
    let e = c.args.self.now in
    let change = with_members (put_in_member c.args.number c.args.fields.now (shown c.args.new)) in
    subst (λ x. bound_under c.replace-in-Some.new.self ≡ with x (option_map change (bound_under e x)) (bound_under e))
    (c.holder-name.ensures cells r)
    (changed_there c.holder-name.result (bound_under e) (bound_under c.replace.new.self) (bound_under c.replace-in-Some.new.self)
    c.in-Some.bound (bound.Cell 0) c.member_written-bound.result change (sym c.replace.ensures.was ∙ c.in-Some.is)
    c.replace.ensures.bound c.replace-in-Some.ensures.bound c.member_written-bound.ensures.written)

pub returns-in-None-clause-bound : goal.returns-in-None-clause-bound
returns-in-None-clause-bound c = λ cells r.
    let e = c.args.self.now in
    let change = with_members (put_in_member c.args.number c.args.fields.now (shown c.args.new)) in
    subst (λ x. bound_under c.replace.new.self ≡ with x (option_map change (bound_under e x)) (bound_under e))
    (c.holder-name.ensures cells r)
    (changed_nothing c.holder-name.result (bound_under e) (bound_under c.replace.new.self) (bound.Cell 0) change
    (sym c.replace.ensures.was ∙ c.in-None.is) c.replace.ensures.bound)

pub returns-in-Some-clause-meant : goal.returns-in-Some-clause-meant
returns-in-Some-clause-meant c = λ cells r s.
    member_as_meant cells r c.args.self.now c.replace-in-Some.new.self c.args.group c.args.number c.args.fields.now
    (shown c.args.new) (put_at c.args.fields.now (shown c.args.new)) s (λ st t seen at. refl)
    (returns-in-Some-clause-bound c cells r)

pub returns-in-None-clause-meant : goal.returns-in-None-clause-meant
returns-in-None-clause-meant c = λ cells r s.
    member_as_meant cells r c.args.self.now c.replace.new.self c.args.group c.args.number c.args.fields.now
    (shown c.args.new) (put_at c.args.fields.now (shown c.args.new)) s (λ st t seen at. refl)
    (returns-in-None-clause-bound c cells r)

pub returns-in-Some-clause-shapes : goal.returns-in-Some-clause-shapes
returns-in-Some-clause-shapes c =
    let e = c.args.self.now in
    let x = c.holder-name.result in
    let there : bound_under e x ≡ Some c.in-Some.bound = sym c.replace.ensures.was ∙ c.in-Some.is in
    shapes_put e c.replace-in-Some.new.self x c.member_written-bound.result c.in-Some.bound
    (c.replace-in-Some.ensures.stays.heads_stay ∙ c.replace.ensures.stays.heads_stay) there
    (put_back x (bound_under e) (bound_under c.replace.new.self) (bound_under c.replace-in-Some.new.self) c.in-Some.bound
    (bound.Cell 0) c.member_written-bound.result there c.replace.ensures.bound c.replace-in-Some.ensures.bound)
    (λ q. ap (name_shape q) c.member_written-bound.ensures.written
    ∙ members_shape (put_in_member c.args.number c.args.fields.now (shown c.args.new)) q c.in-Some.bound)

pub returns-in-None-clause-shapes : goal.returns-in-None-clause-shapes
returns-in-None-clause-shapes c = shapes_same c.args.self.now c.replace.new.self c.replace.ensures.stays.heads_stay
    (nothing_put c.holder-name.result (bound_under c.args.self.now) (bound_under c.replace.new.self) (bound.Cell 0)
    (sym c.replace.ensures.was ∙ c.in-None.is) c.replace.ensures.bound)
