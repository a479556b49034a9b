use Rattle.std.proofs.Common.{◌≡◌, None, Some, List, [], ◌∷◌, ◌++◌, length, option_map, ap, sym, ◌∙◌, refl, subst}
use Rattle.std.proofs.lemmas.Result.{IfOk-weaker, on_ok_weaker, on_err_weaker}
use Rattle.ae_rules.specs.Verdict.{given}
use Rattle.ae_semantics.specs.Values.{Tree}
use Rattle.ae_semantics.specs.Places.{with, members, group_of}
use Rattle.ae_values.specs.declared.env.Bound.TheVariants as bound
use Rattle.ae_values.specs.Binding.{with_joined, members_bound}
use Rattle.ae_values.specs.Shown.{shown_tree}
use Rattle.ae_values.specs.Environments.{bound_under, state_in, groups_in}
use Rattle.ae_values.proofs.BindLemmas.{changed_there, changed_nothing, changed_to_itself}
use Rattle.ae_values.proofs.MemberLemmas.{members_seen, members_change}
use Rattle.ae_values.proofs.BindLemmas.{put_back, nothing_put}
use Rattle.ae_values.proofs.ShapeLemmas.{shapes_put, shapes_same}
use Rattle.ae_values.proofs.env.Env.add_member.Goals as goal

pub returns-in-Some-clause-number : goal.returns-in-Some-clause-number
returns-in-Some-clause-number c = λ cells r.
    let e = c.args.self.now in
    let x = c.holder-name.result in
    let here : bound_under e x ≡ Some c.in-Some.bound = sym c.replace.ensures.was ∙ c.in-Some.is in
    let seen : members_bound c.in-Some.bound ≡ members (group_of (state_in cells r e) c.args.group) =
    sym (ap (λ o. given o None members_bound) here)
    ∙ sym (members_seen cells (bound_under e x))
    ∙ ap (λ y. members (groups_in cells (bound_under e) y)) (c.holder-name.ensures cells r) in
    IfOk-weaker c.joined-bound.result.1 _ _
    (λ n is. is ∙ ap (option_map (λ (st : List Tree). length st)) seen) c.joined-bound.ensures.number

pub returns-in-Some-clause-bound : goal.returns-in-Some-clause-bound
returns-in-Some-clause-bound c = λ cells r.
    let e = c.args.self.now in
    on_ok_weaker c.joined-bound.result.1
    (λ is. subst (λ x. bound_under c.replace-in-Some.new.self
    ≡ with x (option_map (with_joined (shown_tree c.args.object)) (bound_under e x)) (bound_under e)) (c.holder-name.ensures cells r)
    (changed_there c.holder-name.result (bound_under e) (bound_under c.replace.new.self) (bound_under c.replace-in-Some.new.self)
    c.in-Some.bound (bound.Cell 0) c.joined-bound.result.0 (with_joined (shown_tree c.args.object))
    (sym c.replace.ensures.was ∙ c.in-Some.is) c.replace.ensures.bound c.replace-in-Some.ensures.bound is))
    c.joined-bound.ensures.added

pub returns-in-Some-clause-added : goal.returns-in-Some-clause-added
returns-in-Some-clause-added c = λ cells r st seen.
    let e = c.args.self.now in
    let t = shown_tree c.args.object in
    on_ok_weaker c.joined-bound.result.1
    (λ is. members_change cells r e c.replace-in-Some.new.self c.args.group st (st ++ (t ∷ [])) (with_joined t) seen refl
    (subst (λ x. bound_under c.replace-in-Some.new.self ≡ with x (option_map (with_joined t) (bound_under e x)) (bound_under e))
    (c.holder-name.ensures cells r)
    (changed_there c.holder-name.result (bound_under e) (bound_under c.replace.new.self) (bound_under c.replace-in-Some.new.self)
    c.in-Some.bound (bound.Cell 0) c.joined-bound.result.0 (with_joined t)
    (sym c.replace.ensures.was ∙ c.in-Some.is) c.replace.ensures.bound c.replace-in-Some.ensures.bound is)))
    c.joined-bound.ensures.added

pub returns-in-Some-clause-refused : goal.returns-in-Some-clause-refused
returns-in-Some-clause-refused c =
    let e = c.args.self.now in
    on_err_weaker c.joined-bound.result.1
    (λ is. changed_there c.holder-name.result (bound_under e) (bound_under c.replace.new.self) (bound_under c.replace-in-Some.new.self)
    c.in-Some.bound (bound.Cell 0) c.joined-bound.result.0 (λ b. b)
    (sym c.replace.ensures.was ∙ c.in-Some.is) c.replace.ensures.bound c.replace-in-Some.ensures.bound is
    ∙ changed_to_itself c.holder-name.result (bound_under e))
    c.joined-bound.ensures.refused

pub returns-in-None-clause-number : goal.returns-in-None-clause-number
returns-in-None-clause-number c = λ cells r.
    let e = c.args.self.now in
    let x = c.holder-name.result in
    let here : bound_under e x ≡ None = sym c.replace.ensures.was ∙ c.in-None.is in
    ap (option_map (λ (st : List Tree). length st)) (sym (ap (λ o. given o None members_bound) here)
    ∙ sym (members_seen cells (bound_under e x))
    ∙ ap (λ y. members (groups_in cells (bound_under e) y)) (c.holder-name.ensures cells r))

pub returns-in-None-clause-bound : goal.returns-in-None-clause-bound
returns-in-None-clause-bound c = λ cells r.
    let e = c.args.self.now in
    let t = shown_tree c.args.object in
    subst (λ x. bound_under c.replace.new.self ≡ with x (option_map (with_joined t) (bound_under e x)) (bound_under e))
    (c.holder-name.ensures cells r)
    (changed_nothing c.holder-name.result (bound_under e) (bound_under c.replace.new.self) (bound.Cell 0) (with_joined t)
    (sym c.replace.ensures.was ∙ c.in-None.is) c.replace.ensures.bound)

pub returns-in-None-clause-added : goal.returns-in-None-clause-added
returns-in-None-clause-added c = λ cells r st seen.
    let e = c.args.self.now in
    let t = shown_tree c.args.object in
    members_change cells r e c.replace.new.self c.args.group st (st ++ (t ∷ [])) (with_joined t) seen refl
    (subst (λ x. bound_under c.replace.new.self ≡ with x (option_map (with_joined t) (bound_under e x)) (bound_under e))
    (c.holder-name.ensures cells r)
    (changed_nothing c.holder-name.result (bound_under e) (bound_under c.replace.new.self) (bound.Cell 0) (with_joined t)
    (sym c.replace.ensures.was ∙ c.in-None.is) c.replace.ensures.bound))

pub returns-in-Some-clause-shapes : goal.returns-in-Some-clause-shapes
returns-in-Some-clause-shapes c =
    let e = c.args.self.now in
    let x = c.holder-name.result in
    let there : bound_under e x ≡ Some c.in-Some.bound = sym c.replace.ensures.was ∙ c.in-Some.is in
    shapes_put e c.replace-in-Some.new.self x c.joined-bound.result.0 c.in-Some.bound
    (c.replace-in-Some.ensures.stays.heads_stay ∙ c.replace.ensures.stays.heads_stay) there
    (put_back x (bound_under e) (bound_under c.replace.new.self) (bound_under c.replace-in-Some.new.self) c.in-Some.bound
    (bound.Cell 0) c.joined-bound.result.0 there c.replace.ensures.bound c.replace-in-Some.ensures.bound)
    (c.joined-bound.ensures.shape)

pub returns-in-None-clause-shapes : goal.returns-in-None-clause-shapes
returns-in-None-clause-shapes c = shapes_same c.args.self.now c.replace.new.self c.replace.ensures.stays.heads_stay
    (nothing_put c.holder-name.result (bound_under c.args.self.now) (bound_under c.replace.new.self) (bound.Cell 0)
    (sym c.replace.ensures.was ∙ c.in-None.is) c.replace.ensures.bound)
