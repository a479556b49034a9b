use Rattle.std.proofs.Common.{◌≡◌, ◌∙◌, ap, sym, Some}
use Rattle.std.specs.Prelude.{option_map}
use Rattle.ae_semantics.specs.Values.{Owned}
use Rattle.ae_semantics.specs.Meaning.{shares_into}
use Rattle.ae_values.specs.Shown.{ShownValue, shown, shown_tree, shown-Object}
use Rattle.ae_names.specs.Known.{form_in}
use Rattle.ae_running.specs.Seen.{seen}
use Rattle.ae_acts.specs.Doing.{value_in, joined_to, forms_of}
use Rattle.ae_acts.proofs.from_reads.OpenLemmas.{answers_equal}
use Rattle.ae_acts.proofs.ShareLemmas.{object_shared}
use Rattle.ae_acts.proofs.groups.take_and_join.Goals as goal

pub returns-in-Object-clause-done : goal.returns-in-Object-clause-done
returns-in-Object-clause-done c =
    let s = seen c.args.run.now in
    let mid = c.take_out.new.run in
    let x = c.args.name in
    let g = c.args.group in
    let t = shown_tree c.into_inner.result in
    let known : Some (Owned t) ≡ value_in s x =
    ap (λ b. Some (Owned (shown_tree b))) c.into_inner.ensures
    ∙ ap (λ (w : ShownValue). Some w.value) (sym (shown-Object c.in-Object.object))
    ∙ ap (λ v. Some (shown v)) (sym c.in-Object.is)
    ∙ c.in-Some.ensures.value in
    answers_equal (shares_into x g s) (joined_to (forms_of mid) x g t (seen mid)) _ c.join.result
    (object_shared (option_map shown c.args.run.now.result) c.args.run.now.env x g t known
    ∙ ap (joined_to (forms_of c.args.run.now) x g t) (sym c.take_out.ensures.left)
    ∙ ap (λ names. joined_to (form_in names) x g t (seen mid)) (sym c.take_out.ensures.stays.names))
    c.join.ensures.done
