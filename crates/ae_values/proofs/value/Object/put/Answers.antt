use Rattle.std.proofs.Common.{refl, ap, sym, ◌∙◌, ◌≡◌}
use Rattle.ae_semantics.specs.Values.{Owned, put_at}
use Rattle.ae_values.specs.Inside.{object_or}
use Rattle.ae_values.specs.Shown.{shown, shown_tree}
use Rattle.ae_values.proofs.PutLemmas.{no_fields, shown_object, of_no_object}
use Rattle.ae_values.proofs.value.Object.put.Goals as goal

pub returns-in-Object-clause-tree : goal.returns-in-Object-clause-tree
returns-in-Object-clause-tree c =
    let t = shown_tree c.args.self.now in
    sym (ap (λ js. object_or t (put_at js (shown c.args.new) (Owned t)))
    (no_fields c.args.fields.now c.in-None.ensures.cases)
    ∙ ap (object_or t)
    (shown_object c.args.new c.in-Object.object c.into_inner.result c.in-Object.is c.into_inner.ensures))

pub returns-in-Int : goal.returns-in-Int
returns-in-Int c =
    let t = shown_tree c.args.self.now in
    record {
      tree = sym (ap (λ js. object_or t (put_at js (shown c.args.new) (Owned t)))
          (no_fields c.args.fields.now c.in-None.ensures.cases)
          ∙ of_no_object (λ v. object_or t v ≡ t) (λ n. refl) (λ b. refl) refl (λ n. refl) c.args.new c.in-Int.is);
      measured = c.requires.measured;
    }
