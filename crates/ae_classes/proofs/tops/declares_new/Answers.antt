use Rattle.std.proofs.Common.{refl}
use Rattle.std.proofs.lemmas.Result.{on_ok_weaker}
use Rattle.ae_tree.specs.Shown.{code, definition}
use Rattle.ae_classes.specs.declared.tops.TopNames.{TopNames}
use Rattle.ae_classes.proofs.ClauseLemmas.{gives_one_class_more, gives_no_class_more}
use Rattle.ae_classes.proofs.ClauseLemmas.{gives_one_method_more, gives_no_method_more}
use Rattle.ae_classes.proofs.tops.declares_new.Goals as goal

pub returns-in-Some-clause-gives : goal.returns-in-Some-clause-gives
returns-in-Some-clause-gives c =
    let t : TopNames = c.args.names.now in
    let u : TopNames = record { classes = c.put_new.new.names; tops = t.tops } in
    on_ok_weaker c.put_new.result
    (λ more before given. gives_one_class_more (code c.args.program.now) t u c.in-Class.number c.args.decl before
    c.in-Some.class.now c.in-Class.is c.in-Some.ensures more refl given)
    c.put_new.ensures.put

pub returns-in-None-clause-gives : goal.returns-in-None-clause-gives
returns-in-None-clause-gives c = λ before given. gives_no_class_more (code c.args.program.now) c.args.names.now
    c.args.names.now c.in-Class.number c.args.decl before c.in-Class.is c.in-None.ensures given

pub returns-in-Some-method_at-clause-gives : goal.returns-in-Some-method_at-clause-gives
returns-in-Some-method_at-clause-gives c =
    let t : TopNames = c.args.names.now in
    let u : TopNames = record { classes = t.classes; tops = c.put_new-in-Some-method_at.new.names } in
    on_ok_weaker c.put_new-in-Some-method_at.result
    (λ more before given. gives_one_method_more (code c.args.program.now) t u c.in-Method.number c.args.decl before
    (definition c.in-Some-method_at.method.now) c.in-Method.is c.in-Some-method_at.ensures more refl given)
    c.put_new-in-Some-method_at.ensures.put

pub returns-in-None-method_at-clause-gives : goal.returns-in-None-method_at-clause-gives
returns-in-None-method_at-clause-gives c = λ before given. gives_no_method_more
    (code c.args.program.now) c.args.names.now
    c.args.names.now c.in-Method.number c.args.decl before c.in-Method.is c.in-None-method_at.ensures given
